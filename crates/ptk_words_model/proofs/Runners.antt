-- The running thread, by a test and as the runner of its number, and what the end of its interval leaves.
use Rattle.std.proofs.Common.{◌≡◌, ℕ, ◌+◌, Bool, true, false, ◌&&◌, refl, ap}
use Rattle.std.specs.Prelude.{Option, Some, None, nat_le, if◌then◌else◌}
use Rattle.std.proofs.lemmas.Bool.{false≢true, eqb-true}
use Rattle.ptk_words.specs.declared.threads.Thread.{Thread}
use Rattle.ptk_words_model.specs.declared.Runner.{Runner}
use Rattle.ptk_words_model.specs.State.{Part}
use Rattle.ptk_words_model.specs.Schedule.{after_interval, after_turn_end, is_round_robin, is_running, with_thread_used}
use Rattle.ptk_words_model.specs.Decision.{runner_at}

pub runner_is : (t : ℕ) (running : Option ℕ) → is_running t running ≡ true → running ≡ Some t
runner_is t None e = absurd (false≢true e)
runner_is t (Some r) e = ap Some (eqb-true r t e)

pub number_at : (t : ℕ) (o : Option Thread) (r : Runner) → runner_at t o ≡ Some r → t ≡ r.number
number_at t None r e = absurd (let no : ⊥ = cc in no)
number_at t (Some thread) r e =
    let same : record { number = t; thread = thread } ≡ r = cc in
    ap (λ (x : Runner). x.number) same

-- the round-robin interval has no part in the last step
pub interval_last : (interval cost t : ℕ) (o : Option Thread) (s : Part) → (after_interval interval cost t o s).last ≡ s.last
interval_last interval cost t None s = refl
interval_last interval cost t (Some thread) s = by (is_running t s.running && is_round_robin thread.policy) (nat_le interval (thread.used + cost))
  where
    by : (turns ends : Bool) → (if turns then (if ends then after_turn_end t s else with_thread_used t (thread.used + cost) s) else s).last ≡ s.last
    by true true = refl
    by true false = refl
    by false ends = refl
