-- A call leaves the tables whole.
use Rattle.std.proofs.Common.{◌≡◌, ℕ, ◌<◌, Bool, true, false, length, refl, sym, ◌∙◌}
use Rattle.std.specs.Prelude.{Option, Some, None, nat_eq}
use Rattle.std.specs.List.{list_any}
use Rattle.std.proofs.lemmas.Bool.{false≢true}
use Rattle.ptk_words.specs.Pools.{is_in}
use Rattle.ptk_words.specs.declared.sections.Limits.{Limits}
use Rattle.ptk_words.specs.declared.threads.Thread.{Thread}
use Rattle.ptk_words.specs.declared.threads.Wait.TheVariants.{InputWait}
use Rattle.ptk_words_model.specs.declared.Runner.{Runner}
use Rattle.ptk_words_model.specs.State.{Part}
use Rattle.ptk_words_model.specs.Priority.{thread_at}
use Rattle.ptk_words_model.specs.Mutex.{wait_of}
use Rattle.ptk_words_model.specs.Decision.{runner_of}
use Rattle.ptk_words_sync_invariant.specs.Locks.{is_ready}
use Rattle.ptk_words_invariant.specs.Well.{IsWell}
use Rattle.ptk_words_invariant.proofs.Waits.{waits_not_ready}
use Rattle.ptk_words_invariant.proofs.Decisions.{runner_runs, well_after_call}
use Rattle.ptk_gate_pools.specs.Kept.{part_at, limits_at}
use Rattle.ptk_gate_pools.specs.Held.{Held, held, all_of, limits_here}
use Rattle.ptk_gate.specs.Whole.{AreWhole}
use Rattle.ptk_gate.specs.Answers.{runner_answer, call_answer}
use Rattle.ptk_gate.proofs.Wholes.{whole_lifted, well_at}

-- ---- the running thread

out_of : (b : Bool) (o : Option Thread) → (b ≡ true → wait_of o ≡ Some InputWait) → is_ready o ≡ true → b ≡ false
out_of false o waits ready = refl
out_of true o waits ready = absurd (false≢true (sym (waits_not_ready InputWait o (waits refl)) ∙ ready))

-- the running thread does not wait for input
pub running_not_waiting : (limits : Limits) (t : ℕ) (s : Part) → IsWell limits s → s.running ≡ Some t → list_any (nat_eq t) s.console.waiters ≡ false
running_not_waiting limits t s well runs = out_of (is_in t s.console.waiters) (thread_at s.locks t) (λ e. well.waiters_wait t e) (well.running_ready t runs)

pub ruleset called = (running_not_waiting)

-- ---- calls

well_called : (limits : Limits) (tick : ℕ) (o : Option Runner) (s : Part) → runner_of s ≡ o → IsWell limits s → IsWell limits (runner_answer o limits tick s).part
well_called limits tick None s runs well = well
well_called limits tick (Some r) s runs well = well_after_call limits tick r.number r.thread.cpu s (runner_runs s r runs) well

-- what the call of the running thread leaves is whole
pub whole_call : (p tick : ℕ) (pools taken new : Held) → taken ≡ held p (all_of pools) → new ≡ record taken { here = (call_answer (limits_here taken) tick taken.here).part } → AreWhole (all_of pools) → p < length pools.elsewhere.limits → AreWhole (all_of new)
whole_call p tick pools taken new e moved are lt =
    let s : Part = part_at p (all_of pools) in
    whole_lifted p (λ limits u. (call_answer limits tick u).part) pools taken new e moved are lt
    (well_called (limits_at p (all_of pools)) tick (runner_of s) s refl (well_at p (all_of pools) are lt))

pub ruleset whole_calls = (whole_call, well_at)
