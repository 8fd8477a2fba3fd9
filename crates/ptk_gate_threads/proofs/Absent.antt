-- Threads that are not in the line: one that has ended, and one that ends, also once its joiner is woken.
use Rattle.std.proofs.Common.{◌≡◌, ◌≢◌, ℕ, Bool, true, false, refl, sym, ap, subst}
use Rattle.std.specs.Prelude.{Option, Some, None, IfSome, option_and_then, is_none}
use Rattle.std.proofs.Math.Bool.{and-false}
use Rattle.ptk_words.specs.Pools.{is_in}
use Rattle.ptk_words.specs.Threads.{is_ended, left_at_detach}
use Rattle.ptk_words.specs.declared.sections.Limits.{Limits}
use Rattle.ptk_words.specs.declared.threads.Thread.{Thread}
use Rattle.ptk_words.proofs.Lists.{out_push}
use Rattle.ptk_words_model.specs.declared.Runner.{Runner}
use Rattle.ptk_words_model.specs.State.{Locks, Part}
use Rattle.ptk_words_model.specs.Priority.{thread_at}
use Rattle.ptk_words_model.specs.Decision.{runner_at}
use Rattle.ptk_words_model.specs.Unwinding.{after_join_by}
use Rattle.ptk_words_sync_invariant.specs.Locks.{is_ready}
use Rattle.ptk_words_sync_invariant.proofs.Lined.{not_ready_out}
use Rattle.ptk_words_invariant.specs.Well.{IsWell}
use Rattle.ptk_words_invariant.proofs.Whole.{lined_of}

-- ---- a thread that has ended

ended_at : (thread : Option Thread) (own : Thread) → thread ≡ Some own → is_ended own.phase ≡ true → is_ready thread ≡ false
ended_at thread own is ended = rw (is, ended) (and-false (is_none own.wait))

pub ended_out : (limits : Limits) (t : ℕ) (thread : Thread) (s : Part) → IsWell limits s → thread_at s.locks t ≡ Some thread → is_ended thread.phase ≡ true → is_in t s.line ≡ false
ended_out limits t thread s well is ended = not_ready_out s.threads s.line s.running t (lined_of limits s well) (ended_at (thread_at s.locks t) thread is ended)

runner_is : (t : ℕ) (thread : Option Thread) (target : Runner) → runner_at t thread ≡ Some target → (thread ≡ Some target.thread) × (target.number ≡ t)
runner_is t None target e = absurd (let no : ⊥ = cc in no)
runner_is t (Some thread) target e = let is : record { number = t; thread = thread } ≡ target = cc in (ap (λ (r : Runner). Some r.thread) is, sym (ap (λ (r : Runner). r.number) is))

-- the thread that a join names
pub target_out : (limits : Limits) (t : ℕ) (target : Runner) (s : Part) → IsWell limits s → runner_at t (thread_at s.locks t) ≡ Some target → is_ended target.thread.phase ≡ true → is_in target.number s.line ≡ false
target_out limits t target s well named ended =
    let is = runner_is t (thread_at s.locks t) target named in
    subst (λ (k : ℕ). is_in k s.line ≡ false) (sym is.1) (ended_out limits t target.thread s well is.0 ended)

detached_ready : (thread : Option Thread) (ended : Bool) (own : Thread) → thread ≡ Some own → is_ended own.phase ≡ ended → option_and_then left_at_detach thread ≡ None → is_ready thread ≡ false
detached_ready thread true own is ended left = ended_at thread own is ended
detached_ready thread false own is ended left = absurd (let no : ⊥ = (let gone : option_and_then left_at_detach (Some own) ≡ None = subst (λ (o : Option Thread). option_and_then left_at_detach o ≡ None) is left in let stays : left_at_detach own ≡ Some (record own { is_detached = true }) = rw ended refl in cc) in no)

left_ready : (thread : Option Thread) → option_and_then left_at_detach thread ≡ None → is_ready thread ≡ false
left_ready None left = refl
left_ready (Some own) left = detached_ready (Some own) (is_ended own.phase) own refl refl left

-- one whose detachment leaves nothing
pub detached_out : (limits : Limits) (t : ℕ) (s : Part) → IsWell limits s → option_and_then left_at_detach (thread_at s.locks t) ≡ None → is_in t s.line ≡ false
detached_out limits t s well left = not_ready_out s.threads s.line s.running t (lined_of limits s well) (left_ready (thread_at s.locks t) left)

-- ---- a thread that ends

-- its joiner, another thread, is woken
pub joined_out : (t value : ℕ) (joiner : Option ℕ) (locks : Locks) → IfSome joiner (λ u. u ≢ t) → is_in t locks.line ≡ false → is_in t (after_join_by joiner value locks).line ≡ false
joined_out t value None locks apart out = out
joined_out t value (Some u) locks apart out = out_push u t locks.line (λ same. apart (sym same)) out
