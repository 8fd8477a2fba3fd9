-- A thread that waits is in use and not in the line.
use Rattle.std.proofs.Common.{◌≡◌, ℕ, false, refl, ◌∙◌, inl, inr}
use Rattle.std.specs.Prelude.{Option, Some, None, IsSome, option_map}
use Rattle.std.proofs.lemmas.Bool.{cases_eq}
use Rattle.ptk_words.specs.Pools.{is_in}
use Rattle.ptk_words.specs.declared.sections.Limits.{Limits}
use Rattle.ptk_words.specs.declared.threads.Thread.{Thread}
use Rattle.ptk_words.specs.declared.threads.Wait.{Wait}
use Rattle.ptk_words.specs.declared.threads.Wait.TheVariants.{InputWait, SleepWait, JoinWait}
use Rattle.ptk_words.proofs.Pools.{changed_own, changed_other}
use Rattle.ptk_words_model.specs.State.{Locks, Part}
use Rattle.ptk_words_model.specs.Priority.{thread_at}
use Rattle.ptk_words_model.specs.Mutex.{wait_of}
use Rattle.ptk_words_model.specs.Withdrawal.{without_joiner}
use Rattle.ptk_words_sync_invariant.proofs.Lined.{not_ready_out}
use Rattle.ptk_words_sync_invariant.proofs.Threads.{waits_used}
use Rattle.ptk_words_invariant.specs.Well.{IsWell}
use Rattle.ptk_words_invariant.proofs.Whole.{lined_of}
use Rattle.ptk_words_invariant.proofs.Waits.{waits_not_ready}
use Rattle.ptk_words_sync_invariant.specs.Conditions.{IsNoWaiter}
use Rattle.ptk_gate_moves.proofs.NoWaiters.{reader_apart, sleeper_apart, joiner_apart}

-- a thread that waits is in use
pub waits_in_use : (t : ℕ) (wait : Wait) (o : Option Wait) (s : Part) → wait_of (thread_at s.locks t) ≡ o → o ≡ Some wait → IsSome (thread_at s.locks t)
waits_in_use t wait o s e is = waits_used wait (thread_at s.locks t) (e ∙ is)

-- and not in the line
pub waits_out : (limits : Limits) (t : ℕ) (wait : Wait) (o : Option Wait) (s : Part) → IsWell limits s → wait_of (thread_at s.locks t) ≡ o → o ≡ Some wait → is_in t s.line ≡ false
waits_out limits t wait o s well e is = not_ready_out s.threads s.line s.running t (lined_of limits s well) (waits_not_ready wait (thread_at s.locks t) (e ∙ is))

-- nor, where it waits at a cancellation point but on no condition variable, in a list of waiters
pub reader_free : (limits : Limits) (t : ℕ) (o : Option Wait) (s : Part) → IsWell limits s → wait_of (thread_at s.locks t) ≡ o → o ≡ Some InputWait → IsNoWaiter t s.mutexes s.conditions
reader_free limits t o s well e is = reader_apart limits t s well (e ∙ is)

pub sleeper_free : (limits : Limits) (t deadline : ℕ) (o : Option Wait) (s : Part) → IsWell limits s → wait_of (thread_at s.locks t) ≡ o → o ≡ Some (SleepWait deadline) → IsNoWaiter t s.mutexes s.conditions
sleeper_free limits t deadline o s well e is = sleeper_apart limits t deadline s well (e ∙ is)

pub joiner_free : (limits : Limits) (t u : ℕ) (o : Option Wait) (s : Part) → IsWell limits s → wait_of (thread_at s.locks t) ≡ o → o ≡ Some (JoinWait u) → IsNoWaiter t s.mutexes s.conditions
joiner_free limits t u o s well e is = joiner_apart limits t u s well (e ∙ is)

pub ruleset waiting = (waits_in_use, waits_out, reader_free, sleeper_free, joiner_free)

-- ---- a joiner

changed_some : (f : Thread → Thread) (o : Option Thread) → IsSome o → IsSome (option_map f o)
changed_some f None used = used
changed_some f (Some thread) used = refl

-- a thread in use stays so, where nobody waits for the end of another any more
pub unjoined_in_use : (t u : ℕ) (locks : Locks) → IsSome (thread_at locks t) → IsSome (thread_at (without_joiner u locks) t)
unjoined_in_use t u locks used = elim (cases_eq t u) [
  | inl same ↦ rw same (rw (changed_own u (λ (thread : Thread). record thread { joiner = None }) locks.threads) (changed_some (λ (thread : Thread). record thread { joiner = None }) (thread_at locks u) (rw same at used)))
  | inr ne ↦ rw (changed_other u t (λ (thread : Thread). record thread { joiner = None }) locks.threads ne) used
]

pub ruleset unjoined = (unjoined_in_use)
