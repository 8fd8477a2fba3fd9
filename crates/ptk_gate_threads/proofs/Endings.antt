-- The end of a thread in a whole state: its mutexes are given up first.
use Rattle.std.proofs.Common.{◌≡◌, ◌≢◌, ℕ, true, false, refl, sym, ◌∙◌, ap, subst}
use Rattle.std.proofs.lemmas.Bool.{false≢true}
use Rattle.std.specs.Prelude.{Option, Some, None, IsSome, IfSome}
use Rattle.ptk_words.specs.declared.sections.Limits.{Limits}
use Rattle.ptk_words.specs.declared.threads.Wait.TheVariants.{JoinWait}
use Rattle.ptk_words_model.specs.State.{Locks, Part, with_locks}
use Rattle.ptk_words_model.specs.Priority.{thread_at}
use Rattle.ptk_words_model.specs.Mutex.{after_owner_end}
use Rattle.ptk_words_model.specs.Unwinding.{after_release, after_last_end, after_end}
use Rattle.ptk_words_sync_invariant.specs.Locks.{joiner_of, is_ready}
use Rattle.ptk_words_invariant.specs.Well.{IsWell}
use Rattle.ptk_words.specs.Pools.{is_in}
use Rattle.ptk_words_sync_invariant.proofs.Lined.{not_ready_out}
use Rattle.ptk_words_sync_invariant.proofs.Threads.{waits_used}
use Rattle.ptk_words_invariant.proofs.Whole.{lined_of}
use Rattle.ptk_words_invariant.proofs.Waits.{waits_not_ready}
use Rattle.ptk_gate_moves.specs.Held.{Held, limits_here}
use Rattle.ptk_gate_moves.specs.Moves.{stopped}
use Rattle.ptk_words_sync_invariant.specs.Conditions.{IsNoWaiter}
use Rattle.ptk_gate_moves.proofs.NoWaiters.{joiner_apart}
use Rattle.ptk_gate_threads.proofs.Owners.{well_abandonment, release_same}

-- ---- the joiner of a thread in a whole state

joiner_in_use_at : (limits : Limits) (t : ℕ) (s : Part) (o : Option ℕ) → joiner_of (thread_at s.locks t) ≡ o → IsWell limits s → IfSome o (λ u. IsSome (thread_at s.locks u))
joiner_in_use_at limits t s None e well = tt
joiner_in_use_at limits t s (Some u) e well = waits_used (JoinWait t) (thread_at s.locks u) (well.joiners_wait u t e)

joiner_in_use : (limits : Limits) (t : ℕ) (s : Part) → IsWell limits s → IfSome (joiner_of (thread_at s.locks t)) (λ u. IsSome (thread_at s.locks u))
joiner_in_use limits t s well = joiner_in_use_at limits t s (joiner_of (thread_at s.locks t)) refl well

joiner_fresh_at : (limits : Limits) (t : ℕ) (s : Part) (o : Option ℕ) → joiner_of (thread_at s.locks t) ≡ o → IsWell limits s → IfSome o (λ u. is_in u s.line ≡ false)
joiner_fresh_at limits t s None e well = tt
joiner_fresh_at limits t s (Some u) e well =
    not_ready_out s.threads s.line s.running u (lined_of limits s well) (waits_not_ready (JoinWait t) (thread_at s.locks u) (well.joiners_wait u t e))

joiner_fresh : (limits : Limits) (t : ℕ) (s : Part) → IsWell limits s → IfSome (joiner_of (thread_at s.locks t)) (λ u. is_in u s.line ≡ false)
joiner_fresh limits t s well = joiner_fresh_at limits t s (joiner_of (thread_at s.locks t)) refl well

joiner_free_at : (limits : Limits) (t : ℕ) (s : Part) (o : Option ℕ) → joiner_of (thread_at s.locks t) ≡ o → IsWell limits s → IfSome o (λ u. IsNoWaiter u s.mutexes s.conditions)
joiner_free_at limits t s None e well = tt
joiner_free_at limits t s (Some u) e well = joiner_apart limits u t s well (well.joiners_wait u t e)

joiner_free : (limits : Limits) (t : ℕ) (s : Part) → IsWell limits s → IfSome (joiner_of (thread_at s.locks t)) (λ u. IsNoWaiter u s.mutexes s.conditions)
joiner_free limits t s well = joiner_free_at limits t s (joiner_of (thread_at s.locks t)) refl well

joiner_other_at : (limits : Limits) (t : ℕ) (s : Part) (o : Option ℕ) → joiner_of (thread_at s.locks t) ≡ o → IsWell limits s → s.running ≡ Some t → IfSome o (λ u. u ≢ t)
joiner_other_at limits t s None e well runs = tt
joiner_other_at limits t s (Some u) e well runs = λ same.
    (let blocked : is_ready (thread_at s.locks u) ≡ false = waits_not_ready (JoinWait t) (thread_at s.locks u) (well.joiners_wait u t e) in
    let ready : is_ready (thread_at s.locks u) ≡ true = subst (λ (k : ℕ). is_ready (thread_at s.locks k) ≡ true) (sym same) (well.running_ready t runs) in
    false≢true (sym blocked ∙ ready))

-- the running thread's joiner is another thread
joiner_other : (limits : Limits) (t : ℕ) (s : Part) → IsWell limits s → s.running ≡ Some t → IfSome (joiner_of (thread_at s.locks t)) (λ u. u ≢ t)
joiner_other limits t s well runs = joiner_other_at limits t s (joiner_of (thread_at s.locks t)) refl well runs

-- ---- the end

-- what a thread leaves that gives up its mutexes is whole
left_well : (t : ℕ) (old mid : Held) → IsWell (limits_here old) old.here → mid ≡ record old { here = with_locks (after_owner_end t) old.here } → IsWell (limits_here old) mid.here
left_well t old mid well e = subst (λ (h : Held). IsWell (limits_here old) h.here) (sym e) (well_abandonment (limits_here old) t old.here well)

pub left_in_use : (t : ℕ) (old mid : Held) → IsWell (limits_here old) old.here → mid ≡ record old { here = with_locks (after_owner_end t) old.here }
    → IfSome (joiner_of (thread_at mid.here.locks t)) (λ u. IsSome (thread_at mid.here.locks u))
left_in_use t old mid well e = joiner_in_use (limits_here old) t mid.here (left_well t old mid well e)

pub left_fresh : (t : ℕ) (old mid : Held) → IsWell (limits_here old) old.here → mid ≡ record old { here = with_locks (after_owner_end t) old.here }
    → IfSome (joiner_of (thread_at mid.here.locks t)) (λ u. is_in u mid.here.line ≡ false)
left_fresh t old mid well e = joiner_fresh (limits_here old) t mid.here (left_well t old mid well e)

pub left_free : (t : ℕ) (old mid : Held) → IsWell (limits_here old) old.here → mid ≡ record old { here = with_locks (after_owner_end t) old.here }
    → IfSome (joiner_of (thread_at mid.here.locks t)) (λ u. IsNoWaiter u mid.here.mutexes mid.here.conditions)
left_free t old mid well e = joiner_free (limits_here old) t mid.here (left_well t old mid well e)

pub left_apart : (t : ℕ) (old mid : Held) → IsWell (limits_here old) old.here → old.here.running ≡ Some t → mid ≡ record old { here = with_locks (after_owner_end t) old.here }
    → IfSome (joiner_of (thread_at mid.here.locks t)) (λ u. u ≢ t)
left_apart t old mid well runs e = joiner_other (limits_here old) t mid.here (left_well t old mid well e) (ap (λ (h : Held). h.here.running) e ∙ runs)

pub left_out : (t : ℕ) (old mid : Held) → IsWell (limits_here old) old.here → old.here.running ≡ Some t → mid ≡ record old { here = with_locks (after_owner_end t) old.here } → is_in t mid.here.line ≡ false
left_out t old mid well runs e = (left_well t old mid well e).running_out t (ap (λ (h : Held). h.here.running) e ∙ runs)

-- the end of a thread that has given up its mutexes
pub ended : (t : ℕ) (s : Part) → after_last_end (stopped (with_locks (after_release t (thread_at (after_owner_end t s.locks) t)) (with_locks (after_owner_end t) s))) ≡ after_end t s
ended t s = ap (λ (locks : Locks). after_last_end (stopped (with_locks (λ _. locks) s))) (release_same t s.locks)
