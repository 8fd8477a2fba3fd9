-- How many stored priorities the signals of a broadcast read.
use Rattle.std.specs.Fn.{iterate}
use Rattle.std.proofs.Common.{◌≡◌, ℕ, zero, suc, ◌<◌, [], length, refl, sym, ◌∙◌, ap, subst, arith}
use Rattle.std.specs.Prelude.{Option, Some, None, IsSome}
use Rattle.ptk_words.proofs.Lists.{first_none}
use Rattle.ptk_words.specs.Parts.{part_of}
use Rattle.ptk_words_model.specs.State.{Syncs}
use Rattle.ptk_words_model.specs.Priority.{effective_priorities, effective_priority}
use Rattle.ptk_words_model.specs.Condition.{condition_waiters, after_signal}
use Rattle.ptk_mutex.specs.SyncRosters.{Rostered}
use Rattle.ptk_mutex.specs.Visits.{IsVisited}
use Rattle.ptk_mutex.specs.declared.mutexes.Mutexes.{Mutexes}
use Rattle.ptk_mutex.proofs.Sound.{of_part, AreSyncedAt, syncs_put}
use Rattle.ptk_cond.specs.Tables.{put_syncs, next_waiter}
use Rattle.ptk_cond.specs.Visits.{priorities_after, IsVisitedBySignal}

iterate_last : {A : Type 0} (f : A → A) (n : ℕ) (x : A) → iterate f (suc n) x ≡ f (iterate f n x)
iterate_last f zero x = refl
iterate_last f (suc n) x = iterate_last f n (f x)

-- ---- the state reached

-- after one signal more
pub reached_more : (p c i : ℕ) (a b after : Rostered) → of_part p b ≡ iterate (after_signal c) i (of_part p a) → AreSyncedAt p b → after ≡ put_syncs p (after_signal c (of_part p b)) b → of_part p after ≡ iterate (after_signal c) (suc i) (of_part p a)
reached_more p c i a b after reached synced moved = syncs_put p b after (after_signal c (of_part p b)) synced moved ∙ ap (after_signal c) reached ∙ sym (iterate_last (after_signal c) i (of_part p a))

stored_reached : (p c i : ℕ) (a b : Rostered) → of_part p b ≡ iterate (after_signal c) i (of_part p a) → AreSyncedAt p b → part_of b.table.stored p ≡ priorities_after i c (of_part p a)
stored_reached p c i a b reached synced = synced.ready.stored ∙ ap (λ (s : Syncs). effective_priorities s.threads s.mutexes) reached

-- ---- the number

-- after i signals of a condition variable that had waiters
pub record AreVisited (c i : ℕ) (syncs : Syncs) (old now : Mutexes) : Type 0 where
  pub none : i ≡ 0 → now ≡ old
  pub some : 0 < i → IsVisitedBySignal now.visited i c syncs

later : (visited i c : ℕ) (syncs : Syncs) → IsVisitedBySignal visited i c syncs → IsVisitedBySignal visited (suc i) c syncs
later visited i c syncs was = record { earlier = was.earlier; within = omega (arith, was.within); read = was.read }

some_waits : (c : ℕ) (syncs : Syncs) → 0 < length (condition_waiters syncs c) → next_waiter c syncs ≡ None → ⊥
some_waits c syncs lt e =
    let none : condition_waiters syncs c ≡ [] = first_none (effective_priority syncs.locks) (condition_waiters syncs c) e in
    let no : length (condition_waiters syncs c) ≡ 0 = ap length none in
    absurd (omega (arith, lt, no))

-- nobody waits any more: the number stays
unsignalled : (c i : ℕ) (syncs : Syncs) (old now new : Mutexes) → 0 < length (condition_waiters syncs c) → next_waiter c (iterate (after_signal c) i syncs) ≡ None → new ≡ now → AreVisited c i syncs old now → IsVisitedBySignal new.visited (suc i) c syncs
unsignalled c zero syncs old now new lt none same was = absurd (some_waits c syncs lt none)
unsignalled c (suc i) syncs old now new lt none same was =
    subst (λ (m : Mutexes). IsVisitedBySignal m.visited (suc (suc i)) c syncs) (sym same) (later now.visited (suc i) c syncs (was.some (omega arith)))

signalled_by : (c i : ℕ) (o : Option ℕ) (syncs : Syncs) (old now new : Mutexes) → 0 < length (condition_waiters syncs c) → next_waiter c (iterate (after_signal c) i syncs) ≡ o
    → (IsSome o → IsVisited new.visited (priorities_after i c syncs) (priorities_after (suc i) c syncs)) → (o ≡ None → new ≡ now) → AreVisited c i syncs old now → IsVisitedBySignal new.visited (suc i) c syncs
signalled_by c i None syncs old now new lt e read same was = unsignalled c i syncs old now new lt e (same refl) was
signalled_by c i (Some t) syncs old now new lt e read same was = record { earlier = i; within = omega arith; read = read refl }

-- one signal more
pub visited_more : (p c i : ℕ) (a b after : Rostered) (old now new : Mutexes) → 0 < length (condition_waiters (of_part p a) c) → of_part p b ≡ iterate (after_signal c) i (of_part p a) → AreSyncedAt p b → after ≡ put_syncs p (after_signal c (of_part p b)) b → AreSyncedAt p after
    → (IsSome (next_waiter c (of_part p b)) → IsVisited new.visited (part_of b.table.stored p) (part_of after.table.stored p)) → (next_waiter c (of_part p b) ≡ None → new ≡ now)
    → AreVisited c i (of_part p a) old now → AreVisited c (suc i) (of_part p a) old new
visited_more p c i a b after old now new lt reached synced moved then read same was =
    let before : part_of b.table.stored p ≡ priorities_after i c (of_part p a) = stored_reached p c i a b reached synced in
    let next : part_of after.table.stored p ≡ priorities_after (suc i) c (of_part p a) = stored_reached p c (suc i) a after (reached_more p c i a b after reached synced moved) then in
    record {
      none = λ e. absurd (omega (arith, e));
      some = λ more.
          signalled_by c i (next_waiter c (of_part p b)) (of_part p a) old now new lt (ap (next_waiter c) (sym reached))
          (λ some. rw (← before, ← next) (read some)) same was;
    }
