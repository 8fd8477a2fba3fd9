-- What the calls leave alone: threads that wait for no mutex, their absence from the line, and the room of their counts; so who waits on a condition variable still does.
use Rattle.std.specs.Fn.{iterate}
use Rattle.std.proofs.Common.{◌≡◌, ◌≢◌, ℕ, zero, suc, ◌+◌, ◌-◌, ◌<◌, ◌≤◌, Bool, true, false, List, [], ◌∷◌, ◌++◌, length, refl, sym, ◌∙◌, ap, subst, arith, ◌⊎◌, inl, inr}
use Rattle.std.specs.Prelude.{Option, Some, None, option_map, option_to_list, nat_lt, nat_eq, fold, IsSome, if◌then◌else◌}
use Rattle.std.proofs.lemmas.Bool.{cases_eq}
use Rattle.ptk_words.specs.Pools.{is_in, without, pool_get, pool_set}
use Rattle.ptk_words.specs.declared.TheConstants.{COUNT_LIMIT}
use Rattle.ptk_words.specs.declared.threads.Thread.{Thread}
use Rattle.ptk_words.specs.declared.threads.Wait.{Wait}
use Rattle.ptk_words.specs.declared.threads.Wait.TheVariants.{RelockWait}
use Rattle.ptk_words.specs.declared.faults.Errno.TheVariants.{EBUSY, EINVAL, ENOTRECOVERABLE}
use Rattle.ptk_words.specs.declared.mutexes.MutexKind.{MutexKind}
use Rattle.ptk_words.specs.declared.mutexes.Protocol.{Protocol}
use Rattle.ptk_words.specs.declared.mutexes.Owner.{Owner}
use Rattle.ptk_words.specs.declared.mutexes.Owner.TheVariants.{Free, Abandoned, OwnedBy}
use Rattle.ptk_words.specs.declared.mutexes.Soundness.{Soundness}
use Rattle.ptk_words.specs.declared.mutexes.Soundness.TheVariants.{Consistent, Inconsistent, Unrecoverable}
use Rattle.ptk_words.proofs.Lists.{out_push}
use Rattle.ptk_words.proofs.Pools.{changed_own, changed_other, pool_set_all}
use Rattle.ptk_words_model.specs.State.{Mutex, Condition, Locks}
use Rattle.ptk_words_model.specs.declared.LockMove.{LockMove}
use Rattle.ptk_words_model.specs.declared.LockMove.TheVariants.{Takes, Recovers, Counts, Waits, Refuses}
use Rattle.ptk_words_model.specs.Priority.{assigned_priority, awaited, is_owner, thread_at}
use Rattle.ptk_words.specs.Threads.{mutex_of_wait, condition_of_wait}
use Rattle.ptk_words_model.specs.Schedule.{with_thread, at_tail_with, woken_with}
use Rattle.ptk_words_model.specs.Mutex.{mutex_at, with_mutex, waiters_of, wait_of, count_of, soundness_of, with_soundness, new_mutex, owns, owner_move, own_lock_move, own_trylock_move, is_above_ceiling, lock_move, trylock_move, free_move, handed, heir, move_reply, relock_move, without_mutex_waiter, after_take, after_count, after_free, after_move, after_hand_over_to, after_hand_over, after_refusal_to, after_refusal, after_loss, after_last_unlock, after_unlock, after_relock, after_relock_move, after_bequest, after_abandonment, after_mutex_end}
use Rattle.ptk_words_model.specs.Condition.{mutex_of_condition_wait, waiters_on}
use Rattle.ptk_words_sync_invariant.specs.Conditions.{HasRoom, IsNoWaiter}
use Rattle.ptk_words_sync_invariant.proofs.Conditions.{condition_wait, room_map, same_owner}
use Rattle.ptk_words_sync_invariant.proofs.MutexPlaces.{pool_set_same}
use Rattle.ptk_words_sync_invariant.proofs.Rooms.{counts_owner, roomy_joined, roomy_left, roomy_soundness, free_counts}
use Rattle.ptk_words_sync_invariant.proofs.ConditionWaits.{down_below}
use Rattle.ptk_roster.specs.declared.slot.Change.TheVariants.{Abandon, Release, Mark}
use Rattle.ptk_mutex.specs.Tables.{AreLocked, IsWaiter, MayGet, MayWait}
use Rattle.ptk_mutex.specs.Moves.{after_assignment, after_withdrawal}
use Rattle.ptk_mutex.specs.Sound.{AreWaiting, IsOnCondition}
use Rattle.ptk_mutex.proofs.Locked.{heir_may_get}
use Rattle.ptk_mutex.proofs.Steps.{end_of, locked_change, locked_hand_over, locked_refusal}

-- ---- the moves of one mutex

-- every other mutex stays, and so does a thread that waits for none
pub record IsCalm (m : ℕ) (before after : Locks) : Type 0 where
  pub others : (n : ℕ) → n ≢ m → mutex_at after n ≡ mutex_at before n
  pub threads : (k : ℕ) → awaited (thread_at before k) ≡ None → thread_at after k ≡ thread_at before k
  pub out : (k : ℕ) → awaited (thread_at before k) ≡ None → is_in k before.line ≡ false → is_in k after.line ≡ false

calm_none : (m : ℕ) (locks : Locks) → IsCalm m locks locks
calm_none m locks = record { others = λ n ne. refl; threads = λ k none. refl; out = λ k none out. out }

calm_more : (m : ℕ) (a b c : Locks) → IsCalm m a b → IsCalm m b c → IsCalm m a c
calm_more m a b c first second = record {
  others = λ n ne. second.others n ne ∙ first.others n ne;
  threads = λ k none. second.threads k (ap awaited (first.threads k none) ∙ none) ∙ first.threads k none;
  out = λ k none out. second.out k (ap awaited (first.threads k none) ∙ none) (first.out k none out);
}

-- a mutex changed
calm_mutex : (m : ℕ) (f : Mutex → Mutex) (locks : Locks) → IsCalm m locks (with_mutex m f locks)
calm_mutex m f locks = record { others = λ n ne. changed_other m n f locks.mutexes ne; threads = λ k none. refl; out = λ k none out. out }

not_waiter : (m t k : ℕ) (locks : Locks) → awaited (thread_at locks t) ≡ Some m → awaited (thread_at locks k) ≡ None → k ≢ t
not_waiter m t k locks waits none = λ same.
    let named : awaited (thread_at locks k) ≡ Some m = subst (λ (j : ℕ). awaited (thread_at locks j) ≡ Some m) (sym same) waits in
    let no : ⊥ = cc in no

-- a waiter gone
calm_left : (m t : ℕ) (f : Thread → Thread) (locks : Locks) → awaited (thread_at locks t) ≡ Some m → IsCalm m locks (at_tail_with f t (without_mutex_waiter t m locks))
calm_left m t f locks waits = record {
  others = λ n ne. changed_other m n (λ (mutex : Mutex). record mutex { waiters = without t mutex.waiters }) locks.mutexes ne;
  threads = λ k none. changed_other t k f locks.threads (not_waiter m t k locks waits none);
  out = λ k none out. out_push t k locks.line (not_waiter m t k locks waits none) out;
}

calm_hand_to : (m : ℕ) (next : Option ℕ) (locks : Locks) → MayGet next locks m → IsCalm m locks (after_hand_over_to next m locks)
calm_hand_to m None locks may = calm_mutex m (λ (mutex : Mutex). record mutex { owner = Free; count = 0 }) locks
calm_hand_to m (Some t) locks may =
    let taken : Locks = after_take t m locks in
    calm_more m locks taken (after_hand_over_to (Some t) m locks) (calm_mutex m (λ (mutex : Mutex). record mutex { owner = OwnedBy t; count = 1 }) locks)
    (calm_left m t (handed (free_move (soundness_of (mutex_at locks m)))) taken may.waits)

calm_hand_over : (m : ℕ) (locks : Locks) → AreLocked locks → IsCalm m locks (after_hand_over m locks)
calm_hand_over m locks locked = calm_hand_to m (heir m locks) locks (heir_may_get m locks (heir m locks) locked refl)

pub calm_refuse_to : (m : ℕ) (next : Option ℕ) (locks : Locks) → MayGet next locks m → IsCalm m locks (after_refusal_to next m locks)
calm_refuse_to m None locks may = calm_none m locks
calm_refuse_to m (Some t) locks may = calm_left m t (handed (Refuses ENOTRECOVERABLE)) locks may.waits

calm_refusals : (n m : ℕ) (locks : Locks) → AreLocked locks → IsCalm m locks (iterate (after_refusal m) n locks)
calm_refusals zero m locks locked = calm_none m locks
calm_refusals (suc n) m locks locked =
    calm_more m locks (after_refusal m locks) (iterate (after_refusal m) n (after_refusal m locks))
    (calm_refuse_to m (heir m locks) locks (heir_may_get m locks (heir m locks) locked refl))
    (calm_refusals n m (after_refusal m locks) (locked_refusal m locks locked))

-- a mutex that is lost, before its waiters leave
abbrev lost : ℕ → Locks → Locks
lost m locks = with_soundness Unrecoverable m (after_free m locks)

locked_lost : (m : ℕ) (locks : Locks) → AreLocked locks → AreLocked (lost m locks)
locked_lost m locks locked = locked_change (Mark Unrecoverable) m (after_free m locks) tt (locked_change Release m locks tt locked)

calm_loss : (m : ℕ) (locks : Locks) → AreLocked locks → IsCalm m locks (after_loss m locks)
calm_loss m locks locked =
    calm_more m locks (after_free m locks) (after_loss m locks) (calm_mutex m (λ (mutex : Mutex). record mutex { owner = Free; count = 0 }) locks)
    (calm_more m (after_free m locks) (lost m locks) (after_loss m locks) (calm_mutex m (λ (mutex : Mutex). record mutex { soundness = Unrecoverable }) (after_free m locks))
    (calm_refusals (length (waiters_of (mutex_at (lost m locks) m))) m (lost m locks) (locked_lost m locks locked)))

calm_last : (soundness : Soundness) (m : ℕ) (locks : Locks) → AreLocked locks → IsCalm m locks (after_last_unlock soundness m locks)
calm_last Consistent m locks locked = calm_hand_over m locks locked
calm_last Inconsistent m locks locked = calm_loss m locks locked
calm_last Unrecoverable m locks locked = calm_loss m locks locked

calm_either : (b : Bool) (m : ℕ) (a first second : Locks) → IsCalm m a first → IsCalm m a second → IsCalm m a (if b then first else second)
calm_either true m a first second one other = one
calm_either false m a first second one other = other

-- an unlock
pub calm_unlock : (m : ℕ) (locks : Locks) → AreLocked locks → IsCalm m locks (after_unlock m locks)
calm_unlock m locks locked =
    calm_either (nat_lt 1 (count_of (mutex_at locks m))) m locks (with_mutex m (λ (mutex : Mutex). record mutex { count = mutex.count - 1 }) locks) (after_last_unlock (soundness_of (mutex_at locks m)) m locks)
    (calm_mutex m (λ (mutex : Mutex). record mutex { count = mutex.count - 1 }) locks)
    (calm_last (soundness_of (mutex_at locks m)) m locks locked)

-- ---- the count after an unlock

-- the count is below the limit
abbrev IsBelow : ℕ → Locks → Type 0
IsBelow m locks = count_of (mutex_at locks m) < COUNT_LIMIT

below_change : (m : ℕ) (f : Mutex → Mutex) (locks : Locks) → count_of (option_map f (mutex_at locks m)) < COUNT_LIMIT → IsBelow m (with_mutex m f locks)
below_change m f locks lt = rw (changed_own m f locks.mutexes) lt

below_taken : (t : ℕ) (x : Option Mutex) → count_of (option_map (λ (mutex : Mutex). record mutex { owner = OwnedBy t; count = 1 }) x) < COUNT_LIMIT
below_taken t None = omega arith
below_taken t (Some x) = omega arith

below_free : (x : Option Mutex) → count_of (option_map (λ (mutex : Mutex). record mutex { owner = Free; count = 0 }) x) < COUNT_LIMIT
below_free None = omega arith
below_free (Some x) = omega arith

count_left : (t : ℕ) (x : Option Mutex) → count_of (option_map (λ (mutex : Mutex). record mutex { waiters = without t mutex.waiters }) x) ≡ count_of x
count_left t None = refl
count_left t (Some x) = refl

count_marked : (soundness : Soundness) (x : Option Mutex) → count_of (option_map (λ (mutex : Mutex). record mutex { soundness = soundness }) x) ≡ count_of x
count_marked soundness None = refl
count_marked soundness (Some x) = refl

-- a waiter that leaves changes no count
below_left : (m t : ℕ) (f : Thread → Thread) (locks : Locks) → IsBelow m locks → IsBelow m (at_tail_with f t (without_mutex_waiter t m locks))
below_left m t f locks lt = below_change m (λ (mutex : Mutex). record mutex { waiters = without t mutex.waiters }) locks (rw (count_left t (mutex_at locks m)) lt)

below_hand_to : (m : ℕ) (next : Option ℕ) (locks : Locks) → IsBelow m (after_hand_over_to next m locks)
below_hand_to m None locks = below_change m (λ (mutex : Mutex). record mutex { owner = Free; count = 0 }) locks (below_free (mutex_at locks m))
below_hand_to m (Some t) locks =
    below_left m t (handed (free_move (soundness_of (mutex_at locks m)))) (after_take t m locks) (below_change m (λ (mutex : Mutex). record mutex { owner = OwnedBy t; count = 1 }) locks (below_taken t (mutex_at locks m)))

below_refuse_to : (m : ℕ) (next : Option ℕ) (locks : Locks) → IsBelow m locks → IsBelow m (after_refusal_to next m locks)
below_refuse_to m None locks lt = lt
below_refuse_to m (Some t) locks lt = below_left m t (handed (Refuses ENOTRECOVERABLE)) locks lt

below_refusals : (n m : ℕ) (locks : Locks) → IsBelow m locks → IsBelow m (iterate (after_refusal m) n locks)
below_refusals zero m locks lt = lt
below_refusals (suc n) m locks lt = below_refusals n m (after_refusal m locks) (below_refuse_to m (heir m locks) locks lt)

below_loss : (m : ℕ) (locks : Locks) → IsBelow m (after_loss m locks)
below_loss m locks =
    let free : IsBelow m (after_free m locks) = below_change m (λ (mutex : Mutex). record mutex { owner = Free; count = 0 }) locks (below_free (mutex_at locks m)) in
    let marked : IsBelow m (lost m locks) = below_change m (λ (mutex : Mutex). record mutex { soundness = Unrecoverable }) (after_free m locks) (rw (count_marked Unrecoverable (mutex_at (after_free m locks) m)) free) in
    below_refusals (length (waiters_of (mutex_at (lost m locks) m))) m (lost m locks) marked

below_last : (soundness : Soundness) (m : ℕ) (locks : Locks) → IsBelow m (after_last_unlock soundness m locks)
below_last Consistent m locks = below_hand_to m (heir m locks) locks
below_last Inconsistent m locks = below_loss m locks
below_last Unrecoverable m locks = below_loss m locks

below_either : (b : Bool) (m : ℕ) (first second : Locks) → IsBelow m first → IsBelow m second → IsBelow m (if b then first else second)
below_either true m first second one other = one
below_either false m first second one other = other

pub below_unlock : (m : ℕ) (locks : Locks) → count_of (mutex_at locks m) ≤ COUNT_LIMIT → count_of (mutex_at (after_unlock m locks) m) < COUNT_LIMIT
below_unlock m locks le =
    below_either (nat_lt 1 (count_of (mutex_at locks m))) m (with_mutex m (λ (mutex : Mutex). record mutex { count = mutex.count - 1 }) locks) (after_last_unlock (soundness_of (mutex_at locks m)) m locks)
    (below_change m (λ (mutex : Mutex). record mutex { count = mutex.count - 1 }) locks (down_below (mutex_at locks m) le))
    (below_last (soundness_of (mutex_at locks m)) m locks)

-- ---- a thread that others' moves leave alone

-- thread k stays, out of the line, with room where it had room
pub record IsApart (before after : Locks) (k : ℕ) : Type 0 where
  pub thread : thread_at after k ≡ thread_at before k
  pub out : is_in k before.line ≡ false → is_in k after.line ≡ false
  pub room : (n : ℕ) → HasRoom k (mutex_at before n) → HasRoom k (mutex_at after n)

pub apart_more : (a b c : Locks) (k : ℕ) → IsApart a b k → IsApart b c k → IsApart a c k
apart_more a b c k first second = record {
  thread = second.thread ∙ first.thread;
  out = λ out. second.out (first.out out);
  room = λ n room. second.room n (first.room n room);
}

-- another thread changed
pub apart_thread : (t k : ℕ) (f : Thread → Thread) (locks : Locks) → k ≢ t → IsApart locks (with_thread t f locks) k
apart_thread t k f locks ne = record { thread = changed_other t k f locks.threads ne; out = λ out. out; room = λ n room. room }

-- another thread woken
pub apart_woken : (t k : ℕ) (f : Thread → Thread) (locks : Locks) → k ≢ t → IsApart locks (at_tail_with f t locks) k
apart_woken t k f locks ne = record {
  thread = changed_other t k f locks.threads ne;
  out = λ out. out_push t k locks.line ne out;
  room = λ n room. room;
}

-- nothing changed
pub apart_none : (k : ℕ) (locks : Locks) → IsApart locks locks k
apart_none k locks = record { thread = refl; out = λ out. out; room = λ n room. room }

room_at : (m n k : ℕ) (before after : Locks) → IsCalm m before after → (n ≡ m) ⊎ (n ≢ m) → (HasRoom k (mutex_at before m) → HasRoom k (mutex_at after m)) → HasRoom k (mutex_at before n) → HasRoom k (mutex_at after n)
room_at m n k before after calm (inl e) own room =
    subst (λ (j : ℕ). HasRoom k (mutex_at after j)) (sym e) (own (subst (λ (j : ℕ). HasRoom k (mutex_at before j)) e room))
room_at m n k before after calm (inr ne) own room = subst (λ (x : Option Mutex). HasRoom k x) (sym (calm.others n ne)) room

-- the moves of one mutex leave a thread alone that waits for none, where they leave it room at that mutex
apart_calm : (m k : ℕ) (before after : Locks) → IsCalm m before after → awaited (thread_at before k) ≡ None → (HasRoom k (mutex_at before m) → HasRoom k (mutex_at after m)) → IsApart before after k
apart_calm m k before after calm none own = record {
  thread = calm.threads k none;
  out = calm.out k none;
  room = λ n room. room_at m n k before after calm (cases_eq n m) own room;
}

-- an unlock leaves a thread alone that waits for no mutex
pub apart_unlock : (m k : ℕ) (locks : Locks) → AreLocked locks → awaited (thread_at locks k) ≡ None → IsApart locks (after_unlock m locks) k
apart_unlock m k locks locked none = apart_calm m k locks (after_unlock m locks) (calm_unlock m locks locked) none (λ room counts. below_unlock m locks (locked.counts m))

-- ---- a re-lock

-- a mutex changed, with room left for the thread
apart_mutex : (m k : ℕ) (f : Mutex → Mutex) (locks : Locks) → (HasRoom k (mutex_at locks m) → HasRoom k (option_map f (mutex_at locks m))) → IsApart locks (with_mutex m f locks) k
apart_mutex m k f locks own = record {
  thread = refl;
  out = λ out. out;
  room = λ n room. room_at m n k locks (with_mutex m f locks) (calm_mutex m f locks) (cases_eq n m) (λ had. subst (λ (x : Option Mutex). HasRoom k x) (sym (changed_own m f locks.mutexes)) (own had)) room;
}

-- only the owner counts up
counts_same : (t k : ℕ) (x : Option Mutex) → relock_move t x ≡ Counts → relock_move k (option_map (λ (mutex : Mutex). record mutex { count = mutex.count + 1 }) x) ≡ Counts → k ≡ t
counts_same t k None e f = let no : ⊥ = cc in absurd no
counts_same t k (Some x) e f = same_owner x.owner t k (counts_owner t x e) (counts_owner k (record x { count = x.count + 1 }) f)

apart_taken : (t m k : ℕ) (values : List ℕ) (locks : Locks) → k ≢ t → IsApart locks (at_tail_with (woken_with values) t (after_take t m locks)) k
apart_taken t m k values locks ne =
    apart_more locks (after_take t m locks) (at_tail_with (woken_with values) t (after_take t m locks)) k
    (apart_mutex m k (λ (mutex : Mutex). record mutex { owner = OwnedBy t; count = 1 }) locks (λ room counts. below_taken t (mutex_at locks m)))
    (apart_woken t k (woken_with values) (after_take t m locks) ne)

apart_move : (made : LockMove) (t m k : ℕ) (reply : Option ℕ) (locks : Locks) → k ≢ t → relock_move t (mutex_at locks m) ≡ made → IsApart locks (after_relock_move made t m reply locks) k
apart_move Takes t m k reply locks ne e = apart_taken t m k (option_to_list (move_reply Takes reply)) locks ne
apart_move Recovers t m k reply locks ne e = apart_taken t m k (option_to_list (move_reply Recovers reply)) locks ne
apart_move Counts t m k reply locks ne e =
    apart_more locks (after_count m locks) (after_relock_move Counts t m reply locks) k
    (apart_mutex m k (λ (mutex : Mutex). record mutex { count = mutex.count + 1 }) locks (λ room counts. absurd (ne (counts_same t k (mutex_at locks m) e counts))))
    (apart_woken t k (woken_with (option_to_list (move_reply Counts reply))) (after_count m locks) ne)
apart_move Waits t m k reply locks ne e =
    let queued : Locks = with_mutex m (λ (mutex : Mutex). record mutex { waiters = mutex.waiters ++ t ∷ [] }) locks in
    apart_more locks queued (after_relock_move Waits t m reply locks) k
    (apart_mutex m k (λ (mutex : Mutex). record mutex { waiters = mutex.waiters ++ t ∷ [] }) locks (room_map k (λ (mutex : Mutex). record mutex { waiters = mutex.waiters ++ t ∷ [] }) (mutex_at locks m) (roomy_joined t)))
    (apart_thread t k (λ (thread : Thread). record thread { wait = Some (RelockWait m reply) }) queued ne)
apart_move (Refuses e) t m k reply locks ne f = apart_woken t k (woken_with (option_to_list (move_reply (Refuses e) reply))) locks ne

-- a re-lock leaves every other thread alone
pub apart_relock : (t m k : ℕ) (reply : Option ℕ) (locks : Locks) → k ≢ t → IsApart locks (after_relock t m reply locks) k
apart_relock t m k reply locks ne = apart_move (relock_move t (mutex_at locks m)) t m k reply locks ne refl

-- ---- a lock

counted_same : (t k : ℕ) (x : Option Mutex) → owns t x ≡ true → relock_move k (option_map (λ (mutex : Mutex). record mutex { count = mutex.count + 1 }) x) ≡ Counts → k ≡ t
counted_same t k None owned e = let no : ⊥ = cc in absurd no
counted_same t k (Some x) owned e = same_owner x.owner t k owned (counts_owner k (record x { count = x.count + 1 }) e)

-- a lock leaves every other thread alone, where its owner alone counts up
pub apart_made : (made : LockMove) (t m k : ℕ) (wait : Wait) (locks : Locks) → k ≢ t → (made ≡ Counts → owns t (mutex_at locks m) ≡ true) → IsApart locks (after_move made t m wait locks) k
apart_made Takes t m k wait locks ne owned = apart_mutex m k (λ (mutex : Mutex). record mutex { owner = OwnedBy t; count = 1 }) locks (λ room counts. below_taken t (mutex_at locks m))
apart_made Recovers t m k wait locks ne owned = apart_mutex m k (λ (mutex : Mutex). record mutex { owner = OwnedBy t; count = 1 }) locks (λ room counts. below_taken t (mutex_at locks m))
apart_made Counts t m k wait locks ne owned =
    apart_mutex m k (λ (mutex : Mutex). record mutex { count = mutex.count + 1 }) locks (λ room counts. absurd (ne (counted_same t k (mutex_at locks m) (owned refl) counts)))
apart_made Waits t m k wait locks ne owned =
    let queued : Locks = with_mutex m (λ (mutex : Mutex). record mutex { waiters = mutex.waiters ++ t ∷ [] }) locks in
    apart_more locks queued (after_move Waits t m wait locks) k
    (apart_mutex m k (λ (mutex : Mutex). record mutex { waiters = mutex.waiters ++ t ∷ [] }) locks (room_map k (λ (mutex : Mutex). record mutex { waiters = mutex.waiters ++ t ∷ [] }) (mutex_at locks m) (roomy_joined t)))
    (apart_thread t k (λ (thread : Thread). record thread { wait = Some wait }) queued ne)
apart_made (Refuses e) t m k wait locks ne owned = apart_none k locks

owned_if : (b : Bool) (own another : LockMove) → (another ≡ Counts → ⊥) → (if b then own else another) ≡ Counts → b ≡ true
owned_if true own another never e = refl
owned_if false own another never e = absurd (never e)

owned_by : (owner : Owner) (t : ℕ) (free own another : LockMove) → (free ≡ Counts → ⊥) → (another ≡ Counts → ⊥) → owner_move owner t (record { of_free = free; of_own = own; of_another = another }) ≡ Counts → is_owner t owner ≡ true
owned_by Free t free own another never none e = absurd (never e)
owned_by Abandoned t free own another never none e = absurd (none e)
owned_by (OwnedBy u) t free own another never none e = owned_if (nat_eq u t) own another none e

not_refused : (b : Bool) (move : LockMove) → (if b then Refuses EINVAL else move) ≡ Counts → move ≡ Counts
not_refused true move e = let no : ⊥ = cc in absurd no
not_refused false move e = e

-- who counts up owns the mutex, by a lock
pub lock_owned : (locks : Locks) (t : ℕ) (x : Option Mutex) → lock_move locks t x ≡ Counts → owns t x ≡ true
lock_owned locks t None e = let no : ⊥ = cc in absurd no
lock_owned locks t (Some m) e =
    owned_by m.owner t (free_move m.soundness) (own_lock_move m.kind m.count) Waits (free_counts m.soundness) (λ f. let no : ⊥ = cc in no)
    (not_refused (is_above_ceiling (assigned_priority locks t) m.protocol) _ e)

-- by a trylock
pub trylock_owned : (locks : Locks) (t : ℕ) (x : Option Mutex) → trylock_move locks t x ≡ Counts → owns t x ≡ true
trylock_owned locks t None e = let no : ⊥ = cc in absurd no
trylock_owned locks t (Some m) e =
    owned_by m.owner t (free_move m.soundness) (own_trylock_move m.kind m.count) (Refuses EBUSY) (free_counts m.soundness) (λ f. let no : ⊥ = cc in no)
    (not_refused (is_above_ceiling (assigned_priority locks t) m.protocol) _ e)

-- and by a re-lock
pub relock_owned : (t : ℕ) (x : Option Mutex) → relock_move t x ≡ Counts → owns t x ≡ true
relock_owned t None e = let no : ⊥ = cc in absurd no
relock_owned t (Some m) e = counts_owner t m e

-- ---- the other moves

-- a waiter that leaves a mutex leaves alone who waits for none
pub apart_withdrawal : (t m k : ℕ) (reply : Option ℕ) (locks : Locks) → IsWaiter locks m t → awaited (thread_at locks k) ≡ None → IsApart locks (after_withdrawal t m reply locks) k
apart_withdrawal t m k reply locks waiter none =
    let left : Locks = without_mutex_waiter t m locks in
    apart_more locks left (after_withdrawal t m reply locks) k
    (apart_mutex m k (λ (mutex : Mutex). record mutex { waiters = without t mutex.waiters }) locks (room_map k (λ (mutex : Mutex). record mutex { waiters = without t mutex.waiters }) (mutex_at locks m) (roomy_left t)))
    (apart_woken t k (woken_with (option_to_list reply)) left (not_waiter m t k locks waiter.waits none))

-- so does what a mutex guards as it is sound or not
pub apart_soundness : (soundness : Soundness) (m k : ℕ) (locks : Locks) → IsApart locks (with_soundness soundness m locks) k
apart_soundness soundness m k locks = apart_mutex m k (λ (mutex : Mutex). record mutex { soundness = soundness }) locks (room_map k (λ (mutex : Mutex). record mutex { soundness = soundness }) (mutex_at locks m) (roomy_soundness soundness))

-- and a mutex that is taken or free
pub apart_take : (t m k : ℕ) (locks : Locks) → IsApart locks (after_take t m locks) k
apart_take t m k locks = apart_mutex m k (λ (mutex : Mutex). record mutex { owner = OwnedBy t; count = 1 }) locks (λ room counts. below_taken t (mutex_at locks m))

pub apart_free : (m k : ℕ) (locks : Locks) → IsApart locks (after_free m locks) k
apart_free m k locks = apart_mutex m k (λ (mutex : Mutex). record mutex { owner = Free; count = 0 }) locks (λ room counts. below_free (mutex_at locks m))

abandoned_counts : (k : ℕ) (x : Option Mutex) → relock_move k (option_map (λ (mutex : Mutex). record mutex { owner = Abandoned }) x) ≡ Counts → ⊥
abandoned_counts k None e = let no : ⊥ = cc in no
abandoned_counts k (Some x) e = let no : ⊥ = cc in no

apart_abandonment : (m k : ℕ) (locks : Locks) → IsApart locks (after_abandonment m locks) k
apart_abandonment m k locks = apart_mutex m k (λ (mutex : Mutex). record mutex { owner = Abandoned }) locks (λ room counts. absurd (abandoned_counts k (mutex_at locks m) counts))

apart_bequest : (m k : ℕ) (locks : Locks) → AreLocked locks → awaited (thread_at locks k) ≡ None → IsApart locks (after_bequest m locks) k
apart_bequest m k locks locked none =
    let marked : Locks = with_soundness Inconsistent m locks in
    apart_more locks marked (after_bequest m locks) k (apart_soundness Inconsistent m k locks)
    (apart_calm m k marked (after_hand_over m marked) (calm_hand_over m marked (locked_change (Mark Inconsistent) m locks tt locked)) none (λ room counts. below_hand_to m (heir m marked) marked))

apart_either : (b : Bool) (a first second : Locks) (k : ℕ) → IsApart a first k → IsApart a second k → IsApart a (if b then first else second) k
apart_either true a first second k one other = one
apart_either false a first second k one other = other

pub apart_mutex_end : (t m k : ℕ) (x : Option Mutex) (locks : Locks) → AreLocked locks → awaited (thread_at locks k) ≡ None → IsApart locks (after_mutex_end t x m locks) k
apart_mutex_end t m k None locks locked none = apart_none k locks
apart_mutex_end t m k (Some mutex) locks locked none =
    apart_either (is_owner t mutex.owner) locks (if mutex.is_robust then after_bequest m locks else after_abandonment m locks) locks k
    (apart_either mutex.is_robust locks (after_bequest m locks) (after_abandonment m locks) k (apart_bequest m k locks locked none) (apart_abandonment m k locks))
    (apart_none k locks)

locked_either : (b : Bool) (first second : Locks) → AreLocked first → AreLocked second → AreLocked (if b then first else second)
locked_either true first second one other = one
locked_either false first second one other = other

locked_mutex_end : (t m : ℕ) (x : Option Mutex) (locks : Locks) → AreLocked locks → AreLocked (after_mutex_end t x m locks)
locked_mutex_end t m None locks locked = locked
locked_mutex_end t m (Some mutex) locks locked =
    locked_either (is_owner t mutex.owner) (if mutex.is_robust then after_bequest m locks else after_abandonment m locks) locks
    (locked_either mutex.is_robust (after_bequest m locks) (after_abandonment m locks) (locked_hand_over m (with_soundness Inconsistent m locks) (locked_change (Mark Inconsistent) m locks tt locked)) (locked_change Abandon m locks tt locked))
    locked

-- the end of an owner
pub apart_ends : (t k : ℕ) (ms : List ℕ) (locks : Locks) → AreLocked locks → awaited (thread_at locks k) ≡ None → IsApart locks (fold (end_of t) locks ms) k
apart_ends t k [] locks locked none = apart_none k locks
apart_ends t k (m ∷ ms) locks locked none =
    let first : IsApart locks (end_of t locks m) k = apart_mutex_end t m k (mutex_at locks m) locks locked none in
    apart_more locks (end_of t locks m) (fold (end_of t) (end_of t locks m) ms) k first
    (apart_ends t k ms (end_of t locks m) (locked_mutex_end t m (mutex_at locks m) locks locked) (ap awaited first.thread ∙ none))

-- a mutex at a number, which leaves the thread room
apart_entry : (m k : ℕ) (x : Option Mutex) (locks : Locks) → HasRoom k x → IsApart locks (record locks { mutexes = pool_set locks.mutexes m x }) k
apart_entry m k x locks own = record {
  thread = refl;
  out = λ out. out;
  room = λ n room. pool_set_all (λ (y : Option Mutex). HasRoom k y) locks.mutexes m n x own room;
}

-- so does a new one, and none
pub apart_opened : (m k : ℕ) (kind : MutexKind) (protocol : Protocol) (is_robust : Bool) (locks : Locks) → IsApart locks (record locks { mutexes = pool_set locks.mutexes m (Some (new_mutex kind protocol is_robust)) }) k
apart_opened m k kind protocol is_robust locks = apart_entry m k (Some (new_mutex kind protocol is_robust)) locks (λ counts. let no : ⊥ = cc in absurd no)

pub apart_closed : (m k : ℕ) (locks : Locks) → IsApart locks (record locks { mutexes = pool_set locks.mutexes m None }) k
apart_closed m k locks = apart_entry m k None locks (λ counts. let no : ⊥ = cc in absurd no)

-- ---- who waits on condition variables

-- it is for no mutex
unawaited : (c : ℕ) (wait : Option Wait) → condition_of_wait wait ≡ Some c → mutex_of_wait wait ≡ None
unawaited c wait e = ap mutex_of_wait (condition_wait c wait e).waits

none_awaited : (c : ℕ) (x : Option Thread) → condition_of_wait (wait_of x) ≡ Some c → awaited x ≡ None
none_awaited c None e = refl
none_awaited c (Some thread) e = unawaited c thread.wait e

used_by : (c : ℕ) (x : Option Thread) → condition_of_wait (wait_of x) ≡ Some c → IsSome x
used_by c None e = let no : ⊥ = cc in absurd no
used_by c (Some thread) e = refl

-- who waits on a condition variable may re-lock a mutex
pub may_relock : (c k : ℕ) (locks : Locks) → IsOnCondition locks c k → MayWait locks k
may_relock c k locks waiter = record { used = used_by c (thread_at locks k) waiter.waits; out = waiter.out; awake = none_awaited c (thread_at locks k) waiter.waits }

-- a waiter that others' moves leave alone
pub kept_waiter : (c k : ℕ) (before after : Locks) → IsApart before after k → IsOnCondition before c k → IsOnCondition after c k
kept_waiter c k before after apart waiter = record {
  waits = ap (λ (x : Option Thread). condition_of_wait (wait_of x)) apart.thread ∙ waiter.waits;
  out = apart.out waiter.out;
  room = λ m named. apart.room m (waiter.room m (sym (ap (λ (x : Option Thread). mutex_of_condition_wait (wait_of x)) apart.thread) ∙ named));
}

-- so waiters still wait after a call that leaves each of them alone
pub waiting_kept : (before after : Locks) (conditions : List (Option Condition)) → ((c k : ℕ) → is_in k (waiters_on (pool_get conditions c)) ≡ true → MayWait before k → IsApart before after k)
    → AreWaiting (record { locks = before; conditions = conditions }) → AreWaiting (record { locks = after; conditions = conditions })
waiting_kept before after conditions apart waiting = record {
  waiters = λ c k h.
      let was : IsOnCondition before c k = waiting.waiters c k h in
      kept_waiter c k before after (apart c k h (may_relock c k before was)) was;
}

-- a thread that is no waiter is another than each of them
pub other_waiter : (t c k : ℕ) (mutexes : List (Option Mutex)) (conditions : List (Option Condition)) → IsNoWaiter t mutexes conditions → is_in k (waiters_on (pool_get conditions c)) ≡ true → k ≢ t
other_waiter t c k mutexes conditions free there = λ same.
    let here : is_in t (waiters_on (pool_get conditions c)) ≡ true = subst (λ (j : ℕ). is_in j (waiters_on (pool_get conditions c)) ≡ true) same there in
    let away : is_in t (waiters_on (pool_get conditions c)) ≡ false = free.of_conditions c in
    let no : ⊥ = cc in no

wait_kept : (priority : ℕ) (x : Option Thread) → wait_of (option_map (λ (thread : Thread). record thread { priority = priority }) x) ≡ wait_of x
wait_kept priority None = refl
wait_kept priority (Some thread) = refl

-- and after another assigned priority
pub waiting_assigned : (t priority : ℕ) (locks : Locks) (conditions : List (Option Condition)) → AreWaiting (record { locks = locks; conditions = conditions }) → AreWaiting (record { locks = after_assignment t priority locks; conditions = conditions })
waiting_assigned t priority locks conditions waiting = record {
  waiters = λ c k h.
      let was : IsOnCondition locks c k = waiting.waiters c k h in
      let same : wait_of (thread_at (after_assignment t priority locks) k) ≡ wait_of (thread_at locks k) =
      pool_set_same wait_of locks.threads t k (option_map (λ (thread : Thread). record thread { priority = priority }) (pool_get locks.threads t)) (wait_kept priority (pool_get locks.threads t)) in
      record { waits = ap condition_of_wait same ∙ was.waits; out = was.out; room = λ m named. was.room m (sym (ap mutex_of_condition_wait same) ∙ named) };
}
