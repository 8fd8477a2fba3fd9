-- No move of a mutex changes how many numbers of threads and of mutexes there are.
use Rattle.std.proofs.Common.{◌≡◌, ℕ, zero, suc, Bool, true, false, List, [], ◌∷◌, length, fold, refl, ◌∙◌}
use Rattle.std.specs.Prelude.{◌-◌, Option, Some, None, nat_lt, if◌then◌else◌}
use Rattle.std.specs.Fn.{iterate}
use Rattle.ptk_words.specs.Pools.{numbers_of}
use Rattle.ptk_words.specs.declared.faults.Errno.TheVariants.{ENOTRECOVERABLE}
use Rattle.ptk_words.specs.declared.threads.Wait.{Wait}
use Rattle.ptk_words.specs.declared.mutexes.Soundness.{Soundness}
use Rattle.ptk_words.specs.declared.mutexes.Soundness.TheVariants.{Consistent, Inconsistent, Unrecoverable}
use Rattle.ptk_words.proofs.Pools.{length-changed}
use Rattle.ptk_words_model.specs.declared.LockMove.{LockMove}
use Rattle.ptk_words_model.specs.declared.LockMove.TheVariants.{Takes, Recovers, Counts, Waits, Refuses}
use Rattle.ptk_words_model.specs.State.{Mutex, Locks}
use Rattle.ptk_words_model.specs.Priority.{is_owner}
use Rattle.ptk_words_model.specs.Mutex.{mutex_at, with_mutex, with_soundness, soundness_of, waiters_of, count_of, handed, heir, free_move, after_move, after_take, after_free, after_leave, after_hand_over_to, after_refusal_to, after_refusal, after_loss, after_last_unlock, after_unlock, after_bequest, after_abandonment, after_mutex_end, after_owner_end}

-- as many numbers of threads and of mutexes (own)
pub record AreAsMany (before after : Locks) : Type 0 where
  pub threads : length after.threads ≡ length before.threads
  pub mutexes : length after.mutexes ≡ length before.mutexes

many_same : (locks : Locks) → AreAsMany locks locks
many_same locks = record { threads = refl; mutexes = refl }

many_then : (a b c : Locks) → AreAsMany a b → AreAsMany b c → AreAsMany a c
many_then a b c first second = record { threads = second.threads ∙ first.threads; mutexes = second.mutexes ∙ first.mutexes }

many_mutex : (m : ℕ) (f : Mutex → Mutex) (locks : Locks) → AreAsMany locks (with_mutex m f locks)
many_mutex m f locks = record { threads = refl; mutexes = length-changed m f locks.mutexes }

-- ---- lock and unlock

many_move : (move : LockMove) (t m : ℕ) (wait : Wait) (locks : Locks) → AreAsMany locks (after_move move t m wait locks)
many_move Takes t m wait locks = many_mutex m _ locks
many_move Recovers t m wait locks = many_mutex m _ locks
many_move Counts t m wait locks = many_mutex m _ locks
many_move Waits t m wait locks = record { threads = length-changed t _ locks.threads; mutexes = length-changed m _ locks.mutexes }
many_move (Refuses e) t m wait locks = many_same locks

many_leave : (move : LockMove) (t m : ℕ) (locks : Locks) → AreAsMany locks (after_leave move t m locks)
many_leave move t m locks = record { threads = length-changed t (handed move) locks.threads; mutexes = length-changed m _ locks.mutexes }

many_hand_over_to : (next : Option ℕ) (m : ℕ) (locks : Locks) → AreAsMany locks (after_hand_over_to next m locks)
many_hand_over_to None m locks = many_mutex m _ locks
many_hand_over_to (Some t) m locks =
    many_then locks (after_take t m locks) _ (many_mutex m _ locks) (many_leave (free_move (soundness_of (mutex_at locks m))) t m (after_take t m locks))

many_refusal_to : (next : Option ℕ) (m : ℕ) (locks : Locks) → AreAsMany locks (after_refusal_to next m locks)
many_refusal_to None m locks = many_same locks
many_refusal_to (Some t) m locks = many_leave (Refuses ENOTRECOVERABLE) t m locks

many_refusals : (n m : ℕ) (locks : Locks) → AreAsMany locks (iterate (after_refusal m) n locks)
many_refusals zero m locks = many_same locks
many_refusals (suc n) m locks = many_then locks (after_refusal m locks) _ (many_refusal_to (heir m locks) m locks) (many_refusals n m (after_refusal m locks))

many_loss : (m : ℕ) (locks : Locks) → AreAsMany locks (after_loss m locks)
many_loss m locks =
    many_then locks (after_free m locks) _ (many_mutex m _ locks)
    (many_then (after_free m locks) (with_soundness Unrecoverable m (after_free m locks)) _ (many_mutex m _ (after_free m locks))
    (many_refusals (length (waiters_of (mutex_at (with_soundness Unrecoverable m (after_free m locks)) m))) m (with_soundness Unrecoverable m (after_free m locks))))

many_last_unlock : (soundness : Soundness) (m : ℕ) (locks : Locks) → AreAsMany locks (after_last_unlock soundness m locks)
many_last_unlock Consistent m locks = many_hand_over_to (heir m locks) m locks
many_last_unlock Inconsistent m locks = many_loss m locks
many_last_unlock Unrecoverable m locks = many_loss m locks

many_either : (b : Bool) (locks left right : Locks) → AreAsMany locks left → AreAsMany locks right → AreAsMany locks (if b then left else right)
many_either true locks left right first second = first
many_either false locks left right first second = second

many_unlock : (m : ℕ) (locks : Locks) → AreAsMany locks (after_unlock m locks)
many_unlock m locks =
    many_either (nat_lt 1 (count_of (mutex_at locks m))) locks (with_mutex m (λ (x : Mutex). record x { count = x.count - 1 }) locks) _
    (many_mutex m _ locks) (many_last_unlock (soundness_of (mutex_at locks m)) m locks)

-- ---- a thread's end

many_bequest : (m : ℕ) (locks : Locks) → AreAsMany locks (after_bequest m locks)
many_bequest m locks =
    let marked : Locks = with_soundness Inconsistent m locks in
    many_then locks marked _ (many_mutex m _ locks) (many_hand_over_to (heir m marked) m marked)

many_mutex_end : (t : ℕ) (mutex : Option Mutex) (m : ℕ) (locks : Locks) → AreAsMany locks (after_mutex_end t mutex m locks)
many_mutex_end t None m locks = many_same locks
many_mutex_end t (Some x) m locks =
    many_either (is_owner t x.owner) locks _ locks
    (many_either x.is_robust locks (after_bequest m locks) (after_abandonment m locks) (many_bequest m locks) (many_mutex m _ locks)) (many_same locks)

many_ends : (t : ℕ) (ms : List ℕ) (locks : Locks) → AreAsMany locks (fold (λ out m. after_mutex_end t (mutex_at out m) m out) locks ms)
many_ends t [] locks = many_same locks
many_ends t (m ∷ ms) locks =
    many_then locks (after_mutex_end t (mutex_at locks m) m locks) _ (many_mutex_end t (mutex_at locks m) m locks) (many_ends t ms (after_mutex_end t (mutex_at locks m) m locks))

-- ---- the lengths

pub length-move_threads : (move : LockMove) (t m : ℕ) (wait : Wait) (locks : Locks) → length (after_move move t m wait locks).threads ≡ length locks.threads
length-move_threads move t m wait locks = (many_move move t m wait locks).threads

pub length-move_mutexes : (move : LockMove) (t m : ℕ) (wait : Wait) (locks : Locks) → length (after_move move t m wait locks).mutexes ≡ length locks.mutexes
length-move_mutexes move t m wait locks = (many_move move t m wait locks).mutexes

pub length-unlock_threads : (m : ℕ) (locks : Locks) → length (after_unlock m locks).threads ≡ length locks.threads
length-unlock_threads m locks = (many_unlock m locks).threads

pub length-unlock_mutexes : (m : ℕ) (locks : Locks) → length (after_unlock m locks).mutexes ≡ length locks.mutexes
length-unlock_mutexes m locks = (many_unlock m locks).mutexes

pub length-owner_end_threads : (t : ℕ) (locks : Locks) → length (after_owner_end t locks).threads ≡ length locks.threads
length-owner_end_threads t locks = (many_ends t (numbers_of locks.mutexes) locks).threads

pub length-owner_end_mutexes : (t : ℕ) (locks : Locks) → length (after_owner_end t locks).mutexes ≡ length locks.mutexes
length-owner_end_mutexes t locks = (many_ends t (numbers_of locks.mutexes) locks).mutexes
