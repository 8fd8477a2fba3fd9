-- What keeps a7 of a thread: every change of threads but a new one.
use Rattle.std.proofs.Common.{◌≡◌, ◌≢◌, ◌⊎◌, inl, inr, ℕ, zero, suc, Bool, true, false, List, length, ◌∙◌, refl, sym, subst}
use Rattle.std.specs.Prelude.{Option, Some, None, nat_lt, ◌==◌, if◌then◌else◌, option_map, option_to_list, slice_index, slice_set}
use Rattle.std.specs.Fn.{iterate}
use Rattle.std.proofs.lemmas.Bool.{cases_eq, eqb-false}
use Rattle.std.proofs.lemmas.List.{get_or-set_other}
use Rattle.ptk_words.specs.Pools.{pool_changed, pool_get, pool_set, first_of_greatest, least_free}
use Rattle.ptk_words.specs.Processor.{Processor, register}
use Rattle.ptk_words.specs.declared.TheConstants.{A0, A7}
use Rattle.ptk_words.specs.declared.faults.Errno.TheVariants.{ENOTRECOVERABLE}
use Rattle.ptk_words.specs.declared.mutexes.Soundness.{Soundness}
use Rattle.ptk_words.specs.declared.mutexes.Soundness.TheVariants.{Consistent, Inconsistent, Unrecoverable}
use Rattle.ptk_words.specs.declared.threads.Thread.{Thread}
use Rattle.ptk_words.specs.declared.threads.Wait.{Wait}
use Rattle.ptk_words.specs.declared.threads.Wait.TheVariants.{RelockWait}
use Rattle.ptk_words.proofs.Pools.{changed_other, changed_own, get-set_other, least_free_none, pool_set_all}
use Rattle.ptk_words_model.specs.declared.LockMove.{LockMove}
use Rattle.ptk_words_model.specs.declared.LockMove.TheVariants.{Takes, Recovers, Counts, Waits, Refuses}
use Rattle.ptk_words_model.specs.State.{Locks, Syncs}
use Rattle.ptk_words_model.specs.Priority.{thread_at, effective_priority}
use Rattle.ptk_words_model.specs.Schedule.{with_registers, after_wake}
use Rattle.ptk_words_model.specs.Mutex.{mutex_at, soundness_of, waiters_of, count_of, wait_of, kept_reply, handed, heir, free_move, move_reply, relock_move, with_soundness, with_mutex, after_move, after_take, after_free, after_leave, after_hand_over_to, after_refusal_to, after_refusal, after_loss, after_last_unlock, after_unlock, after_relock_move}
use Rattle.ptk_words_model.specs.Condition.{mutex_of_condition_wait, condition_waiters, after_unblock_for, after_unblock, after_signal_to, after_signal, after_broadcast}
use Rattle.ptk_words_laws.specs.Callers.{HasNumber}

-- ---- registers

-- a word in another register
pub index_other : (words : List ℕ) (i j word n : ℕ) → (j == i) ≡ false → slice_index words j ≡ n → slice_index (slice_set words i word) j ≡ n
index_other words i j word n differ h = get_or-set_other words i j word 0 (eqb-false j i differ) ∙ h

-- a reply of one word at most
pub reply_kept : (reply : Option ℕ) (cpu : Processor) → register (with_registers cpu A0 (option_to_list reply)) A7 ≡ register cpu A7
reply_kept None cpu = refl
reply_kept (Some word) cpu = index_other cpu.registers A0 A7 word (register cpu A7) refl refl

-- ---- threads that change

mapped : (number : ℕ) (f : Thread → Thread) (o : Option Thread) → ((thread : Thread) → register (f thread).cpu A7 ≡ register thread.cpu A7) → HasNumber number o → HasNumber number (option_map f o)
mapped number f None same h = h
mapped number f (Some thread) same h = same thread ∙ h

changed_either : (number k t : ℕ) (f : Thread → Thread) (threads : List (Option Thread)) → ((thread : Thread) → register (f thread).cpu A7 ≡ register thread.cpu A7) → HasNumber number (pool_get threads t)
    → (t ≡ k) ⊎ (t ≢ k) → HasNumber number (pool_get (pool_changed k f threads) t)
changed_either number k t f threads same h (inl own) =
    let was : HasNumber number (pool_get threads k) = subst (λ (j : ℕ). HasNumber number (pool_get threads j)) own h in
    let now : HasNumber number (pool_get (pool_changed k f threads) k) = subst (HasNumber number) (sym (changed_own k f threads)) (mapped number f (pool_get threads k) same was) in
    subst (λ (j : ℕ). HasNumber number (pool_get (pool_changed k f threads) j)) (sym own) now
changed_either number k t f threads same h (inr differ) = subst (HasNumber number) (sym (changed_other k t f threads differ)) h

-- a thread was changed, whichever it is, but not its a7
pub changed_kept : (number k t : ℕ) (f : Thread → Thread) (threads : List (Option Thread)) → ((thread : Thread) → register (f thread).cpu A7 ≡ register thread.cpu A7) → HasNumber number (pool_get threads t)
    → HasNumber number (pool_get (pool_changed k f threads) t)
changed_kept number k t f threads same h = changed_either number k t f threads same h (cases_eq t k)

-- a number is freed
pub freed_kept : (number k t : ℕ) (threads : List (Option Thread)) → HasNumber number (pool_get threads t) → HasNumber number (pool_get (pool_set threads k None) t)
freed_kept number k t threads h = pool_set_all (HasNumber number) threads k t None tt h

-- a thread is made at a free number, which is not that of the one that makes it
pub made_kept : (number k t : ℕ) (thread creator : Thread) (threads : List (Option Thread)) → least_free threads ≡ Some k → pool_get threads t ≡ Some creator → HasNumber number (pool_get threads t)
    → HasNumber number (pool_get (pool_set threads k (Some thread)) t)
made_kept number k t thread creator threads least used h =
    let free : pool_get threads k ≡ None = least_free_none threads k least in
    let differ : t ≢ k = λ e. let none : pool_get threads t ≡ None = subst (λ (j : ℕ). pool_get threads j ≡ None) (sym e) free in let no : ⊥ = cc in no in
    subst (HasNumber number) (sym (get-set_other k t (Some thread) threads differ)) h

-- ---- lock and unlock

abbrev Keeps : ℕ → ℕ → Locks → Locks → Type 0
Keeps number t x y = HasNumber number (pool_get x.threads t) → HasNumber number (pool_get y.threads t)

pub move_kept : (move : LockMove) (number u t m : ℕ) (wait : Wait) (x : Locks) → Keeps number t x (after_move move u m wait x)
move_kept Takes number u t m wait x h = h
move_kept Recovers number u t m wait x h = h
move_kept Counts number u t m wait x h = h
move_kept Waits number u t m wait x h = changed_kept number u t (λ thread. record thread { wait = Some wait }) x.threads (λ thread. refl) h
move_kept (Refuses e) number u t m wait x h = h

leave_kept : (move : LockMove) (number u t m : ℕ) (x : Locks) → Keeps number t x (after_leave move u m x)
leave_kept move number u t m x h = changed_kept number u t (handed move) x.threads (λ thread. reply_kept (move_reply move (kept_reply thread.wait)) thread.cpu) h

hand_over_kept : (next : Option ℕ) (number t m : ℕ) (x : Locks) → Keeps number t x (after_hand_over_to next m x)
hand_over_kept None number t m x h = h
hand_over_kept (Some u) number t m x h = leave_kept (free_move (soundness_of (mutex_at x m))) number u t m (after_take u m x) h

refusal_kept : (next : Option ℕ) (number t m : ℕ) (x : Locks) → Keeps number t x (after_refusal_to next m x)
refusal_kept None number t m x h = h
refusal_kept (Some u) number t m x h = leave_kept (Refuses ENOTRECOVERABLE) number u t m x h

refusals_kept : (n number t m : ℕ) (x : Locks) → Keeps number t x (iterate (after_refusal m) n x)
refusals_kept zero number t m x h = h
refusals_kept (suc n) number t m x h = refusals_kept n number t m (after_refusal m x) (refusal_kept (heir m x) number t m x h)

loss_kept : (number t m : ℕ) (x : Locks) → Keeps number t x (after_loss m x)
loss_kept number t m x h =
    let lost : Locks = with_soundness Unrecoverable m (after_free m x) in refusals_kept (length (waiters_of (mutex_at lost m))) number t m lost h

last_unlock_kept : (soundness : Soundness) (number t m : ℕ) (x : Locks) → Keeps number t x (after_last_unlock soundness m x)
last_unlock_kept Consistent number t m x h = hand_over_kept (heir m x) number t m x h
last_unlock_kept Inconsistent number t m x h = loss_kept number t m x h
last_unlock_kept Unrecoverable number t m x h = loss_kept number t m x h

locks_either : (b : Bool) (number t : ℕ) (x y : Locks) → HasNumber number (pool_get x.threads t) → HasNumber number (pool_get y.threads t) → HasNumber number (pool_get (if b then x else y).threads t)
locks_either true number t x y h k = h
locks_either false number t x y h k = k

pub unlock_kept : (number t m : ℕ) (x : Locks) → Keeps number t x (after_unlock m x)
unlock_kept number t m x h =
    locks_either (nat_lt 1 (count_of (mutex_at x m))) number t (with_mutex m _ x) (after_last_unlock (soundness_of (mutex_at x m)) m x) h (last_unlock_kept (soundness_of (mutex_at x m)) number t m x h)

-- ---- condition variables

woken_kept : (move : LockMove) (number u t m : ℕ) (reply : Option ℕ) (x : Locks) → Keeps number t x (after_wake u (option_to_list (move_reply move reply)) (after_move move u m (RelockWait m reply) x))
woken_kept move number u t m reply x h =
    changed_kept number u t _ (after_move move u m (RelockWait m reply) x).threads (λ thread. reply_kept (move_reply move reply) thread.cpu) (move_kept move number u t m (RelockWait m reply) x h)

relock_move_kept : (move : LockMove) (number u t m : ℕ) (reply : Option ℕ) (x : Locks) → Keeps number t x (after_relock_move move u m reply x)
relock_move_kept Takes number u t m reply x h = woken_kept Takes number u t m reply x h
relock_move_kept Recovers number u t m reply x h = woken_kept Recovers number u t m reply x h
relock_move_kept Counts number u t m reply x h = woken_kept Counts number u t m reply x h
relock_move_kept Waits number u t m reply x h = move_kept Waits number u t m (RelockWait m reply) x h
relock_move_kept (Refuses e) number u t m reply x h = woken_kept (Refuses e) number u t m reply x h

unblock_for_kept : (number u t c : ℕ) (reply o : Option ℕ) (x : Syncs) → Keeps number t x.locks (after_unblock_for u c reply o x).locks
unblock_for_kept number u t c reply None x h = h
unblock_for_kept number u t c reply (Some m) x h = relock_move_kept (relock_move u (mutex_at x.locks m)) number u t m reply x.locks h

pub unblock_kept : (number u t c : ℕ) (reply : Option ℕ) (x : Syncs) → HasNumber number (pool_get x.threads t) → HasNumber number (pool_get (after_unblock u c reply x).threads t)
unblock_kept number u t c reply x h = unblock_for_kept number u t c reply (mutex_of_condition_wait (wait_of (thread_at x.locks u))) x h

signal_to_kept : (next : Option ℕ) (number t c : ℕ) (x : Syncs) → Keeps number t x.locks (after_signal_to next c x).locks
signal_to_kept None number t c x h = h
signal_to_kept (Some u) number t c x h = unblock_kept number u t c (Some 0) x h

pub signal_kept : (number t c : ℕ) (x : Syncs) → HasNumber number (pool_get x.threads t) → HasNumber number (pool_get (after_signal c x).threads t)
signal_kept number t c x h = signal_to_kept (first_of_greatest (effective_priority x.locks) (condition_waiters x c)) number t c x h

signals_kept : (n number t c : ℕ) (x : Syncs) → Keeps number t x.locks (iterate (after_signal c) n x).locks
signals_kept zero number t c x h = h
signals_kept (suc n) number t c x h = signals_kept n number t c (after_signal c x) (signal_kept number t c x h)

pub broadcast_kept : (number t c : ℕ) (x : Syncs) → HasNumber number (pool_get x.threads t) → HasNumber number (pool_get (after_broadcast c x).threads t)
broadcast_kept number t c x h = signals_kept (length (condition_waiters x c)) number t c x h

pub ruleset kept = (made_kept, freed_kept, changed_kept, move_kept, unlock_kept, unblock_kept, signal_kept, broadcast_kept, reply_kept, index_other)
