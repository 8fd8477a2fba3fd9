-- Whom a move of a partition wakes: nobody, one waiter, and those of two moves in a row.
use Rattle.std.proofs.Common.{◌≡◌, ℕ, ◌-◌, ◌^◌, ◌<◌, true, false, List, length, refl, sym, ◌∙◌, ap}
use Rattle.std.specs.Prelude.{Option, Some, None, option_map, option_to_list, bit_or, is_some, if◌then◌else◌}
use Rattle.std.proofs.Math.ListN.{set}
use Rattle.ptk_words.specs.Pools.{pool_get, pool_changed}
use Rattle.ptk_words.specs.declared.threads.Thread.{Thread}
use Rattle.ptk_words.specs.declared.threads.Wait.TheVariants.{RelockWait}
use Rattle.ptk_words.specs.Parts.{part_of}
use Rattle.ptk_words.proofs.Cuts.{set_part-same}
use Rattle.ptk_words_model.specs.declared.LockMove.{LockMove}
use Rattle.ptk_words_model.specs.declared.LockMove.TheVariants.{Takes, Recovers, Counts, Waits, Refuses}
use Rattle.ptk_words_model.specs.State.{Locks}
use Rattle.ptk_words_model.specs.Priority.{awaited, thread_at}
use Rattle.ptk_words_model.specs.Mutex.{mutex_at, heir, wait_of, is_waiting, move_reply, after_refusal, after_relock_move}
use Rattle.ptk_words_model.specs.Schedule.{woken_with}
use Rattle.ptk_words_sync_invariant.proofs.Threads.{idle_awaits}
use Rattle.ptk_threads.proofs.Pools.{part_of-set}
use Rattle.ptk_roster.specs.Rosters.{Rostered}
use Rattle.ptk_mutex.specs.Tables.{locks_by, put_locks, AreReadyBy}
use Rattle.ptk_mutex.specs.Woken.{is_woken, woken_between, woken_at}
use Rattle.ptk_mutex.proofs.Apart.{calm_refuse_to, apart_mutex_end}
use Rattle.ptk_mutex.proofs.Locked.{heir_may_get}
use Rattle.ptk_mutex.proofs.Steps.{end_of}
use Rattle.ptk_mutex.proofs.WokenSets.{IsStill, still_same, still_more, woken_same, woken_one, woken_but, woken_kept, woken_union, woken_waiter, unwoken_waiter}

-- ---- nobody

-- whoever has these threads has woken those of the partition as it was
pub woken_to : (p : ℕ) (a b c : Rostered) → c.table.threads ≡ b.table.threads → woken_at p a b ≡ woken_at p a c
woken_to p a b c e = ap (λ (threads : List (List (Option Thread))). woken_between (part_of a.table.threads p) (part_of threads p)) (sym e)

pub woken_from : (p : ℕ) (a b c : Rostered) → b.table.threads ≡ a.table.threads → woken_at p b c ≡ woken_at p a c
woken_from p a b c e = ap (λ (threads : List (List (Option Thread))). woken_between (part_of threads p) (part_of c.table.threads p)) e

pub nobody-same : (p : ℕ) (a b : Rostered) → b.table.threads ≡ a.table.threads → 0 ≡ woken_at p a b
nobody-same p a b e = sym (woken_same (part_of a.table.threads p)) ∙ woken_to p a a b e

-- the threads of a partition put as they were
pub threads_put : (p : ℕ) (a b : Rostered) → b.table.threads ≡ set a.table.threads p (part_of a.table.threads p) → b.table.threads ≡ a.table.threads
threads_put p a b e = e ∙ set_part-same a.table.threads p

pub nobody-put : (p : ℕ) (a b : Rostered) → b.table.threads ≡ set a.table.threads p (part_of a.table.threads p) → 0 ≡ woken_at p a b
nobody-put p a b e = nobody-same p a b (threads_put p a b e)

-- ---- a thread changed

woken_set : (p : ℕ) (row : List (Option Thread)) (a b : Rostered) → p < length a.table.threads → b.table.threads ≡ set a.table.threads p row → woken_at p a b ≡ woken_between (part_of a.table.threads p) row
woken_set p row a b lt e = ap (woken_between (part_of a.table.threads p)) (ap (λ (threads : List (List (Option Thread))). part_of threads p) e ∙ part_of-set a.table.threads p row lt)

-- whose wait ends
pub woken_ended : (p t : ℕ) (f : Thread → Thread) (a b : Rostered) → p < length a.table.threads → ((thread : Thread) → (f thread).wait ≡ None) → is_some (wait_of (pool_get (part_of a.table.threads p) t)) ≡ true
    → b.table.threads ≡ set a.table.threads p (pool_changed t f (part_of a.table.threads p)) → 2 ^ (t - 1) ≡ woken_at p a b
woken_ended p t f a b lt ends waits e =
    let row : List (Option Thread) = part_of a.table.threads p in
    sym (woken_set p (pool_changed t f row) a b lt e ∙ woken_one t f row (woken_waiter f (pool_get row t) ends waits))

-- or whose wait does not
pub woken_none : (p t : ℕ) (f : Thread → Thread) (a b : Rostered) → p < length a.table.threads → is_woken (pool_get (part_of a.table.threads p) t) (option_map f (pool_get (part_of a.table.threads p) t)) ≡ false
    → b.table.threads ≡ set a.table.threads p (pool_changed t f (part_of a.table.threads p)) → 0 ≡ woken_at p a b
woken_none p t f a b lt kept e =
    let row : List (Option Thread) = part_of a.table.threads p in
    sym (woken_set p (pool_changed t f row) a b lt e ∙ woken_kept t f row kept)

-- or that did not wait before
pub woken_beside : (p t : ℕ) (f : Thread → Thread) (a b c : Rostered) → p < length b.table.threads → wait_of (pool_get (part_of a.table.threads p) t) ≡ None
    → c.table.threads ≡ set b.table.threads p (pool_changed t f (part_of b.table.threads p)) → woken_at p a b ≡ woken_at p a c
woken_beside p t f a b c lt none e =
    sym (ap (woken_between (part_of a.table.threads p)) (ap (λ (threads : List (List (Option Thread))). part_of threads p) e ∙ part_of-set b.table.threads p (pool_changed t f (part_of b.table.threads p)) lt)
    ∙ woken_but t f (part_of a.table.threads p) (part_of b.table.threads p) none)

-- a re-lock: its thread, or nobody if it waits
pub woken_relock : (made : LockMove) (p t m : ℕ) (reply : Option ℕ) (a b : Rostered) → p < length a.table.threads → is_some (wait_of (pool_get (part_of a.table.threads p) t)) ≡ true
    → b ≡ put_locks p (after_relock_move made t m reply (locks_by p a.table a.lines a.mutexes)) a → (if is_waiting made then 0 else 2 ^ (t - 1)) ≡ woken_at p a b
woken_relock Takes p t m reply a b lt waits e = woken_ended p t (woken_with (option_to_list (move_reply Takes reply))) a b lt (λ thread. refl) waits (ap (λ (r : Rostered). r.table.threads) e)
woken_relock Recovers p t m reply a b lt waits e = woken_ended p t (woken_with (option_to_list (move_reply Recovers reply))) a b lt (λ thread. refl) waits (ap (λ (r : Rostered). r.table.threads) e)
woken_relock Counts p t m reply a b lt waits e = woken_ended p t (woken_with (option_to_list (move_reply Counts reply))) a b lt (λ thread. refl) waits (ap (λ (r : Rostered). r.table.threads) e)
woken_relock Waits p t m reply a b lt waits e =
    let queued : Thread → Thread = λ thread. record thread { wait = Some (RelockWait m reply) } in
    woken_none p t queued a b lt (unwoken_waiter queued (RelockWait m reply) (pool_get (part_of a.table.threads p) t) (λ thread. refl)) (ap (λ (r : Rostered). r.table.threads) e)
woken_relock (Refuses errno) p t m reply a b lt waits e = woken_ended p t (woken_with (option_to_list (move_reply (Refuses errno) reply))) a b lt (λ thread. refl) waits (ap (λ (r : Rostered). r.table.threads) e)

-- ---- two moves in a row

-- a thread of the partition that waits for nothing stays
abbrev pub IsStillAt : ℕ → Rostered → Rostered → Type 0
IsStillAt p a b = IsStill (part_of a.table.threads p) (part_of b.table.threads p)

-- after some moves: these are woken, and a thread that waits for nothing stays
pub record AreWoken (p woken : ℕ) (a b : Rostered) : Type 0 where
  pub told : woken ≡ woken_at p a b
  pub still : IsStillAt p a b

pub woken_start : (p : ℕ) (a : Rostered) → AreWoken p 0 a a
woken_start p a = record { told = nobody-same p a a refl; still = still_same (part_of a.table.threads p) }

pub woken_more : (p woken more : ℕ) (a b c : Rostered) → AreWoken p woken a b → more ≡ woken_at p b c → IsStillAt p b c → AreWoken p (bit_or woken more) a c
woken_more p woken more a b c before told still = record {
  told = (λ i. bit_or (before.told i) (told i)) ∙ woken_union (part_of a.table.threads p) (part_of b.table.threads p) (part_of c.table.threads p) before.still still;
  still = still_more (part_of a.table.threads p) (part_of b.table.threads p) (part_of c.table.threads p) before.still still;
}

-- a move that leaves alone who waits for no mutex
still_put : (p : ℕ) (a b : Rostered) (locks : Locks) → p < length a.table.threads → b ≡ put_locks p locks a → ((k : ℕ) → awaited (thread_at (locks_by p a.table a.lines a.mutexes) k) ≡ None → thread_at locks k ≡ thread_at (locks_by p a.table a.lines a.mutexes) k)
    → IsStillAt p a b
still_put p a b locks lt e calm =
    let there : part_of b.table.threads p ≡ locks.threads = ap (λ (r : Rostered). part_of r.table.threads p) e ∙ part_of-set a.table.threads p locks.threads lt in
    record { stays = λ k none. ap (λ (threads : List (Option Thread)). pool_get threads k) there ∙ calm k (idle_awaits (pool_get (part_of a.table.threads p) k) none) }

pub still_refusal : (p m : ℕ) (a b : Rostered) → AreReadyBy p a.table a.lines a.mutexes → b ≡ put_locks p (after_refusal m (locks_by p a.table a.lines a.mutexes)) a → IsStillAt p a b
still_refusal p m a b ready e =
    let locks : Locks = locks_by p a.table a.lines a.mutexes in
    still_put p a b (after_refusal m locks) ready.part.of_threads e (calm_refuse_to m (heir m locks) locks (heir_may_get m locks (heir m locks) ready.locked refl)).threads

pub still_end : (p t m : ℕ) (a b : Rostered) → AreReadyBy p a.table a.lines a.mutexes → b ≡ put_locks p (end_of t (locks_by p a.table a.lines a.mutexes) m) a → IsStillAt p a b
still_end p t m a b ready e =
    let locks : Locks = locks_by p a.table a.lines a.mutexes in
    still_put p a b (end_of t locks m) ready.part.of_threads e (λ k none. (apart_mutex_end t m k (mutex_at locks m) locks ready.locked none).thread)
