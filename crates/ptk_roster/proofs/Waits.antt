-- A roster where a thread begins to wait, or waits no more, and where a number is opened or closed.
use Rattle.std.proofs.Common.{◌≡◌, ℕ, ◌+◌, ◌<◌, ◌≤◌, List, [], ◌∷◌, ◌++◌, length, Bool, true, false, not, refl, sym, ◌∙◌, ap, subst, arith}
use Rattle.std.specs.Prelude.{Option, Some, None, IsSome, option_map, is_none}
use Rattle.std.proofs.Math.ListN.{set}
use Rattle.std.proofs.lemmas.List.{set-get_or}
use Rattle.std.proofs.lemmas.Bool.{not-true}
use Rattle.ptk_words.specs.Pools.{pool_get, pool_set, pool_changed, is_in, without}
use Rattle.ptk_words.specs.Parts.{part_of}
use Rattle.ptk_words_model.specs.State.{Mutex, Condition}
use Rattle.ptk_words_model.specs.Mutex.{waiters_of}
use Rattle.ptk_words_model.specs.Condition.{waiters_on}
use Rattle.ptk_words_sync_invariant.specs.Conditions.{IsNoWaiter}
use Rattle.ptk_threads.specs.Table.{ThreadTable}
use Rattle.ptk_threads.specs.Queues.{IsUnqueued, AreListed}
use Rattle.ptk_threads.proofs.Pools.{pool_changed-free}
use Rattle.ptk_ready.specs.declared.entries.LinkedEntries.{LinkedEntries}
use Rattle.ptk_ready.specs.Partitions.{lines_by}
use Rattle.ptk_ready.specs.Laws.{lines_same}
use Rattle.ptk_roster.specs.Slots.{with_waiters}
use Rattle.ptk_roster.specs.Waiters.{condition_of, condition_if, mutexes_by, conditions_by, waited_by, left_by}
use Rattle.ptk_roster.specs.Rosters.{Rostered, ArePools, IsRoster, is_marked, seen}
use Rattle.ptk_roster.proofs.Seen.{at_mutex, at_condition, queue_set, ready_same, mutexes_stay, conditions_stay, mutexes_moved, conditions_moved}
use Rattle.ptk_roster.proofs.Pools.{seen_of, line_parts, waiting_pools, sleeping_pools, waiting_lined, waiters_at, sleepers_at, no_waiter}

-- ---- a partition's queues

-- the partition has 128 queues
pub record HasQueues (a : ThreadTable) (p : ℕ) : Type 0 where
  pub part : p < length a.queues
  pub places : length (part_of a.queues p) ≡ 128

pub has_queues : (limit : ℕ) (line : List (LinkedEntries limit)) (a : ThreadTable) (mutexes : List (List (Option Mutex))) (marks : List (List Bool)) (now : Rostered) (p : ℕ) → seen_of line a mutexes marks ≡ now → IsRoster limit line a mutexes marks → p < length now.table.threads
    → AreListed (length a.threads) a.queues → HasQueues a p
has_queues limit line a mutexes marks now p is roster lt listed =
    let below = (line_parts limit line a mutexes marks now p is roster lt).1 in
    record { part = omega (arith, below, listed.same); places = listed.places p below }

-- ---- the queue of a mutex changed

pub mutex_whole : (limit : ℕ) (line : List (LinkedEntries limit)) (a b : ThreadTable) (mutexes : List (List (Option Mutex))) (marks : List (List Bool)) (p m : ℕ) (xs : List ℕ) → 0 < m → m ≤ 64 → (pool_get (part_of mutexes p) m ≡ None → xs ≡ [])
    → b ≡ record a { queues = queue_set a.queues p (m + 31) xs } → IsRoster limit line a mutexes marks → IsRoster limit line b mutexes marks
mutex_whole limit line a b mutexes marks p m xs pos le empty e roster = record {
  lined = waiting_lined limit line a b p (m + 31) xs (omega (arith, pos)) (ap (λ (t : ThreadTable). t.queues) e) (ap (λ (t : ThreadTable). t.threads) e) (ap (λ (t : ThreadTable). t.stored) e) roster.lined;
  pools = waiting_pools a b mutexes marks p m xs le empty (ap (λ (t : ThreadTable). t.queues) e) (ap (λ (t : ThreadTable). t.threads) e) roster.pools;
}

pub mutex_seen : (limit : ℕ) (line : List (LinkedEntries limit)) (a b : ThreadTable) (mutexes : List (List (Option Mutex))) (marks : List (List Bool)) (p m : ℕ) (xs : List ℕ) (y : Option Mutex) → HasQueues a p → 0 < m → m ≤ 64 → with_waiters xs (pool_get (part_of mutexes p) m) ≡ y
    → b ≡ record a { queues = queue_set a.queues p (m + 31) xs } → seen_of line b mutexes marks ≡ record (seen_of line a mutexes marks) { mutexes = set (mutexes_by a.queues mutexes) p (pool_set (part_of (mutexes_by a.queues mutexes) p) m y) }
mutex_seen limit line a b mutexes marks p m xs y has pos le is e =
    let late = queue_set a.queues p (m + 31) xs in
    ap (λ (t : ThreadTable). seen_of line t mutexes marks) e
    ∙ (ap (λ (lines : List (List ℕ)). record { table = seen a; lines = lines; mutexes = mutexes_by late mutexes; conditions = conditions_by late marks }) (lines_same line late a.queues (ready_same a.queues p (m + 31) xs (omega (arith, pos))))
    ∙ (ap (λ (z : List (List (Option Mutex))). record { table = seen a; lines = lines_by line a.queues; mutexes = z; conditions = conditions_by late marks }) (mutexes_moved a.queues mutexes p m xs y pos has.part (omega (arith, le, has.places)) is)
    ∙ ap (λ (z : List (List (Option Condition))). record { table = seen a; lines = lines_by line a.queues; mutexes = set (mutexes_by a.queues mutexes) p (pool_set (part_of (mutexes_by a.queues mutexes) p) m y); conditions = z }) (conditions_stay a.queues marks p (m + 31) xs (omega (arith, le)))))

last_waiter : (k : ℕ) (w : List ℕ) (x : Option Mutex) → with_waiters (w ++ k ∷ []) x ≡ option_map (waited_by k) (with_waiters w x)
last_waiter k w None = refl
last_waiter k w (Some m) = refl

gone_waiter : (k : ℕ) (w : List ℕ) (x : Option Mutex) → with_waiters (without k w) x ≡ option_map (left_by k) (with_waiters w x)
gone_waiter k w None = refl
gone_waiter k w (Some m) = refl

pub awaited_seen : (limit : ℕ) (line : List (LinkedEntries limit)) (a b : ThreadTable) (mutexes : List (List (Option Mutex))) (marks : List (List Bool)) (now : Rostered) (p m k : ℕ) → HasQueues a p → 0 < m → m ≤ 64 → seen_of line a mutexes marks ≡ now
    → b ≡ record a { queues = queue_set a.queues p (m + 31) (part_of (part_of a.queues p) (m + 31) ++ k ∷ []) } → seen_of line b mutexes marks ≡ record now { mutexes = set now.mutexes p (pool_changed m (waited_by k) (part_of now.mutexes p)) }
awaited_seen limit line a b mutexes marks now p m k has pos le is e =
    mutex_seen limit line a b mutexes marks p m (part_of (part_of a.queues p) (m + 31) ++ k ∷ []) (option_map (waited_by k) (pool_get (part_of (mutexes_by a.queues mutexes) p) m)) has pos le
    (last_waiter k (part_of (part_of a.queues p) (m + 31)) (pool_get (part_of mutexes p) m) ∙ ap (option_map (waited_by k)) (sym (at_mutex a.queues mutexes p m))) e
    ∙ ap (λ (n : Rostered). record n { mutexes = set n.mutexes p (pool_changed m (waited_by k) (part_of n.mutexes p)) }) is

pub left_seen : (limit : ℕ) (line : List (LinkedEntries limit)) (a b : ThreadTable) (mutexes : List (List (Option Mutex))) (marks : List (List Bool)) (now : Rostered) (p m k : ℕ) → HasQueues a p → 0 < m → m ≤ 64 → seen_of line a mutexes marks ≡ now
    → b ≡ record a { queues = queue_set a.queues p (m + 31) (without k (part_of (part_of a.queues p) (m + 31))) } → seen_of line b mutexes marks ≡ record now { mutexes = set now.mutexes p (pool_changed m (left_by k) (part_of now.mutexes p)) }
left_seen limit line a b mutexes marks now p m k has pos le is e =
    mutex_seen limit line a b mutexes marks p m (without k (part_of (part_of a.queues p) (m + 31))) (option_map (left_by k) (pool_get (part_of (mutexes_by a.queues mutexes) p) m)) has pos le
    (gone_waiter k (part_of (part_of a.queues p) (m + 31)) (pool_get (part_of mutexes p) m) ∙ ap (option_map (left_by k)) (sym (at_mutex a.queues mutexes p m))) e
    ∙ ap (λ (n : Rostered). record n { mutexes = set n.mutexes p (pool_changed m (left_by k) (part_of n.mutexes p)) }) is

none_is : (x : Option Mutex) → is_none x ≡ true → x ≡ None
none_is None e = refl
none_is (Some m) e = absurd (cc)

-- nothing changes at a free number
pub unawaited : (queues : List (List (List ℕ))) (mutexes : List (List (Option Mutex))) (p m : ℕ) (f : Mutex → Mutex) (now : Rostered) → mutexes_by queues mutexes ≡ now.mutexes → is_none (pool_get (part_of mutexes p) m) ≡ true
    → now ≡ record now { mutexes = set now.mutexes p (pool_changed m f (part_of now.mutexes p)) }
unawaited queues mutexes p m f now is none =
    let free : pool_get (part_of now.mutexes p) m ≡ None = subst (λ z. pool_get (part_of z p) m ≡ None) is (at_mutex queues mutexes p m ∙ ap (with_waiters (part_of (part_of queues p) (m + 31))) (none_is (pool_get (part_of mutexes p) m) none)) in
    ap (λ (z : List (List (Option Mutex))). record now { mutexes = z }) (sym (ap (set now.mutexes p) (pool_changed-free m f (part_of now.mutexes p) free) ∙ set-get_or now.mutexes p []))

-- ---- the queue of a condition variable changed

pub condition_whole : (limit : ℕ) (line : List (LinkedEntries limit)) (a b : ThreadTable) (mutexes : List (List (Option Mutex))) (marks : List (List Bool)) (p c : ℕ) (xs : List ℕ) → 0 < c → (is_marked (part_of marks p) c ≡ false → xs ≡ [])
    → b ≡ record a { queues = queue_set a.queues p (c + 95) xs } → IsRoster limit line a mutexes marks → IsRoster limit line b mutexes marks
condition_whole limit line a b mutexes marks p c xs pos empty e roster = record {
  lined = waiting_lined limit line a b p (c + 95) xs (omega (arith, pos)) (ap (λ (t : ThreadTable). t.queues) e) (ap (λ (t : ThreadTable). t.threads) e) (ap (λ (t : ThreadTable). t.stored) e) roster.lined;
  pools = sleeping_pools a b mutexes marks p c xs pos empty (ap (λ (t : ThreadTable). t.queues) e) (ap (λ (t : ThreadTable). t.threads) e) roster.pools;
}

condition_seen : (limit : ℕ) (line : List (LinkedEntries limit)) (a b : ThreadTable) (mutexes : List (List (Option Mutex))) (marks : List (List Bool)) (p c : ℕ) (xs : List ℕ) (y : Option Condition) → HasQueues a p → ArePools a mutexes marks → 0 < c → c ≤ 32 → condition_if (is_marked (part_of marks p) c) xs ≡ y
    → b ≡ record a { queues = queue_set a.queues p (c + 95) xs } → seen_of line b mutexes marks ≡ record (seen_of line a mutexes marks) { conditions = set (conditions_by a.queues marks) p (pool_set (part_of (conditions_by a.queues marks) p) c y) }
condition_seen limit line a b mutexes marks p c xs y has pools pos le is e =
    let late = queue_set a.queues p (c + 95) xs in
    ap (λ (t : ThreadTable). seen_of line t mutexes marks) e
    ∙ (ap (λ (lines : List (List ℕ)). record { table = seen a; lines = lines; mutexes = mutexes_by late mutexes; conditions = conditions_by late marks }) (lines_same line late a.queues (ready_same a.queues p (c + 95) xs (omega (arith, pos))))
    ∙ (ap (λ (z : List (List (Option Mutex))). record { table = seen a; lines = lines_by line a.queues; mutexes = z; conditions = conditions_by late marks }) (mutexes_stay a.queues mutexes p (c + 95) xs pools.few_mutexes (omega (arith, pos)))
    ∙ ap (λ (z : List (List (Option Condition))). record { table = seen a; lines = lines_by line a.queues; mutexes = mutexes_by a.queues mutexes; conditions = z }) (conditions_moved a.queues marks p c xs y pos has.part (omega (arith, le, has.places)) is)))

marked_used : (w : List ℕ) (b : Bool) → IsSome (condition_if b w) → b ≡ true
marked_used w true used = refl
marked_used w false used = absurd (cc)

-- a number that is in use, as it is seen, is marked
pub used_mark : (queues : List (List (List ℕ))) (marks : List (List Bool)) (conditions : List (List (Option Condition))) (p c : ℕ) → conditions_by queues marks ≡ conditions → IsSome (pool_get (part_of conditions p) c) → is_marked (part_of marks p) c ≡ true
used_mark queues marks conditions p c is used =
    marked_used (part_of (part_of queues p) (c + 95)) (is_marked (part_of marks p) c) (subst IsSome (at_condition queues marks p c) (subst (λ z. IsSome (pool_get (part_of z p) c)) (sym is) used))

pub slept_seen : (limit : ℕ) (line : List (LinkedEntries limit)) (a b : ThreadTable) (mutexes : List (List (Option Mutex))) (marks : List (List Bool)) (now : Rostered) (p c : ℕ) (f : List ℕ → List ℕ) → HasQueues a p → IsRoster limit line a mutexes marks → 0 < c → c ≤ 32 → seen_of line a mutexes marks ≡ now
    → is_marked (part_of marks p) c ≡ true → b ≡ record a { queues = queue_set a.queues p (c + 95) (f (part_of (part_of a.queues p) (c + 95))) }
    → seen_of line b mutexes marks ≡ record now { conditions = set now.conditions p (pool_set (part_of now.conditions p) c (Some (condition_of (f (waiters_on (pool_get (part_of now.conditions p) c)))))) }
slept_seen limit line a b mutexes marks now p c f has roster pos le is used e =
    condition_seen limit line a b mutexes marks p c (f (part_of (part_of a.queues p) (c + 95))) (Some (condition_of (f (waiters_on (pool_get (part_of (conditions_by a.queues marks) p) c))))) has roster.pools pos le
    (ap (λ b. condition_if b (f (part_of (part_of a.queues p) (c + 95)))) used ∙ ap (λ w. Some (condition_of (f w))) (sleepers_at a mutexes marks p c roster.pools pos)) e
    ∙ ap (λ (n : Rostered). record n { conditions = set n.conditions p (pool_set (part_of n.conditions p) c (Some (condition_of (f (waiters_on (pool_get (part_of n.conditions p) c)))))) }) is

-- ---- a thread that left lies in no queue

pub left_apart : {limit : ℕ} (line : List (LinkedEntries limit)) (a b : ThreadTable) (mutexes : List (List (Option Mutex))) (marks : List (List Bool)) (p k : ℕ) → IsUnqueued k (part_of b.queues p) → IsNoWaiter k (part_of (mutexes_by b.queues mutexes) p) (part_of (conditions_by b.queues marks) p)
left_apart line a b mutexes marks p k out = no_waiter b.queues mutexes marks p k out

-- who is among the waiters is in the queue
pub waiter_in : (a : ThreadTable) (mutexes : List (List (Option Mutex))) (marks : List (List Bool)) (seen_mutexes : List (List (Option Mutex))) (p m k : ℕ) → ArePools a mutexes marks → 0 < m → m ≤ 64 → mutexes_by a.queues mutexes ≡ seen_mutexes → is_in k (waiters_of (pool_get (part_of seen_mutexes p) m)) ≡ true → is_in k (part_of (part_of a.queues p) (m + 31)) ≡ true
waiter_in a mutexes marks seen_mutexes p m k pools pos le is inside = ap (is_in k) (waiters_at a mutexes marks p m pools pos le) ∙ (ap (λ z. is_in k (waiters_of (pool_get (part_of z p) m))) is ∙ inside)

pub sleeper_in : (a : ThreadTable) (mutexes : List (List (Option Mutex))) (marks : List (List Bool)) (seen_conditions : List (List (Option Condition))) (p c k : ℕ) → ArePools a mutexes marks → 0 < c → conditions_by a.queues marks ≡ seen_conditions → is_in k (waiters_on (pool_get (part_of seen_conditions p) c)) ≡ true → is_in k (part_of (part_of a.queues p) (c + 95)) ≡ true
sleeper_in a mutexes marks seen_conditions p c k pools pos is inside = ap (is_in k) (sleepers_at a mutexes marks p c pools pos) ∙ (ap (λ z. is_in k (waiters_on (pool_get (part_of z p) c))) is ∙ inside)

-- ---- what the test of a number tells

is_none_so : (b : Bool) → not b ≡ false → b ≡ true
is_none_so true e = refl
is_none_so false e = absurd (cc e)

pub used_mutex : (pool slots : List (Option Mutex)) (m : ℕ) (b : Bool) → slots ≡ pool → b ≡ not (is_none (pool_get slots m)) → b ≡ true → pool_get pool m ≡ None → ⊥
used_mutex pool slots m b same is used none =
    let free : is_none (pool_get slots m) ≡ true = ap (λ z. is_none (pool_get z m)) same ∙ ap is_none none in
    let there = not-true (is_none (pool_get slots m)) (sym is ∙ used) in absurd (cc)

pub unused_mutex : (pool slots : List (Option Mutex)) (m : ℕ) (b : Bool) → slots ≡ pool → b ≡ not (is_none (pool_get slots m)) → b ≡ false → is_none (pool_get pool m) ≡ true
unused_mutex pool slots m b same is free = sym (ap (λ z. is_none (pool_get z m)) same) ∙ is_none_so (is_none (pool_get slots m)) (sym is ∙ free)
