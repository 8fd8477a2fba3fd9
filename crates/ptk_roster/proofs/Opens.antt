-- A roster where a mutex's slot or a condition variable's mark changes, and a new one.
use Rattle.std.proofs.Common.{◌≡◌, ℕ, zero, suc, ◌+◌, ◌<◌, ◌≤◌, List, [], ◌∷◌, length, map, Bool, false, All, refl, sym, ◌∙◌, ap, subst, arith}
use Rattle.std.specs.Prelude.{Option, Some, None, option_map, replicate}
use Rattle.std.proofs.Math.ListN.{set}
use Rattle.std.proofs.lemmas.List.{length-map, length-replicate}
use Rattle.std.proofs.lemmas.List.Elements.{All-head, All-tail}
use Rattle.ptk_words.specs.Pools.{pool_get, pool_set, pool_changed}
use Rattle.ptk_words.proofs.Pools.{length-pool_set}
use Rattle.ptk_words.specs.Parts.{part_of, filled}
use Rattle.ptk_words.specs.Cuts.{lent}
use Rattle.ptk_words.proofs.Cuts.{lent-same}
use Rattle.ptk_words_model.specs.State.{Mutex, Condition}
use Rattle.ptk_words_model.specs.Mutex.{waiters_of}
use Rattle.ptk_words_model.specs.Condition.{waiters_on}
use Rattle.ptk_threads.specs.Table.{ThreadTable, free_table}
use Rattle.ptk_ready.specs.declared.entries.LinkedEntries.{LinkedEntries}
use Rattle.ptk_ready.specs.Partitions.{lines_by}
use Rattle.ptk_ready.proofs.Unused.{lists_empty}
use Rattle.ptk_roster.specs.Slots.{with_waiters, bare}
use Rattle.ptk_roster.specs.Changes.{mutex_changed, SlotMayChange}
use Rattle.ptk_roster.specs.declared.slot.Change.{Change}
use Rattle.ptk_roster.proofs.Bare.{changed-waiters, may_change-waiters}
use Rattle.ptk_roster.specs.Waiters.{numbered_from, condition_if, mutexes_in, conditions_in, mutexes_by, conditions_by}
use Rattle.ptk_roster.specs.Rosters.{Rostered, ArePools, IsLined, IsRoster, seen}
use Rattle.ptk_roster.proofs.Seen.{at_mutex, mutexes_set, conditions_set, free_mutex_at, free_condition_at}
use Rattle.ptk_roster.proofs.Pools.{seen_of, line_parts, mutex_pools, condition_pools, waiters_at, sleepers_at}

-- ---- a slot lent for writing

pub lent_entry : {X : Type 0} (parts : List (List X)) (p k : ℕ) (x : X) (slots row : List X) → p < length parts → slots ≡ part_of parts p → row ≡ pool_set slots k x → lent parts p row ≡ set parts p (pool_set (part_of parts p) k x)
lent_entry parts p k x slots row lt same made =
    lent-same parts p row lt (ap length made ∙ (length-pool_set slots k x ∙ ap length same)) ∙ ap (set parts p) (made ∙ ap (λ z. pool_set z k x) same)

-- the partition has mutexes and condition variables
pub pool_parts : (limit : ℕ) (line : List (LinkedEntries limit)) (a : ThreadTable) (mutexes : List (List (Option Mutex))) (marks : List (List Bool)) (now : Rostered) (p : ℕ) → seen_of line a mutexes marks ≡ now → IsRoster limit line a mutexes marks → p < length now.table.threads
    → (p < length mutexes) × (p < length marks)
pool_parts limit line a mutexes marks now p is roster lt =
    let below = (line_parts limit line a mutexes marks now p is roster lt).1 in
    (omega (arith, below, roster.pools.parts_of_mutexes), omega (arith, below, roster.pools.parts_of_conditions))

-- ---- a mutex's slot

pub slot_whole : (limit : ℕ) (line : List (LinkedEntries limit)) (a : ThreadTable) (mutexes : List (List (Option Mutex))) (marks : List (List Bool)) (p m : ℕ) (x : Option Mutex) (slots row : List (Option Mutex)) → p < length mutexes → slots ≡ part_of mutexes p → row ≡ pool_set slots m x
    → bare x ≡ x → (x ≡ None → 0 < m → m ≤ 64 → part_of (part_of a.queues p) (m + 31) ≡ []) → IsRoster limit line a mutexes marks → IsRoster limit line a (lent mutexes p row) marks
slot_whole limit line a mutexes marks p m x slots row lt same made own empty roster =
    rw (lent_entry mutexes p m x slots row lt same made) (record { lined = roster.lined; pools = mutex_pools a mutexes marks p m x own empty roster.pools })

pub slot_seen : {limit : ℕ} (line : List (LinkedEntries limit)) (a : ThreadTable) (mutexes : List (List (Option Mutex))) (marks : List (List Bool)) (now : Rostered) (p m : ℕ) (x y : Option Mutex) (slots row : List (Option Mutex)) → p < length mutexes → slots ≡ part_of mutexes p → row ≡ pool_set slots m x
    → with_waiters (part_of (part_of a.queues p) (m + 31)) x ≡ y → seen_of line a mutexes marks ≡ now → seen_of line a (lent mutexes p row) marks ≡ record now { mutexes = set now.mutexes p (pool_set (part_of now.mutexes p) m y) }
slot_seen line a mutexes marks now p m x y slots row lt same made told is =
    ap (λ (z : List (List (Option Mutex))). seen_of line a z marks) (lent_entry mutexes p m x slots row lt same made)
    ∙ (ap (λ (z : List (List (Option Mutex))). record { table = seen a; lines = lines_by line a.queues; mutexes = z; conditions = conditions_by a.queues marks }) (mutexes_set a.queues mutexes p m x y told)
    ∙ ap (λ (n : Rostered). record n { mutexes = set n.mutexes p (pool_set (part_of n.mutexes p) m y) }) is)

-- the queue of a free number is empty, and so is that of one without waiters
pub free_queue : (a : ThreadTable) (mutexes : List (List (Option Mutex))) (marks : List (List Bool)) (seen_mutexes : List (List (Option Mutex))) (p m : ℕ) → ArePools a mutexes marks → 0 < m → m ≤ 64 → mutexes_by a.queues mutexes ≡ seen_mutexes → pool_get (part_of seen_mutexes p) m ≡ None
    → part_of (part_of a.queues p) (m + 31) ≡ []
free_queue a mutexes marks seen_mutexes p m pools pos le is free = pools.free_mutexes p m pos le (free_mutex_at a.queues mutexes p m (subst (λ z. pool_get (part_of z p) m ≡ None) (sym is) free))

pub empty_queue : (a : ThreadTable) (mutexes : List (List (Option Mutex))) (marks : List (List Bool)) (seen_mutexes : List (List (Option Mutex))) (p m : ℕ) → ArePools a mutexes marks → 0 < m → m ≤ 64 → mutexes_by a.queues mutexes ≡ seen_mutexes → waiters_of (pool_get (part_of seen_mutexes p) m) ≡ []
    → part_of (part_of a.queues p) (m + 31) ≡ []
empty_queue a mutexes marks seen_mutexes p m pools pos le is unused = waiters_at a mutexes marks p m pools pos le ∙ (ap (λ z. waiters_of (pool_get (part_of z p) m)) is ∙ unused)

-- ---- a mutex changed

pub may_change_at : (change : Change) (queues : List (List (List ℕ))) (mutexes seen_mutexes : List (List (Option Mutex))) (slots : List (Option Mutex)) (p m : ℕ) → slots ≡ part_of mutexes p → mutexes_by queues mutexes ≡ seen_mutexes → SlotMayChange change (pool_get (part_of seen_mutexes p) m)
    → SlotMayChange change (pool_get slots m)
may_change_at change queues mutexes seen_mutexes slots p m same is may =
    subst (λ z. SlotMayChange change (pool_get z m)) (sym same) (may_change-waiters change (part_of (part_of queues p) (m + 31)) (pool_get (part_of mutexes p) m)
    (subst (SlotMayChange change) (at_mutex queues mutexes p m) (subst (λ z. SlotMayChange change (pool_get (part_of z p) m)) (sym is) may)))

map_none : {A : Type 0} (f : A → A) (x : Option A) → option_map f x ≡ None → x ≡ None
map_none f None e = refl
map_none f (Some a) e = absurd (cc)

pub changed_whole_slot : (limit : ℕ) (line : List (LinkedEntries limit)) (a : ThreadTable) (mutexes : List (List (Option Mutex))) (marks : List (List Bool)) (p m : ℕ) (change : Change) (slots row : List (Option Mutex)) → p < length mutexes → slots ≡ part_of mutexes p → row ≡ pool_changed m (mutex_changed change) slots
    → IsRoster limit line a mutexes marks → IsRoster limit line a (lent mutexes p row) marks
changed_whole_slot limit line a mutexes marks p m change slots row lt same made roster =
    let old : bare (pool_get slots m) ≡ pool_get slots m = subst (λ z. bare (pool_get z m) ≡ pool_get z m) (sym same) (roster.pools.bare_mutexes p m) in
    slot_whole limit line a mutexes marks p m (option_map (mutex_changed change) (pool_get slots m)) slots row lt same made
    (sym (changed-waiters change [] (pool_get slots m)) ∙ ap (option_map (mutex_changed change)) old)
    (λ none pos le. roster.pools.free_mutexes p m pos le (subst (λ z. pool_get z m ≡ None) same (map_none (mutex_changed change) (pool_get slots m) none))) roster

pub changed_seen : {limit : ℕ} (line : List (LinkedEntries limit)) (a : ThreadTable) (mutexes : List (List (Option Mutex))) (marks : List (List Bool)) (now : Rostered) (p m : ℕ) (change : Change) (slots row : List (Option Mutex)) → p < length mutexes → slots ≡ part_of mutexes p → row ≡ pool_changed m (mutex_changed change) slots
    → seen_of line a mutexes marks ≡ now → seen_of line a (lent mutexes p row) marks ≡ record now { mutexes = set now.mutexes p (pool_changed m (mutex_changed change) (part_of now.mutexes p)) }
changed_seen line a mutexes marks now p m change slots row lt same made is =
    slot_seen line a mutexes marks now p m (option_map (mutex_changed change) (pool_get slots m)) (option_map (mutex_changed change) (pool_get (part_of now.mutexes p) m)) slots row lt same made
    (sym (changed-waiters change (part_of (part_of a.queues p) (m + 31)) (pool_get slots m))
    ∙ ap (option_map (mutex_changed change)) (ap (λ z. with_waiters (part_of (part_of a.queues p) (m + 31)) (pool_get z m)) same ∙ (sym (at_mutex a.queues mutexes p m) ∙ ap (λ (n : Rostered). pool_get (part_of n.mutexes p) m) is))) is

-- ---- a condition variable's mark

pub mark_whole : (limit : ℕ) (line : List (LinkedEntries limit)) (a : ThreadTable) (mutexes : List (List (Option Mutex))) (marks : List (List Bool)) (p c : ℕ) (b : Bool) (slots row : List Bool) → p < length marks → slots ≡ part_of marks p → row ≡ pool_set slots c b
    → (b ≡ false → 0 < c → part_of (part_of a.queues p) (c + 95) ≡ []) → IsRoster limit line a mutexes marks → IsRoster limit line a mutexes (lent marks p row)
mark_whole limit line a mutexes marks p c b slots row lt same made empty roster =
    rw (lent_entry marks p c b slots row lt same made) (record { lined = roster.lined; pools = condition_pools a mutexes marks p c b empty roster.pools })

pub mark_seen : {limit : ℕ} (line : List (LinkedEntries limit)) (a : ThreadTable) (mutexes : List (List (Option Mutex))) (marks : List (List Bool)) (now : Rostered) (p c : ℕ) (b : Bool) (y : Option Condition) (slots row : List Bool) → p < length marks → slots ≡ part_of marks p → row ≡ pool_set slots c b
    → condition_if b (part_of (part_of a.queues p) (c + 95)) ≡ y → seen_of line a mutexes marks ≡ now → seen_of line a mutexes (lent marks p row) ≡ record now { conditions = set now.conditions p (pool_set (part_of now.conditions p) c y) }
mark_seen line a mutexes marks now p c b y slots row lt same made told is =
    ap (λ (z : List (List Bool)). seen_of line a mutexes z) (lent_entry marks p c b slots row lt same made)
    ∙ (ap (λ (z : List (List (Option Condition))). record { table = seen a; lines = lines_by line a.queues; mutexes = mutexes_by a.queues mutexes; conditions = z }) (conditions_set a.queues marks p c b y told)
    ∙ ap (λ (n : Rostered). record n { conditions = set n.conditions p (pool_set (part_of n.conditions p) c y) }) is)

pub free_sleepers : (a : ThreadTable) (mutexes : List (List (Option Mutex))) (marks : List (List Bool)) (seen_conditions : List (List (Option Condition))) (p c : ℕ) → ArePools a mutexes marks → 0 < c → conditions_by a.queues marks ≡ seen_conditions → pool_get (part_of seen_conditions p) c ≡ None
    → part_of (part_of a.queues p) (c + 95) ≡ []
free_sleepers a mutexes marks seen_conditions p c pools pos is free = pools.free_conditions p c pos (free_condition_at a.queues marks p c (subst (λ z. pool_get (part_of z p) c ≡ None) (sym is) free))

pub empty_sleepers : (a : ThreadTable) (mutexes : List (List (Option Mutex))) (marks : List (List Bool)) (seen_conditions : List (List (Option Condition))) (p c : ℕ) → ArePools a mutexes marks → 0 < c → conditions_by a.queues marks ≡ seen_conditions → waiters_on (pool_get (part_of seen_conditions p) c) ≡ []
    → part_of (part_of a.queues p) (c + 95) ≡ []
empty_sleepers a mutexes marks seen_conditions p c pools pos is unused = sleepers_at a mutexes marks p c pools pos ∙ (ap (λ z. waiters_on (pool_get (part_of z p) c)) is ∙ unused)

-- ---- a new roster

few_filled : {X : Type 0} (x : X) (limit : ℕ) (counts : List ℕ) → All (λ count. count ≤ limit) counts → (p : ℕ) → length (part_of (map (filled x) counts) p) ≤ limit
few_filled x limit [] small p = omega arith
few_filled x limit (n ∷ ns) small zero = rw (length-replicate n x) (All-head (λ count. count ≤ limit) n ns small)
few_filled x limit (n ∷ ns) small (suc p) = few_filled x limit ns (All-tail (λ count. count ≤ limit) n ns small) p

bare_filled : (n m : ℕ) → bare (pool_get (replicate {A = Option Mutex} n None) m) ≡ pool_get (replicate {A = Option Mutex} n None) m
bare_filled n zero = refl
bare_filled zero (suc i) = refl
bare_filled (suc n) (suc zero) = refl
bare_filled (suc n) (suc (suc i)) = bare_filled n (suc i)

bare_parts : (counts : List ℕ) (p m : ℕ) → bare (pool_get (part_of (map (filled {X = Option Mutex} None) counts) p) m) ≡ pool_get (part_of (map (filled {X = Option Mutex} None) counts) p) m
bare_parts [] p zero = refl
bare_parts [] p (suc i) = refl
bare_parts (n ∷ counts) zero m = bare_filled n m
bare_parts (n ∷ counts) (suc p) m = bare_parts counts p m

pub built_whole : (limit : ℕ) (line : List (LinkedEntries limit)) (a : ThreadTable) (threads ms cs : List ℕ) (mutexes : List (List (Option Mutex))) (marks : List (List Bool)) → a ≡ free_table threads → mutexes ≡ map (filled None) ms → marks ≡ map (filled false) cs → length ms ≡ length threads → length cs ≡ length threads
    → All (λ count. count ≤ 64) ms → All (λ count. count ≤ 32) cs → IsLined limit line (free_table threads) → IsRoster limit line a mutexes marks
built_whole limit line a threads ms cs mutexes marks table of_mutexes of_marks long_ms long_cs small_ms small_cs lined = rw (table, of_mutexes, of_marks) (record {
  lined = lined;
  pools = record {
    parts_of_mutexes = length-map ms (filled None) ∙ (long_ms ∙ sym (length-map threads (filled None)));
    parts_of_conditions = length-map cs (filled false) ∙ (long_cs ∙ sym (length-map threads (filled None)));
    few_mutexes = few_filled None 64 ms small_ms;
    few_conditions = few_filled false 32 cs small_cs;
    bare_mutexes = bare_parts ms;
    free_mutexes = λ p m pos le free. lists_empty threads p (m + 31);
    free_conditions = λ p c pos free. lists_empty threads p (c + 95);
  };
})

none_seen : (lists : List (List ℕ)) (i n : ℕ) → numbered_from (λ k slot. with_waiters (part_of lists k) slot) i (replicate n None) ≡ replicate n None
none_seen lists i zero = refl
none_seen lists i (suc n) = ap (λ l. None ∷ l) (none_seen lists (suc i) n)

all_free : (queues : List (List (List ℕ))) (i : ℕ) (counts : List ℕ) → numbered_from (λ p part. mutexes_in (part_of queues p) part) i (map (filled None) counts) ≡ map (filled None) counts
all_free queues i [] = refl
all_free queues i (n ∷ counts) = ap (λ y. y ∷ numbered_from (λ p part. mutexes_in (part_of queues p) part) (suc i) (map (filled None) counts)) (none_seen (part_of queues i) 32 n) ∙ ap (λ l. filled None n ∷ l) (all_free queues (suc i) counts)

pub built_mutexes : (queues : List (List (List ℕ))) (counts : List ℕ) (mutexes : List (List (Option Mutex))) → mutexes ≡ map (filled None) counts → mutexes_by queues mutexes ≡ map (filled None) counts
built_mutexes queues counts mutexes is = ap (mutexes_by queues) is ∙ all_free queues 0 counts

unused_seen : (lists : List (List ℕ)) (i n : ℕ) → numbered_from (λ k is_used. condition_if is_used (part_of lists k)) i (replicate n false) ≡ replicate n None
unused_seen lists i zero = refl
unused_seen lists i (suc n) = ap (λ l. None ∷ l) (unused_seen lists (suc i) n)

all_unused : (queues : List (List (List ℕ))) (i : ℕ) (counts : List ℕ) → numbered_from (λ p part. conditions_in (part_of queues p) part) i (map (filled false) counts) ≡ map (filled None) counts
all_unused queues i [] = refl
all_unused queues i (n ∷ counts) = ap (λ y. y ∷ numbered_from (λ p part. conditions_in (part_of queues p) part) (suc i) (map (filled false) counts)) (unused_seen (part_of queues i) 96 n) ∙ ap (λ l. filled None n ∷ l) (all_unused queues (suc i) counts)

pub built_conditions : (queues : List (List (List ℕ))) (counts : List ℕ) (marks : List (List Bool)) → marks ≡ map (filled false) counts → conditions_by queues marks ≡ map (filled None) counts
built_conditions queues counts marks is = ap (conditions_by queues) is ∙ all_unused queues 0 counts
