-- What a call leaves of what holds of mutexes and condition variables together with the slot table.
use Rattle.std.proofs.Common.{◌≡◌, ◌≢◌, ℕ, zero, suc, ◌+◌, ◌-◌, ◌<◌, ◌≤◌, List, [], ◌∷◌, length, Bool, true, false, refl, sym, ◌∙◌, ap, subst, arith, inl, inr}
use Rattle.std.specs.Prelude.{Option, Some, None, IsSome, option_and_then}
use Rattle.std.proofs.Math.ListN.{set}
use Rattle.std.proofs.lemmas.Bool.{cases_eq}
use Rattle.std.proofs.lemmas.List.{length-set, get_or_past, get_or-set_same, set_past}
use Rattle.ptk_words.specs.Pools.{pool_get, pool_set, pool_changed, least_free, is_in}
use Rattle.ptk_words.specs.declared.threads.Thread.{Thread}
use Rattle.ptk_words.proofs.Pools.{get-set_other, length-pool_set, pool_set_all}
use Rattle.ptk_words.specs.Parts.{part_of}
use Rattle.ptk_words_model.specs.State.{Mutex, Condition}
use Rattle.ptk_words_model.specs.Mutex.{waiters_of}
use Rattle.ptk_words_model.specs.Condition.{waiters_on}
use Rattle.ptk_words_sync_invariant.specs.Conditions.{IsNoWaiter}
use Rattle.ptk_threads.proofs.Pools.{part_of-set_other}
use Rattle.ptk_threads.specs.Table.{ThreadTable, with_changed, with_new, with_new_at, with_free, with_left, with_stored, thread_in, stored_of}
use Rattle.ptk_threads.specs.Queues.{IsUnqueued}
use Rattle.ptk_threads.proofs.Along.{le_or_gt}
use Rattle.ptk_ready.specs.Queues as ready
use Rattle.ptk_ready.specs.Entries.{of_priority}
use Rattle.ptk_ready.specs.declared.entries.LinkedEntries.{LinkedEntries}
use Rattle.ptk_ready.specs.Partitions.{lines_by}
use Rattle.ptk_ready.specs.Laws.{lines_at, lines_long, lines_same, filed_same, filed_apart}
use Rattle.ptk_roster.specs.Slots.{with_waiters, bare}
use Rattle.ptk_roster.specs.Waiters.{condition_if, mutexes_in, conditions_in, mutexes_by, conditions_by}
use Rattle.ptk_roster.specs.Rosters.{Rostered, AreQueuesOf, ArePools, IsLined, IsRoster, is_marked, seen}
use Rattle.ptk_roster.proofs.Numbered.{length-numbered}
use Rattle.ptk_roster.proofs.Rosters.{changed_roster}
use Rattle.ptk_roster.proofs.Seen.{at_mutex, at_condition, later_same, queue_set, queue_all, other_queue, mutexes_same, conditions_same, ready_same}

-- ---- the queues of ready threads changed, or none

pub pools_kept : (a b : ThreadTable) (mutexes : List (List (Option Mutex))) (marks : List (List Bool)) → ready.waiters_of b.queues ≡ ready.waiters_of a.queues → length b.threads ≡ length a.threads → ArePools a mutexes marks → ArePools b mutexes marks
pools_kept a b mutexes marks same long pools = record {
  parts_of_mutexes = pools.parts_of_mutexes ∙ sym long;
  parts_of_conditions = pools.parts_of_conditions ∙ sym long;
  few_mutexes = pools.few_mutexes;
  few_conditions = pools.few_conditions;
  bare_mutexes = pools.bare_mutexes;
  free_mutexes = λ p m pos le free. later_same b.queues a.queues p (m + 31) same (omega (arith, pos)) ∙ pools.free_mutexes p m pos le free;
  free_conditions = λ p c pos free. later_same b.queues a.queues p (c + 95) same (omega (arith, pos)) ∙ pools.free_conditions p c pos free;
}

-- a field of a thread changed
pub changed_whole : (limit : ℕ) (line : List (LinkedEntries limit)) (p k : ℕ) (f : Thread → Thread) (a b : ThreadTable) (mutexes : List (List (Option Mutex))) (marks : List (List Bool)) → b ≡ with_changed p k f a → p < length a.threads
    → IsRoster limit line a mutexes marks → IsRoster limit line b mutexes marks
changed_whole limit line p k f a b mutexes marks e lt roster = record {
  lined = changed_roster limit line p k f a b e lt roster.lined;
  pools = pools_kept a b mutexes marks (ap (λ (t : ThreadTable). ready.waiters_of t.queues) e) (ap (λ (t : ThreadTable). length t.threads) e ∙ length-set a.threads p (pool_changed k f (part_of a.threads p))) roster.pools;
}

-- ---- who waits

vacant : (w : List ℕ) (x : Option Mutex) → (x ≡ None → w ≡ []) → waiters_of (with_waiters w x) ≡ w
vacant w None empty = sym (empty refl)
vacant w (Some m) empty = refl

unused : (w : List ℕ) (b : Bool) → (b ≡ false → w ≡ []) → waiters_on (condition_if b w) ≡ w
unused w false empty = sym (empty refl)
unused w true empty = refl

-- the waiters that are seen are those of the queue
pub waiters_at : (a : ThreadTable) (mutexes : List (List (Option Mutex))) (marks : List (List Bool)) (p m : ℕ) → ArePools a mutexes marks → 0 < m → m ≤ 64 → part_of (part_of a.queues p) (m + 31) ≡ waiters_of (pool_get (part_of (mutexes_by a.queues mutexes) p) m)
waiters_at a mutexes marks p m pools pos le =
    sym (ap waiters_of (at_mutex a.queues mutexes p m) ∙ vacant (part_of (part_of a.queues p) (m + 31)) (pool_get (part_of mutexes p) m) (λ free. pools.free_mutexes p m pos le free))

pub sleepers_at : (a : ThreadTable) (mutexes : List (List (Option Mutex))) (marks : List (List Bool)) (p c : ℕ) → ArePools a mutexes marks → 0 < c → part_of (part_of a.queues p) (c + 95) ≡ waiters_on (pool_get (part_of (conditions_by a.queues marks) p) c)
sleepers_at a mutexes marks p c pools pos =
    sym (ap waiters_on (at_condition a.queues marks p c) ∙ unused (part_of (part_of a.queues p) (c + 95)) (is_marked (part_of marks p) c) (λ free. pools.free_conditions p c pos free))

-- a thread that is no waiter and not in the line lies in no queue
pub unqueued : (limit : ℕ) (line : List (LinkedEntries limit)) (a : ThreadTable) (mutexes : List (List (Option Mutex))) (marks : List (List Bool)) (p k : ℕ) → IsRoster limit line a mutexes marks → is_in k (part_of (lines_by line a.queues) p) ≡ false
    → IsNoWaiter k (part_of (mutexes_by a.queues mutexes) p) (part_of (conditions_by a.queues marks) p) → IsUnqueued k (part_of a.queues p)
unqueued limit line a mutexes marks p k roster out free = λ i. elim (le_or_gt 32 i) as (λ _. is_in k (part_of (part_of a.queues p) i) ≡ false) [
  | inl le ↦ elim (le_or_gt 96 i) as (λ _. is_in k (part_of (part_of a.queues p) i) ≡ false) [
    | inl far ↦ (let shift : (i - 95) + 95 ≡ i = omega (arith, far) in
        subst (λ z. is_in k (part_of (part_of a.queues p) z) ≡ false) shift (ap (is_in k) (sleepers_at a mutexes marks p (i - 95) roster.pools (omega (arith, far))) ∙ free.of_conditions (i - 95)))
    | inr lt ↦ (let shift : (i - 31) + 31 ≡ i = omega (arith, le) in
        subst (λ z. is_in k (part_of (part_of a.queues p) z) ≡ false) shift (ap (is_in k) (waiters_at a mutexes marks p (i - 31) roster.pools (omega (arith, le)) (omega (arith, lt))) ∙ free.of_mutexes (i - 31)))
  ]
  | inr lt ↦ filed_apart limit line a p k i roster.lined.filed out lt
]

no_mutex : (k : ℕ) (w : List ℕ) (x : Option Mutex) → is_in k w ≡ false → is_in k (waiters_of (with_waiters w x)) ≡ false
no_mutex k w None out = refl
no_mutex k w (Some m) out = out

no_condition : (k : ℕ) (w : List ℕ) (b : Bool) → is_in k w ≡ false → is_in k (waiters_on (condition_if b w)) ≡ false
no_condition k w false out = refl
no_condition k w true out = out

-- a thread that lies in no queue is no waiter
pub no_waiter : (queues : List (List (List ℕ))) (mutexes : List (List (Option Mutex))) (marks : List (List Bool)) (p k : ℕ) → IsUnqueued k (part_of queues p) → IsNoWaiter k (part_of (mutexes_by queues mutexes) p) (part_of (conditions_by queues marks) p)
no_waiter queues mutexes marks p k out = record {
  of_mutexes = λ m. ap (λ x. is_in k (waiters_of x)) (at_mutex queues mutexes p m) ∙ no_mutex k (part_of (part_of queues p) (m + 31)) (pool_get (part_of mutexes p) m) (out (m + 31));
  of_conditions = λ c. ap (λ x. is_in k (waiters_on x)) (at_condition queues marks p c) ∙ no_condition k (part_of (part_of queues p) (c + 95)) (is_marked (part_of marks p) c) (out (c + 95));
}

-- ---- what is seen of all

abbrev pub seen_of : {limit : ℕ} → List (LinkedEntries limit) → ThreadTable → List (List (Option Mutex)) → List (List Bool) → Rostered
seen_of line a mutexes marks = record { table = seen a; lines = lines_by line a.queues; mutexes = mutexes_by a.queues mutexes; conditions = conditions_by a.queues marks }

pub queues_of : (limit : ℕ) (line : List (LinkedEntries limit)) (a : ThreadTable) (mutexes : List (List (Option Mutex))) (marks : List (List Bool)) → IsRoster limit line a mutexes marks → AreQueuesOf (seen_of line a mutexes marks) a.queues
queues_of limit line a mutexes marks roster = record {
  each = λ p. record {
    of_ready = λ i lt. elim (le_or_gt (length line) p) as (λ _. part_of (part_of a.queues p) i ≡ of_priority (part_of a.stored p) (suc i) (part_of (lines_by line a.queues) p)) [
      | inl past ↦ ap (λ lists. part_of lists i) (get_or_past a.queues p [] (omega (arith, past, roster.lined.filed.parts)))
          ∙ sym (ap (of_priority (part_of a.stored p) (suc i)) (get_or_past (lines_by line a.queues) p [] (omega (arith, past, lines_long line a.queues))))
      | inr below ↦ (roster.lined.filed.each p below).lines i lt ∙ sym (ap (of_priority (part_of a.stored p) (suc i)) (lines_at line a.queues p below))
    ];
    of_mutexes = λ m pos le. waiters_at a mutexes marks p m roster.pools pos le;
    of_conditions = λ c pos. sleepers_at a mutexes marks p c roster.pools pos;
  };
}

pub line_parts : (limit : ℕ) (line : List (LinkedEntries limit)) (a : ThreadTable) (mutexes : List (List (Option Mutex))) (marks : List (List Bool)) (now : Rostered) (p : ℕ) → seen_of line a mutexes marks ≡ now → IsRoster limit line a mutexes marks → p < length now.table.threads
    → (p < length (lines_by line a.queues)) × (p < length a.threads)
line_parts limit line a mutexes marks now p is roster lt =
    let below : p < length a.threads = subst (λ (n : Rostered). p < length n.table.threads) (sym is) lt in
    (omega (arith, below, roster.lined.parts, lines_long line a.queues), below)

-- as many of each
pub record AreParts (now : Rostered) (n : ℕ) : Type 0 where
  pub lines : length now.lines ≡ n
  pub mutexes : length now.mutexes ≡ n
  pub conditions : length now.conditions ≡ n

pub parts_of : (limit : ℕ) (line : List (LinkedEntries limit)) (a : ThreadTable) (mutexes : List (List (Option Mutex))) (marks : List (List Bool)) (now : Rostered) → seen_of line a mutexes marks ≡ now → IsRoster limit line a mutexes marks → AreParts now (length a.threads)
parts_of limit line a mutexes marks now is roster = subst (λ (n : Rostered). AreParts n (length a.threads)) is (record {
  lines = lines_long line a.queues ∙ roster.lined.parts;
  mutexes = length-numbered (λ p part. mutexes_in (part_of a.queues p) part) 0 mutexes ∙ roster.pools.parts_of_mutexes;
  conditions = length-numbered (λ p part. conditions_in (part_of a.queues p) part) 0 marks ∙ roster.pools.parts_of_conditions;
})

-- what a thread has that may be pushed, or may wait
pub record IsPushed (limit : ℕ) (line : List (LinkedEntries limit)) (a : ThreadTable) (p k : ℕ) : Type 0 where
  pub parts : (p < length (lines_by line a.queues)) × (p < length a.threads)
  pub used : IsSome (thread_in a p k)
  pub out : is_in k (part_of (lines_by line a.queues) p) ≡ false
  pub free : IsUnqueued k (part_of a.queues p)
  pub level : (0 < stored_of (part_of a.stored p) k) × (stored_of (part_of a.stored p) k ≤ 32)

pub pushed : (limit : ℕ) (line : List (LinkedEntries limit)) (a : ThreadTable) (mutexes : List (List (Option Mutex))) (marks : List (List Bool)) (now : Rostered) (p k : ℕ) → seen_of line a mutexes marks ≡ now → IsRoster limit line a mutexes marks → p < length now.table.threads
    → IsSome (thread_in now.table p k) → is_in k (part_of now.lines p) ≡ false → IsNoWaiter k (part_of now.mutexes p) (part_of now.conditions p) → IsPushed limit line a p k
pushed limit line a mutexes marks now p k is roster lt used out free =
    let own : IsSome (thread_in a p k) = subst (λ (n : Rostered). IsSome (thread_in n.table p k)) (sym is) used in
    let apart : is_in k (part_of (lines_by line a.queues) p) ≡ false = subst (λ (n : Rostered). is_in k (part_of n.lines p) ≡ false) (sym is) out in
    record {
      parts = line_parts limit line a mutexes marks now p is roster lt;
      used = own;
      out = apart;
      free = unqueued limit line a mutexes marks p k roster apart (subst (λ (n : Rostered). IsNoWaiter k (part_of n.mutexes p) (part_of n.conditions p)) (sym is) free);
      level = ((roster.lined.levels p).least k own, (roster.lined.levels p).greatest k);
    }

-- ---- another entry of a number

short : {X : Type 0} (parts : List (List X)) (p k n q : ℕ) (x : X) → length (part_of parts q) ≤ n → length (part_of (set parts p (pool_set (part_of parts p) k x)) q) ≤ n
short parts p k n q x le = elim (cases_eq q p) as (λ _. length (part_of (set parts p (pool_set (part_of parts p) k x)) q) ≤ n) [
  | inl e ↦ elim (le_or_gt (length parts) p) as (λ _. length (part_of (set parts p (pool_set (part_of parts p) k x)) q) ≤ n) [
    | inl past ↦ rw (set_past parts p (pool_set (part_of parts p) k x) past) le
    | inr lt ↦ (let there : length (part_of parts p) ≤ n = subst (λ z. length (part_of parts z) ≤ n) e le in
        rw (e, get_or-set_same parts p (pool_set (part_of parts p) k x) [] lt, length-pool_set (part_of parts p) k x) there)
  ]
  | inr ne ↦ rw (part_of-set_other parts p q (pool_set (part_of parts p) k x) ne) le
]

-- what holds of the new entry of a number and of each old one
entries_all : (P : ℕ → ℕ → Option Mutex → Type 0) (mutexes : List (List (Option Mutex))) (p m : ℕ) (x : Option Mutex) → P p m x → ((q n : ℕ) → P q n (pool_get (part_of mutexes q) n)) → (q n : ℕ) → P q n (pool_get (part_of (set mutexes p (pool_set (part_of mutexes p) m x)) q) n)
entries_all P mutexes p m x new old q n = elim (cases_eq q p) as (λ _. P q n (pool_get (part_of (set mutexes p (pool_set (part_of mutexes p) m x)) q) n)) [
  | inl e ↦ elim (le_or_gt (length mutexes) p) as (λ _. P q n (pool_get (part_of (set mutexes p (pool_set (part_of mutexes p) m x)) q) n)) [
    | inl past ↦ rw (set_past mutexes p (pool_set (part_of mutexes p) m x) past) (old q n)
    | inr lt ↦ subst (λ z. P z n (pool_get (part_of (set mutexes p (pool_set (part_of mutexes p) m x)) z) n)) (sym e) (rw (get_or-set_same mutexes p (pool_set (part_of mutexes p) m x) [] lt) (elim (cases_eq n m) as (λ _. P p n (pool_get (pool_set (part_of mutexes p) m x) n)) [
      | inl same ↦ subst (λ z. P p z (pool_get (pool_set (part_of mutexes p) m x) z)) (sym same) (pool_set_all (P p m) (part_of mutexes p) m m x new (old p m))
      | inr apart ↦ rw (get-set_other m n x (part_of mutexes p) apart) (old p n)
    ]))
  ]
  | inr ne ↦ rw (part_of-set_other mutexes p q (pool_set (part_of mutexes p) m x) ne) (old q n)
]

mark_all : (P : Bool → Type 0) (marks : List Bool) (c : ℕ) (b : Bool) → P b → P (is_marked marks c) → P (is_marked (pool_set marks c b) c)
mark_all P marks zero b new old = old
mark_all P [] (suc j) b new old = old
mark_all P (y ∷ marks) (suc zero) b new old = new
mark_all P (y ∷ marks) (suc (suc j)) b new old = mark_all P marks (suc j) b new old

mark_other : (marks : List Bool) (c n : ℕ) (b : Bool) → n ≢ c → is_marked (pool_set marks c b) n ≡ is_marked marks n
mark_other marks zero n b ne = refl
mark_other marks (suc j) zero b ne = refl
mark_other [] (suc j) (suc n) b ne = refl
mark_other (y ∷ marks) (suc zero) (suc zero) b ne = absurd (ne refl)
mark_other (y ∷ marks) (suc zero) (suc (suc n)) b ne = refl
mark_other (y ∷ marks) (suc (suc j)) (suc zero) b ne = refl
mark_other (y ∷ marks) (suc (suc j)) (suc (suc n)) b ne = mark_other marks (suc j) (suc n) b (λ e. ne (ap suc e))

marks_all : (P : ℕ → ℕ → Bool → Type 0) (marks : List (List Bool)) (p c : ℕ) (b : Bool) → P p c b → ((q n : ℕ) → P q n (is_marked (part_of marks q) n)) → (q n : ℕ) → P q n (is_marked (part_of (set marks p (pool_set (part_of marks p) c b)) q) n)
marks_all P marks p c b new old q n = elim (cases_eq q p) as (λ _. P q n (is_marked (part_of (set marks p (pool_set (part_of marks p) c b)) q) n)) [
  | inl e ↦ elim (le_or_gt (length marks) p) as (λ _. P q n (is_marked (part_of (set marks p (pool_set (part_of marks p) c b)) q) n)) [
    | inl past ↦ rw (set_past marks p (pool_set (part_of marks p) c b) past) (old q n)
    | inr lt ↦ subst (λ z. P z n (is_marked (part_of (set marks p (pool_set (part_of marks p) c b)) z) n)) (sym e) (rw (get_or-set_same marks p (pool_set (part_of marks p) c b) [] lt) (elim (cases_eq n c) as (λ _. P p n (is_marked (pool_set (part_of marks p) c b) n)) [
      | inl same ↦ subst (λ z. P p z (is_marked (pool_set (part_of marks p) c b) z)) (sym same) (mark_all (P p c) (part_of marks p) c b new (old p c))
      | inr apart ↦ rw (mark_other (part_of marks p) c n b apart) (old p n)
    ]))
  ]
  | inr ne ↦ rw (part_of-set_other marks p q (pool_set (part_of marks p) c b) ne) (old q n)
]

pub mutex_pools : (a : ThreadTable) (mutexes : List (List (Option Mutex))) (marks : List (List Bool)) (p m : ℕ) (x : Option Mutex) → bare x ≡ x → (x ≡ None → 0 < m → m ≤ 64 → part_of (part_of a.queues p) (m + 31) ≡ []) → ArePools a mutexes marks
    → ArePools a (set mutexes p (pool_set (part_of mutexes p) m x)) marks
mutex_pools a mutexes marks p m x own empty pools = record {
  parts_of_mutexes = length-set mutexes p (pool_set (part_of mutexes p) m x) ∙ pools.parts_of_mutexes;
  parts_of_conditions = pools.parts_of_conditions;
  few_mutexes = λ q. short mutexes p m 64 q x (pools.few_mutexes q);
  few_conditions = pools.few_conditions;
  bare_mutexes = entries_all (λ q n y. bare y ≡ y) mutexes p m x own pools.bare_mutexes;
  free_mutexes = λ q n pos le free. entries_all (λ r k y. y ≡ None → 0 < k → k ≤ 64 → part_of (part_of a.queues r) (k + 31) ≡ []) mutexes p m x empty (λ r k none pos' le'. pools.free_mutexes r k pos' le' none) q n free pos le;
  free_conditions = pools.free_conditions;
}

pub condition_pools : (a : ThreadTable) (mutexes : List (List (Option Mutex))) (marks : List (List Bool)) (p c : ℕ) (b : Bool) → (b ≡ false → 0 < c → part_of (part_of a.queues p) (c + 95) ≡ []) → ArePools a mutexes marks
    → ArePools a mutexes (set marks p (pool_set (part_of marks p) c b))
condition_pools a mutexes marks p c b empty pools = record {
  parts_of_mutexes = pools.parts_of_mutexes;
  parts_of_conditions = length-set marks p (pool_set (part_of marks p) c b) ∙ pools.parts_of_conditions;
  few_mutexes = pools.few_mutexes;
  few_conditions = λ q. short marks p c 32 q b (pools.few_conditions q);
  bare_mutexes = pools.bare_mutexes;
  free_mutexes = pools.free_mutexes;
  free_conditions = λ q n pos free. marks_all (λ r k y. y ≡ false → 0 < k → part_of (part_of a.queues r) (k + 95) ≡ []) marks p c b empty (λ r k none pos'. pools.free_conditions r k pos' none) q n free pos;
}

-- ---- one queue of waiters changed

-- the queue of a mutex, where it stays empty if the number is free
pub waiting_pools : (a b : ThreadTable) (mutexes : List (List (Option Mutex))) (marks : List (List Bool)) (p m : ℕ) (xs : List ℕ) → m ≤ 64 → (pool_get (part_of mutexes p) m ≡ None → xs ≡ []) → b.queues ≡ queue_set a.queues p (m + 31) xs → b.threads ≡ a.threads
    → ArePools a mutexes marks → ArePools b mutexes marks
waiting_pools a b mutexes marks p m xs le empty queues threads pools = record {
  parts_of_mutexes = pools.parts_of_mutexes ∙ ap length (sym threads);
  parts_of_conditions = pools.parts_of_conditions ∙ ap length (sym threads);
  few_mutexes = pools.few_mutexes;
  few_conditions = pools.few_conditions;
  bare_mutexes = pools.bare_mutexes;
  free_mutexes = λ q n pos le' free. subst (λ z. part_of (part_of z q) (n + 31) ≡ []) (sym queues) (elim (cases_eq n m) as (λ _. part_of (part_of (queue_set a.queues p (m + 31) xs) q) (n + 31) ≡ []) [
    | inl e ↦ elim (cases_eq q p) as (λ _. part_of (part_of (queue_set a.queues p (m + 31) xs) q) (n + 31) ≡ []) [
      | inl same ↦ (let here : pool_get (part_of mutexes p) m ≡ None = subst (λ z. pool_get (part_of mutexes z) m ≡ None) same (subst (λ z. pool_get (part_of mutexes q) z ≡ None) e free) in
          rw (same, e) (queue_all (λ l. l ≡ []) a.queues p (m + 31) xs (empty here) (pools.free_mutexes p m (subst (λ z. 0 < z) e pos) le here)))
      | inr ne ↦ ap (λ lists. part_of lists (n + 31)) (part_of-set_other a.queues p q (set (part_of a.queues p) (m + 31) xs) ne) ∙ pools.free_mutexes q n pos le' free
    ]
    | inr ne ↦ other_queue a.queues p q (m + 31) (n + 31) xs (λ e. ne (omega (arith, e))) ∙ pools.free_mutexes q n pos le' free
  ]);
  free_conditions = λ q c pos free. subst (λ z. part_of (part_of z q) (c + 95) ≡ []) (sym queues) (other_queue a.queues p q (m + 31) (c + 95) xs (λ e. absurd (omega (arith, e, pos, le))) ∙ pools.free_conditions q c pos free);
}

-- the queue of a condition variable
pub sleeping_pools : (a b : ThreadTable) (mutexes : List (List (Option Mutex))) (marks : List (List Bool)) (p c : ℕ) (xs : List ℕ) → 0 < c → (is_marked (part_of marks p) c ≡ false → xs ≡ []) → b.queues ≡ queue_set a.queues p (c + 95) xs → b.threads ≡ a.threads
    → ArePools a mutexes marks → ArePools b mutexes marks
sleeping_pools a b mutexes marks p c xs own empty queues threads pools = record {
  parts_of_mutexes = pools.parts_of_mutexes ∙ ap length (sym threads);
  parts_of_conditions = pools.parts_of_conditions ∙ ap length (sym threads);
  few_mutexes = pools.few_mutexes;
  few_conditions = pools.few_conditions;
  bare_mutexes = pools.bare_mutexes;
  free_mutexes = λ q n pos le free. subst (λ z. part_of (part_of z q) (n + 31) ≡ []) (sym queues) (other_queue a.queues p q (c + 95) (n + 31) xs (λ e. absurd (omega (arith, e, own, le))) ∙ pools.free_mutexes q n pos le free);
  free_conditions = λ q n pos free. subst (λ z. part_of (part_of z q) (n + 95) ≡ []) (sym queues) (elim (cases_eq n c) as (λ _. part_of (part_of (queue_set a.queues p (c + 95) xs) q) (n + 95) ≡ []) [
    | inl e ↦ elim (cases_eq q p) as (λ _. part_of (part_of (queue_set a.queues p (c + 95) xs) q) (n + 95) ≡ []) [
      | inl same ↦ (let here : is_marked (part_of marks p) c ≡ false = subst (λ z. is_marked (part_of marks z) c ≡ false) same (subst (λ z. is_marked (part_of marks q) z ≡ false) e free) in
          rw (same, e) (queue_all (λ l. l ≡ []) a.queues p (c + 95) xs (empty here) (pools.free_conditions p c own here)))
      | inr ne ↦ ap (λ lists. part_of lists (n + 95)) (part_of-set_other a.queues p q (set (part_of a.queues p) (c + 95) xs) ne) ∙ pools.free_conditions q n pos free
    ]
    | inr ne ↦ other_queue a.queues p q (c + 95) (n + 95) xs (λ e. ne (omega (arith, e))) ∙ pools.free_conditions q n pos free
  ]);
}

-- lines stay where a queue of waiters changes
pub waiting_lined : (limit : ℕ) (line : List (LinkedEntries limit)) (a b : ThreadTable) (p i : ℕ) (xs : List ℕ) → 32 ≤ i → b.queues ≡ queue_set a.queues p i xs → b.threads ≡ a.threads → b.stored ≡ a.stored → IsLined limit line a → IsLined limit line b
waiting_lined limit line a b p i xs le queues threads stored lined =
    let same : ready.ready_queues a.queues ≡ ready.ready_queues b.queues = sym (ap ready.ready_queues queues ∙ ready_same a.queues p i xs le) in
    record {
      parts = lined.parts ∙ ap length (sym threads);
      listed = λ q k inside. rw threads (lined.listed q k (subst (λ z. is_in k (part_of z q) ≡ true) (sym (lines_same line a.queues b.queues same)) inside));
      levels = λ q. rw (threads, stored) (lined.levels q);
      filed = filed_same limit line a b (λ q k inside. ap (λ z. stored_of (part_of z q) k) stored) same lined.filed;
    }

-- ---- whole rosters

-- the line or stored priorities changed
pub moved_whole : (limit : ℕ) (line late : List (LinkedEntries limit)) (a b : ThreadTable) (mutexes : List (List (Option Mutex))) (marks : List (List Bool)) → IsLined limit late b → ready.waiters_of b.queues ≡ ready.waiters_of a.queues → b.threads ≡ a.threads
    → IsRoster limit line a mutexes marks → IsRoster limit late b mutexes marks
moved_whole limit line late a b mutexes marks lined waiters threads roster = record { lined = lined; pools = pools_kept a b mutexes marks waiters (ap length threads) roster.pools }

with_new_kept : (free : Option ℕ) (p : ℕ) (thread : Thread) (a : ThreadTable) → ((with_new_at free p thread a).queues ≡ a.queues) × (length (with_new_at free p thread a).threads ≡ length a.threads)
with_new_kept None p thread a = (refl, refl)
with_new_kept (Some k) p thread a = (refl, length-set a.threads p (pool_set (part_of a.threads p) k (Some thread)))

pub new_whole : (limit : ℕ) (line : List (LinkedEntries limit)) (p : ℕ) (thread : Thread) (a b : ThreadTable) (mutexes : List (List (Option Mutex))) (marks : List (List Bool)) → b ≡ with_new p thread a → IsLined limit line (with_new p thread a)
    → IsRoster limit line a mutexes marks → IsRoster limit line b mutexes marks
new_whole limit line p thread a b mutexes marks e lined roster =
    let kept = with_new_kept (least_free (part_of a.threads p)) p thread a in
    rw e (record { lined = lined; pools = pools_kept a (with_new p thread a) mutexes marks (ap ready.waiters_of kept.0) kept.1 roster.pools })

pub free_whole : (limit : ℕ) (line : List (LinkedEntries limit)) (p k : ℕ) (a b : ThreadTable) (mutexes : List (List (Option Mutex))) (marks : List (List Bool)) → b ≡ with_free p k a → IsLined limit line (with_free p k a)
    → IsRoster limit line a mutexes marks → IsRoster limit line b mutexes marks
free_whole limit line p k a b mutexes marks e lined roster =
    rw e (record { lined = lined; pools = pools_kept a (with_free p k a) mutexes marks refl (length-set a.threads p (pool_set (part_of a.threads p) k None)) roster.pools })

pub left_whole : (limit : ℕ) (line : List (LinkedEntries limit)) (p k : ℕ) (f : Thread → Option Thread) (a b : ThreadTable) (mutexes : List (List (Option Mutex))) (marks : List (List Bool)) → b ≡ with_left p k f a → IsLined limit line (with_left p k f a)
    → IsRoster limit line a mutexes marks → IsRoster limit line b mutexes marks
left_whole limit line p k f a b mutexes marks e lined roster =
    rw e (record { lined = lined; pools = pools_kept a (with_left p k f a) mutexes marks refl (length-set a.threads p (pool_set (part_of a.threads p) k (option_and_then f (thread_in a p k)))) roster.pools })

-- what is seen of mutexes and condition variables where the line changes
pub mutexes_seen : {limit : ℕ} (line : List (LinkedEntries limit)) (a b : ThreadTable) (mutexes : List (List (Option Mutex))) (marks : List (List Bool)) (now : Rostered) → seen_of line a mutexes marks ≡ now → ready.waiters_of b.queues ≡ ready.waiters_of a.queues
    → (mutexes_by b.queues mutexes ≡ now.mutexes) × (conditions_by b.queues marks ≡ now.conditions)
mutexes_seen line a b mutexes marks now is same = (
  mutexes_same b.queues a.queues mutexes same ∙ ap (λ (n : Rostered). n.mutexes) is,
  conditions_same b.queues a.queues marks same ∙ ap (λ (n : Rostered). n.conditions) is,
)

-- one partition's line is changed by f, and all else that is seen stays
pub line_seen : {limit : ℕ} (line late : List (LinkedEntries limit)) (a b : ThreadTable) (mutexes : List (List (Option Mutex))) (marks : List (List Bool)) (now : Rostered) (p : ℕ) (f : List ℕ → List ℕ) → seen_of line a mutexes marks ≡ now → ready.waiters_of b.queues ≡ ready.waiters_of a.queues
    → lines_by late b.queues ≡ set (lines_by line a.queues) p (f (part_of (lines_by line a.queues) p)) → b.threads ≡ a.threads → b.stored ≡ a.stored → seen_of late b mutexes marks ≡ record now { lines = set now.lines p (f (part_of now.lines p)) }
line_seen line late a b mutexes marks now p f is waiters lines threads stored =
    ap (λ (z : List (List (Option Thread))). record { table = record { threads = z; stored = b.stored; queues = [] }; lines = lines_by late b.queues; mutexes = mutexes_by b.queues mutexes; conditions = conditions_by b.queues marks }) threads
    ∙ (ap (λ (z : List (List ℕ)). record { table = record { threads = a.threads; stored = z; queues = [] }; lines = lines_by late b.queues; mutexes = mutexes_by b.queues mutexes; conditions = conditions_by b.queues marks }) stored
    ∙ (ap (λ (z : List (List ℕ)). record { table = seen a; lines = z; mutexes = mutexes_by b.queues mutexes; conditions = conditions_by b.queues marks }) lines
    ∙ (ap (λ (z : List (List (Option Mutex))). record { table = seen a; lines = set (lines_by line a.queues) p (f (part_of (lines_by line a.queues) p)); mutexes = z; conditions = conditions_by b.queues marks }) (mutexes_same b.queues a.queues mutexes waiters)
    ∙ (ap (λ (z : List (List (Option Condition))). record { table = seen a; lines = set (lines_by line a.queues) p (f (part_of (lines_by line a.queues) p)); mutexes = mutexes_by a.queues mutexes; conditions = z }) (conditions_same b.queues a.queues marks waiters)
    ∙ ap (λ (n : Rostered). record n { lines = set n.lines p (f (part_of n.lines p)) }) is))))

pub stored_seen : {limit : ℕ} (line late : List (LinkedEntries limit)) (a b : ThreadTable) (mutexes : List (List (Option Mutex))) (marks : List (List Bool)) (now : Rostered) (p k level : ℕ) → seen_of line a mutexes marks ≡ now → ready.waiters_of b.queues ≡ ready.waiters_of a.queues → lines_by late b.queues ≡ lines_by line a.queues
    → b.threads ≡ a.threads → b.stored ≡ set a.stored p (pool_set (part_of a.stored p) k level) → seen_of late b mutexes marks ≡ record now { table = with_stored p k level now.table }
stored_seen line late a b mutexes marks now p k level is waiters lines threads stored =
    ap (λ (z : List (List (Option Thread))). record { table = record { threads = z; stored = b.stored; queues = [] }; lines = lines_by late b.queues; mutexes = mutexes_by b.queues mutexes; conditions = conditions_by b.queues marks }) threads
    ∙ (ap (λ (z : List (List ℕ)). record { table = record { threads = a.threads; stored = z; queues = [] }; lines = lines_by late b.queues; mutexes = mutexes_by b.queues mutexes; conditions = conditions_by b.queues marks }) stored
    ∙ (ap (λ (z : List (List ℕ)). record { table = with_stored p k level (seen a); lines = z; mutexes = mutexes_by b.queues mutexes; conditions = conditions_by b.queues marks }) lines
    ∙ (ap (λ (z : List (List (Option Mutex))). record { table = with_stored p k level (seen a); lines = lines_by line a.queues; mutexes = z; conditions = conditions_by b.queues marks }) (mutexes_same b.queues a.queues mutexes waiters)
    ∙ (ap (λ (z : List (List (Option Condition))). record { table = with_stored p k level (seen a); lines = lines_by line a.queues; mutexes = mutexes_by a.queues mutexes; conditions = z }) (conditions_same b.queues a.queues marks waiters)
    ∙ ap (λ (n : Rostered). record n { table = with_stored p k level n.table }) is))))
