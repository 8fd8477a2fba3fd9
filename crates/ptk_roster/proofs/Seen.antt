-- The mutexes and condition variables that are seen, read and changed.
use Rattle.std.proofs.Common.{◌≡◌, ◌≢◌, ℕ, zero, suc, ◌+◌, ◌-◌, ◌<◌, ◌≤◌, List, [], ◌∷◌, length, map, drop, take, Bool, true, false, refl, sym, ◌∙◌, ap, subst, arith, get_or, inl, inr}
use Rattle.std.specs.Prelude.{Option, Some, None, option_map, is_none, position, not}
use Rattle.std.specs.Option.{is_some}
use Rattle.std.specs.List.{prefix_len}
use Rattle.std.proofs.Math.ListN.{set, get_or-map}
use Rattle.std.proofs.Math.Seq.{map-set_same}
use Rattle.std.proofs.lemmas.Bool.{cases_eq}
use Rattle.std.proofs.lemmas.List.{get_or-drop, get_or-set_same, get_or-set_other, set_past, take-set-le, ext_get_or}
use Rattle.ptk_words.specs.Pools.{pool_get, pool_set, least_free}
use Rattle.ptk_words.specs.Parts.{part_of}
use Rattle.ptk_words_model.specs.State.{Mutex, Condition}
use Rattle.ptk_threads.proofs.Pools.{part_of-set_other}
use Rattle.ptk_threads.proofs.Along.{le_or_gt}
use Rattle.ptk_ready.specs.Queues as ready
use Rattle.ptk_roster.specs.Slots.{with_waiters, bare}
use Rattle.ptk_roster.proofs.Bare.{waiters_twice}
use Rattle.ptk_roster.specs.Waiters.{numbered_from, condition_if, mutexes_in, conditions_in, mutexes_by, conditions_by}
use Rattle.ptk_roster.specs.Rosters.{is_marked}
use Rattle.ptk_roster.proofs.Numbered.{length-numbered, numbered_at, numbered_got, numbered_read, numbered_same, numbered_set, numbered_changed}

-- ---- reading

pub part_mutexes : (queues : List (List (List ℕ))) (mutexes : List (List (Option Mutex))) (p : ℕ) → part_of (mutexes_by queues mutexes) p ≡ mutexes_in (part_of queues p) (part_of mutexes p)
part_mutexes queues mutexes p = numbered_at (λ p part. mutexes_in (part_of queues p) part) 0 p p mutexes [] [] (omega arith) refl

pub part_conditions : (queues : List (List (List ℕ))) (marks : List (List Bool)) (p : ℕ) → part_of (conditions_by queues marks) p ≡ conditions_in (part_of queues p) (part_of marks p)
part_conditions queues marks p = numbered_at (λ p part. conditions_in (part_of queues p) part) 0 p p marks [] [] (omega arith) refl

pub got_mutex : (lists : List (List ℕ)) (pool : List (Option Mutex)) (m : ℕ) → pool_get (mutexes_in lists pool) m ≡ with_waiters (part_of lists (m + 31)) (pool_get pool m)
got_mutex lists pool zero = refl
got_mutex lists pool (suc j) = numbered_got (λ i slot. with_waiters (part_of lists i) slot) 32 j (suc j + 31) pool (omega arith) refl

pub got_condition : (lists : List (List ℕ)) (marks : List Bool) (c : ℕ) → pool_get (conditions_in lists marks) c ≡ condition_if (is_marked marks c) (part_of lists (c + 95))
got_condition lists marks zero = refl
got_condition lists marks (suc j) = numbered_read (λ i is_used. condition_if is_used (part_of lists i)) 96 j (suc j + 95) marks false (omega arith) refl

pub at_mutex : (queues : List (List (List ℕ))) (mutexes : List (List (Option Mutex))) (p m : ℕ) → pool_get (part_of (mutexes_by queues mutexes) p) m ≡ with_waiters (part_of (part_of queues p) (m + 31)) (pool_get (part_of mutexes p) m)
at_mutex queues mutexes p m = ap (λ l. pool_get l m) (part_mutexes queues mutexes p) ∙ got_mutex (part_of queues p) (part_of mutexes p) m

pub at_condition : (queues : List (List (List ℕ))) (marks : List (List Bool)) (p c : ℕ) → pool_get (part_of (conditions_by queues marks) p) c ≡ condition_if (is_marked (part_of marks p) c) (part_of (part_of queues p) (c + 95))
at_condition queues marks p c = ap (λ l. pool_get l c) (part_conditions queues marks p) ∙ got_condition (part_of queues p) (part_of marks p) c

flat_or : {A : Type 0} (pool : List (Option A)) (j : ℕ) → pool_get pool (suc j) ≡ get_or pool j None
flat_or [] j = refl
flat_or (x ∷ pool) zero = refl
flat_or (x ∷ pool) (suc j) = flat_or pool j

mark_or : (marks : List Bool) (j : ℕ) → is_marked marks (suc j) ≡ get_or marks j false
mark_or [] j = refl
mark_or (b ∷ marks) zero = refl
mark_or (b ∷ marks) (suc j) = mark_or marks j

-- ---- what is made of one number

mutex_free : (w : List ℕ) (x : Option Mutex) → with_waiters w x ≡ None → x ≡ None
mutex_free w None e = refl
mutex_free w (Some m) e = absurd (cc)

condition_free : (b : Bool) (w : List ℕ) → condition_if b w ≡ None → b ≡ false
condition_free true w e = absurd (cc)
condition_free false w e = refl

-- a number that is free as it is seen is so
pub free_mutex_at : (queues : List (List (List ℕ))) (mutexes : List (List (Option Mutex))) (p m : ℕ) → pool_get (part_of (mutexes_by queues mutexes) p) m ≡ None → pool_get (part_of mutexes p) m ≡ None
free_mutex_at queues mutexes p m e = mutex_free (part_of (part_of queues p) (m + 31)) (pool_get (part_of mutexes p) m) (sym (at_mutex queues mutexes p m) ∙ e)

pub free_condition_at : (queues : List (List (List ℕ))) (marks : List (List Bool)) (p c : ℕ) → pool_get (part_of (conditions_by queues marks) p) c ≡ None → is_marked (part_of marks p) c ≡ false
free_condition_at queues marks p c e = condition_free (is_marked (part_of marks p) c) (part_of (part_of queues p) (c + 95)) (sym (at_condition queues marks p c) ∙ e)

-- ---- another entry

set_mutexes : (lists : List (List ℕ)) (pool : List (Option Mutex)) (m : ℕ) (x : Option Mutex) → mutexes_in lists (pool_set pool m x) ≡ pool_set (mutexes_in lists pool) m (with_waiters (part_of lists (m + 31)) x)
set_mutexes lists pool zero x = refl
set_mutexes lists pool (suc j) x = numbered_set (λ i slot. with_waiters (part_of lists i) slot) 32 j (suc j + 31) pool x (omega arith)

set_conditions : (lists : List (List ℕ)) (marks : List Bool) (c : ℕ) (b : Bool) → conditions_in lists (pool_set marks c b) ≡ pool_set (conditions_in lists marks) c (condition_if b (part_of lists (c + 95)))
set_conditions lists marks zero b = refl
set_conditions lists marks (suc j) b = numbered_set (λ i is_used. condition_if is_used (part_of lists i)) 96 j (suc j + 95) marks b (omega arith)

-- a partition's entry of a number is another
pub mutexes_set : (queues : List (List (List ℕ))) (mutexes : List (List (Option Mutex))) (p m : ℕ) (x y : Option Mutex) → with_waiters (part_of (part_of queues p) (m + 31)) x ≡ y
    → mutexes_by queues (set mutexes p (pool_set (part_of mutexes p) m x)) ≡ set (mutexes_by queues mutexes) p (pool_set (part_of (mutexes_by queues mutexes) p) m y)
mutexes_set queues mutexes p m x y is =
    numbered_set (λ p part. mutexes_in (part_of queues p) part) 0 p p mutexes (pool_set (part_of mutexes p) m x) (omega arith)
    ∙ ap (set (mutexes_by queues mutexes) p) (set_mutexes (part_of queues p) (part_of mutexes p) m x ∙ (ap (λ l. pool_set l m (with_waiters (part_of (part_of queues p) (m + 31)) x)) (sym (part_mutexes queues mutexes p)) ∙ ap (pool_set (part_of (mutexes_by queues mutexes) p) m) is))

pub conditions_set : (queues : List (List (List ℕ))) (marks : List (List Bool)) (p c : ℕ) (b : Bool) (y : Option Condition) → condition_if b (part_of (part_of queues p) (c + 95)) ≡ y
    → conditions_by queues (set marks p (pool_set (part_of marks p) c b)) ≡ set (conditions_by queues marks) p (pool_set (part_of (conditions_by queues marks) p) c y)
conditions_set queues marks p c b y is =
    numbered_set (λ p part. conditions_in (part_of queues p) part) 0 p p marks (pool_set (part_of marks p) c b) (omega arith)
    ∙ ap (set (conditions_by queues marks) p) (set_conditions (part_of queues p) (part_of marks p) c b ∙ (ap (λ l. pool_set l c (condition_if b (part_of (part_of queues p) (c + 95)))) (sym (part_conditions queues marks p)) ∙ ap (pool_set (part_of (conditions_by queues marks) p) c) is))

-- ---- other queues

-- a queue past those of ready threads
pub later_same : (a b : List (List (List ℕ))) (p i : ℕ) → ready.waiters_of a ≡ ready.waiters_of b → 32 ≤ i → part_of (part_of a p) i ≡ part_of (part_of b p) i
later_same a b p i same le =
    let shift : 32 + (i - 32) ≡ i = omega (arith, le) in
    let at : (z : List (List (List ℕ))) → part_of (part_of (ready.waiters_of z) p) (i - 32) ≡ part_of (part_of z p) i =
    λ z. ap (λ lists. part_of lists (i - 32)) (get_or-map (drop 32) z p []) ∙ (get_or-drop 32 (part_of z p) (i - 32) [] ∙ ap (part_of (part_of z p)) shift) in
    sym (at a) ∙ (ap (λ z. part_of (part_of z p) (i - 32)) same ∙ at b)

pub mutexes_same : (a b : List (List (List ℕ))) (mutexes : List (List (Option Mutex))) → ready.waiters_of a ≡ ready.waiters_of b → mutexes_by a mutexes ≡ mutexes_by b mutexes
mutexes_same a b mutexes same =
    numbered_same (λ p part. mutexes_in (part_of a p) part) (λ p part. mutexes_in (part_of b p) part) 0 mutexes (λ p part le lt.
    numbered_same (λ i slot. with_waiters (part_of (part_of a p) i) slot) (λ i slot. with_waiters (part_of (part_of b p) i) slot) 32 part (λ i slot le' lt'. ap (λ w. with_waiters w slot) (later_same a b p i same le')))

pub conditions_same : (a b : List (List (List ℕ))) (marks : List (List Bool)) → ready.waiters_of a ≡ ready.waiters_of b → conditions_by a marks ≡ conditions_by b marks
conditions_same a b marks same =
    numbered_same (λ p part. conditions_in (part_of a p) part) (λ p part. conditions_in (part_of b p) part) 0 marks (λ p part le lt.
    numbered_same (λ i is_used. condition_if is_used (part_of (part_of a p) i)) (λ i is_used. condition_if is_used (part_of (part_of b p) i)) 96 part (λ i is_used le' lt'. ap (condition_if is_used) (later_same a b p i same (omega (arith, le')))))

-- ---- one queue of waiters changed

-- the queue at a place of a partition
abbrev pub queue_set : List (List (List ℕ)) → ℕ → ℕ → List ℕ → List (List (List ℕ))
queue_set queues p i xs = set queues p (set (part_of queues p) i xs)

pub ready_same : (queues : List (List (List ℕ))) (p i : ℕ) (xs : List ℕ) → 32 ≤ i → ready.ready_queues (queue_set queues p i xs) ≡ ready.ready_queues queues
ready_same queues p i xs le = map-set_same (take 32) queues p (set (part_of queues p) i xs) [] (take-set-le 32 (part_of queues p) i xs le)

-- another queue of the partition
pub other_queue : (queues : List (List (List ℕ))) (p q i j : ℕ) (xs : List ℕ) → j ≢ i → part_of (part_of (queue_set queues p i xs) q) j ≡ part_of (part_of queues q) j
other_queue queues p q i j xs ne = elim (cases_eq q p) as (λ _. part_of (part_of (queue_set queues p i xs) q) j ≡ part_of (part_of queues q) j) [
  | inl e ↦ rw e (elim (le_or_gt (length queues) p) as (λ _. part_of (part_of (queue_set queues p i xs) p) j ≡ part_of (part_of queues p) j) [
    | inl past ↦ ap (λ z. part_of (part_of z p) j) (set_past queues p (set (part_of queues p) i xs) past)
    | inr lt ↦ ap (λ lists. part_of lists j) (get_or-set_same queues p (set (part_of queues p) i xs) [] lt) ∙ get_or-set_other (part_of queues p) i j xs [] ne
  ])
  | inr apart ↦ ap (λ lists. part_of lists j) (part_of-set_other queues p q (set (part_of queues p) i xs) apart)
]

-- what holds of a queue and of what is put in its place
pub queue_all : (P : List ℕ → Type 0) (queues : List (List (List ℕ))) (p i : ℕ) (xs : List ℕ) → P xs → P (part_of (part_of queues p) i) → P (part_of (part_of (queue_set queues p i xs) p) i)
queue_all P queues p i xs new old = elim (le_or_gt (length queues) p) as (λ _. P (part_of (part_of (queue_set queues p i xs) p) i)) [
  | inl past ↦ subst (λ z. P (part_of (part_of z p) i)) (sym (set_past queues p (set (part_of queues p) i xs) past)) old
  | inr lt ↦ subst (λ lists. P (part_of lists i)) (sym (get_or-set_same queues p (set (part_of queues p) i xs) [] lt)) (elim (le_or_gt (length (part_of queues p)) i) as (λ _. P (part_of (set (part_of queues p) i xs) i)) [
    | inl past ↦ subst (λ lists. P (part_of lists i)) (sym (set_past (part_of queues p) i xs past)) old
    | inr below ↦ subst P (sym (get_or-set_same (part_of queues p) i xs [] below)) new
  ])
]

mutexes_other : (queues : List (List (List ℕ))) (pool : List (Option Mutex)) (p q i : ℕ) (xs : List ℕ) → 32 + length pool ≤ i → mutexes_in (part_of (queue_set queues p i xs) q) pool ≡ mutexes_in (part_of queues q) pool
mutexes_other queues pool p q i xs le =
    numbered_same (λ j slot. with_waiters (part_of (part_of (queue_set queues p i xs) q) j) slot) (λ j slot. with_waiters (part_of (part_of queues q) j) slot) 32 pool (λ j slot from lt.
    ap (λ w. with_waiters w slot) (other_queue queues p q i j xs (λ e. absurd (omega (arith, e, lt, le)))))

-- mutexes where a condition variable's waiters change
pub mutexes_stay : (queues : List (List (List ℕ))) (mutexes : List (List (Option Mutex))) (p i : ℕ) (xs : List ℕ) → ((q : ℕ) → length (part_of mutexes q) ≤ 64) → 96 ≤ i → mutexes_by (queue_set queues p i xs) mutexes ≡ mutexes_by queues mutexes
mutexes_stay queues mutexes p i xs few le =
    ext_get_or [] (mutexes_by (queue_set queues p i xs) mutexes) (mutexes_by queues mutexes)
    (length-numbered (λ q part. mutexes_in (part_of (queue_set queues p i xs) q) part) 0 mutexes ∙ sym (length-numbered (λ p part. mutexes_in (part_of queues p) part) 0 mutexes))
    (λ q lt. part_mutexes (queue_set queues p i xs) mutexes q ∙ (mutexes_other queues (part_of mutexes q) p q i xs (omega (arith, few q, le)) ∙ sym (part_mutexes queues mutexes q)))

-- condition variables where a mutex's waiters change
pub conditions_stay : (queues : List (List (List ℕ))) (marks : List (List Bool)) (p i : ℕ) (xs : List ℕ) → i < 96 → conditions_by (queue_set queues p i xs) marks ≡ conditions_by queues marks
conditions_stay queues marks p i xs lt =
    numbered_same (λ q part. conditions_in (part_of (queue_set queues p i xs) q) part) (λ q part. conditions_in (part_of queues q) part) 0 marks (λ q part le below.
    numbered_same (λ j is_used. condition_if is_used (part_of (part_of (queue_set queues p i xs) q) j)) (λ j is_used. condition_if is_used (part_of (part_of queues q) j)) 96 part (λ j is_used from lt'.
    ap (condition_if is_used) (other_queue queues p q i j xs (λ e. absurd (omega (arith, e, from, lt))))))

-- the waiters of a mutex
waiters_moved : (lists : List (List ℕ)) (pool : List (Option Mutex)) (m : ℕ) (xs : List ℕ) → 0 < m → m + 31 < length lists → mutexes_in (set lists (m + 31) xs) pool ≡ pool_set (mutexes_in lists pool) m (with_waiters xs (pool_get pool m))
waiters_moved lists pool zero xs pos lt = absurd (omega (arith, pos))
waiters_moved lists pool (suc j) xs pos lt =
    let i = suc j + 31 in
    numbered_changed (λ n slot. with_waiters (part_of lists n) slot) (λ n slot. with_waiters (part_of (set lists i xs) n) slot) 32 j i pool None (omega arith) (λ n slot ne. ap (λ w. with_waiters w slot) (get_or-set_other lists i n xs [] ne))
    ∙ ap (set (mutexes_in lists pool) j) (ap (λ w. with_waiters w (get_or pool j None)) (get_or-set_same lists i xs [] lt) ∙ ap (with_waiters xs) (sym (flat_or pool j)))

pub mutexes_moved : (queues : List (List (List ℕ))) (mutexes : List (List (Option Mutex))) (p m : ℕ) (xs : List ℕ) (y : Option Mutex) → 0 < m → p < length queues → m + 31 < length (part_of queues p) → with_waiters xs (pool_get (part_of mutexes p) m) ≡ y
    → mutexes_by (queue_set queues p (m + 31) xs) mutexes ≡ set (mutexes_by queues mutexes) p (pool_set (part_of (mutexes_by queues mutexes) p) m y)
mutexes_moved queues mutexes p m xs y pos lt below is =
    numbered_changed (λ q part. mutexes_in (part_of queues q) part) (λ q part. mutexes_in (part_of (queue_set queues p (m + 31) xs) q) part) 0 p p mutexes [] (omega arith)
    (λ q part ne. ap (λ lists. mutexes_in lists part) (part_of-set_other queues p q (set (part_of queues p) (m + 31) xs) ne))
    ∙ ap (set (mutexes_by queues mutexes) p)
    (ap (λ lists. mutexes_in lists (part_of mutexes p)) (get_or-set_same queues p (set (part_of queues p) (m + 31) xs) [] lt)
    ∙ (waiters_moved (part_of queues p) (part_of mutexes p) m xs pos below ∙ (ap (λ l. pool_set l m (with_waiters xs (pool_get (part_of mutexes p) m))) (sym (part_mutexes queues mutexes p)) ∙ ap (pool_set (part_of (mutexes_by queues mutexes) p) m) is)))

-- the waiters of a condition variable
sleepers_moved : (lists : List (List ℕ)) (marks : List Bool) (c : ℕ) (xs : List ℕ) → 0 < c → c + 95 < length lists → conditions_in (set lists (c + 95) xs) marks ≡ pool_set (conditions_in lists marks) c (condition_if (is_marked marks c) xs)
sleepers_moved lists marks zero xs pos lt = absurd (omega (arith, pos))
sleepers_moved lists marks (suc j) xs pos lt =
    let i = suc j + 95 in
    numbered_changed (λ n is_used. condition_if is_used (part_of lists n)) (λ n is_used. condition_if is_used (part_of (set lists i xs) n)) 96 j i marks false (omega arith) (λ n is_used ne. ap (condition_if is_used) (get_or-set_other lists i n xs [] ne))
    ∙ ap (set (conditions_in lists marks) j) (ap (condition_if (get_or marks j false)) (get_or-set_same lists i xs [] lt) ∙ ap (λ b. condition_if b xs) (sym (mark_or marks j)))

pub conditions_moved : (queues : List (List (List ℕ))) (marks : List (List Bool)) (p c : ℕ) (xs : List ℕ) (y : Option Condition) → 0 < c → p < length queues → c + 95 < length (part_of queues p) → condition_if (is_marked (part_of marks p) c) xs ≡ y
    → conditions_by (queue_set queues p (c + 95) xs) marks ≡ set (conditions_by queues marks) p (pool_set (part_of (conditions_by queues marks) p) c y)
conditions_moved queues marks p c xs y pos lt below is =
    numbered_changed (λ q part. conditions_in (part_of queues q) part) (λ q part. conditions_in (part_of (queue_set queues p (c + 95) xs) q) part) 0 p p marks [] (omega arith)
    (λ q part ne. ap (λ lists. conditions_in lists part) (part_of-set_other queues p q (set (part_of queues p) (c + 95) xs) ne))
    ∙ ap (set (conditions_by queues marks) p)
    (ap (λ lists. conditions_in lists (part_of marks p)) (get_or-set_same queues p (set (part_of queues p) (c + 95) xs) [] lt)
    ∙ (sleepers_moved (part_of queues p) (part_of marks p) c xs pos below ∙ (ap (λ l. pool_set l c (condition_if (is_marked (part_of marks p) c) xs)) (sym (part_conditions queues marks p)) ∙ ap (pool_set (part_of (conditions_by queues marks) p) c) is)))

-- ---- which numbers are free

prefix_mutexes : (lists : List (List ℕ)) (i : ℕ) (pool : List (Option Mutex)) → prefix_len (λ x. not (is_none x)) (numbered_from (λ n slot. with_waiters (part_of lists n) slot) i pool) ≡ prefix_len (λ x. not (is_none x)) pool
prefix_mutexes lists i [] = refl
prefix_mutexes lists i (None ∷ pool) = refl
prefix_mutexes lists i (Some m ∷ pool) = ap (λ n. 1 + n) (prefix_mutexes lists (suc i) pool)

place_mutexes : (lists : List (List ℕ)) (pool : List (Option Mutex)) → position is_none (mutexes_in lists pool) ≡ position is_none pool
place_mutexes lists pool = rw (length-numbered (λ n slot. with_waiters (part_of lists n) slot) 32 pool, prefix_mutexes lists 32 pool) refl

prefix_conditions : (lists : List (List ℕ)) (i : ℕ) (marks : List Bool) → prefix_len (λ x. not (is_none x)) (numbered_from (λ n is_used. condition_if is_used (part_of lists n)) i marks) ≡ prefix_len (λ b. not (not b)) marks
prefix_conditions lists i [] = refl
prefix_conditions lists i (false ∷ marks) = refl
prefix_conditions lists i (true ∷ marks) = ap (λ n. 1 + n) (prefix_conditions lists (suc i) marks)

place_conditions : (lists : List (List ℕ)) (marks : List Bool) → position is_none (conditions_in lists marks) ≡ position (λ b. not b) marks
place_conditions lists marks = rw (length-numbered (λ n is_used. condition_if is_used (part_of lists n)) 96 marks, prefix_conditions lists 96 marks) refl

pub least_mutex : (queues : List (List (List ℕ))) (mutexes seen : List (List (Option Mutex))) (p : ℕ) → mutexes_by queues mutexes ≡ seen → option_map suc (position is_none (part_of mutexes p)) ≡ least_free (part_of seen p)
least_mutex queues mutexes seen p is = sym (ap least_free (part_mutexes queues mutexes p) ∙ ap (option_map suc) (place_mutexes (part_of queues p) (part_of mutexes p))) ∙ ap (λ z. least_free (part_of z p)) is

pub least_condition : (queues : List (List (List ℕ))) (marks : List (List Bool)) (seen : List (List (Option Condition))) (p : ℕ) → conditions_by queues marks ≡ seen → option_map suc (position (λ b. not b) (part_of marks p)) ≡ least_free (part_of seen p)
least_condition queues marks seen p is = sym (ap least_free (part_conditions queues marks p) ∙ ap (option_map suc) (place_conditions (part_of queues p) (part_of marks p))) ∙ ap (λ z. least_free (part_of z p)) is

is_some-condition : (b : Bool) (w : List ℕ) → is_some (condition_if b w) ≡ b
is_some-condition true w = refl
is_some-condition false w = refl

mark_below : (marks : List Bool) (c : ℕ) → 0 < c → get_or marks (c - 1) false ≡ is_marked marks c
mark_below marks zero pos = absurd (omega (arith, pos))
mark_below marks (suc j) pos = let e : suc j - 1 ≡ j = omega arith in rw e (sym (mark_or marks j))

pub is_some_at : (queues : List (List (List ℕ))) (marks : List (List Bool)) (seen : List (List (Option Condition))) (p c : ℕ) → 0 < c → conditions_by queues marks ≡ seen → get_or (part_of marks p) (c - 1) false ≡ is_some (pool_get (part_of seen p) c)
is_some_at queues marks seen p c pos is =
    mark_below (part_of marks p) c pos ∙ (sym (ap is_some (at_condition queues marks p c) ∙ is_some-condition (is_marked (part_of marks p) c) (part_of (part_of queues p) (c + 95))) ∙ ap (λ z. is_some (pool_get (part_of z p) c)) is)

-- ---- mutexes without their waiters

first_bare : (x : Option Mutex) (pool : List (Option Mutex)) → ((m : ℕ) → bare (pool_get (x ∷ pool) m) ≡ pool_get (x ∷ pool) m) → (m : ℕ) → bare (pool_get pool m) ≡ pool_get pool m
first_bare x pool each zero = refl
first_bare x pool each (suc i) = each (suc (suc i))

all_bare : (lists : List (List ℕ)) (i : ℕ) (pool : List (Option Mutex)) → ((m : ℕ) → bare (pool_get pool m) ≡ pool_get pool m) → map bare (numbered_from (λ n slot. with_waiters (part_of lists n) slot) i pool) ≡ pool
all_bare lists i [] each = refl
all_bare lists i (x ∷ pool) each =
    ap (λ y. y ∷ map bare (numbered_from (λ n slot. with_waiters (part_of lists n) slot) (suc i) pool)) (waiters_twice [] (part_of lists i) x ∙ each 1) ∙ ap (λ l. x ∷ l) (all_bare lists (suc i) pool (first_bare x pool each))

pub bare_at : (queues : List (List (List ℕ))) (mutexes seen : List (List (Option Mutex))) (p : ℕ) → mutexes_by queues mutexes ≡ seen → ((m : ℕ) → bare (pool_get (part_of mutexes p) m) ≡ pool_get (part_of mutexes p) m) → part_of mutexes p ≡ map bare (part_of seen p)
bare_at queues mutexes seen p is each = sym (all_bare (part_of queues p) 32 (part_of mutexes p) each) ∙ (ap (map bare) (sym (part_mutexes queues mutexes p)) ∙ ap (λ z. map bare (part_of z p)) is)
