-- What a call of the slot table or of the line leaves of what holds of both.
use Rattle.std.proofs.Common.{◌≡◌, ℕ, zero, suc, ◌+◌, ◌<◌, ◌≤◌, List, [], ◌∷◌, ◌++◌, length, map, take, true, false, refl, sym, ◌∙◌, ap, subst, arith, get_or, inl, inr}
use Rattle.std.specs.Prelude.{IsSome, Option, Some, None, option_map, option_and_then, replicate, position, is_none, slice_get, slice_index}
use Rattle.std.specs.Option.{option_flatten}
use Rattle.std.proofs.Math.ListN.{set}
use Rattle.std.proofs.Math.Seq.{paste, paste-suc}
use Rattle.std.proofs.lemmas.List.Edits.{paste_all}
use Rattle.std.proofs.lemmas.Bool.{cases_eq}
use Rattle.std.proofs.lemmas.List.Quantifiers.{position-Some}
use Rattle.std.proofs.lemmas.List.{length-map, length-set, length-replicate, set_past, drop_all, append-nil, set-set, get_or-set_same, get_or-set_other}
use Rattle.ptk_words.specs.Pools.{pool_get, pool_set, pool_changed, least_free, is_in, without}
use Rattle.ptk_words.specs.declared.threads.Thread.{Thread}
use Rattle.ptk_words.proofs.Options.{mapped_some}
use Rattle.ptk_words.proofs.Lists.{in_here, in_head, out_of}
use Rattle.ptk_words.proofs.Pools.{changed_own, changed_other, get-set_other, least_free_none, pool_set_all}
use Rattle.ptk_words.specs.Parts.{part_of, filled}
use Rattle.ptk_threads.specs.Table.{ThreadTable, AreLevelsOf, free_table, thread_in, stored_of, with_changed, with_slot, with_new, with_new_at, with_left, with_rest, with_free, with_stored}
use Rattle.ptk_threads.proofs.Pools.{part_of-set, part_of-set_other}
use Rattle.ptk_threads.proofs.Along.{le_or_gt, not_true, in_later}
use Rattle.ptk_ready.specs.declared.entries.LinkedEntries.{LinkedEntries}
use Rattle.ptk_ready.specs.Lines.{without_one}
use Rattle.ptk_ready.proofs.Kept.{in_without}
use Rattle.ptk_ready.proofs.Moves.{stored_other}
use Rattle.ptk_ready.specs.Partitions.{lines_by, AreFiled}
use Rattle.ptk_ready.proofs.Partitions.{priority_out, stored_here}
use Rattle.ptk_ready.specs.Laws.{lines_long, filed_same}
use Rattle.ptk_roster.specs.Rosters.{IsLined}

-- ---- numbers in use

some_map : {A : Type 0} (f : A → A) (x : Option A) → IsSome (option_map f x) → IsSome x
some_map f None used = absurd (cc)
some_map f (Some a) used = refl

-- the same numbers are in use
pub record AreUsedAlike (a b : ThreadTable) : Type 0 where
  pub still : (p k : ℕ) → IsSome (thread_in a p k) → IsSome (thread_in b p k)
  pub before : (p k : ℕ) → IsSome (thread_in b p k) → IsSome (thread_in a p k)

changed_still : (k j : ℕ) (f : Thread → Thread) (threads : List (Option Thread)) → IsSome (pool_get threads j) → IsSome (pool_get (pool_changed k f threads) j)
changed_still k j f threads used = elim (cases_eq j k) as (λ _. IsSome (pool_get (pool_changed k f threads) j)) [
  | inl e ↦ subst (λ z. IsSome (pool_get (pool_changed k f threads) z)) (sym e) (rw (changed_own k f threads) (mapped_some f (pool_get threads k) (subst (λ z. IsSome (pool_get threads z)) e used)))
  | inr ne ↦ rw (changed_other k j f threads ne) used
]

changed_before : (k j : ℕ) (f : Thread → Thread) (threads : List (Option Thread)) → IsSome (pool_get (pool_changed k f threads) j) → IsSome (pool_get threads j)
changed_before k j f threads used = elim (cases_eq j k) as (λ _. IsSome (pool_get threads j)) [
  | inl e ↦ subst (λ z. IsSome (pool_get threads z)) (sym e) (some_map f (pool_get threads k) (subst IsSome (changed_own k f threads) (subst (λ z. IsSome (pool_get (pool_changed k f threads) z)) e used)))
  | inr ne ↦ subst IsSome (changed_other k j f threads ne) used
]

pub changed_alike : (p k : ℕ) (f : Thread → Thread) (table : ThreadTable) → p < length table.threads → AreUsedAlike table (with_changed p k f table)
changed_alike p k f table lt = record {
  still = λ q j used. elim (cases_eq q p) as (λ _. IsSome (thread_in (with_changed p k f table) q j)) [
    | inl e ↦ subst (λ z. IsSome (thread_in (with_changed p k f table) z j)) (sym e)
        (rw (part_of-set table.threads p (pool_changed k f (part_of table.threads p)) lt) (changed_still k j f (part_of table.threads p) (subst (λ z. IsSome (thread_in table z j)) e used)))
    | inr ne ↦ rw (part_of-set_other table.threads p q (pool_changed k f (part_of table.threads p)) ne) used
  ];
  before = λ q j used. elim (cases_eq q p) as (λ _. IsSome (thread_in table q j)) [
    | inl e ↦ subst (λ z. IsSome (thread_in table z j)) (sym e)
        (changed_before k j f (part_of table.threads p) (subst (λ part. IsSome (pool_get part j)) (part_of-set table.threads p (pool_changed k f (part_of table.threads p)) lt) (subst (λ z. IsSome (thread_in (with_changed p k f table) z j)) e used)))
    | inr ne ↦ subst (λ part. IsSome (pool_get part j)) (part_of-set_other table.threads p q (pool_changed k f (part_of table.threads p)) ne) used
  ];
}

-- ---- a field of a thread changed

pub kept : (limit : ℕ) (line : List (LinkedEntries limit)) (a b : ThreadTable) → b.queues ≡ a.queues → b.stored ≡ a.stored → length b.threads ≡ length a.threads → AreUsedAlike a b → IsLined limit line a → IsLined limit line b
kept limit line a b queues stored long alike roster = record {
  parts = roster.parts ∙ sym long;
  listed = λ p k inside. alike.still p k (roster.listed p k (subst (λ z. is_in k (part_of (lines_by line z) p) ≡ true) queues inside));
  levels = λ p. record {
    greatest = λ k. rw stored ((roster.levels p).greatest k);
    least = λ k used. rw stored ((roster.levels p).least k (alike.before p k used));
  };
  filed = filed_same limit line a b (λ p k inside. ap (λ z. stored_of (part_of z p) k) stored) (ap (map (take 32)) (sym queues)) roster.filed;
}

pub changed_roster : (limit : ℕ) (line : List (LinkedEntries limit)) (p k : ℕ) (f : Thread → Thread) (a b : ThreadTable) → b ≡ with_changed p k f a → p < length a.threads → IsLined limit line a → IsLined limit line b
changed_roster limit line p k f a b e lt roster =
    rw e (kept limit line a (with_changed p k f a) refl refl (length-set a.threads p (pool_changed k f (part_of a.threads p))) (changed_alike p k f a lt) roster)

-- ---- the line changed

pub moved_roster : (limit : ℕ) (line late : List (LinkedEntries limit)) (a b : ThreadTable) (p : ℕ) (xs : List ℕ) → IsLined limit line a → AreFiled limit late b → b.threads ≡ a.threads → b.stored ≡ a.stored
    → lines_by late b.queues ≡ set (lines_by line a.queues) p xs → ((j : ℕ) → is_in j xs ≡ true → IsSome (thread_in a p j)) → IsLined limit late b
moved_roster limit line late a b p xs roster filed threads stored lines used = record {
  parts = sym (lines_long late b.queues) ∙ (ap length lines ∙ (length-set (lines_by line a.queues) p xs ∙ (lines_long line a.queues ∙ (roster.parts ∙ ap length (sym threads)))));
  listed = λ q j inside. subst (λ z. IsSome (pool_get (part_of z q) j)) (sym threads) (elim (cases_eq q p) as (λ _. IsSome (thread_in a q j)) [
    | inl e ↦ elim (le_or_gt (length (lines_by line a.queues)) p) as (λ _. IsSome (thread_in a q j)) [
      | inl past ↦ roster.listed q j (subst (λ z. is_in j (part_of z q) ≡ true) (lines ∙ set_past (lines_by line a.queues) p xs past) inside)
      | inr lt ↦ subst (λ z. IsSome (thread_in a z j)) (sym e) (used j (subst (λ z. is_in j z ≡ true) (get_or-set_same (lines_by line a.queues) p xs [] lt) (subst (λ z. is_in j (part_of z p) ≡ true) lines (subst (λ z. is_in j (part_of (lines_by late b.queues) z) ≡ true) e inside))))
    ]
    | inr ne ↦ roster.listed q j (subst (λ z. is_in j z ≡ true) (get_or-set_other (lines_by line a.queues) p q xs [] ne) (subst (λ z. is_in j (part_of z q) ≡ true) lines inside))
  ]);
  levels = λ q. record {
    greatest = λ j. rw stored ((roster.levels q).greatest j);
    least = λ j in_use. rw stored ((roster.levels q).least j (subst (λ z. IsSome (pool_get (part_of z q) j)) threads in_use));
  };
  filed = filed;
}

pub first_used : (a : ThreadTable) (p k : ℕ) (xs : List ℕ) → IsSome (thread_in a p k) → ((j : ℕ) → is_in j xs ≡ true → IsSome (thread_in a p j)) → (j : ℕ) → is_in j (k ∷ xs) ≡ true → IsSome (thread_in a p j)
first_used a p k xs own rest = λ j inside. elim (in_head k j xs inside) as (λ _. IsSome (thread_in a p j)) [
  | inl e ↦ subst (λ z. IsSome (thread_in a p z)) (sym e) own
  | inr there ↦ rest j there
]

pub last_used : (a : ThreadTable) (p k : ℕ) (xs : List ℕ) → IsSome (thread_in a p k) → ((j : ℕ) → is_in j xs ≡ true → IsSome (thread_in a p j)) → (j : ℕ) → is_in j (xs ++ k ∷ []) ≡ true → IsSome (thread_in a p j)
last_used a p k [] own rest = first_used a p k [] own rest
last_used a p k (x ∷ xs) own rest = λ j inside. elim (in_head x j (xs ++ k ∷ []) inside) as (λ _. IsSome (thread_in a p j)) [
  | inl e ↦ rest j (subst (λ z. is_in z (x ∷ xs) ≡ true) (sym e) (in_here x xs))
  | inr there ↦ last_used a p k xs own (λ i h. rest i (in_later i x xs h)) j there
]

pub without_used : (a : ThreadTable) (p k : ℕ) (xs : List ℕ) → ((j : ℕ) → is_in j xs ≡ true → IsSome (thread_in a p j)) → (j : ℕ) → is_in j (without k xs) ≡ true → IsSome (thread_in a p j)
without_used a p k xs rest = λ j inside. rest j (in_without j k xs inside)

pub without_one_used : (a : ThreadTable) (p : ℕ) (k : Option ℕ) (xs : List ℕ) → ((j : ℕ) → is_in j xs ≡ true → IsSome (thread_in a p j)) → (j : ℕ) → is_in j (without_one k xs) ≡ true → IsSome (thread_in a p j)
without_one_used a p None xs rest = rest
without_one_used a p (Some k) xs rest = without_used a p k xs rest

-- ---- an entry of the table changed with its stored priority

index_all : (P : ℕ → Type 0) (stored : List ℕ) (i j level : ℕ) → P level → P (slice_index stored j) → P (slice_index (set stored i level) j)
index_all P [] i j level own h = h
index_all P (y ∷ stored) zero zero level own h = own
index_all P (y ∷ stored) zero (suc j) level own h = h
index_all P (y ∷ stored) (suc i) zero level own h = h
index_all P (y ∷ stored) (suc i) (suc j) level own h = index_all P stored i j level own h

-- what holds of all stored priorities
pub stored_all : (P : ℕ → Type 0) (stored : List ℕ) (k j level : ℕ) → P level → P (stored_of stored j) → P (stored_of (pool_set stored k level) j)
stored_all P stored zero j level own h = h
stored_all P stored (suc i) zero level own h = h
stored_all P stored (suc i) (suc j) level own h = index_all P stored i j level own h

none_used : {A : Type 0} (pool : List (Option A)) (i : ℕ) → IsSome (option_flatten (slice_get (set pool i None) i)) → ⊥
none_used [] i used = absurd (cc)
none_used (y ∷ pool) zero used = absurd (cc)
none_used (y ∷ pool) (suc i) used = none_used pool i used

-- a number that was made free is not in use
free_unused : {A : Type 0} (pool : List (Option A)) (k : ℕ) → IsSome (pool_get (pool_set pool k None) k) → ⊥
free_unused pool zero used = absurd (cc)
free_unused pool (suc i) used = none_used pool i used

slot_levels : (threads : List (Option Thread)) (stored : List ℕ) (k level : ℕ) (slot : Option Thread) → level ≤ 32 → (IsSome (pool_get (pool_set threads k slot) k) → 0 < stored_of (pool_set stored k level) k) → AreLevelsOf threads stored
    → AreLevelsOf (pool_set threads k slot) (pool_set stored k level)
slot_levels threads stored k level slot le own levels = record {
  greatest = λ j. stored_all (λ z. z ≤ 32) stored k j level le (levels.greatest j);
  least = λ j used. elim (cases_eq j k) as (λ _. 0 < stored_of (pool_set stored k level) j) [
    | inl e ↦ subst (λ z. 0 < stored_of (pool_set stored k level) z) (sym e) (own (subst (λ z. IsSome (pool_get (pool_set threads k slot) z)) e used))
    | inr ne ↦ rw (stored_other stored k level j ne) (levels.least j (subst IsSome (get-set_other k j slot threads ne) used))
  ];
}

-- the entry and the stored priority of a number that is not in the line
pub slot_roster : (limit : ℕ) (line : List (LinkedEntries limit)) (p k level : ℕ) (slot : Option Thread) (a : ThreadTable) → p < length a.threads → level ≤ 32
    → (IsSome (pool_get (pool_set (part_of a.threads p) k slot) k) → 0 < stored_of (pool_set (part_of a.stored p) k level) k)
    → is_in k (part_of (lines_by line a.queues) p) ≡ false → IsLined limit line a → IsLined limit line (with_slot p k slot level a)
slot_roster limit line p k level slot a lt le own out roster =
    let threads : part_of (with_slot p k slot level a).threads p ≡ pool_set (part_of a.threads p) k slot = part_of-set a.threads p (pool_set (part_of a.threads p) k slot) lt in
    let stored : part_of (with_slot p k slot level a).stored p ≡ pool_set (part_of a.stored p) k level = stored_here a.stored p k level in
    record {
      parts = roster.parts ∙ sym (length-set a.threads p (pool_set (part_of a.threads p) k slot));
      listed = λ q j inside. elim (cases_eq q p) as (λ _. IsSome (thread_in (with_slot p k slot level a) q j)) [
        | inl e ↦ subst (λ z. IsSome (thread_in (with_slot p k slot level a) z j)) (sym e)
            (let here : is_in j (part_of (lines_by line a.queues) p) ≡ true = subst (λ z. is_in j (part_of (lines_by line a.queues) z) ≡ true) e inside in
            rw (threads, get-set_other k j slot (part_of a.threads p) (out_of j k (part_of (lines_by line a.queues) p) out here)) (roster.listed p j here))
        | inr ne ↦ rw (part_of-set_other a.threads p q (pool_set (part_of a.threads p) k slot) ne) (roster.listed q j inside)
      ];
      levels = λ q. elim (cases_eq q p) as (λ _. AreLevelsOf (part_of (with_slot p k slot level a).threads q) (part_of (with_slot p k slot level a).stored q)) [
        | inl e ↦ subst (λ z. AreLevelsOf (part_of (with_slot p k slot level a).threads z) (part_of (with_slot p k slot level a).stored z)) (sym e)
            (rw (threads, stored) (slot_levels (part_of a.threads p) (part_of a.stored p) k level slot le own (roster.levels p)))
        | inr ne ↦ rw (part_of-set_other a.threads p q (pool_set (part_of a.threads p) k slot) ne, part_of-set_other a.stored p q (pool_set (part_of a.stored p) k level) ne) (roster.levels q)
      ];
      filed = filed_same limit line (with_stored p k level a) (with_slot p k slot level a) (λ q j inside. refl) refl (priority_out limit line a p k level roster.filed out);
    }

pub free_roster : (limit : ℕ) (line : List (LinkedEntries limit)) (p k : ℕ) (a : ThreadTable) → p < length a.threads → is_in k (part_of (lines_by line a.queues) p) ≡ false → IsLined limit line a → IsLined limit line (with_free p k a)
free_roster limit line p k a lt out roster = slot_roster limit line p k 0 None a lt (omega arith) (λ used. absurd (free_unused (part_of a.threads p) k used)) out roster

no_zero : (o : Option ℕ) → option_map suc o ≡ Some 0 → ⊥
no_zero None e = absurd (cc)
no_zero (Some j) e = absurd (cc)

index_here : (stored : List ℕ) (i level : ℕ) → i < length stored → slice_index (set stored i level) i ≡ level
index_here [] i level lt = absurd (omega (arith, lt))
index_here (x ∷ stored) zero level lt = refl
index_here (x ∷ stored) (suc i) level lt = index_here stored i level (omega (arith, lt))

free_within : {A : Type 0} (pool : List (Option A)) (free : Option ℕ) (i : ℕ) → position is_none pool ≡ free → option_map suc free ≡ Some (suc i) → i < length pool
free_within pool None i at e = absurd (cc e)
free_within pool (Some j) i at e = let same : j ≡ i = cc in subst (λ (k : ℕ). k < length pool) same (position-Some is_none pool j None at).0

new_level : {A : Type 0} (pool : List (Option A)) (stored : List ℕ) (k level : ℕ) → least_free pool ≡ Some k → length stored ≡ length pool → stored_of (pool_set stored k level) k ≡ level
new_level pool stored zero level e same = absurd (no_zero (position is_none pool) e)
new_level pool stored (suc i) level e same = index_here stored i level (let lt : i < length pool = free_within pool (position is_none pool) i refl e in omega (arith, lt, same))

new_at : (limit : ℕ) (line : List (LinkedEntries limit)) (p : ℕ) (thread : Thread) (a : ThreadTable) (free : Option ℕ) → least_free (part_of a.threads p) ≡ free → p < length a.threads → 0 < thread.priority → thread.priority ≤ 32 → length (part_of a.stored p) ≡ length (part_of a.threads p)
    → IsLined limit line a → IsLined limit line (with_new_at free p thread a)
new_at limit line p thread a None e lt least le same roster = roster
new_at limit line p thread a (Some k) e lt least le same roster =
    slot_roster limit line p k thread.priority (Some thread) a lt le (λ used. rw (new_level (part_of a.threads p) (part_of a.stored p) k thread.priority e same) least)
    (not_true (is_in k (part_of (lines_by line a.queues) p)) (λ inside. (let used = roster.listed p k inside in let free = least_free_none (part_of a.threads p) k e in absurd (cc))))
    roster

pub new_roster : (limit : ℕ) (line : List (LinkedEntries limit)) (p : ℕ) (thread : Thread) (a : ThreadTable) → p < length a.threads → 0 < thread.priority → thread.priority ≤ 32 → length (part_of a.stored p) ≡ length (part_of a.threads p)
    → IsLined limit line a → IsLined limit line (with_new p thread a)
new_roster limit line p thread a lt least le same roster = new_at limit line p thread a (least_free (part_of a.threads p)) refl lt least le same roster

-- ---- what is left at a number

left_used : {A : Type 0} (f : A → Option A) (x : Option A) (a : A) → option_and_then f x ≡ Some a → IsSome x
left_used f None a e = absurd (cc)
left_used f (Some b) a e = refl

rest_alike : (p k : ℕ) (thread : Thread) (a : ThreadTable) → p < length a.threads → IsSome (thread_in a p k) → AreUsedAlike a (with_rest p k (Some thread) a)
rest_alike p k thread a lt own =
    let here : part_of (with_rest p k (Some thread) a).threads p ≡ pool_set (part_of a.threads p) k (Some thread) = part_of-set a.threads p (pool_set (part_of a.threads p) k (Some thread)) lt in
    record {
      still = λ q j used. elim (cases_eq q p) as (λ _. IsSome (thread_in (with_rest p k (Some thread) a) q j)) [
        | inl e ↦ subst (λ z. IsSome (thread_in (with_rest p k (Some thread) a) z j)) (sym e) (rw here (pool_set_all IsSome (part_of a.threads p) k j (Some thread) refl (subst (λ z. IsSome (thread_in a z j)) e used)))
        | inr ne ↦ rw (part_of-set_other a.threads p q (pool_set (part_of a.threads p) k (Some thread)) ne) used
      ];
      before = λ q j used. elim (cases_eq q p) as (λ _. IsSome (thread_in a q j)) [
        | inl e ↦ subst (λ z. IsSome (thread_in a z j)) (sym e)
            (let there : IsSome (pool_get (pool_set (part_of a.threads p) k (Some thread)) j) = subst (λ z. IsSome (pool_get z j)) here (subst (λ z. IsSome (thread_in (with_rest p k (Some thread) a) z j)) e used) in
            elim (cases_eq j k) as (λ _. IsSome (thread_in a p j)) [
              | inl same ↦ subst (λ z. IsSome (thread_in a p z)) (sym same) own
              | inr apart ↦ subst IsSome (get-set_other k j (Some thread) (part_of a.threads p) apart) there
            ])
        | inr ne ↦ subst (λ z. IsSome (pool_get z j)) (part_of-set_other a.threads p q (pool_set (part_of a.threads p) k (Some thread)) ne) used
      ];
    }

rest_roster : (limit : ℕ) (line : List (LinkedEntries limit)) (p k : ℕ) (rest : Option Thread) (a : ThreadTable) → p < length a.threads → ((thread : Thread) → rest ≡ Some thread → IsSome (thread_in a p k))
    → (rest ≡ None → is_in k (part_of (lines_by line a.queues) p) ≡ false) → IsLined limit line a → IsLined limit line (with_rest p k rest a)
rest_roster limit line p k None a lt used out roster = free_roster limit line p k a lt (out refl) roster
rest_roster limit line p k (Some thread) a lt used out roster =
    kept limit line a (with_rest p k (Some thread) a) refl refl (length-set a.threads p (pool_set (part_of a.threads p) k (Some thread))) (rest_alike p k thread a lt (used thread refl)) roster

pub left_roster : (limit : ℕ) (line : List (LinkedEntries limit)) (p k : ℕ) (f : Thread → Option Thread) (a : ThreadTable) → p < length a.threads
    → (option_and_then f (thread_in a p k) ≡ None → is_in k (part_of (lines_by line a.queues) p) ≡ false) → IsLined limit line a → IsLined limit line (with_left p k f a)
left_roster limit line p k f a lt out roster = rest_roster limit line p k (option_and_then f (thread_in a p k)) a lt (λ thread e. left_used f (thread_in a p k) thread e) out roster

-- ---- a stored priority

pub stored_roster : (limit : ℕ) (line late : List (LinkedEntries limit)) (a b : ThreadTable) (p k level : ℕ) → IsLined limit line a → AreFiled limit late b → lines_by late b.queues ≡ lines_by line a.queues → b.threads ≡ a.threads
    → b.stored ≡ set a.stored p (pool_set (part_of a.stored p) k level) → level ≤ 32 → (IsSome (thread_in a p k) → 0 < level) → IsLined limit late b
stored_roster limit line late a b p k level roster filed lines threads stored le own = record {
  parts = sym (lines_long late b.queues) ∙ (ap length lines ∙ (lines_long line a.queues ∙ (roster.parts ∙ ap length (sym threads))));
  listed = λ q j inside. rw threads (roster.listed q j (subst (λ z. is_in j (part_of z q) ≡ true) lines inside));
  levels = λ q. rw (threads, stored) (elim (cases_eq q p) as (λ _. AreLevelsOf (part_of a.threads q) (part_of (set a.stored p (pool_set (part_of a.stored p) k level)) q)) [
    | inl e ↦ subst (λ z. AreLevelsOf (part_of a.threads z) (part_of (set a.stored p (pool_set (part_of a.stored p) k level)) z)) (sym e)
        (rw (stored_here a.stored p k level) (record {
          greatest = λ j. stored_all (λ z. z ≤ 32) (part_of a.stored p) k j level le ((roster.levels p).greatest j);
          least = λ j used. elim (cases_eq j k) as (λ _. 0 < stored_of (pool_set (part_of a.stored p) k level) j) [
            | inl same ↦ stored_all (λ z. 0 < z) (part_of a.stored p) k j level (own (subst (λ z. IsSome (thread_in a p z)) same used)) ((roster.levels p).least j used)
            | inr apart ↦ rw (stored_other (part_of a.stored p) k level j apart) ((roster.levels p).least j used)
          ];
        }))
    | inr ne ↦ rw (part_of-set_other a.stored p q (pool_set (part_of a.stored p) k level) ne) (roster.levels q)
  ]);
  filed = filed;
}

-- ---- a new roster

unused_free : (n k : ℕ) → IsSome (pool_get (replicate {A = Option Thread} n None) k) → ⊥
unused_free n zero used = absurd (cc)
unused_free zero (suc i) used = absurd (cc)
unused_free (suc n) (suc zero) used = absurd (cc)
unused_free (suc n) (suc (suc i)) used = unused_free n (suc i) used

none_free : (counts : List ℕ) (p k : ℕ) → IsSome (pool_get (part_of (map (filled {X = Option Thread} None) counts) p) k) → ⊥
none_free [] p zero used = absurd (cc)
none_free [] p (suc i) used = absurd (cc)
none_free (n ∷ counts) zero k used = unused_free n k used
none_free (n ∷ counts) (suc p) k used = none_free counts p k used

zero_filled : (n k : ℕ) → stored_of (replicate n 0) k ≡ 0
zero_filled n zero = refl
zero_filled zero (suc i) = refl
zero_filled (suc n) (suc zero) = refl
zero_filled (suc n) (suc (suc i)) = zero_filled n (suc i)

zero_stored : (counts : List ℕ) (p k : ℕ) → stored_of (part_of (map (filled 0) counts) p) k ≡ 0
zero_stored [] p zero = refl
zero_stored [] p (suc i) = refl
zero_stored (n ∷ counts) zero k = zero_filled n k
zero_stored (n ∷ counts) (suc p) k = zero_stored counts p k

nobody : (n p k : ℕ) → is_in k (part_of {X = ℕ} (replicate n []) p) ≡ true → ⊥
nobody zero p k inside = absurd (cc)
nobody (suc n) zero k inside = absurd (cc)
nobody (suc n) (suc p) k inside = nobody n p k inside

pub built_roster : (limit : ℕ) (line : List (LinkedEntries limit)) (counts : List ℕ) → lines_by line (free_table counts).queues ≡ replicate (length counts) [] → AreFiled limit line (free_table counts) → IsLined limit line (free_table counts)
built_roster limit line counts empty filed = record {
  parts = sym (lines_long line (free_table counts).queues) ∙ (ap length empty ∙ (length-replicate (length counts) [] ∙ sym (length-map counts (filled None))));
  listed = λ p k inside. absurd (nobody (length counts) p k (subst (λ z. is_in k (part_of z p) ≡ true) empty inside));
  levels = λ p. record {
    greatest = λ k. rw (zero_stored counts p k) (omega arith);
    least = λ k used. absurd (none_free counts p k used);
  };
  filed = filed;
}

-- ---- priorities stored one after another

bounded_rest : (x : ℕ) (priorities : List ℕ) (k : ℕ) → ((j : ℕ) → stored_of (x ∷ priorities) j ≤ 32) → stored_of priorities k ≤ 32
bounded_rest x priorities zero bound = omega arith
bounded_rest x priorities (suc i) bound = bound (suc (suc i))

pub level_at : (priorities : List ℕ) (i : ℕ) → ((k : ℕ) → stored_of priorities k ≤ 32) → i < length priorities → get_or priorities i 0 ≤ 32
level_at [] i bound lt = absurd (omega (arith, lt))
level_at (x ∷ priorities) zero bound lt = bound 1
level_at (x ∷ priorities) (suc i) bound lt = level_at priorities i (λ k. bounded_rest x priorities k bound) (omega (arith, lt))

-- so many are stored
abbrev pub with_pasted : ℕ → List ℕ → ℕ → ThreadTable → ThreadTable
with_pasted p priorities i table = record table { stored = set table.stored p (paste (part_of table.stored p) 0 priorities i) }

-- a partition with a number has a list
part_within : {X : Type 0} (parts : List (List X)) (p i : ℕ) → i < length (part_of parts p) → p < length parts
part_within [] p i lt = absurd (omega (arith, lt))
part_within (part ∷ parts) zero i lt = omega arith
part_within (part ∷ parts) (suc p) i lt = let rest : p < length parts = part_within parts p i lt in omega (arith, rest)

pub pasted_more : (p i k level n : ℕ) (priorities : List ℕ) (first now late : ThreadTable) → now ≡ with_pasted p priorities i first → late ≡ with_stored p k level now → k ≡ suc i → level ≡ get_or priorities i 0
    → length (part_of first.stored p) ≡ length priorities → i < length priorities → n ≡ suc i → late ≡ with_pasted p priorities n first
pasted_more p i k level n priorities first now late is then at told same below next =
    let lt : p < length first.stored = part_within first.stored p i (omega (arith, same, below)) in
    let here : part_of (set first.stored p (paste (part_of first.stored p) 0 priorities i)) p ≡ paste (part_of first.stored p) 0 priorities i = part_of-set first.stored p (paste (part_of first.stored p) 0 priorities i) lt in
    let shift : i ≡ 0 + i = omega arith in
    then ∙ (ap (with_stored p k level) is
    ∙ ap (λ (stored : List (List ℕ)). record first { stored = stored })
    (ap (set (set first.stored p (paste (part_of first.stored p) 0 priorities i)) p) (ap (λ xs. pool_set xs k level) here ∙ (ap (λ z. pool_set (paste (part_of first.stored p) 0 priorities i) z level) at
    ∙ (ap (λ z. set (paste (part_of first.stored p) 0 priorities i) z level) shift ∙ (ap (set (paste (part_of first.stored p) 0 priorities i) (0 + i)) told ∙ paste-suc (part_of first.stored p) 0 priorities i 0 (omega (arith, below, same)) below) ∙ ap (paste (part_of first.stored p) 0 priorities) (sym next))))
    ∙ set-set first.stored p (paste (part_of first.stored p) 0 priorities i) (paste (part_of first.stored p) 0 priorities n)))

pub pasted_all : (p i : ℕ) (priorities : List ℕ) (table : ThreadTable) → i ≡ length priorities → length (part_of table.stored p) ≡ length priorities
    → with_pasted p priorities i table ≡ record table { stored = set table.stored p priorities }
pasted_all p i priorities table all same = ap (λ (xs : List ℕ). record table { stored = set table.stored p xs })
    (paste_all (part_of table.stored p) 0 priorities i all ∙ (ap (λ xs. priorities ++ xs) (drop_all (0 + i) (part_of table.stored p) (omega (arith, all, same))) ∙ append-nil priorities))
