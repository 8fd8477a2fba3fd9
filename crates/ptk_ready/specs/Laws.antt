-- What the lines depend on: the first 32 queues of each partition, and the stored priorities of threads in the line (own).
use Rattle.std.proofs.Common.{◌≡◌, ℕ, zero, suc, ◌<◌, List, [], ◌∷◌, length, take, Bool, true, false, ◌&&◌, refl, sym, ◌∙◌, ap, subst, arith, inl, inr}
use Rattle.std.specs.Prelude.{ℤ, filter, nat_eq, ◌==◌}
use Rattle.std.proofs.Math.ListN.{get_or-map}
use Rattle.std.proofs.lemmas.Bool.{eqb-true}
use Rattle.std.proofs.lemmas.List.{ext_get_or, get_or_past, get_or-take, length-map}
use Rattle.std.proofs.lemmas.Map.Views.{any-filter_same}
use Rattle.ptk_words.specs.Pools.{is_in, numbers_to}
use Rattle.ptk_words.proofs.Lists.{in_here}
use Rattle.ptk_words.specs.Parts.{part_of, joined}
use Rattle.ptk_threads.specs.Table.{ThreadTable, stored_of}
use Rattle.ptk_threads.proofs.Along.{in_later, le_or_gt, not_true}
use Rattle.ptk_ready.specs.Queues.{ready_queues}
use Rattle.ptk_ready.specs.declared.entries.LinkedEntries.{LinkedEntries}
use Rattle.ptk_ready.specs.declared.stamps.StampRange.{StampRange}
use Rattle.ptk_ready.specs.Orders.{in_order}
use Rattle.ptk_ready.specs.Entries.{stamp_of, of_priority, has_any}
use Rattle.ptk_ready.specs.Lines.{line_of, IsFiled}
use Rattle.ptk_ready.specs.Partitions.{entries_at, lines_by, AreFiled}

-- ---- filters

-- two tests that agree on the members of a list keep the same of it
pub filter_agree : (p q : ℕ → Bool) (xs : List ℕ) → ((k : ℕ) → is_in k xs ≡ true → p k ≡ q k) → filter p xs ≡ filter q xs
filter_agree p q [] h = refl
filter_agree p q (x ∷ xs) h = rw (h x (in_here x xs), filter_agree p q xs (λ k inside. h k (in_later k x xs inside))) refl

-- where two conditions hold together, each holds
both_true : (a b : Bool) → (a && b) ≡ true → (a ≡ true) × (b ≡ true)
both_true true true h = (refl, refl)
both_true true false h = absurd (cc)
both_true false b h = absurd (cc)

-- a thread of a priority's list has that priority, and is in the whole list
pub in_priority : (stored : List ℕ) (n k : ℕ) (xs : List ℕ) → is_in k (of_priority stored n xs) ≡ true → (stored_of stored k ≡ n) × (is_in k xs ≡ true)
in_priority stored n k xs h =
    let kept = any-filter_same (nat_eq k) (λ j. stored_of stored j == n) (stored_of stored k == n) (λ j e. ap (λ i. stored_of stored i == n) (sym (eqb-true k j e))) xs in
    let parts = both_true (stored_of stored k == n) (is_in k xs) (sym kept ∙ h) in
    (eqb-true (stored_of stored k) n parts.0, parts.1)

-- ---- one partition's line

-- the line depends on the first 32 queues alone
pub line_take : (a b : List (List ℕ)) (stamps : List ℤ) → take 32 a ≡ take 32 b → line_of a stamps ≡ line_of b stamps
line_take a b stamps same = ap (λ lists. in_order (stamp_of stamps) (filter (λ k. is_in k (joined lists)) (numbers_to 32))) same

-- the list of each of them depends on them alone
pub list_take : (a b : List (List ℕ)) (i : ℕ) → take 32 a ≡ take 32 b → i < 32 → part_of b i ≡ part_of a i
list_take a b i same lt = sym (get_or-take 32 b i [] lt) ∙ (ap (λ lists. part_of lists i) (sym same) ∙ get_or-take 32 a i [] lt)

-- the stored priorities of threads in the line alone
pub filed_take : (limit : ℕ) (range : StampRange) (a b : List (List ℕ)) (stored after : List ℕ) (stamps : List ℤ) (bitmap : ℕ) → take 32 a ≡ take 32 b → ((k : ℕ) → is_in k (line_of a stamps) ≡ true → stored_of after k ≡ stored_of stored k)
    → IsFiled limit range a stored stamps bitmap → IsFiled limit range b after stamps bitmap
filed_take limit range a b stored after stamps bitmap same levels filed = record {
  apart = λ j k x y e. filed.apart j k (subst (λ lists. is_in j (joined lists) ≡ true) (sym same) x) (subst (λ lists. is_in k (joined lists) ≡ true) (sym same) y) e;
  within = λ k inside. filed.within k (subst (λ lists. is_in k (joined lists) ≡ true) (sym same) inside);
  limits = filed.limits;
  lines = λ i lt. list_take a b i same lt ∙ (filed.lines i lt
      ∙ (filter_agree (λ k. stored_of stored k == suc i) (λ k. stored_of after k == suc i) (line_of a stamps) (λ k inside. ap (λ n. n == suc i) (sym (levels k inside)))
      ∙ ap (of_priority after (suc i)) (line_take a b stamps same)));
  bits = λ i lt. filed.bits i lt ∙ sym (ap has_any (list_take a b i same lt));
}

-- a member of a list of a priority is in the line
filed_member : (limit : ℕ) (range : StampRange) (lists : List (List ℕ)) (stored : List ℕ) (stamps : List ℤ) (bitmap k i : ℕ) → IsFiled limit range lists stored stamps bitmap → i < 32 → is_in k (part_of lists i) ≡ true → is_in k (line_of lists stamps) ≡ true
filed_member limit range lists stored stamps bitmap k i filed lt inside = (in_priority stored (suc i) k (line_of lists stamps) (subst (λ l. is_in k l ≡ true) (filed.lines i lt) inside)).1

-- ---- the lines of all partitions

-- a partition's line is made of its own queues and stamps
pub lines_at : {limit : ℕ} (line : List (LinkedEntries limit)) (queues : List (List (List ℕ))) (p : ℕ) → p < length line → part_of (lines_by line queues) p ≡ line_of (part_of queues p) (entries_at line p).stamps
lines_at [] queues p lt = absurd (omega (arith, lt))
lines_at (entries ∷ line) [] zero lt = refl
lines_at (entries ∷ line) [] (suc p) lt = lines_at line [] p (omega (arith, lt))
lines_at (entries ∷ line) (lists ∷ queues) zero lt = refl
lines_at (entries ∷ line) (lists ∷ queues) (suc p) lt = lines_at line queues p (omega (arith, lt))

-- there is a line for each partition that something is kept of
pub lines_long : {limit : ℕ} (line : List (LinkedEntries limit)) (queues : List (List (List ℕ))) → length (lines_by line queues) ≡ length line
lines_long [] queues = refl
lines_long (entries ∷ line) [] = ap suc (lines_long line [])
lines_long (entries ∷ line) (lists ∷ queues) = ap suc (lines_long line queues)

-- the first 32 lists of a partition are the same where the queues of ready threads are
first_same : (a b : List (List (List ℕ))) (p : ℕ) → ready_queues a ≡ ready_queues b → take 32 (part_of a p) ≡ take 32 (part_of b p)
first_same a b p same = sym (get_or-map (take 32) a p []) ∙ (ap (λ queues. part_of queues p) same ∙ get_or-map (take 32) b p [])

-- the lines depend on the queues of ready threads alone
pub lines_same : {limit : ℕ} (line : List (LinkedEntries limit)) (a b : List (List (List ℕ))) → ready_queues a ≡ ready_queues b → lines_by line a ≡ lines_by line b
lines_same line a b same =
    ext_get_or [] (lines_by line a) (lines_by line b) (lines_long line a ∙ sym (lines_long line b))
    (λ p lt. (let below : p < length line = omega (arith, lt, lines_long line a) in
    lines_at line a p below ∙ (line_take (part_of a p) (part_of b p) (entries_at line p).stamps (first_same a b p same) ∙ sym (lines_at line b p below))))

-- what holds of the queues beside the line holds of others with the same queues of ready threads, where the threads in the line have the same stored priorities
pub filed_same : (limit : ℕ) (line : List (LinkedEntries limit)) (a b : ThreadTable)
    → ((p k : ℕ) → is_in k (part_of (lines_by line a.queues) p) ≡ true → stored_of (part_of b.stored p) k ≡ stored_of (part_of a.stored p) k)
    → ready_queues a.queues ≡ ready_queues b.queues → AreFiled limit line a → AreFiled limit line b
filed_same limit line a b levels same filed = record {
  parts = filed.parts ∙ (sym (length-map a.queues (take 32)) ∙ (ap length same ∙ length-map b.queues (take 32)));
  each = λ p lt. filed_take limit (entries_at line p).range (part_of a.queues p) (part_of b.queues p) (part_of a.stored p) (part_of b.stored p) (entries_at line p).stamps (entries_at line p).bitmap (first_same a.queues b.queues p same)
      (λ k inside. levels p k (ap (is_in k) (lines_at line a.queues p lt) ∙ inside)) (filed.each p lt);
}

-- a thread that is not in a partition's line is in none of its queues of ready threads
pub filed_apart : (limit : ℕ) (line : List (LinkedEntries limit)) (a : ThreadTable) (p k i : ℕ) → AreFiled limit line a → is_in k (part_of (lines_by line a.queues) p) ≡ false → i < 32 → is_in k (part_of (part_of a.queues p) i) ≡ false
filed_apart limit line a p k i filed out lt = elim (le_or_gt (length line) p) as (λ _. is_in k (part_of (part_of a.queues p) i) ≡ false) [
  | inl past ↦ ap (λ lists. is_in k (part_of lists i)) (get_or_past a.queues p [] (omega (arith, past, filed.parts)))
  | inr below ↦ not_true (is_in k (part_of (part_of a.queues p) i)) (λ inside.
      (let there = filed_member limit (entries_at line p).range (part_of a.queues p) (part_of a.stored p) (entries_at line p).stamps (entries_at line p).bitmap k i (filed.each p below) lt inside in
      let here = ap (is_in k) (lines_at line a.queues p below) ∙ there in absurd (cc)))
]
