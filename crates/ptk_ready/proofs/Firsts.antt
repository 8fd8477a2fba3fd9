-- The first thread of the greatest priority, by the greatest bit.
use Rattle.std.proofs.Common.{◌≡◌, ℕ, suc, ◌-◌, ◌<◌, ◌≤◌, List, [], ◌∷◌, Bool, true, refl, sym, ◌∙◌, ap, subst, arith, max, inl, inr}
use Rattle.std.specs.Prelude.{ℤ, find, filter, fold, ◌==◌, Some, None}
use Rattle.std.proofs.lemmas.Bool.{cases_Bool}
use Rattle.ptk_words.proofs.Lists.{in_here, in_head}
use Rattle.ptk_words.specs.Parts.{part_of}
use Rattle.ptk_words.specs.Pools.{is_in, greatest, first_of_greatest}
use Rattle.ptk_threads.specs.Table.{stored_of}
use Rattle.ptk_threads.specs.Links.{first_or}
use Rattle.ptk_threads.proofs.Along.{in_later, le_or_gt}
use Rattle.ptk_ready.specs.declared.stamps.StampRange.{StampRange}
use Rattle.ptk_ready.specs.Bits.{has_bit, IsGreatestBit}
use Rattle.ptk_ready.specs.Entries.{has_any}
use Rattle.ptk_ready.specs.Lines.{line_of, IsFiled}
use Rattle.ptk_ready.specs.Laws.{in_priority}
use Rattle.ptk_ready.proofs.Lists.{placed_in, member_queued, no_members}

-- ---- the greatest of a list

at_least : (rank : ℕ → ℕ) (a : ℕ) (ks : List ℕ) → a ≤ fold (λ most k. max most (rank k)) a ks
at_least rank a [] = omega arith
at_least rank a (k ∷ ks) = let rest = at_least rank (max a (rank k)) ks in omega (arith, rest)

each_least : (rank : ℕ → ℕ) (a b : ℕ) (ks : List ℕ) → is_in b ks ≡ true → rank b ≤ fold (λ most k. max most (rank k)) a ks
each_least rank a b [] h = absurd (cc)
each_least rank a b (k ∷ ks) h = elim (in_head k b ks h) as (λ _. rank b ≤ fold (λ most k. max most (rank k)) a (k ∷ ks)) [
  | inl e ↦ (let rest = at_least rank (max a (rank k)) ks in let same : rank b ≡ rank k = ap rank e in omega (arith, rest, same))
  | inr r ↦ each_least rank (max a (rank k)) b ks r
]

at_most : (rank : ℕ → ℕ) (a m : ℕ) (ks : List ℕ) → a ≤ m → ((k : ℕ) → is_in k ks ≡ true → rank k ≤ m) → fold (λ most k. max most (rank k)) a ks ≤ m
at_most rank a m [] le h = le
at_most rank a m (k ∷ ks) le h = let one = h k (in_here k ks) in
    at_most rank (max a (rank k)) m ks (omega (arith, le, one)) (λ j inside. h j (in_later j k ks inside))

greatest_is : (rank : ℕ → ℕ) (m b : ℕ) (ks : List ℕ) → ((k : ℕ) → is_in k ks ≡ true → rank k ≤ m) → is_in b ks ≡ true → rank b ≡ m → greatest rank ks ≡ m
greatest_is rank m b ks h inside e =
    let low = at_most rank 0 m ks (omega arith) h in
    let high = each_least rank 0 b ks inside in
    omega (arith, low, high, e)

-- ---- the first that passes

first_kept : (p : ℕ → Bool) (ks : List ℕ) → find p ks ≡ first_or None (filter p ks)
first_kept p [] = refl
first_kept p (k ∷ ks) = elim (cases_Bool (p k)) as (λ _. find p (k ∷ ks) ≡ first_or None (filter p (k ∷ ks))) [
  | inl does ↦ rw does refl
  | inr fails ↦ rw fails (first_kept p ks)
]

-- ---- the line

pub record Member (ks : List ℕ) : Type 0 where
  pub one : ℕ
  pub inside : is_in one ks ≡ true

some_member : (ks : List ℕ) → has_any ks ≡ true → Member ks
some_member [] h = absurd (cc)
some_member (k ∷ ks) h = record { one = k; inside = in_here k ks }

pub any_member : (k : ℕ) (ks : List ℕ) → is_in k ks ≡ true → has_any ks ≡ true
any_member k [] h = absurd (cc)
any_member k (j ∷ ks) h = refl

-- a thread of the line has its priority's bit
member_bit : (limit : ℕ) (range : StampRange) (lists : List (List ℕ)) (stored : List ℕ) (stamps : List ℤ) (bitmap : ℕ) → IsFiled limit range lists stored stamps bitmap
    → (k : ℕ) → is_in k (line_of lists stamps) ≡ true → (0 < stored_of stored k) × (stored_of stored k ≤ 32) × (has_bit bitmap (stored_of stored k - 1) ≡ true)
member_bit limit range lists stored stamps bitmap filed k inside =
    let at = placed_in lists k (member_queued lists stamps k inside) in
    let low : at.place < 32 = at.low in
    let level = (in_priority stored (suc at.place) k (line_of lists stamps) (subst (λ l. is_in k l ≡ true) (filed.lines at.place at.low) at.inside)).0 in
    let same : at.place ≡ stored_of stored k - 1 = omega (arith, level) in
    (omega (arith, level), omega (arith, level, low), ap (has_bit bitmap) (sym same) ∙ (filed.bits at.place at.low ∙ any_member k (part_of lists at.place) at.inside))

pub first_found : (limit : ℕ) (range : StampRange) (lists : List (List ℕ)) (stored : List ℕ) (stamps : List ℤ) (bitmap i : ℕ) → IsFiled limit range lists stored stamps bitmap → IsGreatestBit bitmap (Some i)
    → first_or None (part_of lists i) ≡ first_of_greatest (stored_of stored) (line_of lists stamps)
first_found limit range lists stored stamps bitmap i filed top =
    let xs = line_of lists stamps in
    let low : i < 32 = top.0 in
    let member = some_member (part_of lists i) (sym (filed.bits i low) ∙ top.1) in
    let own = in_priority stored (suc i) member.one xs (subst (λ l. is_in member.one l ≡ true) (filed.lines i low) member.inside) in
    let all : (k : ℕ) → is_in k xs ≡ true → stored_of stored k ≤ suc i = λ k inside.
    (let level = member_bit limit range lists stored stamps bitmap filed k inside in
    elim (le_or_gt (stored_of stored k) (suc i)) as (λ _. stored_of stored k ≤ suc i) [
      | inl le ↦ le
      | inr gt ↦ (let set = level.2 in let clear = top.2 (stored_of stored k - 1) (omega (arith, level.0, level.1)) (omega (arith, gt)) in absurd (cc))
    ]) in
    let most : greatest (stored_of stored) xs ≡ suc i = greatest_is (stored_of stored) (suc i) member.one xs all own.1 own.0 in
    ap (first_or None) (filed.lines i low)
    ∙ sym (ap (λ n. find (λ k. stored_of stored k == n) xs) most ∙ first_kept (λ k. stored_of stored k == suc i) xs)

pub none_found : (limit : ℕ) (range : StampRange) (lists : List (List ℕ)) (stored : List ℕ) (stamps : List ℤ) (bitmap : ℕ) → IsFiled limit range lists stored stamps bitmap → IsGreatestBit bitmap None
    → None ≡ first_of_greatest (stored_of stored) (line_of lists stamps)
none_found limit range lists stored stamps bitmap filed none =
    let empty : line_of lists stamps ≡ [] = no_members (line_of lists stamps) (λ k inside.
    (let level = member_bit limit range lists stored stamps bitmap filed k inside in
    let set = level.2 in
    let clear = none (stored_of stored k - 1) (omega (arith, level.0, level.1)) in absurd (cc))) in
    sym (ap (first_of_greatest (stored_of stored)) empty)
