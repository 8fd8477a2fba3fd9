-- The least due pair of a partition's slots is its next expiry by thread number.
use Rattle.std.proofs.Common.{◌≡◌, ℕ, zero, suc, ◌+◌, ◌-◌, ◌<◌, ◌≤◌, List, [], ◌∷◌, length, replicate, Bool, true, false, cond, refl, sym, ◌∙◌, ap, subst, arith, Option, Some, None, inl, inr}
use Rattle.std.specs.Prelude.{nat_eq, ◌==◌, find, option_map, slice_get, IfSome}
use Rattle.std.specs.Option.{option_flatten}
use Rattle.std.proofs.lemmas.Bool.{cases_lt, eqb-true, or_from}
use Rattle.std.proofs.lemmas.Bool.Decides.{nat_tests}
use Rattle.std.proofs.lemmas.Option.{none-some, same_Some}
use Rattle.ptk_words.specs.Names.{Tick}
use Rattle.ptk_words.specs.Pools.{pool_get, is_in}
use Rattle.ptk_words_sync_invariant.specs.Withdrawal as withdrawal
use Rattle.ptk_words_sync_invariant.specs.Withdrawal.{Expiry}
use Rattle.ptk_words_sync_invariant.specs.Expiries.{next_expiry, IsLeastDue, IsNoneDue, IsNextExpiry}
use Rattle.ptk_words_sync_invariant.proofs.Expiries.{next_only}
use Rattle.ptk_clock.specs.Pairs.{Pair, slots_of, is_before, IsBeforeAll, AreInOrder, IsLeast, is_due, least_due}
use Rattle.ptk_clock.specs.BySlot.{deadline_at, deadlines_from, expiry_from}
use Rattle.ptk_clock.proofs.BySlot.{deadline_at-cons, own_slot}
use Rattle.ptk_clock.proofs.Leasts.{least-due}

-- ---- a pair by its slot

-- the first pair of a list is the slot's, or another
by_first : (P : Type 0) (x : Pair) (xs : List Pair) (q d : ℕ) (b : Bool) → (x.1 == q) ≡ b → cond b (Some x.0) (deadline_at xs q) ≡ Some d → (x ≡ (d, q) → P) → (deadline_at xs q ≡ Some d → P) → P
by_first P x xs q d true e at first later = first (ap (λ n. (n, x.1)) (same_Some x.0 d at) ∙ ap (λ n. (d, n)) (eqb-true x.1 q e))
by_first P x xs q d false e at first later = later at

by_slot : (P : Type 0) (x : Pair) (xs : List Pair) (q d : ℕ) → deadline_at (x ∷ xs) q ≡ Some d → (x ≡ (d, q) → P) → (deadline_at xs q ≡ Some d → P) → P
by_slot P x xs q d at first later = by_first P x xs q d (x.1 == q) refl (sym (deadline_at-cons x xs q) ∙ at) first later

not_found : (test : Pair → Bool) (x : Pair) (xs : List Pair) (b : Bool) → test x ≡ b → cond b (Some x) (find test xs) ≡ None → (test x ≡ false) × (find test xs ≡ None)
not_found test x xs true e none = absurd (none-some x (sym none))
not_found test x xs false e none = (e, none)

-- where no pair passes the test, that of a slot does not
pub none_passes : (test : Pair → Bool) (xs : List Pair) (q d : ℕ) → find test xs ≡ None → deadline_at xs q ≡ Some d → test (d, q) ≡ false
none_passes test [] q d none at = absurd (none-some d at)
none_passes test (x ∷ xs) q d none at =
    let not = not_found test x xs (test x) refl none in
    by_slot (test (d, q) ≡ false) x xs q d at (λ same. ap test (sym same) ∙ not.0) (λ later. none_passes test xs q d not.1 later)

-- where one is the least that passes, that of a slot is not before it
pub not_before_least : (test : Pair → Bool) (xs : List Pair) (least : Pair) (q d : ℕ) → IsLeast test xs least → deadline_at xs q ≡ Some d → test (d, q) ≡ true → is_before (d, q) least ≡ false
not_before_least test [] least q d is at passes = absurd (none-some d at)
not_before_least test (x ∷ xs) least q d is at passes =
    by_slot (is_before (d, q) least ≡ false) x xs q d at
    (λ same. ap (λ (pair : Pair). is_before pair least) (sym same) ∙ is.0 (ap test same ∙ passes))
    (λ later. not_before_least test xs least q d is.1 later passes)

-- ---- the pair that is found

pub found_at : (P : Type 0) (test : Pair → Bool) (x : Pair) (xs : List Pair) (a : Pair) (b : Bool) → test x ≡ b → cond b (Some x) (find test xs) ≡ Some a → (x ≡ a → test x ≡ true → P) → (find test xs ≡ Some a → test x ≡ false → P) → P
found_at P test x xs a true e found first later = first (same_Some x a found) e
found_at P test x xs a false e found first later = later found e

pub found_passes : (test : Pair → Bool) (xs : List Pair) (a : Pair) → find test xs ≡ Some a → test a ≡ true
found_passes test [] a found = absurd (none-some a found)
found_passes test (x ∷ xs) a found = found_at (test a ≡ true) test x xs a (test x) refl found (λ same passes. ap test (sym same) ∙ passes) (λ later not. found_passes test xs a later)

before_found : (test : Pair → Bool) (x : Pair) (xs : List Pair) (a : Pair) → IsBeforeAll x xs → find test xs ≡ Some a → is_before x a ≡ true
before_found test x [] a before found = absurd (none-some a found)
before_found test x (y ∷ xs) a before found =
    found_at (is_before x a ≡ true) test y xs a (test y) refl found (λ same passes. ap (is_before x) (sym same) ∙ before.0) (λ later not. before_found test x xs a before.1 later)

-- a pair before a due one is of another slot, where it is not due
another_slot : (first last : ℕ) (now : Tick) (x a : Pair) → is_before x a ≡ true → is_due first last now x ≡ false → is_due first last now a ≡ true → (x.1 == a.1) ≡ false
another_slot first last now x a before not_due due = grind (arith, nat_tests)

-- of pairs in order, the least due one is the first of its slot
due_own : (first last : ℕ) (now : Tick) (xs : List Pair) (a : Pair) → AreInOrder xs → least_due first last now xs ≡ Some a → deadline_at xs a.1 ≡ Some a.0
due_own first last now [] a order found = absurd (none-some a found)
due_own first last now (x ∷ xs) a order found =
    found_at (deadline_at (x ∷ xs) a.1 ≡ Some a.0) (is_due first last now) x xs a (is_due first last now x) refl found
    (λ same passes. ap (deadline_at (x ∷ xs)) (ap (λ (pair : Pair). pair.1) (sym same)) ∙ deadline_at-cons x xs x.1 ∙ own_slot x.1 (Some x.0) (deadline_at xs x.1) ∙ ap (λ (pair : Pair). Some pair.0) same)
    (λ later not. (
    let apart : (x.1 == a.1) ≡ false = another_slot first last now x a (before_found (is_due first last now) x xs a order.0 later) not (found_passes (is_due first last now) xs a later) in
    deadline_at-cons x xs a.1 ∙ ap (λ b. cond b (Some x.0) (deadline_at xs a.1)) apart ∙ due_own first last now xs a order.1 later
    ))

-- ---- slots by thread number

at_from : (first n i : ℕ) (xs : List Pair) → i < n → option_flatten (slice_get (deadlines_from first n xs) i) ≡ deadline_at xs (first + i)
at_from first zero i xs lt = absurd (omega (arith, lt))
at_from first (suc n) zero xs lt = ap (deadline_at xs) (omega arith)
at_from first (suc n) (suc i) xs lt = at_from (suc first) n i xs (omega (arith, lt)) ∙ ap (deadline_at xs) (omega arith)

past_from : (first n i : ℕ) (xs : List Pair) → n ≤ i → option_flatten (slice_get (deadlines_from first n xs) i) ≡ None
past_from first zero i xs le = refl
past_from first (suc n) zero xs le = absurd (omega (arith, le))
past_from first (suc n) (suc i) xs le = past_from (suc first) n i xs (omega (arith, le))

pub length-deadlines_from : (first n : ℕ) (xs : List Pair) → length (deadlines_from first n xs) ≡ n
length-deadlines_from first zero xs = refl
length-deadlines_from first (suc n) xs = let rest : length (deadlines_from (suc first) n xs) ≡ n = length-deadlines_from (suc first) n xs in omega (arith, rest)

pub deadlines_from_none : (first n : ℕ) → deadlines_from first n [] ≡ replicate n None
deadlines_from_none first zero = refl
deadlines_from_none first (suc n) = ap (λ (deadlines : List (Option Tick)). None ∷ deadlines) (deadlines_from_none (suc first) n)

apart_turned : (q r : ℕ) → (r == q) ≡ false → nat_eq q r ≡ false
apart_turned q r apart = grind (arith, nat_tests)

first_free : (q : ℕ) (x : Pair) (xs : List Pair) (b : Bool) → (x.1 == q) ≡ b → cond b (Some x.0) (deadline_at xs q) ≡ None → (deadline_at xs q ≡ None → is_in q (slots_of xs) ≡ false) → is_in q (slots_of (x ∷ xs)) ≡ false
first_free q x xs true same none more = absurd (none-some x.0 (sym none))
first_free q x xs false apart none more = or_from (nat_eq q x.1) (is_in q (slots_of xs)) (apart_turned q x.1 apart) (more none)

pub without_pair : (q : ℕ) (xs : List Pair) → deadline_at xs q ≡ None → is_in q (slots_of xs) ≡ false
without_pair q [] none = refl
without_pair q (x ∷ xs) none = first_free q x xs (x.1 == q) refl (sym (deadline_at-cons x xs q) ∙ none) (without_pair q xs)

-- a slot whose entry has no deadline has no pair
pub slot_free : (first n slot : ℕ) (xs : List Pair) → first ≤ slot → slot < first + n → pool_get (deadlines_from first n xs) (slot - first + 1) ≡ None → is_in slot (slots_of xs) ≡ false
slot_free first n slot xs low high none =
    let number : slot - first + 1 ≡ suc (slot - first) = omega arith in
    let back : first + (slot - first) ≡ slot = omega (arith, low) in
    without_pair slot xs (ap (deadline_at xs) (sym back) ∙ sym (at_from first n (slot - first) xs (omega (arith, low, high))) ∙ ap (pool_get (deadlines_from first n xs)) (sym number) ∙ none)

-- thread t has the slot, with its deadline
record IsSlotOf (first n t deadline : ℕ) (xs : List Pair) : Type 0 where
  slot : ℕ
  number : t ≡ suc (slot - first)
  low : first ≤ slot
  high : slot < first + n
  at : deadline_at xs slot ≡ Some deadline

slot_of : (first n t deadline : ℕ) (xs : List Pair) → pool_get (deadlines_from first n xs) t ≡ Some deadline → IsSlotOf first n t deadline xs
slot_of first n zero deadline xs e = absurd (none-some deadline e)
slot_of first n (suc i) deadline xs e = elim (cases_lt i n) [
  | inl lt ↦ record { slot = first + i; number = omega arith; low = omega arith; high = omega (arith, lt); at = sym (at_from first n i xs lt) ∙ e }
  | inr le ↦ absurd (none-some deadline (sym (past_from first n i xs le) ∙ e))
]

-- ---- the next expiry

due_when : (first last n q d : ℕ) (now : Tick) → last + 1 ≡ first + n → first ≤ q → q < first + n → d ≤ now → is_due first last now (d, q) ≡ true
due_when first last n q d now end low high le = grind (arith, nat_tests)

late_when : (first last n q d : ℕ) (now : Tick) → last + 1 ≡ first + n → first ≤ q → q < first + n → is_due first last now (d, q) ≡ false → now < d
late_when first last n q d now end low high not_due = grind (arith, nat_tests)

-- a due pair is of these slots
pub record IsDue (first last : ℕ) (now : Tick) (a : Pair) : Type 0 where
  pub low : first ≤ a.1
  pub high : a.1 ≤ last
  pub due : a.0 ≤ now

pub due_parts : (first last : ℕ) (now : Tick) (a : Pair) → is_due first last now a ≡ true → IsDue first last now a
due_parts first last now a due = record { low = grind (arith, nat_tests); high = grind (arith, nat_tests); due = grind (arith, nat_tests) }

-- by thread number as by slot
number_not_before : (first q : ℕ) (a : Pair) (b : Expiry) → b.thread ≡ suc (q - first) → first ≤ q → first ≤ a.1 → is_before (b.deadline, q) a ≡ false → withdrawal.expires_before b (expiry_from first a) ≡ false
number_not_before first q a b number low from not_before = grind (arith, nat_tests)

none_next : (first last n : ℕ) (now : Tick) (xs : List Pair) → last + 1 ≡ first + n → least_due first last now xs ≡ None → IsNoneDue now (deadlines_from first n xs)
none_next first last n now xs end none t d e =
    let of : IsSlotOf first n t d xs = slot_of first n t d xs e in
    late_when first last n of.slot d now end of.low of.high (none_passes (is_due first last now) xs of.slot d none of.at)

least_of : (first last : ℕ) (now : Tick) (xs : List Pair) (a : Pair) (o : Option Pair) → o ≡ Some a → IfSome o (IsLeast (is_due first last now) xs) → IsLeast (is_due first last now) xs a
least_of first last now xs a None e is = absurd (none-some a e)
least_of first last now xs a (Some b) e is = let P : Pair → Type 0 = IsLeast (is_due first last now) xs in subst P (same_Some b a e) is

taken_next : (first last n : ℕ) (now : Tick) (xs : List Pair) (a : Pair) → AreInOrder xs → last + 1 ≡ first + n → least_due first last now xs ≡ Some a → IsLeastDue now (deadlines_from first n xs) (expiry_from first a)
taken_next first last n now xs a order end found =
    let is : IsDue first last now a = due_parts first last now a (found_passes (is_due first last now) xs a found) in
    let low : first ≤ a.1 = is.low in
    let high : a.1 ≤ last = is.high in
    let least : IsLeast (is_due first last now) xs a = least_of first last now xs a (least_due first last now xs) found (least-due first last now xs order) in
    let back : first + (a.1 - first) ≡ a.1 = omega (arith, low) in
    record {
      own = at_from first n (a.1 - first) xs (omega (arith, low, high, end)) ∙ ap (deadline_at xs) back ∙ due_own first last now xs a order found;
      due = is.due;
      least = λ b e le. (
          let of : IsSlotOf first n b.thread b.deadline xs = slot_of first n b.thread b.deadline xs e in
          number_not_before first of.slot a b of.number of.low low
          (not_before_least (is_due first last now) xs a of.slot b.deadline least of.at (due_when first last n of.slot b.deadline now end of.low of.high le))
          );
    }

is_next : (first last n : ℕ) (now : Tick) (xs : List Pair) (o : Option Pair) → AreInOrder xs → last + 1 ≡ first + n → least_due first last now xs ≡ o → IsNextExpiry now (deadlines_from first n xs) (option_map (expiry_from first) o)
is_next first last n now xs None order end e = none_next first last n now xs end e
is_next first last n now xs (Some a) order end e = taken_next first last n now xs a order end e

-- the least due pair, by thread number
pub next-due : (first last n : ℕ) (now : Tick) (xs : List Pair) → AreInOrder xs → last + 1 ≡ first + n → option_map (expiry_from first) (least_due first last now xs) ≡ next_expiry now (deadlines_from first n xs)
next-due first last n now xs order end =
    next_only now (deadlines_from first n xs) (option_map (expiry_from first) (least_due first last now xs)) (is_next first last n now xs (least_due first last now xs) order end refl)

-- what was found, among the same pairs
pub next_found : (first last : ℕ) (now : Tick) (xs ys : List Pair) (o : Option Pair) → AreInOrder xs → xs ≡ ys → least_due first last now xs ≡ o
    → (n : ℕ) → last + 1 ≡ first + n → option_map (expiry_from first) o ≡ next_expiry now (deadlines_from first n ys)
next_found first last now xs ys o order e found n end = ap (option_map (expiry_from first)) (sym found) ∙ next-due first last n now xs order end ∙ ap (λ pairs. next_expiry now (deadlines_from first n pairs)) e
