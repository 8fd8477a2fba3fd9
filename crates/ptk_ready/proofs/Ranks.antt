-- Stamps numbered anew in their order.
use Rattle.std.proofs.Common.{◌≡◌, ℕ, zero, suc, ◌+◌, ◌<◌, ◌≤◌, List, [], ◌∷◌, ◌++◌, length, Bool, true, false, cond, ◌&&◌, refl, sym, ◌∙◌, ap, arith, get_or, inl, inr}
use Rattle.std.specs.Prelude.{ℤ, pos, neg_ℤ, ◌+ℤ◌, ◌-ℤ◌, ◌<ℤ◌, int_lt, filter, map, option_map}
use Rattle.ptk_words.specs.Pools.{is_in, numbers_to}
use Rattle.ptk_threads.specs.declared.link.Link.{Link}
use Rattle.ptk_threads.specs.declared.slot.Slot.{Slot}
use Rattle.ptk_threads.specs.Links.{links_of, own_link, no_link, place_of}
use Rattle.ptk_ready.specs.Entries.{is_ready, is_ready_place, ready_of, stamp_of, entries, AreStamps}
use Rattle.ptk_ready.specs.declared.stamps.StampRange.{StampRange}
use Rattle.ptk_ready.specs.Stamps.{rank, renumbered}
use Rattle.ptk_threads.proofs.Along.{not_true, marked_within}
use Rattle.std.proofs.Math.ListN.{set}
use Rattle.std.proofs.lemmas.Bool.{cases_eq, cases_Bool}
use Rattle.std.proofs.lemmas.Int.{ints}
use Rattle.std.proofs.lemmas.List.{get_or-map, get_or-set_same, get_or-set_other, length-map}
use Rattle.ptk_words.proofs.Lists.{in_head}
use Rattle.ptk_ready.proofs.Ready.{ready_mark, in_ready, in_entries, entries_order, entries_are}
use Rattle.ptk_ready.proofs.Orders.{IsInOrder, no_less, less_test, test_less, order_same, order_apart}

-- ---- counts

-- one number more, of those that pass p, counts where it passes q
pub count_more : (p q : ℕ → Bool) (k : ℕ) (ks : List ℕ) → length (filter q (filter p (ks ++ k ∷ []))) ≡ length (filter q (filter p ks)) + cond (p k && q k) 1 0
count_more p q k [] = elim (cases_Bool (p k)) as (λ _. length (filter q (filter p (k ∷ []))) ≡ 0 + cond (p k && q k) 1 0) [
  | inl does ↦ rw does (elim (cases_Bool (q k)) as (λ _. length (filter q (k ∷ [])) ≡ 0 + cond (q k) 1 0) [ inl also ↦ rw also refl | inr out ↦ rw out refl ])
  | inr fails ↦ rw fails refl
]
count_more p q k (j ∷ ks) = let rest = count_more p q k ks in
    elim (cases_Bool (p j)) as (λ _. length (filter q (filter p (j ∷ ks ++ k ∷ []))) ≡ length (filter q (filter p (j ∷ ks))) + cond (p k && q k) 1 0) [
      | inl does ↦ rw does (elim (cases_Bool (q j)) as (λ _. length (filter q (j ∷ filter p (ks ++ k ∷ []))) ≡ length (filter q (j ∷ filter p ks)) + cond (p k && q k) 1 0) [
        | inl also ↦ rw also (omega (arith, rest))
        | inr out ↦ rw out rest
      ])
      | inr fails ↦ rw fails rest
    ]

one_at_most : (b : Bool) → cond b 1 0 ≤ 1
one_at_most true = omega arith
one_at_most false = omega arith

pub count_small : (p q : ℕ → Bool) (n : ℕ) → length (filter q (filter p (numbers_to n))) ≤ n
count_small p q zero = omega arith
count_small p q (suc n) =
    let small = count_small p q n in
    let more = count_more p q (suc n) (numbers_to n) in
    let one = one_at_most (p (suc n) && q (suc n)) in
    omega (arith, small, more, one)

count_within : (p q : ℕ → Bool) (ks : List ℕ) → ((k : ℕ) → p k ≡ true → q k ≡ true) → length (filter p ks) ≤ length (filter q ks)
count_within p q [] h = omega arith
count_within p q (k ∷ ks) h = let rest = count_within p q ks h in
    elim (cases_Bool (p k)) as (λ _. length (filter p (k ∷ ks)) ≤ length (filter q (k ∷ ks))) [
      | inl does ↦ rw (does, h k does) (omega (arith, rest))
      | inr fails ↦ rw fails (elim (cases_Bool (q k)) as (λ _. length (filter p ks) ≤ length (filter q (k ∷ ks))) [
        | inl also ↦ rw also (omega (arith, rest))
        | inr out ↦ rw out rest
      ])
    ]

-- a number of the list passes q and not p
count_less : (p q : ℕ → Bool) (ks : List ℕ) (b : ℕ) → ((k : ℕ) → p k ≡ true → q k ≡ true) → is_in b ks ≡ true → p b ≡ false → q b ≡ true → length (filter p ks) < length (filter q ks)
count_less p q [] b h inside out within = absurd (cc)
count_less p q (k ∷ ks) b h inside out within = elim (in_head k b ks inside) as (λ _. length (filter p (k ∷ ks)) < length (filter q (k ∷ ks))) [
  | inl e ↦ (let rest = count_within p q ks h in rw (ap p (sym e) ∙ out, ap q (sym e) ∙ within) (omega (arith, rest)))
  | inr r ↦ (let rest = count_less p q ks b h r out within in
      elim (cases_Bool (p k)) as (λ _. length (filter p (k ∷ ks)) < length (filter q (k ∷ ks))) [
        | inl does ↦ rw (does, h k does) (omega (arith, rest))
        | inr fails ↦ rw fails (elim (cases_Bool (q k)) as (λ _. length (filter p ks) < length (filter q (k ∷ ks))) [
          | inl also ↦ rw also (omega (arith, rest))
          | inr other ↦ rw other rest
        ])
      ])
]

-- ---- the stamps

-- a slot's mark, as the code reads it
pub read_ready : (slots : List Slot) (i : ℕ) (slot : Slot) (answer : Bool) → i < length slots → slot ≡ get_or slots i slot → answer ≡ is_ready_place (option_map place_of slot.link.queue) → answer ≡ is_ready (links_of slots) (suc i)
read_ready slots i slot answer lt read e =
    e ∙ ap (λ (l : Link). is_ready_place (option_map place_of l.queue)) (ap (λ (s : Slot). own_link s.link) read ∙ sym (get_or-map (λ (s : Slot). own_link s.link) slots i slot no_link lt))

-- the count after one number more
pub rank_more : (links : List Link) (stamps : List ℤ) (stamp : ℤ) (i count : ℕ) (b : Bool) → count ≡ length (filter (λ k. int_lt (stamp_of stamps k) stamp) (filter (is_ready links) (numbers_to i)))
    → b ≡ (is_ready links (suc i) && int_lt (stamp_of stamps (suc i)) stamp)
    → count + cond b 1 0 ≡ length (filter (λ k. int_lt (stamp_of stamps k) stamp) (filter (is_ready links) (numbers_to (i + 1))))
rank_more links stamps stamp i count b e is =
    let more = count_more (is_ready links) (λ k. int_lt (stamp_of stamps k) stamp) (suc i) (numbers_to i) in
    let next : i + 1 ≡ suc i = omega arith in
    rw (next, is, e) (sym more)

-- lists that agree at each place
pub list_same : (xs ys : List ℤ) → length xs ≡ length ys → ((j : ℕ) → j < length xs → get_or xs j (pos 0) ≡ get_or ys j (pos 0)) → xs ≡ ys
list_same [] [] e h = refl
list_same [] (y ∷ ys) e h = absurd (omega (arith, e))
list_same (x ∷ xs) [] e h = absurd (omega (arith, e))
list_same (x ∷ xs) (y ∷ ys) e h = rw (h 0 (omega arith)) (ap (λ l. y ∷ l) (list_same xs ys (omega (arith, e)) (λ j lt. h (suc j) (omega (arith, lt)))))

pub one_written : (new stamps : List ℤ) (f : ℤ → ℤ) (i : ℕ) (stamp : ℤ) → i < length new → stamp ≡ f (get_or stamps i (pos 0)) → ((j : ℕ) → j < i → get_or new j (pos 0) ≡ f (get_or stamps j (pos 0)))
    → (j : ℕ) → j < i + 1 → get_or (set new i stamp) j (pos 0) ≡ f (get_or stamps j (pos 0))
one_written new stamps f i stamp lt e h j below = elim (cases_eq j i) as (λ _. get_or (set new i stamp) j (pos 0) ≡ f (get_or stamps j (pos 0))) [
  | inl same ↦ rw same (get_or-set_same new i stamp (pos 0) lt ∙ e)
  | inr ne ↦ get_or-set_other new i j stamp (pos 0) ne ∙ h j (omega (arith, below, ne))
]

pub all_written : (new stamps : List ℤ) (f : ℤ → ℤ) (n : ℕ) → length new ≡ n → length stamps ≡ n → ((j : ℕ) → j < n → get_or new j (pos 0) ≡ f (get_or stamps j (pos 0))) → new ≡ map f stamps
all_written new stamps f n long same h =
    list_same new (map f stamps) (long ∙ sym (length-map stamps f ∙ same)) (λ j lt.
    (let below : j < n = omega (arith, lt, long) in h j below ∙ sym (get_or-map f stamps j (pos 0) (pos 0) (omega (arith, below, same)))))

-- ---- numbered anew

anew_at : (links : List Link) (stamps : List ℤ) (k : ℕ) → length links ≤ 32 → length stamps ≡ 32 → is_ready links k ≡ true → stamp_of (renumbered links stamps) k ≡ pos (rank links stamps (stamp_of stamps k))
anew_at links stamps zero few long ready = (let at = ready_mark links 0 ready in let within = marked_within links 0 at.place at.mark in absurd (omega (arith, within.0)))
anew_at links stamps (suc i) few long ready =
    let at = ready_mark links (suc i) ready in
    let within = marked_within links (suc i) at.place at.mark in
    get_or-map (λ stamp. pos (rank links stamps stamp)) stamps i (pos 0) (pos 0) (omega (arith, within.1, few, long))

ranks_rise : (links : List Link) (stamps : List ℤ) (j k : ℕ) → is_ready links j ≡ true → stamp_of stamps j <ℤ stamp_of stamps k → rank links stamps (stamp_of stamps j) < rank links stamps (stamp_of stamps k)
ranks_rise links stamps j k ready less =
    count_less (λ i. int_lt (stamp_of stamps i) (stamp_of stamps j)) (λ i. int_lt (stamp_of stamps i) (stamp_of stamps k)) (ready_of links) j
    (λ i h. (let lower = less_test (stamp_of stamps i) (stamp_of stamps j) h in test_less (stamp_of stamps i) (stamp_of stamps k) (omega (arith, ints))))
    (in_ready links j ∙ ready)
    (not_true (int_lt (stamp_of stamps j) (stamp_of stamps j)) (λ h. no_less (stamp_of stamps j) (less_test (stamp_of stamps j) (stamp_of stamps j) h)))
    (test_less (stamp_of stamps j) (stamp_of stamps k) less)

-- the stamps numbered anew are from 0 to 31, and the line is the same
pub record IsRenumbered (limit : ℕ) (range : StampRange) (links : List Link) (stamps anew : List ℤ) : Type 0 where
  pub stamped : AreStamps limit range links anew
  pub line : entries links anew ≡ entries links stamps

abbrev from_zero : StampRange
from_zero = record { first = pos 0; last = pos 31 }

rank_small : (links : List Link) (stamps : List ℤ) (k : ℕ) → length links ≤ 32 → is_ready links k ≡ true → rank links stamps (stamp_of stamps k) < 32
rank_small links stamps k few h =
    let less = count_less (λ i. int_lt (stamp_of stamps i) (stamp_of stamps k)) (λ i. true) (ready_of links) k (λ i lower. refl) (in_ready links k ∙ h)
    (not_true (int_lt (stamp_of stamps k) (stamp_of stamps k)) (λ e. no_less (stamp_of stamps k) (less_test (stamp_of stamps k) (stamp_of stamps k) e))) refl in
    let all = count_small (is_ready links) (λ i. true) (length links) in
    omega (arith, less, all, few)

pub numbered_anew : (limit : ℕ) (range : StampRange) (links : List Link) (stamps : List ℤ) → AreStamps limit range links stamps → length links ≤ 32 → length stamps ≡ 32 → 64 ≤ limit
    → IsRenumbered limit from_zero links stamps (renumbered links stamps)
numbered_anew limit range links stamps are few long large =
    let xs = entries links stamps in
    let anew = renumbered links stamps in
    let ready : (k : ℕ) → is_in k xs ≡ true → is_ready links k ≡ true = λ k inside. sym (in_entries links stamps k) ∙ inside in
    let order : IsInOrder (stamp_of anew) xs = order_same (stamp_of stamps) (stamp_of anew) xs
    (λ j k a b less. (let rise = ranks_rise links stamps j k (ready j a) less in
    let one = anew_at links stamps j few long (ready j a) in
    let two = anew_at links stamps k few long (ready k b) in
    rw (one, two) (omega (arith, ints, rise))))
    (entries_order limit range links stamps are) in
    record {
      stamped = record {
        apart = λ j k a b e. order_apart (stamp_of anew) xs order j k (in_entries links stamps j ∙ a) (in_entries links stamps k ∙ b) e;
        within = λ k h. (let at = anew_at links stamps k few long h in
            let bound = rank_small links stamps k few h in
            rw at (omega (arith, ints), omega (arith, ints, bound)));
        limits = (omega (arith, ints), omega (arith, ints), omega (arith, ints, large));
      };
      line = entries_are links anew xs order (in_entries links stamps);
    }

-- ---- a range that has one stamp more

pub longer : (limit : ℕ) (range : StampRange) (links : List Link) (stamps : List ℤ) (last : ℤ) → AreStamps limit range links stamps → range.last <ℤ pos limit → last ≡ range.last +ℤ pos 1
    → AreStamps limit (record { first = range.first; last = last }) links stamps
longer limit range links stamps last are room e = record {
  apart = are.apart;
  within = λ k ready. (let in_range = are.within k ready in (in_range.0, omega (arith, ints, in_range.1, e)));
  limits = (are.limits.0, omega (arith, ints, are.limits.1, e), omega (arith, ints, room, e));
}

pub lower : (limit : ℕ) (range : StampRange) (links : List Link) (stamps : List ℤ) (first : ℤ) → AreStamps limit range links stamps → neg_ℤ (pos limit) <ℤ range.first → first ≡ range.first -ℤ pos 1
    → AreStamps limit (record { first = first; last = range.last }) links stamps
lower limit range links stamps first are room e = record {
  apart = are.apart;
  within = λ k ready. (let in_range = are.within k ready in (omega (arith, ints, in_range.0, e), in_range.1));
  limits = (omega (arith, ints, room, e), omega (arith, ints, are.limits.1, e), are.limits.2);
}
