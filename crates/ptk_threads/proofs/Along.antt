-- What changed links do to a list that the links lead along.
use Rattle.std.proofs.Common.{◌≡◌, ◌≢◌, ℕ, zero, suc, ◌<◌, ◌≤◌, List, [], ◌∷◌, ◌++◌, length, Bool, true, false, refl, sym, ◌∙◌, ap, arith, ◌⊎◌, inl, inr}
use Rattle.std.specs.Prelude.{Option, Some, None, option_map, nat_eq}
use Rattle.std.specs.List.{IsDistinct}
use Rattle.std.proofs.lemmas.Bool.{or_left, or_right, cases_lt, or_cases, or_parts}
use Rattle.std.proofs.lemmas.List.{get_or_past, get_or-set_same, get_or-set_other, length-set}
use Rattle.std.proofs.lemmas.List.Folds.{list_any-append}
use Rattle.std.proofs.lemmas.Map.Keys.{IsDistinct-tail}
use Rattle.std.proofs.lemmas.Option.{same_Some}
use Rattle.ptk_words.specs.Pools.{pool_set, is_in}
use Rattle.ptk_words.proofs.Lists.{none_distinct, distinct_head, in_here, head_out, in_head, out_of}
use Rattle.ptk_threads.specs.declared.link.Link.{Link}
use Rattle.ptk_threads.specs.Links.{place_of, link_in, no_link, mark_of, with_next, with_previous, first_or, last_or, IsLink, IsAlong, walk}

-- ---- lists

pub in_later : (q k : ℕ) (ks : List ℕ) → is_in q ks ≡ true → is_in q (k ∷ ks) ≡ true
in_later q k ks h = or_right (nat_eq q k) (is_in q ks) h

pub in_left : (q : ℕ) (xs ys : List ℕ) → is_in q xs ≡ true → is_in q (xs ++ ys) ≡ true
in_left q xs ys h = list_any-append (nat_eq q) xs ys ∙ or_left (is_in q xs) (is_in q ys) h

pub in_right : (q : ℕ) (xs ys : List ℕ) → is_in q ys ≡ true → is_in q (xs ++ ys) ≡ true
in_right q xs ys h = list_any-append (nat_eq q) xs ys ∙ or_right (is_in q xs) (is_in q ys) h

pub in_parts : (q : ℕ) (xs ys : List ℕ) → is_in q (xs ++ ys) ≡ true → (is_in q xs ≡ true) ⊎ (is_in q ys ≡ true)
in_parts q xs ys h = or_cases (is_in q xs) (is_in q ys) (sym (list_any-append (nat_eq q) xs ys) ∙ h)

-- what lies left and what lies right in a distinct list are apart
pub apart : (y z : ℕ) (xs ys : List ℕ) → IsDistinct nat_eq (xs ++ ys) → is_in y xs ≡ true → is_in z ys ≡ true → y ≢ z
apart y z [] ys d h g = absurd (cc)
apart y z (x ∷ xs) ys d h g =
    elim (in_head x y xs h) as (λ _. y ≢ z) [
      | inl e ↦ (λ same. out_of z x (xs ++ ys) (head_out x (xs ++ ys) d) (in_right z xs ys g) (sym same ∙ e))
      | inr r ↦ apart y z xs ys (IsDistinct-tail nat_eq x (xs ++ ys) d) r g
    ]

pub not_true : (b : Bool) → (b ≡ true → ⊥) → b ≡ false
not_true true h = absurd (h refl)
not_true false h = refl

-- a number that is not in a list is not in its parts, and is in a joined list only if in one
pub out_join : (q : ℕ) (xs ys : List ℕ) → is_in q xs ≡ false → is_in q ys ≡ false → is_in q (xs ++ ys) ≡ false
out_join q xs ys h g = list_any-append (nat_eq q) xs ys ∙ (rw h g)

pub out_parts : (q : ℕ) (xs ys : List ℕ) → is_in q (xs ++ ys) ≡ false → (is_in q xs ≡ false) × (is_in q ys ≡ false)
out_parts q xs ys h = or_parts (is_in q xs) (is_in q ys) (sym (list_any-append (nat_eq q) xs ys) ∙ h)

pub distinct_left : (xs ys : List ℕ) → IsDistinct nat_eq (xs ++ ys) → IsDistinct nat_eq xs
distinct_left [] ys d = none_distinct
distinct_left (x ∷ xs) ys d =
    distinct_head x xs (distinct_left xs ys (IsDistinct-tail nat_eq x (xs ++ ys) d)) (out_parts x xs ys (head_out x (xs ++ ys) d)).0

pub distinct_right : (xs ys : List ℕ) → IsDistinct nat_eq (xs ++ ys) → IsDistinct nat_eq ys
distinct_right [] ys d = d
distinct_right (x ∷ xs) ys d = distinct_right xs ys (IsDistinct-tail nat_eq x (xs ++ ys) d)

-- ---- one link

pub le_or_gt : (a b : ℕ) → (a ≤ b) ⊎ (b < a)
le_or_gt a b = elim (cases_lt b a) as (λ _. (a ≤ b) ⊎ (b < a)) [ inl lt ↦ inr lt | inr le ↦ inl le ]

-- a thread that has a mark is a slot's
pub marked_within : (links : List Link) (k i : ℕ) → mark_of links k ≡ Some i → (0 < k) × (k ≤ length links)
marked_within links zero i h = absurd (cc)
marked_within links (suc j) i h =
    elim (le_or_gt (length links) j) as (λ _. (0 < suc j) × (suc j ≤ length links)) [
      | inl past ↦ (let none : link_in links (suc j) ≡ no_link = get_or_past links j no_link past in let no : None ≡ Some i = sym (ap (λ (l : Link). option_map place_of l.queue) none) ∙ h in absurd (cc))
      | inr lt ↦ (omega arith, omega (arith, lt))
    ]

pub link_same : (links : List Link) (k : ℕ) (link : Link) → 0 < k → k ≤ length links → link_in (pool_set links k link) k ≡ link
link_same links zero link h le = absurd (omega arith)
link_same links (suc i) link h le = get_or-set_same links i link no_link (omega (arith, le))

pub link_other : (links : List Link) (k y : ℕ) (link : Link) → y ≢ k → link_in (pool_set links k link) y ≡ link_in links y
link_other links zero y link ne = refl
link_other links (suc i) zero link ne = refl
link_other links (suc i) (suc j) link ne = get_or-set_other links i j link no_link (omega (arith, ne))

pub next_other : (links : List Link) (o v : Option ℕ) (y : ℕ) → o ≢ Some y → link_in (with_next o v links) y ≡ link_in links y
next_other links None v y ne = refl
next_other links (Some k) v y ne = link_other links k y (record (link_in links k) { next = v }) (λ e. ne (ap Some (sym e)))

pub previous_other : (links : List Link) (o v : Option ℕ) (y : ℕ) → o ≢ Some y → link_in (with_previous o v links) y ≡ link_in links y
previous_other links None v y ne = refl
previous_other links (Some k) v y ne = link_other links k y (record (link_in links k) { previous = v }) (λ e. ne (ap Some (sym e)))

pub length_next : (links : List Link) (o v : Option ℕ) → length (with_next o v links) ≡ length links
length_next links None v = refl
length_next links (Some zero) v = refl
length_next links (Some (suc i)) v = length-set links i _

pub length_previous : (links : List Link) (o v : Option ℕ) → length (with_previous o v links) ≡ length links
length_previous links None v = refl
length_previous links (Some zero) v = refl
length_previous links (Some (suc i)) v = length-set links i _

link_moved : (links new : List Link) (i : ℕ) (b a : Option ℕ) (k : ℕ) → link_in new k ≡ link_in links k → IsLink links i b a k → IsLink new i b a k
link_moved links new i b a k e h = record {
  previous = ap (λ (l : Link). l.previous) e ∙ h.previous;
  next = ap (λ (l : Link). l.next) e ∙ h.next;
  queue = ap (λ (l : Link). option_map place_of l.queue) e ∙ h.queue;
}

-- ---- the ends of a list

last_in : (y : ℕ) (ys : List ℕ) (z : ℕ) → last_or (Some y) ys ≡ Some z → is_in z (y ∷ ys) ≡ true
last_in y [] z e = rw (same_Some y z e) (in_here z [])
last_in y (x ∷ ys) z e = in_later z y (x ∷ ys) (last_in x ys z e)

pub last_out : (xs : List ℕ) (z : ℕ) → is_in z xs ≡ false → last_or None xs ≢ Some z
last_out [] z out = λ e. absurd (cc)
last_out (x ∷ xs) z out = λ e. (let there : is_in z (x ∷ xs) ≡ true = last_in x xs z e in absurd (cc))

pub first_out : (xs : List ℕ) (z : ℕ) → is_in z xs ≡ false → first_or None xs ≢ Some z
first_out [] z out = λ e. absurd (cc)
first_out (x ∷ xs) z out = λ e. (let there : is_in z (x ∷ xs) ≡ true = rw (same_Some x z e) (in_here z xs) in absurd (cc))

-- ---- lists along links

pub along_same : (links new : List Link) (i : ℕ) (b a : Option ℕ) (xs : List ℕ) → ((y : ℕ) → is_in y xs ≡ true → link_in new y ≡ link_in links y) → IsAlong links i b a xs → IsAlong new i b a xs
along_same links new i b a [] same h = tt
along_same links new i b a (x ∷ xs) same h = (
  link_moved links new i b (first_or a xs) x (same x (in_here x xs)) h.0,
  along_same links new i (Some x) a xs (λ y inside. same y (in_later y x xs inside)) h.1,
)

first_append : (a : Option ℕ) (xs ys : List ℕ) → first_or a (xs ++ ys) ≡ first_or (first_or a ys) xs
first_append a [] ys = refl
first_append a (x ∷ xs) ys = refl

pub along_left : (links : List Link) (i : ℕ) (b a : Option ℕ) (xs ys : List ℕ) → IsAlong links i b a (xs ++ ys) → IsAlong links i b (first_or a ys) xs
along_left links i b a [] ys h = tt
along_left links i b a (x ∷ xs) ys h = (rw (first_append a xs ys) at h.0, along_left links i (Some x) a xs ys h.1)

pub along_right : (links : List Link) (i : ℕ) (b a : Option ℕ) (xs ys : List ℕ) → IsAlong links i b a (xs ++ ys) → IsAlong links i (last_or b xs) a ys
along_right links i b a [] ys h = h
along_right links i b a (x ∷ xs) ys h = along_right links i (Some x) a xs ys h.1

pub along_join : (links : List Link) (i : ℕ) (b a : Option ℕ) (xs ys : List ℕ) → IsAlong links i b (first_or a ys) xs → IsAlong links i (last_or b xs) a ys → IsAlong links i b a (xs ++ ys)
along_join links i b a [] ys h g = g
along_join links i b a (x ∷ xs) ys h g = (rw (first_append a xs ys) h.0, along_join links i (Some x) a xs ys h.1 g)

-- what lies along links has the queue's mark
pub along_marked : (links : List Link) (i : ℕ) (b a : Option ℕ) (xs : List ℕ) (y : ℕ) → IsAlong links i b a xs → is_in y xs ≡ true → mark_of links y ≡ Some i
along_marked links i b a [] y h inside = absurd (cc)
along_marked links i b a (x ∷ xs) y h inside =
    elim (in_head x y xs inside) as (λ _. mark_of links y ≡ Some i) [
      | inl e ↦ rw e h.0.queue
      | inr r ↦ along_marked links i (Some x) a xs y h.1 r
    ]

-- the last one is followed by another
pub along_next : (links : List Link) (i : ℕ) (b a v : Option ℕ) (x : ℕ) (xs : List ℕ) → IsDistinct nat_eq (x ∷ xs) → IsAlong links i b a (x ∷ xs) → IsAlong (with_next (last_or (Some x) xs) v links) i b v (x ∷ xs)
along_next links i b a v x [] d h =
    let within = marked_within links x i h.0.queue in
    let here : link_in (with_next (Some x) v links) x ≡ record (link_in links x) { next = v } = link_same links x _ within.0 within.1 in
    (record { previous = ap (λ (l : Link). l.previous) here ∙ h.0.previous; next = ap (λ (l : Link). l.next) here; queue = ap (λ (l : Link). option_map place_of l.queue) here ∙ h.0.queue }, tt)
along_next links i b a v x (y ∷ ys) d h =
    let apart : last_or (Some y) ys ≢ Some x = last_out (y ∷ ys) x (head_out x (y ∷ ys) d) in (
      link_moved links (with_next (last_or (Some y) ys) v links) i b (Some y) x (next_other links (last_or (Some y) ys) v x apart) h.0,
      along_next links i (Some x) a v y ys (IsDistinct-tail nat_eq x (y ∷ ys) d) h.1,
    )

-- the same, where there is one
pub along_ends : (links : List Link) (i : ℕ) (a v : Option ℕ) (xs : List ℕ) → IsDistinct nat_eq xs → IsAlong links i None a xs → IsAlong (with_next (last_or None xs) v links) i None v xs
along_ends links i a v [] d h = tt
along_ends links i a v (x ∷ xs) d h = along_next links i None a v x xs d h

-- the first one follows another
pub along_starts : (links : List Link) (i : ℕ) (b a v : Option ℕ) (xs : List ℕ) → IsDistinct nat_eq xs → IsAlong links i b a xs → IsAlong (with_previous (first_or None xs) v links) i v a xs
along_starts links i b a v [] d h = tt
along_starts links i b a v (x ∷ xs) d h =
    let within = marked_within links x i h.0.queue in
    let here : link_in (with_previous (Some x) v links) x ≡ record (link_in links x) { previous = v } = link_same links x _ within.0 within.1 in
    let apart : (y : ℕ) → is_in y xs ≡ true → y ≢ x = λ y inside. out_of y x xs (head_out x xs d) inside in (
      record { previous = ap (λ (l : Link). l.previous) here; next = ap (λ (l : Link). l.next) here ∙ h.0.next; queue = ap (λ (l : Link). option_map place_of l.queue) here ∙ h.0.queue },
      along_same links (with_previous (Some x) v links) i (Some x) a xs (λ y inside. link_other links x y _ (apart y inside)) h.1,
    )

-- a walk along the links gives the list
pub walk_along : (many : ℕ) (links : List Link) (i : ℕ) (b : Option ℕ) (xs : List ℕ) → length xs ≤ many → IsAlong links i b None xs → walk many links (first_or None xs) ≡ xs
walk_along zero links i b [] le h = refl
walk_along zero links i b (x ∷ xs) le h = absurd (omega (arith, le))
walk_along (suc many) links i b [] le h = refl
walk_along (suc many) links i b (x ∷ xs) le h = ap (λ l. x ∷ l) (rw (h.0.next) (walk_along many links i (Some x) xs (omega (arith, le)) h.1))
