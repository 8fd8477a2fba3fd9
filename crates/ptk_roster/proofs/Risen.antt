-- The walk that stops at the first number that is at least as high: its steps, and what it leaves.
use Rattle.std.proofs.Common.{◌≡◌, ◌≢◌, ℕ, zero, suc, ◌<◌, ◌≤◌, List, [], ◌∷◌, length, get_or, max, Bool, true, false, refl, sym, ◌∙◌, ap, arith, subst, ◌⊎◌, inl, inr}
use Rattle.std.specs.Prelude.{nat_le, nat_lt, if◌then◌else◌, Option, Some, None, option_map, unwrap_or}
use Rattle.std.proofs.Math.ListN.{set}
use Rattle.std.proofs.lemmas.Bool.{cases_eq, cases_lt}
use Rattle.std.proofs.lemmas.Bool.Decides.{nat_tests}
use Rattle.std.proofs.lemmas.List.{get_or-set_same, get_or-set_other, set-get_or, set_past}
use Rattle.ptk_words.proofs.Options.{one_value, count_step}
use Rattle.ptk_threads.specs.Table.{stored_of}
use Rattle.ptk_roster.specs.Raised.{raised, risen}
use Rattle.ptk_roster.proofs.LevelLists.{length-raised}

-- ---- one number raised

-- a number of the list
abbrev pub IsPlace : List ℕ → ℕ → Type 0
IsPlace stored w = (0 < w) × (w ≤ length stored)

pub raised-same : (priority u : ℕ) (stored : List ℕ) → priority ≤ stored_of stored u → raised priority u stored ≡ stored
raised-same priority zero stored h = refl
raised-same priority (suc i) stored h =
    let m : max (get_or stored i 0) priority ≡ get_or stored i 0 = omega (arith, h) in
    rw m (set-get_or stored i 0)

place_cases : (stored : List ℕ) (i : ℕ) → (i < length stored) ⊎ (length stored ≤ i) → IsPlace stored (suc i) ⊎ (IsPlace stored (suc i) → ⊥)
place_cases stored i (inl lt) = inl (omega arith, omega (arith, lt))
place_cases stored i (inr le) = inr (λ h. omega (arith, le, h.1))

pub place_or_past : (stored : List ℕ) (w : ℕ) → IsPlace stored w ⊎ (IsPlace stored w → ⊥)
place_or_past stored zero = inr (λ h. omega (arith, h.0))
place_or_past stored (suc i) = place_cases stored i (cases_lt i (length stored))

past_cases : (priority i : ℕ) (stored : List ℕ) → (IsPlace stored (suc i) → ⊥) → (i < length stored) ⊎ (length stored ≤ i) → raised priority (suc i) stored ≡ stored
past_cases priority i stored past (inl lt) = absurd (past (omega arith, omega (arith, lt)))
past_cases priority i stored past (inr le) = set_past stored i _ le

-- past the list there is nothing to raise
pub raised_past : (priority u : ℕ) (stored : List ℕ) → (IsPlace stored u → ⊥) → raised priority u stored ≡ stored
raised_past priority zero stored past = refl
raised_past priority (suc i) stored past = past_cases priority i stored past (cases_lt i (length stored))

pub stored-raised_same : (priority u : ℕ) (stored : List ℕ) → 0 < u → u ≤ length stored → priority ≤ stored_of (raised priority u stored) u
stored-raised_same priority zero stored h le = absurd (omega (arith, h))
stored-raised_same priority (suc i) stored h le =
    let lt : i < length stored = omega (arith, le) in
    rw (get_or-set_same stored i (max (get_or stored i 0) priority) 0 lt) (omega arith)

pub stored-raised_other : (priority u w : ℕ) (stored : List ℕ) → w ≢ u → stored_of (raised priority u stored) w ≡ stored_of stored w
stored-raised_other priority zero w stored ne = refl
stored-raised_other priority (suc i) zero stored ne = refl
stored-raised_other priority (suc i) (suc j) stored ne = let differ : j ≢ i = λ e. ne (ap suc e) in get_or-set_other stored i j _ 0 differ

own_cases : (priority i : ℕ) (stored : List ℕ) → (i < length stored) ⊎ (length stored ≤ i)
    → (get_or stored i 0 ≤ get_or (raised priority (suc i) stored) i 0) × (get_or (raised priority (suc i) stored) i 0 ≤ max (get_or stored i 0) priority)
own_cases priority i stored (inl lt) = rw (get_or-set_same stored i (max (get_or stored i 0) priority) 0 lt) (omega arith, omega arith)
own_cases priority i stored (inr le) = rw (set_past stored i (max (get_or stored i 0) priority) le) (omega arith, omega arith)

-- the number itself is no lower, and no higher than this priority or what it was
stored-raised_own : (priority u : ℕ) (stored : List ℕ) → (stored_of stored u ≤ stored_of (raised priority u stored) u) × (stored_of (raised priority u stored) u ≤ max (stored_of stored u) priority)
stored-raised_own priority zero stored = (omega arith, omega arith)
stored-raised_own priority (suc i) stored = own_cases priority i stored (cases_lt i (length stored))

-- ---- the steps of the walk

le_true : (a b : ℕ) → a ≤ b → nat_le a b ≡ true
le_true a b h = grind (arith, nat_tests)

pub risen_stop : (next : ℕ → Option ℕ) (priority fuel u : ℕ) (stored : List ℕ) → priority ≤ stored_of stored u → stored ≡ risen next priority fuel u stored
risen_stop next priority zero u stored h = rw (raised-same priority u stored h) refl
risen_stop next priority (suc fuel) u stored h = rw (le_true priority (stored_of stored u) h) refl

either_same : (b : Bool) (stored more : List ℕ) → stored ≡ more → stored ≡ (if b then stored else more)
either_same true stored more e = refl
either_same false stored more e = e

-- a number past the list raises nothing
pub risen_past : (next : ℕ → Option ℕ) (priority fuel u : ℕ) (stored : List ℕ) → (IsPlace stored u → ⊥) → next u ≡ None → stored ≡ risen next priority fuel u stored
risen_past next priority zero u stored past n = sym (raised_past priority u stored past)
risen_past next priority (suc fuel) u stored past n = rw n (either_same (nat_le priority (stored_of stored u)) stored (raised priority u stored) (sym (raised_past priority u stored past)))

-- ---- what holds of each of its ends holds of the walk

next_end : (Z : List ℕ → Type 0) (next : ℕ → Option ℕ) (priority fuel u : ℕ) (s : List ℕ) → (next u ≡ None → Z s) → ((v : ℕ) → next u ≡ Some v → Z (risen next priority fuel v s))
    → (o : Option ℕ) → next u ≡ o → Z (unwrap_or (option_map (λ v. risen next priority fuel v s) o) s)
next_end Z next priority fuel u s last goes None e = last e
next_end Z next priority fuel u s last goes (Some v) e = goes v e

test_end : (Z : List ℕ → Type 0) (next : ℕ → Option ℕ) (priority u : ℕ) (stored more : List ℕ) → (priority ≤ stored_of stored u → Z stored) → (stored_of stored u < priority → Z more)
    → (b : Bool) → nat_le priority (stored_of stored u) ≡ b → Z (if b then stored else more)
test_end Z next priority u stored more stops goes true e = stops (grind (arith, nat_tests))
test_end Z next priority u stored more stops goes false e = goes (grind (arith, nat_tests))

risen_ends : (Z : List ℕ → Type 0) (next : ℕ → Option ℕ) (priority fuel u : ℕ) (stored : List ℕ) → (priority ≤ stored_of stored u → Z stored) → (stored_of stored u < priority → next u ≡ None → Z (raised priority u stored))
    → (stored_of stored u < priority → (v : ℕ) → next u ≡ Some v → Z (risen next priority fuel v (raised priority u stored))) → Z (risen next priority (suc fuel) u stored)
risen_ends Z next priority fuel u stored stops last goes =
    test_end Z next priority u stored _ stops (λ less. next_end Z next priority fuel u (raised priority u stored) (last less) (goes less) (next u) refl) (nat_le priority (stored_of stored u)) refl

pub length-risen : (next : ℕ → Option ℕ) (priority fuel u : ℕ) (stored : List ℕ) → length (risen next priority fuel u stored) ≡ length stored
length-risen next priority zero u stored = length-raised priority u stored
length-risen next priority (suc fuel) u stored =
    risen_ends (λ s. length s ≡ length stored) next priority fuel u stored (λ le. refl) (λ less n. length-raised priority u stored)
    (λ less v n. length-risen next priority fuel v (raised priority u stored) ∙ length-raised priority u stored)

-- ---- no number is lowered

kept_cases : (priority u t : ℕ) (stored : List ℕ) → (t ≡ u) ⊎ (t ≢ u) → stored_of stored t ≤ stored_of (raised priority u stored) t
kept_cases priority u t stored (inl e) = rw e (stored-raised_own priority u stored).0
kept_cases priority u t stored (inr ne) = rw (stored-raised_other priority u t stored ne) (omega arith)

raised_keeps : (priority u t : ℕ) (stored : List ℕ) → stored_of stored t ≤ stored_of (raised priority u stored) t
raised_keeps priority u t stored = kept_cases priority u t stored (cases_eq t u)

pub risen_keeps : (next : ℕ → Option ℕ) (priority fuel u t : ℕ) (stored : List ℕ) → stored_of stored t ≤ stored_of (risen next priority fuel u stored) t
risen_keeps next priority zero u t stored = raised_keeps priority u t stored
risen_keeps next priority (suc fuel) u t stored =
    risen_ends (λ s. stored_of stored t ≤ stored_of s t) next priority fuel u stored (λ le. omega arith) (λ less n. raised_keeps priority u t stored)
    (λ less v n. omega (arith, raised_keeps priority u t stored, risen_keeps next priority fuel v t (raised priority u stored)))

-- ---- none is raised above a bound that does not fall along a chain

abbrev pub IsRising : (ℕ → Option ℕ) → (ℕ → ℕ) → Type 0
IsRising next most = (w v : ℕ) → next w ≡ Some v → most w ≤ most v

abbrev pub AreUpTo : (ℕ → ℕ) → List ℕ → Type 0
AreUpTo most stored = (t : ℕ) → stored_of stored t ≤ most t

up_to_cases : (most : ℕ → ℕ) (priority u t : ℕ) (stored : List ℕ) → priority ≤ most u → AreUpTo most stored → (t ≡ u) ⊎ (t ≢ u) → stored_of (raised priority u stored) t ≤ most t
up_to_cases most priority u t stored le all (inl e) = rw e (omega (arith, (stored-raised_own priority u stored).1, le, all u))
up_to_cases most priority u t stored le all (inr ne) = rw (stored-raised_other priority u t stored ne) (all t)

raised_up_to : (most : ℕ → ℕ) (priority u : ℕ) (stored : List ℕ) → priority ≤ most u → AreUpTo most stored → AreUpTo most (raised priority u stored)
raised_up_to most priority u stored le all = λ t. up_to_cases most priority u t stored le all (cases_eq t u)

pub risen_up_to : (next : ℕ → Option ℕ) (most : ℕ → ℕ) (priority fuel u : ℕ) (stored : List ℕ) → IsRising next most → priority ≤ most u → AreUpTo most stored → AreUpTo most (risen next priority fuel u stored)
risen_up_to next most priority zero u stored rising le all = raised_up_to most priority u stored le all
risen_up_to next most priority (suc fuel) u stored rising le all =
    let here : AreUpTo most (raised priority u stored) = raised_up_to most priority u stored le all in
    risen_ends (AreUpTo most) next priority fuel u stored (λ h. all) (λ less n. here)
    (λ less v n. risen_up_to next most priority fuel v (raised priority u stored) rising (omega (arith, le, rising u v n)) here)

-- ---- how many are lower

abbrev pub lower : ℕ → List ℕ → ℕ
lower priority [] = 0
lower priority (x ∷ s) = if nat_lt x priority then suc (lower priority s) else lower priority s

lower_test : (b : Bool) (x n : ℕ) → x ≤ n → (if b then suc x else x) ≤ suc n
lower_test true x n le = omega (arith, le)
lower_test false x n le = omega (arith, le)

pub lower_all : (priority : ℕ) (s : List ℕ) → lower priority s ≤ length s
lower_all priority [] = omega arith
lower_all priority (x ∷ s) = lower_test (nat_lt x priority) (lower priority s) (length s) (lower_all priority s)

lower_set : (priority i : ℕ) (s : List ℕ) → i < length s → get_or s i 0 < priority → lower priority s ≡ suc (lower priority (set s i priority))
lower_set priority i [] lt less = absurd (omega (arith, lt))
lower_set priority zero (x ∷ s) lt less =
    let yes : nat_lt x priority ≡ true = grind (arith, nat_tests) in
    let no : nat_lt priority priority ≡ false = grind (arith, nat_tests) in
    rw (yes, no) refl
lower_set priority (suc i) (x ∷ s) lt less = count_step (nat_lt x priority) (lower priority s) (lower priority (set s i priority)) (lower_set priority i s (omega (arith, lt)) less)

-- one that is raised is lower no more
lower_raised : (priority u : ℕ) (s : List ℕ) → IsPlace s u → stored_of s u < priority → lower priority s ≡ suc (lower priority (raised priority u s))
lower_raised priority zero s place less = absurd (omega (arith, place.0))
lower_raised priority (suc i) s place less =
    let m : max (get_or s i 0) priority ≡ priority = omega (arith, less) in
    rw m (lower_set priority i s (omega (arith, place.1)) less)

none_test : (b : Bool) (x : ℕ) → (if b then suc x else x) ≡ 0 → (b ≡ false) × (x ≡ 0)
none_test true x e = absurd (omega (arith, e))
none_test false x e = (refl, e)

none_at : (priority i : ℕ) (s : List ℕ) → lower priority s ≡ 0 → i < length s → priority ≤ get_or s i 0
none_at priority i [] e lt = absurd (omega (arith, lt))
none_at priority zero (x ∷ s) e lt = let no : nat_lt x priority ≡ false = (none_test (nat_lt x priority) (lower priority s) e).0 in grind (arith, nat_tests)
none_at priority (suc i) (x ∷ s) e lt = none_at priority i s (none_test (nat_lt x priority) (lower priority s) e).1 (omega (arith, lt))

-- where none is, each has the priority
none_lower : (priority u : ℕ) (s : List ℕ) → lower priority s ≡ 0 → IsPlace s u → priority ≤ stored_of s u
none_lower priority zero s e place = absurd (omega (arith, place.0))
none_lower priority (suc i) s e place = none_at priority i s e (omega (arith, place.1))

-- ---- what the walk leaves behind

-- only numbers of the list lead on
pub record IsWithin (next : ℕ → Option ℕ) (stored : List ℕ) : Type 0 where
  pub each : (w v : ℕ) → next w ≡ Some v → IsPlace stored w

-- the next one of each number up to k is at least as high
abbrev pub IsClosed : (ℕ → Option ℕ) → ℕ → List ℕ → Type 0
IsClosed next k stored = (w v : ℕ) → w ≤ k → next w ≡ Some v → IsPlace stored v → stored_of stored w ≤ stored_of stored v

-- so it is, but for the one where the walk is, which may be lower than numbers up to the priority
abbrev pub IsOnWay : (ℕ → Option ℕ) → ℕ → ℕ → ℕ → List ℕ → Type 0
IsOnWay next k priority u stored = (w v : ℕ) → w ≤ k → next w ≡ Some v → IsPlace stored v → (stored_of stored w ≤ stored_of stored v) ⊎ ((v ≡ u) × (stored_of stored w ≤ priority))

way_end : (priority u w v : ℕ) (stored : List ℕ) → (IsPlace stored u → priority ≤ stored_of stored u) → IsPlace stored v → (stored_of stored w ≤ stored_of stored v) ⊎ ((v ≡ u) × (stored_of stored w ≤ priority)) → stored_of stored w ≤ stored_of stored v
way_end priority u w v stored high place (inl le) = le
way_end priority u w v stored high place (inr (e, le)) =
    let own : priority ≤ stored_of stored u = high (subst (IsPlace stored) e place) in
    rw e (omega (arith, own, le))

way_ends : (next : ℕ → Option ℕ) (k priority u : ℕ) (stored : List ℕ) → (IsPlace stored u → priority ≤ stored_of stored u) → IsOnWay next k priority u stored → IsClosed next k stored
way_ends next k priority u stored high way = λ w v le e place. way_end priority u w v stored high place (way w v le e place)

-- once u is raised, only the next one of u may be lower
way_others : (priority u w v : ℕ) (stored : List ℕ) → stored_of stored u < priority → IsPlace stored v → (stored_of stored w ≤ stored_of stored v) ⊎ ((v ≡ u) × (stored_of stored w ≤ priority)) → (v ≡ u) ⊎ (v ≢ u)
    → stored_of stored w ≤ stored_of (raised priority u stored) v
way_others priority u w v stored less place (inl le) at = omega (arith, le, raised_keeps priority u v stored)
way_others priority u w v stored less place (inr (e, le)) at =
    let here : IsPlace stored u = subst (IsPlace stored) e place in
    rw e (omega (arith, le, stored-raised_same priority u stored here.0 here.1))

way_cases : (priority u w v : ℕ) (stored : List ℕ) → stored_of stored u < priority → IsPlace stored v → (stored_of stored w ≤ stored_of stored v) ⊎ ((v ≡ u) × (stored_of stored w ≤ priority)) → (w ≡ u) ⊎ (w ≢ u)
    → (stored_of (raised priority u stored) w ≤ stored_of (raised priority u stored) v) ⊎ ((w ≡ u) × (stored_of (raised priority u stored) w ≤ priority))
way_cases priority u w v stored less place way (inl e) = inr (e, rw e (omega (arith, (stored-raised_own priority u stored).1, less)))
way_cases priority u w v stored less place way (inr ne) = inl (rw (stored-raised_other priority u w stored ne) (way_others priority u w v stored less place way (cases_eq v u)))

way_step : (next : ℕ → Option ℕ) (k priority u w v : ℕ) (stored : List ℕ) → stored_of stored u < priority → IsOnWay next k priority u stored → w ≤ k → next w ≡ Some v → IsPlace (raised priority u stored) v
    → (stored_of (raised priority u stored) w ≤ stored_of (raised priority u stored) v) ⊎ ((w ≡ u) × (stored_of (raised priority u stored) w ≤ priority))
way_step next k priority u w v stored less way le e place =
    let here : IsPlace stored v = rw (length-raised priority u stored) at place in
    way_cases priority u w v stored less here (way w v le e here) (cases_eq w u)

last_case : (next : ℕ → Option ℕ) (priority u w v : ℕ) (s : List ℕ) → next u ≡ None → next w ≡ Some v → (stored_of s w ≤ stored_of s v) ⊎ ((w ≡ u) × (stored_of s w ≤ priority)) → stored_of s w ≤ stored_of s v
last_case next priority u w v s n e (inl le) = le
last_case next priority u w v s n e (inr (same, le)) = absurd (let f : next u ≡ Some v = subst (λ x. next x ≡ Some v) same e in cc (n, f))

on_case : (next : ℕ → Option ℕ) (priority u d w v : ℕ) (s : List ℕ) → next u ≡ Some d → next w ≡ Some v → (stored_of s w ≤ stored_of s v) ⊎ ((w ≡ u) × (stored_of s w ≤ priority)) → (stored_of s w ≤ stored_of s v) ⊎ ((v ≡ d) × (stored_of s w ≤ priority))
on_case next priority u d w v s n e (inl le) = inl le
on_case next priority u d w v s n e (inr (same, le)) = inr (one_value v d (next u) (subst (λ x. next x ≡ Some v) same e) n, le)

empty_closes : (next : ℕ → Option ℕ) (k priority u : ℕ) (stored : List ℕ) → lower priority stored ≡ 0 → IsOnWay next k priority u stored → IsPlace stored u ⊎ (IsPlace stored u → ⊥) → IsClosed next k (raised priority u stored)
empty_closes next k priority u stored none way (inl place) = rw (raised-same priority u stored (none_lower priority u stored none place)) (way_ends next k priority u stored (none_lower priority u stored none) way)
empty_closes next k priority u stored none way (inr past) = rw (raised_past priority u stored past) (way_ends next k priority u stored (none_lower priority u stored none) way)

-- with as much fuel as numbers are lower the walk ends where it should
pub walk_closes : (next : ℕ → Option ℕ) (k priority fuel u : ℕ) (stored : List ℕ) → IsWithin next stored → lower priority stored ≤ fuel → IsOnWay next k priority u stored → IsClosed next k (risen next priority fuel u stored)
walk_closes next k priority zero u stored within few way = empty_closes next k priority u stored (omega (arith, few)) way (place_or_past stored u)
walk_closes next k priority (suc fuel) u stored within few way =
    risen_ends (IsClosed next k) next priority fuel u stored
    (λ le. way_ends next k priority u stored (λ _. le) way)
    (λ less n. λ w v le e place. last_case next priority u w v (raised priority u stored) n e (way_step next k priority u w v stored less way le e place))
    (λ less d n.
    let one : lower priority stored ≡ suc (lower priority (raised priority u stored)) = lower_raised priority u stored (within.each u d n) less in
    walk_closes next k priority fuel d (raised priority u stored)
    (record { each = λ w v e. rw (length-raised priority u stored) (within.each w v e) })
    (omega (arith, few, one))
    (λ w v le e place. on_case next priority u d w v (raised priority u stored) n e (way_step next k priority u w v stored less way le e place)))
