-- The walk reads as many priorities as rise, or one more.
use Rattle.std.proofs.Common.{◌≡◌, ◌≢◌, ℕ, zero, suc, ◌<◌, ◌≤◌, List, [], ◌∷◌, length, get_or, max, Bool, true, false, refl, sym, ◌∙◌, ap, arith, ◌⊎◌, inl, inr}
use Rattle.std.specs.Prelude.{nat_le, nat_lt, if◌then◌else◌, Option, Some, None, option_map, unwrap_or}
use Rattle.std.proofs.Math.ListN.{set}
use Rattle.std.proofs.lemmas.Bool.{cases_eq, cases_lt}
use Rattle.std.proofs.lemmas.Bool.Decides.{nat_tests}
use Rattle.std.proofs.lemmas.List.{get_or-set_same, get_or-set_other}
use Rattle.ptk_words.proofs.Options.{count_step}
use Rattle.ptk_threads.specs.Table.{stored_of}
use Rattle.ptk_roster.specs.Raised.{raised, risen}
use Rattle.ptk_roster.proofs.LevelLists.{length-raised}
use Rattle.ptk_mutex.specs.Visits.{reads, risen_count, IsVisited}
use Rattle.ptk_roster.proofs.Risen.{IsPlace, IsWithin, raised-same, raised_past, place_or_past, length-risen}

-- ---- a priority at least as high stays

high_cases : (priority j i : ℕ) (stored : List ℕ) → priority ≤ get_or stored i 0 → (i ≡ j) ⊎ (i ≢ j) → get_or (raised priority (suc j) stored) i 0 ≡ get_or stored i 0
high_cases priority j i stored h (inl e) =
    let le : priority ≤ stored_of stored (suc j) = rw (sym e) h in
    ap (λ s. get_or s i 0) (raised-same priority (suc j) stored le)
high_cases priority j i stored h (inr ne) = get_or-set_other stored j i _ 0 ne

high_raised : (priority u i : ℕ) (stored : List ℕ) → priority ≤ get_or stored i 0 → get_or (raised priority u stored) i 0 ≡ get_or stored i 0
high_raised priority zero i stored h = refl
high_raised priority (suc j) i stored h = high_cases priority j i stored h (cases_eq i j)

high_next : (next : ℕ → Option ℕ) (priority fuel i : ℕ) (s : List ℕ) → ((v : ℕ) → get_or (risen next priority fuel v s) i 0 ≡ get_or s i 0) → (o : Option ℕ) → get_or (unwrap_or (option_map (λ v. risen next priority fuel v s) o) s) i 0 ≡ get_or s i 0
high_next next priority fuel i s ih None = refl
high_next next priority fuel i s ih (Some v) = ih v

high_test : (stored more : List ℕ) (i : ℕ) (b : Bool) → get_or more i 0 ≡ get_or stored i 0 → get_or (if b then stored else more) i 0 ≡ get_or stored i 0
high_test stored more i true e = refl
high_test stored more i false e = e

high : (next : ℕ → Option ℕ) (priority fuel u i : ℕ) (stored : List ℕ) → priority ≤ get_or stored i 0 → get_or (risen next priority fuel u stored) i 0 ≡ get_or stored i 0
high next priority zero u i stored h = high_raised priority u i stored h
high next priority (suc fuel) u i stored h =
    let here : get_or (raised priority u stored) i 0 ≡ get_or stored i 0 = high_raised priority u i stored h in
    let still : priority ≤ get_or (raised priority u stored) i 0 = rw here h in
    high_test stored (unwrap_or (option_map (λ v. risen next priority fuel v (raised priority u stored)) (next u)) (raised priority u stored)) i (nat_le priority (stored_of stored u))
    (high_next next priority fuel i (raised priority u stored) (λ v. high next priority fuel v i (raised priority u stored) still) (next u) ∙ here)

-- ---- how many rose

pub count_same : (s : List ℕ) → risen_count s s ≡ 0
count_same [] = refl
count_same (a ∷ s) = let no : nat_lt a a ≡ false = grind (arith, nat_tests) in rw no (count_same s)

-- one that rose to h is counted, and once it has h no more
count_more : (i h : ℕ) (before after : List ℕ) → i < length before → length after ≡ length before → get_or before i 0 < h → get_or after i 0 ≡ h → risen_count before after ≡ suc (risen_count (set before i h) after)
count_more i h [] after lt long less e = absurd (omega (arith, lt))
count_more i h (a ∷ before) [] lt long less e = absurd (omega (arith, long))
count_more zero h (a ∷ before) (b ∷ after) lt long less e =
    let yes : nat_lt a b ≡ true = grind (arith, nat_tests) in
    let no : nat_lt h b ≡ false = grind (arith, nat_tests) in
    rw (yes, no) refl
count_more (suc i) h (a ∷ before) (b ∷ after) lt long less e =
    count_step (nat_lt a b) (risen_count before after) (risen_count (set before i h) after) (count_more i h before after (omega (arith, lt)) (omega (arith, long)) less e)

-- where a number of the list rises, it is one more than without it
raised_more : (priority i : ℕ) (stored after : List ℕ) → i < length stored → length after ≡ length stored → get_or stored i 0 < priority → get_or after i 0 ≡ priority → risen_count stored after ≡ suc (risen_count (raised priority (suc i) stored) after)
raised_more priority i stored after lt long less e =
    let m : max (get_or stored i 0) priority ≡ priority = omega (arith, less) in
    rw m (count_more i priority stored after lt long less e)

raised_to : (priority i : ℕ) (stored : List ℕ) → i < length stored → get_or stored i 0 < priority → get_or (raised priority (suc i) stored) i 0 ≡ priority
raised_to priority i stored lt less =
    let m : max (get_or stored i 0) priority ≡ priority = omega (arith, less) in
    get_or-set_same stored i (max (get_or stored i 0) priority) 0 lt ∙ m

-- ---- one number raised

one_place : (priority u : ℕ) (stored : List ℕ) → IsPlace stored u → stored_of stored u < priority → risen_count stored (raised priority u stored) ≡ 1
one_place priority zero stored place less = absurd (omega (arith, place.0))
one_place priority (suc i) stored place less =
    let lt : i < length stored = omega (arith, place.1) in
    raised_more priority i stored (raised priority (suc i) stored) lt (length-raised priority (suc i) stored) less (raised_to priority i stored lt less)
    ∙ ap suc (count_same (raised priority (suc i) stored))

one_read : (before after : List ℕ) → risen_count before after ≤ 1 → IsVisited 1 before after
one_read before after le = record { all = le; few = omega arith }

none_rose : (stored after : List ℕ) → after ≡ stored → risen_count stored after ≤ 1
none_rose stored after e = rw (e, count_same stored) (omega arith)

one_cases : (priority u : ℕ) (stored : List ℕ) → (stored_of stored u < priority) ⊎ (priority ≤ stored_of stored u) → IsPlace stored u ⊎ (IsPlace stored u → ⊥) → risen_count stored (raised priority u stored) ≤ 1
one_cases priority u stored (inr le) at = none_rose stored (raised priority u stored) (raised-same priority u stored le)
one_cases priority u stored (inl lt) (inr past) = none_rose stored (raised priority u stored) (raised_past priority u stored past)
one_cases priority u stored (inl lt) (inl place) = let one : risen_count stored (raised priority u stored) ≡ 1 = one_place priority u stored place lt in omega (arith, one)

one_rose : (priority u : ℕ) (stored : List ℕ) → risen_count stored (raised priority u stored) ≤ 1
one_rose priority u stored = one_cases priority u stored (cases_lt (stored_of stored u) priority) (place_or_past stored u)

-- ---- the walk

more_visited : (priority u reads : ℕ) (stored after : List ℕ) → IsPlace stored u → stored_of stored u < priority → length after ≡ length stored → stored_of after u ≡ priority → IsVisited reads (raised priority u stored) after → IsVisited (suc reads) stored after
more_visited priority zero reads stored after place less long e visited = absurd (omega (arith, place.0))
more_visited priority (suc i) reads stored after place less long e visited =
    let lt : i < length stored = omega (arith, place.1) in
    let more : risen_count stored after ≡ suc (risen_count (raised priority (suc i) stored) after) = raised_more priority i stored after lt long less e in
    record { all = rw more (omega (arith, visited.all)); few = rw more (omega (arith, visited.few)) }

reached : (next : ℕ → Option ℕ) (priority fuel u v : ℕ) (stored : List ℕ) → IsPlace stored u → stored_of stored u < priority → stored_of (risen next priority fuel v (raised priority u stored)) u ≡ priority
reached next priority fuel zero v stored place less = absurd (omega (arith, place.0))
reached next priority fuel (suc i) v stored place less =
    let lt : i < length stored = omega (arith, place.1) in
    let to : get_or (raised priority (suc i) stored) i 0 ≡ priority = raised_to priority i stored lt less in
    high next priority fuel v i (raised priority (suc i) stored) (omega (arith, to)) ∙ to

visits_next : (next : ℕ → Option ℕ) (priority fuel u : ℕ) (stored : List ℕ) → IsWithin next stored → stored_of stored u < priority
    → ((v : ℕ) → IsVisited (reads next priority fuel v (raised priority u stored)) (raised priority u stored) (risen next priority fuel v (raised priority u stored))) → (o : Option ℕ) → next u ≡ o
    → IsVisited (suc (unwrap_or (option_map (λ v. reads next priority fuel v (raised priority u stored)) o) 0)) stored (unwrap_or (option_map (λ v. risen next priority fuel v (raised priority u stored)) o) (raised priority u stored))
visits_next next priority fuel u stored within less ih None e = one_read stored (raised priority u stored) (one_rose priority u stored)
visits_next next priority fuel u stored within less ih (Some v) e =
    let place : IsPlace stored u = within.each u v e in
    more_visited priority u (reads next priority fuel v (raised priority u stored)) stored (risen next priority fuel v (raised priority u stored)) place less
    (length-risen next priority fuel v (raised priority u stored) ∙ length-raised priority u stored) (reached next priority fuel u v stored place less) (ih v)

visits_test : (next : ℕ → Option ℕ) (priority fuel u : ℕ) (stored : List ℕ) → IsWithin next stored
    → ((v : ℕ) → IsVisited (reads next priority fuel v (raised priority u stored)) (raised priority u stored) (risen next priority fuel v (raised priority u stored))) → (b : Bool) → nat_le priority (stored_of stored u) ≡ b
    → IsVisited (if b then 1 else suc (unwrap_or (option_map (λ v. reads next priority fuel v (raised priority u stored)) (next u)) 0)) stored (if b then stored else unwrap_or (option_map (λ v. risen next priority fuel v (raised priority u stored)) (next u)) (raised priority u stored))
visits_test next priority fuel u stored within ih true e = one_read stored stored (none_rose stored stored refl)
visits_test next priority fuel u stored within ih false e =
    let less : stored_of stored u < priority = grind (arith, nat_tests) in
    visits_next next priority fuel u stored within less ih (next u) refl

pub visits : (next : ℕ → Option ℕ) (priority fuel u : ℕ) (stored : List ℕ) → IsWithin next stored → IsVisited (reads next priority fuel u stored) stored (risen next priority fuel u stored)
visits next priority zero u stored within = one_read stored (raised priority u stored) (one_rose priority u stored)
visits next priority (suc fuel) u stored within =
    visits_test next priority fuel u stored within
    (λ v. visits next priority fuel v (raised priority u stored) (record { each = λ w x f. rw (length-raised priority u stored) (within.each w x f) }))
    (nat_le priority (stored_of stored u)) refl

-- where nothing is read nothing rose
pub unvisited : (stored : List ℕ) → IsVisited 0 stored stored
unvisited stored = record { all = rw (count_same stored) (omega arith); few = omega arith }
