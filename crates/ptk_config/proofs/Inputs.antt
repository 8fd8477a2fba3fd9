-- The inputs that were read, as one more comes, and their bytes in a row.
use Rattle.std.proofs.Common.{◌≡◌, ◌≤◌, ℕ, ◌+◌, List, [], ◌∷◌, ◌++◌, ◌<◌, length, map, take, get_or, refl, sym, subst, arith, append_assoc, append-nil}
use Rattle.std.specs.Prelude.{fold, sum_by, All, AllPairs}
use Rattle.std.proofs.lemmas.List.{flat_map_more, take_more, length-map, map-append}
use Rattle.std.proofs.lemmas.List.Elements.{All-weaker, All-push}
use Rattle.std.proofs.lemmas.List.Quantifiers.{all_pairs_push}
use Rattle.std.proofs.lemmas.List.Sums.{sum_by_push, sum_by-le-sum_by}
use Rattle.std.proofs.lemmas.List.Concat.{length-flat_map}
use Rattle.ptk_words.specs.declared.TheConstants.{LAST_TICK}
use Rattle.ptk_words.specs.declared.sections.Arrival.{Arrival}
use Rattle.ptk_words.specs.Ranges.{IsInput}
use Rattle.ptk_config.specs.Inputs.{Input, last_tick, byte_count, arrivals_at, arrivals_of}
use Rattle.ptk_config.proofs.Walks.{each_after-more, each_after-fault, each_after-end}

last_from : (t : ℕ) (is : List Input) (j : Input) → fold (λ _ i. i.tick) t (is ++ j ∷ []) ≡ j.tick
last_from t [] j = refl
last_from t (i ∷ is) j = last_from i.tick is j

pub last_tick-push : (is : List Input) (j : Input) → last_tick (is ++ j ∷ []) ≡ j.tick
last_tick-push is j = last_from 0 is j

pub byte_count-push : (is : List Input) (j : Input) → byte_count (is ++ j ∷ []) ≡ byte_count is + length j.bytes
byte_count-push is j = sum_by_push (λ i. length i.bytes) is j

pub arrivals_of-push : (is : List Input) (j : Input) → arrivals_of (is ++ j ∷ []) ≡ arrivals_of is ++ arrivals_at j
arrivals_of-push is j = sym (flat_map_more arrivals_at [] is j)

-- the ticks never fall, and none is above the last
pub record IsInOrder (last : ℕ) (arrivals : List Arrival) : Type 0 where
  pub never_falling : AllPairs (λ a b. a.tick ≤ b.tick) arrivals
  pub up_to : All (λ a. a.tick ≤ last) arrivals

abbrev arrival_at : ℕ → ℕ → Arrival
arrival_at t b = record { tick = t; byte = b }

IsInOrder-later : (last t : ℕ) (xs : List Arrival) → IsInOrder last xs → last ≤ t → IsInOrder t xs
IsInOrder-later last t xs order later = record {
  never_falling = order.never_falling;
  up_to = All-weaker (λ a. a.tick ≤ last) (λ a. a.tick ≤ t) (λ a below. omega arith) xs order.up_to;
}

IsInOrder-push : (t b : ℕ) (xs : List Arrival) → IsInOrder t xs → IsInOrder t (xs ++ arrival_at t b ∷ [])
IsInOrder-push t b xs order = record {
  never_falling = all_pairs_push (λ a c. a.tick ≤ c.tick) xs (arrival_at t b) order.never_falling (λ k d within. order.up_to k d within);
  up_to = All-push (λ a. a.tick ≤ t) xs (arrival_at t b) order.up_to (omega arith);
}

IsInOrder-append : (t : ℕ) (bs : List ℕ) (xs : List Arrival) → IsInOrder t xs → IsInOrder t (xs ++ map (arrival_at t) bs)
IsInOrder-append t [] xs order = rw append-nil order
IsInOrder-append t (b ∷ bs) xs order =
    subst (IsInOrder t) (append_assoc xs (arrival_at t b ∷ []) (map (arrival_at t) bs))
    (IsInOrder-append t bs (xs ++ arrival_at t b ∷ []) (IsInOrder-push t b xs order))

-- an input that does not come before the last keeps the order
pub IsInOrder-more : (last t : ℕ) (is js : List Input) (j : Input) → IsInOrder last (arrivals_of is) → last ≤ t → t ≡ j.tick → js ≡ is ++ j ∷ [] → IsInOrder t (arrivals_of js)
IsInOrder-more last t is js j order later at more =
    let low : last ≤ j.tick = rw (← at) later in
    let next : IsInOrder j.tick (arrivals_of is ++ arrivals_at j) =
    IsInOrder-append j.tick j.bytes (arrivals_of is) (IsInOrder-later last j.tick (arrivals_of is) order low) in
    rw (more, arrivals_of-push is j, at) next

length-arrivals_of : (is : List Input) → length (arrivals_of is) ≤ byte_count is
length-arrivals_of is =
    let each : sum_by (λ i. length (arrivals_at i)) is ≤ byte_count is =
    sum_by-le-sum_by (λ i. length (arrivals_at i)) (λ i. length i.bytes) is (λ i. omega (arith, length-map i.bytes (arrival_at i.tick))) in
    omega (arith, length-flat_map arrivals_at is, each)

-- ordered inputs of so many bytes are within their ranges
pub IsInput-arrivals_of : (last : ℕ) (is : List Input) → IsInOrder last (arrivals_of is) → last ≤ LAST_TICK → byte_count is ≤ 65536 → IsInput (arrivals_of is)
IsInput-arrivals_of last is order in_time few = record {
  never_falling = order.never_falling;
  in_time = (IsInOrder-later last LAST_TICK (arrivals_of is) order in_time).up_to;
  few = omega (arith, length-arrivals_of is);
}

pub ruleset inputs = (each_after-more, each_after-fault, each_after-end, last_tick-push, byte_count-push, IsInOrder-more, IsInput-arrivals_of)

-- one more byte of an input
pub map-take-more : (f : ℕ → Arrival) (old : List Arrival) (bs : List ℕ) (k b : ℕ) → k < length bs → b ≡ get_or bs k b → (old ++ map f (take k bs)) ++ f b ∷ [] ≡ old ++ map f (take (k + 1) bs)
map-take-more f old bs k b within at =
    let next : take (k + 1) bs ≡ take k bs ++ b ∷ [] = rw (take_more bs k b within, ← at) in
    rw (next, map-append) (append_assoc old (map f (take k bs)) (f b ∷ []))

-- one more input's bytes
pub arrivals_of-more : (is : List Input) (k : ℕ) (j : Input) → k < length is → j ≡ get_or is k j → arrivals_of (take (k + 1) is) ≡ arrivals_of (take k is) ++ arrivals_at j
arrivals_of-more is k j within at =
    let next : take (k + 1) is ≡ take k is ++ j ∷ [] = rw (take_more is k j within, ← at) in
    rw next (arrivals_of-push (take k is) j)

pub ruleset arrivals = (arrivals_of-more, map-take-more)
