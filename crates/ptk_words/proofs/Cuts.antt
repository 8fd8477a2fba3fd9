-- What a cut is after a write to one of its lists.
use Rattle.std.proofs.Common.{◌≡◌, ℕ, zero, suc, ◌+◌, ◌-◌, ◌<◌, ◌≤◌, List, [], ◌∷◌, ◌++◌, length, get_or, take, drop, refl, sym, ◌∙◌, ap, arith, length-append, length-drop, length-take, append_assoc, map}
use Rattle.std.proofs.Math.ListN.{set}
use Rattle.std.specs.Prelude.{slice_range, slice_get, Some}
use Rattle.std.proofs.Math.Seq.{take-length, drop-cons}
use Rattle.std.proofs.lemmas.List.{take_more, length-replicate, take-replicate, drop-replicate, set-get_or, length-set, set_past, append-nil, drop-drop, drop_at, take_at, take-take, take-append-le, drop-take, drop_all, take-append-drop, length-take-le}
use Rattle.std.proofs.lemmas.Option.{get_or_from_slice_get, slice_get_within}
use Rattle.ptk_words.specs.Parts.{part_of, filled, joined}
use Rattle.ptk_words.specs.Cuts.{cut, IsCut, start_at, ends_in, AreInTurn, ends_of, over, refilled, lent, sums_from, last_end}
use Rattle.ptk_words.specs.declared.extents.Extent.{Extent}

pub length-cut : {X : Type 0} (a : ℕ) (ends : List ℕ) (bytes : List X) → length (cut a ends bytes) ≡ length ends
length-cut a [] bytes = refl
length-cut a (b ∷ ends) bytes = ap suc (length-cut b ends bytes)

pub get_or-cut : {X : Type 0} (a : ℕ) (ends : List ℕ) (bytes : List X) (p : ℕ) (d : List X) → p < length ends → get_or (cut a ends bytes) p d ≡ slice_range bytes (start_at a ends p) (get_or ends p 0)
get_or-cut a [] bytes p d lt = absurd (omega arith)
get_or-cut a (b ∷ ends) bytes zero d lt = refl
get_or-cut a (b ∷ ends) bytes (suc p) d lt = get_or-cut b ends bytes p d (omega arith)

-- where list p lies
pub record Lies (X : Type 0) (a : ℕ) (ends : List ℕ) (bytes : List X) (p : ℕ) : Type 0 where
  pub after : a ≤ start_at a ends p
  pub ordered : start_at a ends p ≤ get_or ends p 0
  pub within : get_or ends p 0 ≤ length bytes

end_within : {X : Type 0} (a : ℕ) (ends : List ℕ) (bytes : List X) → IsCut a ends bytes → a ≤ length bytes
end_within a [] bytes h = omega arith
end_within a (b ∷ ends) bytes h = let r = end_within b ends bytes h.1 in omega arith

pub lies : {X : Type 0} (a : ℕ) (ends : List ℕ) (bytes : List X) (p : ℕ) → IsCut a ends bytes → p < length ends → Lies X a ends bytes p
lies a [] bytes p h lt = omega arith
lies a (b ∷ ends) bytes zero h lt = record { after = omega arith; ordered = h.0; within = end_within b ends bytes h.1 }
lies a (b ∷ ends) bytes (suc p) h lt =
    let rest = lies b ends bytes p h.1 (omega arith) in
    let from : a ≤ b = h.0 in
    record { after = omega arith; ordered = rest.ordered; within = rest.within }

-- only the number of bytes counts
pub is_cut-length : {X : Type 0} (a : ℕ) (ends : List ℕ) (xs ys : List X) → length xs ≡ length ys → IsCut a ends xs → IsCut a ends ys
is_cut-length a [] xs ys e h = h ∙ e
is_cut-length a (b ∷ ends) xs ys e h = (h.0, is_cut-length b ends xs ys e h.1)

cut-drop : {X : Type 0} (a : ℕ) (ends : List ℕ) (zs xs ys : List X) → IsCut a ends zs → drop a xs ≡ drop a ys → cut a ends xs ≡ cut a ends ys
cut-drop a [] zs xs ys h e = refl
cut-drop {X = X} a (b ∷ ends) zs xs ys h e =
    let from : a ≤ b = h.0 in
    let to : a + (b - a) ≡ b = omega arith in
    let later : (bs : List X) → drop (b - a) (drop a bs) ≡ drop b bs = λ bs. drop-drop (b - a) a bs ∙ ap (λ n. drop n bs) to in
    let same : drop b xs ≡ drop b ys = sym (later xs) ∙ ap (drop (b - a)) e ∙ later ys in
    rw (e, cut-drop b ends zs xs ys h.1 same)

-- a range that ends before the write
range-over : {X : Type 0} (a b i : ℕ) (w xs : List X) → a ≤ b → b ≤ i → i ≤ length xs → slice_range (over i w xs) a b ≡ slice_range xs a b
range-over {X = X} a b i w xs ab bi len =
    let to : a + (b - a) ≡ b = omega arith in
    let as_drop : (bs : List X) → take (b - a) (drop a bs) ≡ drop a (take b bs) = λ bs. sym (drop-take a (b - a) bs) ∙ ap (λ n. drop a (take n bs)) to in
    let room : b ≤ length (take i xs) = rw (length-take-le i xs len) bi in
    let same : take b (over i w xs) ≡ take b xs = take-append-le b (take i xs) _ room ∙ take-take b i xs bi in
    as_drop (over i w xs) ∙ ap (drop a) same ∙ sym (as_drop xs)

drop-over : {X : Type 0} (i : ℕ) (w xs : List X) → i ≤ length xs → drop i (over i w xs) ≡ w ++ drop (length w) (drop i xs)
drop-over i w xs len = drop_at (take i xs) _ i (length-take-le i xs len)

drop_past-over : {X : Type 0} (i b : ℕ) (w xs : List X) → i ≤ length xs → length w + i ≡ b → drop b (over i w xs) ≡ drop b xs
drop_past-over {X = X} i b w xs len e =
    let to : i + length w ≡ b = omega arith in
    let later : (bs : List X) → drop (length w) (drop i bs) ≡ drop b bs = λ bs. drop-drop (length w) i bs ∙ ap (λ n. drop n bs) to in
    sym (later (over i w xs)) ∙ ap (drop (length w)) (drop-over i w xs len) ∙ drop_at w _ (length w) refl ∙ later xs

-- a write over the whole of one list changes that list alone
pub cut-over : {X : Type 0} (a : ℕ) (ends : List ℕ) (xs : List X) (p : ℕ) (w : List X) → IsCut a ends xs → p < length ends → length w + start_at a ends p ≡ get_or ends p 0 → cut a ends (over (start_at a ends p) w xs) ≡ set (cut a ends xs) p w
cut-over a [] xs p w h lt e = absurd (omega arith)
cut-over a (b ∷ ends) xs zero w h lt e =
    let to : length w ≡ b - a = omega arith in
    let from : a ≤ b = h.0 in
    let rest = end_within b ends xs h.1 in
    let len : a ≤ length xs = omega arith in
    let mine : slice_range (over a w xs) a b ≡ w = ap (take (b - a)) (drop-over a w xs len) ∙ take_at w _ (b - a) to in
    rw (mine, cut-drop b ends xs (over a w xs) xs h.1 (drop_past-over a b w xs len e))
cut-over a (b ∷ ends) xs (suc p) w h lt e =
    let rest = lies b ends xs p h.1 (omega arith) in
    let len : start_at b ends p ≤ length xs = omega (arith, rest.ordered, rest.within) in
    rw (range-over a b (start_at b ends p) w xs h.0 rest.after len, cut-over b ends xs p w h.1 (omega arith) e)

pub joined-cut : {X : Type 0} (a : ℕ) (ends : List ℕ) (xs : List X) → IsCut a ends xs → joined (cut a ends xs) ≡ drop a xs
joined-cut a [] xs h = sym (drop_all a xs (omega arith))
joined-cut a (b ∷ ends) xs h =
    let from : a ≤ b = h.0 in
    let to : a + (b - a) ≡ b = omega arith in
    let later : drop b xs ≡ drop (b - a) (drop a xs) = sym (drop-drop (b - a) a xs ∙ ap (λ n. drop n xs) to) in
    rw (joined-cut b ends xs h.1, later) (take-append-drop (b - a) (drop a xs))

-- lists that are joined and cut again

ends_of-cut : {X : Type 0} (a : ℕ) (ends : List ℕ) (bytes : List X) → IsCut a ends bytes → ends_of a (cut a ends bytes) ≡ ends
ends_of-cut a [] bytes h = refl
ends_of-cut a (b ∷ ends) bytes h =
    let from : a ≤ b = h.0 in
    let rest = end_within b ends bytes h.1 in
    let len : length (slice_range bytes a b) ≡ b - a = length-take-le (b - a) (drop a bytes) (omega (arith, length-drop a bytes)) in
    let to : a + length (slice_range bytes a b) ≡ b = omega arith in
    rw (to, ends_of-cut b ends bytes h.1)

-- what the vector holds once it is written over
pub lent-is : {X : Type 0} (ends : List ℕ) (bytes : List X) (p : ℕ) (w : List X) → IsCut 0 ends bytes → cut 0 ends (refilled bytes (over (start_at 0 ends p) w bytes)) ≡ lent (cut 0 ends bytes) p w
unfolding lent
lent-is ends bytes p w h = rw (ends_of-cut 0 ends bytes h, joined-cut 0 ends bytes h)

-- joined, lists are cut at their own ends
is_cut-joined : {X : Type 0} (a : ℕ) (parts : List (List X)) (before : List X) → length before ≡ a → IsCut a (ends_of a parts) (before ++ joined parts)
is_cut-joined a [] before e = rw append-nil (sym e)
is_cut-joined a (part ∷ parts) before e =
    let here : length (before ++ part) ≡ a + length part = omega (arith, length-append before part) in
    (omega arith, rw (← append_assoc before part (joined parts)) (is_cut-joined (a + length part) parts (before ++ part) here))

cut-joined : {X : Type 0} (a : ℕ) (parts : List (List X)) (before : List X) → length before ≡ a → cut a (ends_of a parts) (before ++ joined parts) ≡ parts
cut-joined a [] before e = refl
cut-joined a (part ∷ parts) before e =
    let here : length (before ++ part) ≡ a + length part = omega (arith, length-append before part) in
    let size : a + length part - a ≡ length part = omega arith in
    let head : slice_range (before ++ (part ++ joined parts)) a (a + length part) ≡ part =
    rw (size, drop_at before (part ++ joined parts) a e) (take_at part (joined parts) (length part) refl) in
    rw (head, ← append_assoc before part (joined parts), cut-joined (a + length part) parts (before ++ part) here)

length-ends_of : {X : Type 0} (a : ℕ) (parts : List (List X)) → length (ends_of a parts) ≡ length parts
length-ends_of a [] = refl
length-ends_of a (part ∷ parts) = ap suc (length-ends_of (a + length part) parts)

end_of-part : {X : Type 0} (a : ℕ) (parts : List (List X)) (p : ℕ) → p < length parts → length (get_or parts p []) + start_at a (ends_of a parts) p ≡ get_or (ends_of a parts) p 0
end_of-part a [] p lt = omega arith
end_of-part a (part ∷ parts) zero lt = omega arith
end_of-part a (part ∷ parts) (suc p) lt = end_of-part (a + length part) parts p (omega arith)

length-over : {X : Type 0} (i : ℕ) (w xs : List X) → i + length w ≤ length xs → length (over i w xs) ≡ length xs
length-over i w xs le =
    omega (arith, length-append (take i xs) (w ++ drop (length w) (drop i xs)), length-append w (drop (length w) (drop i xs)), length-drop (length w) (drop i xs), length-drop i xs, length-take i xs)

-- a loan that keeps its length changes its own list alone
pub lent-same : {X : Type 0} (parts : List (List X)) (p : ℕ) (w : List X) → p < length parts → length w ≡ length (part_of parts p) → lent parts p w ≡ set parts p w
unfolding lent
lent-same parts p w lt e =
    let ends = ends_of 0 parts in
    let whole = joined parts in
    let h : IsCut 0 ends whole = is_cut-joined 0 parts [] refl in
    let in_ends : p < length ends = rw (length-ends_of 0 parts) lt in
    let end : length w + start_at 0 ends p ≡ get_or ends p 0 = rw e (end_of-part 0 parts p lt) in
    let at = lies 0 ends whole p h in_ends in
    let len : length (over (start_at 0 ends p) w whole) ≡ length whole = length-over _ w whole (omega (arith, at.within)) in
    let whole_again : refilled whole (over (start_at 0 ends p) w whole) ≡ over (start_at 0 ends p) w whole = take_at _ _ (length whole) len in
    let parts_again : cut 0 ends whole ≡ parts = cut-joined 0 parts [] refl in
    rw whole_again (cut-over 0 ends whole p w h in_ends end ∙ ap (λ ps. set ps p w) parts_again)

pub last_end-push : (a : ℕ) (xs : List ℕ) (x : ℕ) → last_end a (xs ++ x ∷ []) ≡ x
last_end-push a [] x = refl
last_end-push a (y ∷ xs) x = last_end-push y xs x

-- ---- extents

pub start-in_turn : (a : ℕ) (extents : List Extent) (p : ℕ) (d : Extent) → AreInTurn a extents → p < length extents → (get_or extents p d).start ≡ start_at a (ends_in extents) p
start-in_turn a [] p d h lt = absurd (omega arith)
start-in_turn a (e ∷ extents) zero d h lt = h.0
start-in_turn a (e ∷ extents) (suc p) d h lt = start-in_turn e.end extents p d h.1 (omega arith)

pub end-in_turn : (extents : List Extent) (p : ℕ) (d : Extent) → p < length extents → (get_or extents p d).end ≡ get_or (ends_in extents) p 0
end-in_turn [] p d lt = absurd (omega arith)
end-in_turn (e ∷ extents) zero d lt = refl
end-in_turn (e ∷ extents) (suc p) d lt = end-in_turn extents p d (omega arith)

pub in_turn-push : (a : ℕ) (extents : List Extent) (e : Extent) → AreInTurn a extents → e.start ≡ last_end a (ends_in extents) → AreInTurn a (extents ++ e ∷ [])
in_turn-push a [] e h begins = (begins, tt)
in_turn-push a (x ∷ extents) e h begins = (h.0, in_turn-push x.end extents e h.1 begins)

pub ends_in-push : (extents : List Extent) (e : Extent) → ends_in (extents ++ e ∷ []) ≡ ends_in extents ++ e.end ∷ []
ends_in-push [] e = refl
ends_in-push (x ∷ extents) e = ap (λ ends. x.end ∷ ends) (ends_in-push extents e)

pub length-ends_in : (extents : List Extent) → length (ends_in extents) ≡ length extents
length-ends_in [] = refl
length-ends_in (e ∷ extents) = ap suc (length-ends_in extents)

pub last_end-next : (extents : List Extent) (i : ℕ) (d : Extent) → i < length extents → last_end 0 (ends_in (take (i + 1) extents)) ≡ (get_or extents i d).end
last_end-next extents i d lt = ap (λ (es : List Extent). last_end 0 (ends_in es)) (take_more extents i d lt)
    ∙ ap (last_end 0) (ends_in-push (take i extents) (get_or extents i d)) ∙ last_end-push 0 (ends_in (take i extents)) (get_or extents i d).end

pub told-next : (before : List Extent) (e : Extent) (ns : List ℕ) (i : ℕ) → i < length ns → e.end ≡ e.start + get_or ns i 0 → ends_in (before ++ e ∷ []) ++ sums_from e.end (drop (i + 1) ns) ≡ ends_in before ++ sums_from e.start (drop i ns)
told-next before e ns i lt end =
    let after : suc i ≡ i + 1 = omega arith in
    let next : drop i ns ≡ get_or ns i 0 ∷ drop (i + 1) ns = drop-cons ns i 0 lt ∙ ap (λ (k : ℕ). get_or ns i 0 ∷ drop k ns) after in
    rw (ends_in-push before e, append_assoc (ends_in before) (e.end ∷ []) (sums_from e.end (drop (i + 1) ns)), next, end) refl

-- a cut ends with its items
pub last_end-cut : {X : Type 0} (a : ℕ) (ends : List ℕ) (items : List X) → IsCut a ends items → last_end a ends ≡ length items
last_end-cut a [] items h = h
last_end-cut a (b ∷ ends) items h = last_end-cut b ends items h.1

-- a partition has an end
pub in_ends : {X : Type 0} (ends : List ℕ) (bytes : List X) (parts : List (List X)) (p : ℕ) → cut 0 ends bytes ≡ parts → p < length parts → p < length ends
in_ends ends bytes parts p e lt = let n : length parts ≡ length ends = ap length (sym e) ∙ length-cut 0 ends bytes in rw (← n) lt

-- and its bytes lie before it
pub part_lies : {X : Type 0} (ends : List ℕ) (bytes : List X) (parts : List (List X)) (p : ℕ) → cut 0 ends bytes ≡ parts → IsCut 0 ends bytes → p < length parts → Lies X 0 ends bytes p
part_lies ends bytes parts p e h lt = lies 0 ends bytes p h (in_ends ends bytes parts p e lt)

pub in_extents : {X : Type 0} (extents : List Extent) (bytes : List X) (parts : List (List X)) (p : ℕ) → cut 0 (ends_in extents) bytes ≡ parts → p < length parts → p < length extents
in_extents extents bytes parts p e lt = rw (← length-ends_in extents) (in_ends (ends_in extents) bytes parts p e lt)

-- there are as many extents as partitions
pub length-parts : {X : Type 0} (extents : List Extent) (bytes : List X) (parts : List (List X)) → cut 0 (ends_in extents) bytes ≡ parts → length extents ≡ length parts
length-parts extents bytes parts e = sym (length-cut 0 (ends_in extents) bytes ∙ length-ends_in extents) ∙ ap length e

-- the extent that is found at the place of a partition
pub placed : (extents : List Extent) (p : ℕ) (x : Extent) → slice_get extents p ≡ Some x → AreInTurn 0 extents → (x.start ≡ start_at 0 (ends_in extents) p) × (x.end ≡ get_or (ends_in extents) p 0)
placed extents p x found h =
    let here : x ≡ get_or extents p x = sym (get_or_from_slice_get extents p x x found) in
    let lt : p < length extents = slice_get_within extents p x found in
    (ap (λ (e : Extent). e.start) here ∙ start-in_turn 0 extents p x h lt, ap (λ (e : Extent). e.end) here ∙ end-in_turn extents p x lt)

pub part-is : {X : Type 0} (ends : List ℕ) (bytes : List X) (parts : List (List X)) (p : ℕ) → cut 0 ends bytes ≡ parts → p < length parts → slice_range bytes (start_at 0 ends p) (get_or ends p 0) ≡ part_of parts p
part-is ends bytes parts p e lt = sym (get_or-cut 0 ends bytes p [] (in_ends ends bytes parts p e lt)) ∙ ap (λ ps. get_or ps p []) e

-- a write of the whole list is none, where the list is as it was
pub set_part-same : {X : Type 0} (parts : List (List X)) (p : ℕ) → set parts p (part_of parts p) ≡ parts
set_part-same parts p = set-get_or parts p []

-- what follows of a loan
pub ruleset loans = (lent-same, length-set, set_part-same, set_past, set-get_or)

-- running sums are a cut of as many items as the last
sums_ascend : {X : Type 0} (a : ℕ) (ns : List ℕ) (items : List X) → length items ≡ last_end a (sums_from a ns) → IsCut a (sums_from a ns) items
sums_ascend a [] items e = sym e
sums_ascend a (n ∷ ns) items e = (omega arith, sums_ascend (a + n) ns items e)

cut-filled : {X : Type 0} (x : X) (a : ℕ) (ns : List ℕ) (m : ℕ) → last_end a (sums_from a ns) ≤ m → IsCut a (sums_from a ns) (filled x m) → cut a (sums_from a ns) (filled x m) ≡ map (filled x) ns
cut-filled x a [] m le h = refl
cut-filled x a (n ∷ ns) m le h =
    let at : a + n ≤ m = rw (length-replicate m x) at (end_within (a + n) (sums_from (a + n) ns) (filled x m) h.1) in
    let size : a + n - a ≡ n = omega arith in
    let room : n ≤ m - a = omega arith in
    rw (size, drop-replicate a m x, take-replicate n (m - a) x room, cut-filled x (a + n) ns m le h.1)

pub built : {X : Type 0} (x : X) (ns ends : List ℕ) (items : List X) → ends ≡ sums_from 0 ns → items ≡ filled x (last_end 0 ends) → IsCut 0 ends items × (cut 0 ends items ≡ map (filled x) ns)
built x ns ends items e f =
    let m = last_end 0 (sums_from 0 ns) in
    let h : IsCut 0 (sums_from 0 ns) (filled x m) = sums_ascend 0 ns (filled x m) (length-replicate m x) in
    rw (f, e) (h, cut-filled x 0 ns m (omega arith) h)

-- ---- one more list

end_within-append : {X : Type 0} (a b : ℕ) (xs w : List X) → a ≤ b → b ≤ length xs → slice_range (xs ++ w) a b ≡ slice_range xs a b
end_within-append {X = X} a b xs w ab len =
    let to : a + (b - a) ≡ b = omega arith in
    let as_drop : (items : List X) → take (b - a) (drop a items) ≡ drop a (take b items) = λ items. sym (drop-take a (b - a) items) ∙ ap (λ n. drop a (take n items)) to in
    as_drop (xs ++ w) ∙ ap (drop a) (take-append-le b xs w len) ∙ sym (as_drop xs)

is_cut-append : {X : Type 0} (a : ℕ) (ends : List ℕ) (xs w : List X) → IsCut a ends xs → IsCut a (ends ++ (length xs + length w) ∷ []) (xs ++ w)
is_cut-append a [] xs w h = (omega arith, sym (length-append xs w))
is_cut-append a (b ∷ ends) xs w h = (h.0, is_cut-append b ends xs w h.1)

cut-append : {X : Type 0} (a : ℕ) (ends : List ℕ) (xs w : List X) → IsCut a ends xs → cut a (ends ++ (length xs + length w) ∷ []) (xs ++ w) ≡ cut a ends xs ++ w ∷ []
cut-append a [] xs w h =
    let size : length xs + length w - a ≡ length w = omega (arith, h) in
    rw (size, drop_at xs w a (sym h), take-length w) refl
cut-append a (b ∷ ends) xs w h =
    let from : a ≤ b = h.0 in
    rw (end_within-append a b xs w from (end_within b ends xs h.1), cut-append b ends xs w h.1) refl

-- one more list behind the others
pub added : {X : Type 0} (ends ends' : List ℕ) (xs xs' w : List X) (n : ℕ) → IsCut 0 ends xs → xs' ≡ xs ++ w → ends' ≡ ends ++ n ∷ [] → n ≡ length xs' → IsCut 0 ends' xs' × (cut 0 ends' xs' ≡ cut 0 ends xs ++ w ∷ [])
added ends ends' xs xs' w n h grown more size =
    let total : n ≡ length xs + length w = size ∙ ap length grown ∙ length-append xs w in
    rw (grown, more, total) (is_cut-append 0 ends xs w h, cut-append 0 ends xs w h)
