-- One more line, and the lines of the last steps by their parts.
use Rattle.std.proofs.Common.{◌≡◌, ◌∙◌, ◌<◌, ◌+◌, ◌-◌, ℕ, zero, suc, List, [], ◌∷◌, ◌++◌, Option, length, get_or, take, drop, flat_map, All, sym, ap, subst, add-one, arith, length-append}
use Rattle.std.proofs.Math.Seq.{take-suc}
use Rattle.std.proofs.lemmas.Grind.{flat_map-append}
use Rattle.std.proofs.lemmas.List.{flat_map_more}
use Rattle.std.proofs.lemmas.List.Elements.{All-append, All-more}
use Rattle.std.specs.Io.KnownBytes.{Appends}
use Rattle.std.proofs.KnownBytes.{Appends-trans}
use Rattle.ptk_words.specs.declared.sections.Entry.{Entry}
use Rattle.ptk_words_model.specs.Run.{last_of}
use Rattle.ptk_words_model.specs.Text.{trace_line, trace_text}
use Rattle.ptk_trace.specs.KeptSteps.{IsStep}

-- the lines of the first steps and one more
lines_more : (xs : List Entry) (i : ℕ) (x : Entry) → i < length xs → trace_text (take (i + 1) xs) ≡ trace_text (take i xs) ++ trace_line (get_or xs i x)
lines_more xs i x lt = ap (flat_map trace_line) (rw (add-one i) (take-suc xs i x lt)) ∙ sym (flat_map_more trace_line [] (take i xs) (get_or xs i x))

-- a line after the lines of the steps before it
pub appends_line : (a b c : Option (List ℕ)) (xs : List Entry) (i : ℕ) (x : Entry) → i < length xs → x ≡ get_or xs i x
    → Appends a b (trace_text (take i xs)) → Appends b c (trace_line x) → Appends a c (trace_text (take (i + 1) xs))
appends_line a b c xs i x lt at before line =
    let text : trace_text (take i xs) ++ trace_line x ≡ trace_text (take (i + 1) xs) = ap (λ y. trace_text (take i xs) ++ trace_line y) at ∙ sym (lines_more xs i x lt) in
    subst (λ (t : List ℕ). Appends a c t) text (Appends-trans a b c (trace_text (take i xs)) (trace_line x) before line)

-- a step with the numbers of a step after those before it
pub steps_more : (xs : List Entry) (i : ℕ) (x : Entry) → i < length xs → x ≡ get_or xs i x → All IsStep (take i xs) → IsStep x → All IsStep (take (i + 1) xs)
steps_more xs i x lt at before one = All-more IsStep xs i x lt before (subst IsStep at one)

-- the rest of two parts is the rest of each
drop_parts : (n : ℕ) (xs ys : List Entry) → drop n (xs ++ ys) ≡ drop n xs ++ drop (n - length xs) ys
drop_parts zero xs ys =
    let none : 0 ≡ 0 - length xs = omega arith in
    ap (λ (k : ℕ). xs ++ drop k ys) none
drop_parts (suc n) [] ys =
    let all : suc n ≡ suc n - 0 = omega arith in
    ap (λ (k : ℕ). drop k ys) all
drop_parts (suc n) (x ∷ xs) ys =
    let one : n - length xs ≡ suc n - length (x ∷ xs) = omega arith in
    drop_parts n xs ys ∙ ap (λ (k : ℕ). drop n xs ++ drop k ys) one

-- the steps that are left of a ring's two parts and of newer ones, where so many are gone
rest_of_parts : (room gone second third : ℕ) (front back newest items : List Entry) → front ++ back ≡ items → gone ≡ length front + length back + length newest - room
    → second ≡ gone - length front → third ≡ gone - (length front + length back)
    → (drop gone front ++ drop second back) ++ drop third newest ≡ last_of room (items ++ newest)
rest_of_parts room gone second third front back newest items is count two three =
    let many : length items ≡ length front + length back = ap length (sym is) ∙ length-append front back in
    let left : gone ≡ length (items ++ newest) - room = omega (arith, count, many, length-append items newest) in
    let last : third ≡ gone - length items = omega (arith, three, many) in
    ap (λ (k : ℕ). (drop gone front ++ drop k back) ++ drop third newest) two
    ∙ (ap (λ (es : List Entry). es ++ drop third newest) (sym (drop_parts gone front back) ∙ ap (drop gone) is)
    ∙ (ap (λ (k : ℕ). drop gone items ++ drop k newest) last
    ∙ (sym (drop_parts gone items newest) ∙ ap (λ (k : ℕ). drop k (items ++ newest)) left)))

-- the steps that are kept are those of the three parts that are written
pub kept_parts : (room gone second third : ℕ) (front back newest items one two three kept : List Entry) → front ++ back ≡ items
    → gone ≡ length front + length back + length newest - room → second ≡ gone - length front → third ≡ gone - (length front + length back)
    → one ≡ drop gone front → two ≡ drop second back → three ≡ drop third newest → last_of room (items ++ newest) ≡ kept → (one ++ two) ++ three ≡ kept
kept_parts room gone second third front back newest items one two three kept is count before behind first next last whole =
    ap (λ (es : List Entry). (es ++ two) ++ three) first
    ∙ (ap (λ (es : List Entry). (drop gone front ++ es) ++ three) next
    ∙ (ap (λ (es : List Entry). (drop gone front ++ drop second back) ++ es) last
    ∙ (rest_of_parts room gone second third front back newest items is count before behind ∙ whole)))

-- the numbers of the steps of three lists are those of steps
pub all_three : (xs ys zs all : List Entry) → (xs ++ ys) ++ zs ≡ all → All IsStep xs → All IsStep ys → All IsStep zs → All IsStep all
all_three xs ys zs all is one two three = subst (All IsStep) is (All-append IsStep (xs ++ ys) zs (All-append IsStep xs ys one two) three)

-- the lines of three lists of steps, one after another
pub appends_three : (a b c d : Option (List ℕ)) (xs ys zs all : List Entry) → (xs ++ ys) ++ zs ≡ all
    → Appends a b (trace_text xs) → Appends b c (trace_text ys) → Appends c d (trace_text zs) → Appends a d (trace_text all)
appends_three a b c d xs ys zs all is one two three =
    let text : (trace_text xs ++ trace_text ys) ++ trace_text zs ≡ trace_text all =
    ap (λ (t : List ℕ). t ++ trace_text zs) (sym (flat_map-append trace_line xs ys)) ∙ (sym (flat_map-append trace_line (xs ++ ys) zs) ∙ ap trace_text is) in
    subst (λ (t : List ℕ). Appends a d t) text
    (Appends-trans a c d (trace_text xs ++ trace_text ys) (trace_text zs) (Appends-trans a b c (trace_text xs) (trace_text ys) one two) three)
