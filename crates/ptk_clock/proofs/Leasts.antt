-- Of pairs in order, the first that passes a test is the least that does.
use Rattle.std.proofs.Common.{◌≡◌, ℕ, List, [], ◌∷◌, Bool, true, false, cond, refl, sym, ◌∙◌, subst, arith, Option, Some, None}
use Rattle.std.specs.Prelude.{find, IfSome}
use Rattle.std.proofs.lemmas.Bool.Decides.{nat_tests}
use Rattle.ptk_words.specs.Names.{Tick}
use Rattle.ptk_clock.specs.Pairs.{Pair, is_before, IsBeforeAll, AreInOrder, IsLeast, is_among, is_due, least_among, least_due}

not_before : (a b : Pair) → is_before a b ≡ true → is_before b a ≡ false
not_before a b p = grind (arith, nat_tests)

not_before_itself : (a : Pair) → is_before a a ≡ false
not_before_itself a = grind (arith, nat_tests)

least_before : (test : Pair → Bool) (a : Pair) (xs : List Pair) → IsBeforeAll a xs → IsLeast test xs a
least_before test a [] h = tt
least_before test a (x ∷ xs) h = (λ t. not_before a x h.0, least_before test a xs h.1)

if_some : (o : Option Pair) (P Q : Pair → Type 0) → ((a : Pair) → P a → Q a) → IfSome o P → IfSome o Q
if_some None P Q f h = h
if_some (Some a) P Q f h = f a h

at_test : (test : Pair → Bool) (b : Bool) (x : Pair) (xs : List Pair) → test x ≡ b → IsBeforeAll x xs → IfSome (find test xs) (IsLeast test xs) → IfSome (cond b (Some x) (find test xs)) (IsLeast test (x ∷ xs))
at_test test true x xs e h rest = (λ t. not_before_itself x, least_before test x xs h)
at_test test false x xs e h rest =
    if_some (find test xs) (IsLeast test xs) (IsLeast test (x ∷ xs)) (λ a later. ((λ t. (let no : true ≡ false = sym t ∙ e in absurd (cc))), later)) rest

least-find : (test : Pair → Bool) (xs : List Pair) → AreInOrder xs → IfSome (find test xs) (IsLeast test xs)
least-find test [] h = tt
least-find test (x ∷ xs) h = at_test test (test x) x xs refl h.0 (least-find test xs h.1)

pub least-due : (first last : ℕ) (now : Tick) (xs : List Pair) → AreInOrder xs → IfSome (least_due first last now xs) (IsLeast (is_due first last now) xs)
least-due first last now xs h = least-find (is_due first last now) xs h

pub least-among : (first last : ℕ) (xs : List Pair) → AreInOrder xs → IfSome (least_among first last xs) (IsLeast (is_among first last) xs)
least-among first last xs h = least-find (is_among first last) xs h

-- what was found, among the same pairs
pub due_least : (first last : ℕ) (now : Tick) (xs ys : List Pair) (o : Option Pair) → AreInOrder xs → xs ≡ ys → o ≡ least_due first last now xs → IfSome o (IsLeast (is_due first last now) ys)
due_least first last now xs ys o h e found =
    let P : List Pair → Type 0 = λ zs. IfSome o (IsLeast (is_due first last now) zs) in
    let Q : Option Pair → Type 0 = λ p. IfSome p (IsLeast (is_due first last now) xs) in
    subst P e (subst Q (sym found) (least-due first last now xs h))
