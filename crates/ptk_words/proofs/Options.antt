-- Options, results, truth values, and numbers that a test chooses.
use Rattle.std.proofs.Common.{◌≡◌, ℕ, suc, ◌+◌, ◌-◌, ◌<◌, ◌≤◌, max, Bool, true, false, cond, ◌⊎◌, inl, inr, refl, sym, ap, subst, ◌∙◌, arith}
use Rattle.std.specs.Prelude.{Option, Some, None, IsSome, is_some, option_map, if◌then◌else◌, Result, Ok, Err, IfErr, IsErrAnd, IsSomeAnd, MatchBool}
use Rattle.std.proofs.lemmas.Bool.{cases_lt, false≢true}
use Rattle.std.proofs.lemmas.Option.{none-some}

-- ---- options

pub none_if_not_some : (o : Option ℕ) → is_some o ≡ false → o ≡ None
none_if_not_some None e = refl
none_if_not_some (Some t) e = absurd (false≢true (sym e))

pub none_if_never_some : (o : Option ℕ) → ((i : ℕ) → o ≡ Some i → ⊥) → o ≡ None
none_if_never_some None h = refl
none_if_never_some (Some i) h = absurd (h i refl)

-- an option has one value
pub one_value : (n m : ℕ) (o : Option ℕ) → o ≡ Some n → o ≡ Some m → n ≡ m
one_value n m o e f = cc

pub mapped_some : {A : Type 0} (f : A → A) (o : Option A) → IsSome o → IsSome (option_map f o)
mapped_some f None e = e
mapped_some f (Some a) e = refl

-- nothing is there, or something is
pub not_both : {A : Type 0} (o : Option A) (a : A) → o ≡ None → o ≡ Some a → ⊥
not_both o a none is = none-some a (sym none ∙ is)

-- what has such a value has one
pub some_of : {A : Type 0} (o : Option A) (P : A → Type 0) → IsSomeAnd o P → IsSome o
some_of None P h = absurd h
some_of (Some a) P h = refl

-- where a test gives nothing it was false
pub not_chosen : {A : Type 0} (b : Bool) (a : A) → cond b (Some a) None ≡ None → b ≡ false
not_chosen true a e = absurd cc
not_chosen false a e = refl

-- ---- results

-- an error that is passed on stays what it was
pub passed_on : {T E : Type 0} (P : E → Type 0) (r : Result T E) (e : E) → IsErrAnd r (λ f. f ≡ e) → P e → IfErr r P
passed_on P (Ok a) e is h = absurd is
passed_on P (Err f) e is h = subst P (sym is) h

-- ---- what a test chooses

pub when_true : (b : Bool) (P Q : Type 0) → b ≡ true → P → MatchBool b P Q
when_true b P Q is p = subst (λ (t : Bool). MatchBool t P Q) (sym is) p

pub when_false : (b : Bool) (P Q : Type 0) → b ≡ false → Q → MatchBool b P Q
when_false b P Q is q = subst (λ (t : Bool). MatchBool t P Q) (sym is) q

-- ---- numbers

pub max_cases : (a b : ℕ) → (max a b ≡ a) ⊎ (max a b ≡ b)
max_cases a b = grind arith

-- what holds below n and at n holds below n + 1
pub one_more : (P : ℕ → Type 0) (n : ℕ) → ((k : ℕ) → k < n → P k) → P n → (k : ℕ) → k < n + 1 → P k
one_more P n below at k h = by (cases_lt k n)
  where
    by : (k < n) ⊎ (n ≤ k) → P k
    by (inl less) = below k less
    by (inr more) = let same : n ≡ k = omega (arith, h, more) in subst P same at

-- ---- numbers that a test chooses

pub same_either_way : (b : Bool) (n : ℕ) → (if b then n else n) ≡ n
same_either_way true n = refl
same_either_way false n = refl

pub zero_either_way : (b : Bool) (n : ℕ) → n ≡ 0 → (if b then n else 0) ≡ 0
zero_either_way true n e = e
zero_either_way false n e = refl

pub one_at_most : (b : Bool) → (if b then 1 else 0) ≤ 1
one_at_most true = omega arith
one_at_most false = omega arith

-- one more or none more, after one more
pub count_step : (b : Bool) (x y : ℕ) → x ≡ suc y → (if b then suc x else x) ≡ suc (if b then suc y else y)
count_step true x y e = ap suc e
count_step false x y e = e

-- what is left up to a stop gets less as long as time goes on
pub closer : (going on : Bool) (stop now next : ℕ) → going ≡ true → now < stop → (on ≡ true → now < next) → (if on then stop - next + 1 else 0) < (if going then stop - now + 1 else 0)
closer true true stop now next e lt later = let less : now < next = later refl in omega (arith, lt, less)
closer true false stop now next e lt later = omega arith
closer false on stop now next e lt later = absurd (false≢true e)
