-- Numbers that the code keeps at 2 ^ 40 at most.
use Rattle.std.proofs.Common.{◌≡◌, ℕ, ◌+◌, ◌*◌, ◌^◌, ◌<◌, ◌≤◌, Bool, true, false, List, [], ◌∷◌, length, drop, get_or, Option, Some, None, option_map, min, refl, sym, ap, ◌∙◌, arith, zero, suc, add-one, drop-cons}
use Rattle.std.specs.Prelude.{nat_lt, nat_le}
use Rattle.std.proofs.lemmas.Bool.Decides.{nat_tests}
use Rattle.ptk_asm_language.specs.Tokens.{digit_of, spelled_on}
use Rattle.ptk_asm_language.specs.Reading.{capped}
use Rattle.ptk_asm_language.specs.Ranges.{kept_below}

cap_step : (k n base value : ℕ) → 0 < base → min (min n k * base + value) k ≡ min (n * base + value) k
cap_step k n zero value h = absurd (omega arith)
cap_step k n (suc b) value h = cap_at (nat_lt n k) refl
  where
    cap_at : (t : Bool) → nat_lt n k ≡ t → min (min n k * suc b + value) k ≡ min (n * suc b + value) k
    cap_at true test =
        let below : n < k = grind (arith, nat_tests) in
        let e : min n k ≡ n = omega arith in rw e refl
    cap_at false test =
        let above : k ≤ n = grind (arith, nat_tests) in
        let e : min n k ≡ k = omega arith in
        let f : k ≤ k * suc b + value = grind arith in
        let g : k ≤ n * suc b + value = grind arith in
        rw e (omega arith)

min_twice : (k n : ℕ) → min (min n k) k ≡ min n k
min_twice k n = omega arith

pub spelled-capped : (base n : ℕ) (cs : List ℕ) → 0 < base → option_map capped (spelled_on base (min n (2 ^ 40)) cs) ≡ option_map capped (spelled_on base n cs)
unfolding capped
spelled-capped base n [] h = ap Some (min_twice (2 ^ 40) n)
spelled-capped base n (c ∷ cs) h = capped_step (λ m. spelled-capped base m cs h) (digit_of base c) refl
  where
    capped_step : ((m : ℕ) → option_map capped (spelled_on base (min m (2 ^ 40)) cs) ≡ option_map capped (spelled_on base m cs))
        → (d : Option ℕ) → digit_of base c ≡ d → option_map capped (spelled_on base (min n (2 ^ 40)) (c ∷ cs)) ≡ option_map capped (spelled_on base n (c ∷ cs))
    capped_step later (Some d) e = rw e (sym (later (min n (2 ^ 40) * base + d)) ∙ ap (λ (m : ℕ). option_map capped (spelled_on base m cs)) (cap_step (2 ^ 40) n base d h) ∙ later (n * base + d))
    capped_step later None e = rw e refl

-- a digit more
pub spelled_step : (base n d : ℕ) (s : List ℕ) (i : ℕ) → 0 < base → i < length s → digit_of base (get_or s i 0) ≡ Some d
    → option_map capped (spelled_on base (min (n * base + d) (2 ^ 40)) (drop (i + 1) s)) ≡ option_map capped (spelled_on base n (drop i s))
spelled_step base n d s i positive inside e =
    rw (drop-cons s i 0 inside, add-one, e) (spelled-capped base (n * base + d) (drop (suc i) s) positive)

-- no digit
pub spelled_stop : (base n : ℕ) (s : List ℕ) (i : ℕ) → i < length s → digit_of base (get_or s i 0) ≡ None
    → spelled_on base n (drop i s) ≡ None
spelled_stop base n s i inside e = rw (drop-cons s i 0 inside, e) refl

-- a magnitude within a limit is kept
pub capped_below : (m n limit : ℕ) → m ≡ capped n → m ≤ limit → limit < 2 ^ 32 → kept_below n limit ≡ Some m
unfolding capped
capped_below m n limit e inside small =
    let same : n ≡ m = omega (arith, e, inside, small) in
    let test : nat_le n limit ≡ true = grind (arith, nat_tests) in
    rw test (ap Some same)

pub capped_above : (m n limit : ℕ) → m ≡ capped n → limit < m → kept_below n limit ≡ None
unfolding capped
capped_above m n limit e above =
    let over : limit < n = omega (arith, e, above) in
    let test : nat_le n limit ≡ false = grind (arith, nat_tests) in
    rw test refl
