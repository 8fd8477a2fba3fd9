-- Chains, where each number may lead to a next one.
use Rattle.std.specs.Prelude.{◌≡◌, ℕ, zero, suc, Bool, false, ◌||◌, filter, ◌==◌, Option, Some, option_map, option_and_then, unwrap_or}
use Rattle.ptk_words.specs.Pools.{numbers_to, greatest}

-- the number that n steps of the chain of u lead to (pthread_mutexattr_getprotocol)
abbrev pub steps_from : (ℕ → Option ℕ) → ℕ → ℕ → Option ℕ
steps_from next u zero = Some u
steps_from next u (suc n) = option_and_then next (steps_from next u n)

-- some number of steps leads from u to t (pthread_mutexattr_getprotocol)
abbrev pub Leads : (ℕ → Option ℕ) → ℕ → ℕ → Type 0
Leads next u t = (n : ℕ) × (steps_from next u n ≡ Some t)

-- whether at most this many steps lead from u to t; a chain without repetition has no more steps than numbers
abbrev pub leads_to : (ℕ → Option ℕ) → ℕ → ℕ → ℕ → Bool
leads_to next t zero u = u == t
leads_to next t (suc fuel) u = u == t || unwrap_or (option_map (leads_to next t fuel) (next u)) false

-- of the numbers 1 to n, the greatest rank of those whose chain holds t
abbrev pub greatest_leading : ℕ → (ℕ → Option ℕ) → (ℕ → ℕ) → ℕ → ℕ
greatest_leading n next rank t = greatest rank (filter (λ u. leads_to next t n u) (numbers_to n))
