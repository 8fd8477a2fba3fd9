-- Threads of a partition and their slots.
use Rattle.std.proofs.Common.{◌≡◌, ℕ, ◌+◌, ◌-◌, ◌%◌, ◌<◌, ap, ◌∙◌, arith}
use Rattle.std.proofs.Math.Nat.{mod-eq_of_lt}
use Rattle.ptk_threads.specs.Links.{number_at, slot_at}

-- the thread of a thread's slot is that thread
pub numbered_back : (first k : ℕ) → 0 < k → k - 1 < 32 → number_at first (slot_at first k) ≡ k
numbered_back first k pos lt =
    let place : first + (k - 1) - first ≡ k - 1 = omega arith in
    ap (λ n. n % 32 + 1) place ∙ (ap (λ n. n + 1) (mod-eq_of_lt lt) ∙ omega (arith, pos))
