-- A list of threads without repetition.
use Rattle.std.specs.Prelude.{◌≡◌, ℕ, ◌<◌, ◌≤◌, true, List, nat_eq}
use Rattle.std.specs.List.{IsDistinct}
use Rattle.ptk_words.specs.Pools.{is_in}

-- numbers of threads, 1 to 32, none twice
pub record IsLine (ks : List ℕ) : Type 0 where
  pub distinct : IsDistinct nat_eq ks
  pub numbers : (k : ℕ) → is_in k ks ≡ true → (0 < k) × (k ≤ 32)
