-- A thread's wait, and tests of no waiters.
use Rattle.std.proofs.Common.{◌≡◌, ℕ, List, [], ◌∷◌, length, Bool, false, not, refl, arith}
use Rattle.std.specs.Prelude.{◌==◌, Option, Some, None, option_and_then}
use Rattle.std.specs.List.{list_any}
use Rattle.std.proofs.lemmas.Bool.Decides.{nat_tests}
use Rattle.ptk_words.specs.declared.threads.Thread.{Thread}
use Rattle.ptk_words_model.specs.Mutex.{wait_of}

pub wait_of-is : (x : Option Thread) → option_and_then (λ (thread : Thread). thread.wait) x ≡ wait_of x
wait_of-is None = refl
wait_of-is (Some thread) = refl

-- none of no waiters passes a test
pub none_passes : (test : ℕ → Bool) (ks : List ℕ) → not (length ks == 0) ≡ false → false ≡ list_any test ks
none_passes test [] e = refl
none_passes test (k ∷ ks) e = grind (arith, nat_tests)

pub ruleset waits = (wait_of-is)
