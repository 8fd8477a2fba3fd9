-- What a slot tells, one number raised, and a list by its numbers.
use Rattle.std.proofs.Common.{◌≡◌, ◌≢◌, ℕ, zero, suc, ◌-◌, ◌<◌, List, [], ◌∷◌, ◌++◌, length, map, get_or, max, refl, sym, ◌∙◌, ap, arith, ◌⊎◌, inl, inr}
use Rattle.std.specs.Prelude.{◌==◌, if◌then◌else◌, slice_set, slice_index, Option, None, Some, option_and_then}
use Rattle.std.proofs.Math.ListN.{set}
use Rattle.std.proofs.lemmas.Bool.{cases_eq}
use Rattle.std.proofs.lemmas.Bool.Decides.{nat_tests}
use Rattle.std.proofs.lemmas.Grind.{elements}
use Rattle.std.proofs.lemmas.List.{length-set, length-map, get_or-map, get_or_append_left, get_or-append_right, length-append, set_past}
use Rattle.ptk_words.specs.Pools.{numbers_to}
use Rattle.ptk_words.specs.Threads.{mutex_of_wait}
use Rattle.ptk_words.specs.declared.threads.Thread.{Thread}
use Rattle.ptk_words_model.specs.Priority.{awaited}
use Rattle.ptk_words_sync_invariant.proofs.ChainLaws.{IsNumber}
use Rattle.ptk_threads.specs.Table.{stored_of}
use Rattle.ptk_roster.specs.Raised.{raised}

-- ---- what a slot tells

pub awaited-wait : (slot : Option Thread) → mutex_of_wait (option_and_then (λ (thread : Thread). thread.wait) slot) ≡ awaited slot
awaited-wait None = refl
awaited-wait (Some thread) = refl

pub ruleset readings = (awaited-wait)

-- ---- one number raised

pub raised_below : (priority t : ℕ) (stored : List ℕ) → 0 < t → raised priority t stored ≡ slice_set stored (t - 1) (max (slice_index stored (t - 1)) priority)
raised_below priority zero stored h = absurd (omega arith)
raised_below priority (suc i) stored h = let e : suc i - 1 ≡ i = omega arith in rw e refl

pub ruleset numbers = (raised_below, set_past)

pub length-raised : (priority t : ℕ) (stored : List ℕ) → length (raised priority t stored) ≡ length stored
length-raised priority zero stored = refl
length-raised priority (suc i) stored = length-set stored i _

raised_cases : (priority j i : ℕ) (stored : List ℕ) → i < length stored → (j ≡ i) ⊎ (j ≢ i) → get_or (set stored j (max (get_or stored j 0) priority)) i 0 ≡ (if suc j == suc i then max (get_or stored i 0) priority else get_or stored i 0)
raised_cases priority j i stored lt (inl e) = grind (arith, nat_tests, elements)
raised_cases priority j i stored lt (inr ne) = grind (arith, nat_tests, elements)

pub raised_at : (priority t i : ℕ) (stored : List ℕ) → i < length stored → get_or (raised priority t stored) i 0 ≡ (if t == suc i then max (get_or stored i 0) priority else get_or stored i 0)
raised_at priority zero i stored lt = grind (arith, nat_tests)
raised_at priority (suc j) i stored lt = raised_cases priority j i stored lt (cases_eq j i)

-- ---- a list by its numbers

pub length-numbers_to : (n : ℕ) → length (numbers_to n) ≡ n
length-numbers_to zero = refl
length-numbers_to (suc n) = length-append (numbers_to n) (suc n ∷ []) ∙ rw (length-numbers_to n) (omega arith)

number_cases : (n i : ℕ) → i < suc n → ((i < n) → get_or (numbers_to n) i 0 ≡ suc i) → (i ≡ n) ⊎ (i ≢ n) → get_or (numbers_to n ++ suc n ∷ []) i 0 ≡ suc i
number_cases n i lt ih (inl e) = rw (get_or-append_right (numbers_to n) (suc n ∷ []) n i 0 (length-numbers_to n) (omega arith)) (let z : i - n ≡ 0 = omega arith in rw z (ap suc (sym e)))
number_cases n i lt ih (inr ne) = get_or_append_left (numbers_to n) (suc n ∷ []) 0 i (rw (length-numbers_to n) (omega arith)) ∙ ih (omega arith)

pub get_or-numbers_to : (n i : ℕ) → i < n → get_or (numbers_to n) i 0 ≡ suc i
get_or-numbers_to zero i lt = absurd (omega arith)
get_or-numbers_to (suc n) i lt = number_cases n i lt (get_or-numbers_to n i) (cases_eq i n)

same_lists : (a b : List ℕ) → length a ≡ length b → ((i : ℕ) → i < length a → get_or a i 0 ≡ get_or b i 0) → a ≡ b
same_lists a b e h = grind (arith, elements)

-- what each number has
pub length-numbered : (n : ℕ) (rank : ℕ → ℕ) → length (map rank (numbers_to n)) ≡ n
length-numbered n rank = length-map (numbers_to n) rank ∙ length-numbers_to n

pub numbered_at : (n : ℕ) (rank : ℕ → ℕ) (i : ℕ) → i < n → get_or (map rank (numbers_to n)) i 0 ≡ rank (suc i)
numbered_at n rank i lt =
    let long : i < length (numbers_to n) = rw (length-numbers_to n) lt in
    get_or-map rank (numbers_to n) i 0 0 long ∙ ap rank (get_or-numbers_to n i lt)

pub numbered_of : (n : ℕ) (rank : ℕ → ℕ) (t : ℕ) → IsNumber n t → stored_of (map rank (numbers_to n)) t ≡ rank t
numbered_of n rank zero at = absurd (omega (arith, at.0))
numbered_of n rank (suc i) at = numbered_at n rank i (omega (arith, at.1))

-- a list that has it is that list
pub numbered_all : (n : ℕ) (rank : ℕ → ℕ) (stored : List ℕ) → length stored ≡ n → ((i : ℕ) → i < n → get_or stored i 0 ≡ rank (suc i)) → stored ≡ map rank (numbers_to n)
numbered_all n rank stored long each =
    same_lists stored (map rank (numbers_to n)) (long ∙ sym (length-numbered n rank)) (λ i lt.
    let below : i < n = rw long at lt in
    each i below ∙ sym (numbered_at n rank i below))
