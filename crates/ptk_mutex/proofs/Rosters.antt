-- The walk and the rises, where the stored priorities are one partition's in the roster.
use Rattle.std.proofs.Common.{◌≡◌, ℕ, zero, suc, ◌-◌, ◌<◌, ◌≤◌, List, [], ◌∷◌, length, refl, sym, ◌∙◌, ap, arith, ◌⊎◌, inl, inr}
use Rattle.std.specs.Prelude.{Option, Some}
use Rattle.std.proofs.lemmas.Bool.{cases_lt}
use Rattle.std.proofs.lemmas.List.{length-set, set-set, set-get_or, set_past, get_or_past, get_or-set_same}
use Rattle.std.proofs.Math.ListN.{set}
use Rattle.ptk_words.specs.Pools.{pool_set}
use Rattle.ptk_words.specs.Parts.{part_of}
use Rattle.ptk_threads.specs.Table.{stored_of, with_stored}
use Rattle.ptk_roster.specs.Rosters.{Rostered}
use Rattle.ptk_roster.specs.Raised.{risen}
use Rattle.ptk_roster.proofs.Risen.{risen_stop, length-risen}
use Rattle.ptk_mutex.specs.Visits.{reads}
use Rattle.ptk_mutex.specs.Rosters.{with_priorities}
use Rattle.ptk_mutex.proofs.RiseSteps.{risen_some, reads_some}

-- ---- a partition's priorities written

nothing : (xs : List ℕ) → length xs ≡ 0 → xs ≡ []
nothing [] e = refl
nothing (x ∷ xs) e = absurd (omega (arith, e))

here_cases : (stored : List (List ℕ)) (p : ℕ) (xs : List ℕ) → length xs ≡ length (part_of stored p) → (p < length stored) ⊎ (length stored ≤ p) → part_of (set stored p xs) p ≡ xs
here_cases stored p xs long (inl lt) = get_or-set_same stored p xs [] lt
here_cases stored p xs long (inr past) =
    let none : part_of stored p ≡ [] = get_or_past stored p [] past in
    ap (λ s. part_of s p) (set_past stored p xs past) ∙ none ∙ sym (nothing xs (long ∙ ap length none))

-- as many as before are read as they were written
pub part_here : (stored : List (List ℕ)) (p : ℕ) (xs : List ℕ) → length xs ≡ length (part_of stored p) → part_of (set stored p xs) p ≡ xs
part_here stored p xs long = here_cases stored p xs long (cases_lt p (length stored))

-- what was there changes nothing
pub same_priorities : (p : ℕ) (xs : List ℕ) (roster : Rostered) → part_of roster.table.stored p ≡ xs → roster ≡ with_priorities p xs roster
same_priorities p xs roster e =
    sym (ap (λ s. record roster { table = record roster.table { stored = s } }) (ap (set roster.table.stored p) (sym e) ∙ set-get_or roster.table.stored p []))

-- what is written last stays
written_twice : (p : ℕ) (xs ys : List ℕ) (roster : Rostered) → with_priorities p ys (with_priorities p xs roster) ≡ with_priorities p ys roster
written_twice p xs ys roster = ap (λ s. record roster { table = record roster.table { stored = s } }) (set-set roster.table.stored p xs ys)

length_pool : (stored : List ℕ) (u priority : ℕ) → length (pool_set stored u priority) ≡ length stored
length_pool stored zero priority = refl
length_pool stored (suc i) priority = length-set stored i priority

-- ---- the steps of the walk

-- the partition's priorities after a walk from u
abbrev pub walked : (ℕ → Option ℕ) → ℕ → ℕ → ℕ → ℕ → Rostered → Rostered
walked next priority fuel u p roster = with_priorities p (risen next priority fuel u (part_of roster.table.stored p)) roster

-- one of them written
abbrev pub set_at : ℕ → ℕ → ℕ → Rostered → Rostered
set_at p u priority roster = record roster { table = with_stored p u priority roster.table }

pub walk_stops : (next : ℕ → Option ℕ) (priority fuel u p : ℕ) (roster : Rostered) → priority ≤ stored_of (part_of roster.table.stored p) u → roster ≡ walked next priority fuel u p roster
walk_stops next priority fuel u p roster h = same_priorities p _ roster (risen_stop next priority fuel u (part_of roster.table.stored p) h)

set_here : (p u priority : ℕ) (roster : Rostered) → part_of (set_at p u priority roster).table.stored p ≡ pool_set (part_of roster.table.stored p) u priority
set_here p u priority roster = part_here roster.table.stored p (pool_set (part_of roster.table.stored p) u priority) (length_pool (part_of roster.table.stored p) u priority)

pub walk_goes : (next : ℕ → Option ℕ) (priority fuel u v p : ℕ) (roster mid new : Rostered) → 0 < fuel → stored_of (part_of roster.table.stored p) u < priority → next u ≡ Some v → mid ≡ set_at p u priority roster
    → new ≡ walked next priority (fuel - 1) v p mid → new ≡ walked next priority fuel u p roster
walk_goes next priority fuel u v p roster mid new lt h n f e =
    e ∙ ap (λ r. walked next priority (fuel - 1) v p r) f
    ∙ written_twice p (pool_set (part_of roster.table.stored p) u priority) _ roster
    ∙ ap (λ s. with_priorities p s roster)
    (risen_some next priority fuel u v (part_of roster.table.stored p) (part_of (set_at p u priority roster).table.stored p) _ lt h n (set_here p u priority roster) refl)

-- what is counted where the walk goes on
pub counts_on : (next : ℕ → Option ℕ) (priority fuel u v p : ℕ) (roster mid : Rostered) → 0 < fuel → stored_of (part_of roster.table.stored p) u < priority → next u ≡ Some v → mid ≡ set_at p u priority roster
    → reads next priority fuel u (part_of roster.table.stored p) ≡ suc (reads next priority (fuel - 1) v (part_of mid.table.stored p))
counts_on next priority fuel u v p roster mid lt h n f =
    reads_some next priority fuel u v (part_of roster.table.stored p) (part_of mid.table.stored p) lt h n (ap (λ r. part_of r.table.stored p) f ∙ set_here p u priority roster)

-- ---- what is stored after a rise

-- the partition's list after a walk
pub risen_here : (next : ℕ → Option ℕ) (priority fuel u p : ℕ) (roster new : Rostered) → new ≡ walked next priority fuel u p roster → part_of new.table.stored p ≡ risen next priority fuel u (part_of roster.table.stored p)
risen_here next priority fuel u p roster new e =
    ap (λ r. part_of r.table.stored p) e ∙ part_here roster.table.stored p (risen next priority fuel u (part_of roster.table.stored p)) (length-risen next priority fuel u (part_of roster.table.stored p))
