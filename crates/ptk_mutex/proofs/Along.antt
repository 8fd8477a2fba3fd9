-- A chain raised as a whole.
use Rattle.std.proofs.Common.{◌≡◌, ℕ, zero, suc, ◌<◌, List, length, get_or, max, Bool, true, false, refl, ◌∙◌, arith}
use Rattle.std.specs.Prelude.{◌==◌, ◌||◌, if◌then◌else◌, Option, Some, None, option_map, unwrap_or}
use Rattle.ptk_words_model.specs.Chain.{leads_to}
use Rattle.ptk_roster.specs.Raised.{raised}
use Rattle.ptk_roster.proofs.LevelLists.{length-raised, raised_at}

-- u and the numbers that at most so many steps of its chain lead to have at least this priority
abbrev pub raised_along : (ℕ → Option ℕ) → ℕ → ℕ → ℕ → List ℕ → List ℕ
raised_along next priority zero u stored = raised priority u stored
raised_along next priority (suc fuel) u stored =
    unwrap_or (option_map (λ v. raised_along next priority fuel v (raised priority u stored)) (next u)) (raised priority u stored)

length_step : (next : ℕ → Option ℕ) (priority fuel : ℕ) (s : List ℕ) → ((v : ℕ) → length (raised_along next priority fuel v s) ≡ length s) → (o : Option ℕ) → length (unwrap_or (option_map (λ v. raised_along next priority fuel v s) o) s) ≡ length s
length_step next priority fuel s ih None = refl
length_step next priority fuel s ih (Some v) = ih v

pub length-raised_along : (next : ℕ → Option ℕ) (priority fuel u : ℕ) (stored : List ℕ) → length (raised_along next priority fuel u stored) ≡ length stored
length-raised_along next priority zero u stored = length-raised priority u stored
length-raised_along next priority (suc fuel) u stored =
    length_step next priority fuel (raised priority u stored) (λ v. length-raised_along next priority fuel v (raised priority u stored)) (next u) ∙ length-raised priority u stored

twice : (b c : Bool) (x priority : ℕ) → (if c then max (if b then max x priority else x) priority else (if b then max x priority else x)) ≡ (if b || c then max x priority else x)
twice true true x priority = omega arith
twice true false x priority = refl
twice false true x priority = refl
twice false false x priority = refl

level_step : (next : ℕ → Option ℕ) (priority fuel u i : ℕ) (s : List ℕ) (x : ℕ) → get_or s i 0 ≡ (if u == suc i then max x priority else x)
    → ((v : ℕ) → get_or (raised_along next priority fuel v s) i 0 ≡ (if leads_to next (suc i) fuel v then max (get_or s i 0) priority else get_or s i 0))
    → (o : Option ℕ) → get_or (unwrap_or (option_map (λ v. raised_along next priority fuel v s) o) s) i 0
    ≡ (if u == suc i || unwrap_or (option_map (leads_to next (suc i) fuel) o) false then max x priority else x)
level_step next priority fuel u i s x here ih None = here ∙ twice (u == suc i) false x priority
level_step next priority fuel u i s x here ih (Some v) = ih v ∙ rw here (twice (u == suc i) (leads_to next (suc i) fuel v) x priority)

-- each number that the steps lead to is raised, and no other
pub raised_along_at : (next : ℕ → Option ℕ) (priority fuel u i : ℕ) (stored : List ℕ) → i < length stored
    → get_or (raised_along next priority fuel u stored) i 0 ≡ (if leads_to next (suc i) fuel u then max (get_or stored i 0) priority else get_or stored i 0)
raised_along_at next priority zero u i stored lt = raised_at priority u i stored lt
raised_along_at next priority (suc fuel) u i stored lt =
    level_step next priority fuel u i (raised priority u stored) (get_or stored i 0) (raised_at priority u i stored lt)
    (λ v. raised_along_at next priority fuel v i (raised priority u stored) (rw (length-raised priority u stored) lt)) (next u)
