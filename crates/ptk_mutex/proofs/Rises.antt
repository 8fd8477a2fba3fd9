-- A rise along a chain, up to the first thread that is at least as high, is a rise of the whole chain.
use Rattle.std.proofs.Common.{◌≡◌, ◌≢◌, ℕ, zero, suc, ◌≤◌, List, Bool, true, false, refl, sym, arith, subst, ◌⊎◌, inl, inr}
use Rattle.std.specs.Prelude.{nat_le, if◌then◌else◌, Option, Some, None, option_map, unwrap_or}
use Rattle.std.proofs.lemmas.Bool.{cases_eq}
use Rattle.std.proofs.lemmas.Bool.Decides.{nat_tests}
use Rattle.ptk_roster.specs.Raised.{raised, risen}
use Rattle.ptk_threads.specs.Table.{stored_of}
use Rattle.ptk_roster.proofs.LevelLists.{length-raised}
use Rattle.ptk_roster.proofs.Risen.{IsPlace, IsWithin, raised-same, raised_past, place_or_past, stored-raised_same, stored-raised_other}
use Rattle.ptk_mutex.proofs.Along.{raised_along}

-- where a number is at least this high, so is the next one of the list, but maybe c
pub record IsClosedBut (next : ℕ → Option ℕ) (priority c : ℕ) (stored : List ℕ) : Type 0 where
  pub each : (w v : ℕ) → next w ≡ Some v → IsPlace stored v → priority ≤ stored_of stored w → (priority ≤ stored_of stored v) ⊎ (v ≡ c)

-- ---- past the list there is nothing to raise

past_step : (next : ℕ → Option ℕ) (priority fuel u : ℕ) (stored : List ℕ) → IsWithin next stored → (IsPlace stored u → ⊥) → (o : Option ℕ) → next u ≡ o
    → unwrap_or (option_map (λ v. raised_along next priority fuel v stored) o) stored ≡ stored
past_step next priority fuel u stored within past None e = refl
past_step next priority fuel u stored within past (Some v) e = absurd (past (within.each u v e))

-- a chain from past the list raises nothing
along_past : (next : ℕ → Option ℕ) (priority fuel u : ℕ) (stored : List ℕ) → IsWithin next stored → (IsPlace stored u → ⊥) → raised_along next priority fuel u stored ≡ stored
along_past next priority zero u stored within past = raised_past priority u stored past
along_past next priority (suc fuel) u stored within past = rw (raised_past priority u stored past) (past_step next priority fuel u stored within past (next u) refl)

-- ---- stopping changes nothing more

least_of : (priority u v : ℕ) (stored : List ℕ) → priority ≤ stored_of stored u → (priority ≤ stored_of stored v) ⊎ (v ≡ u) → priority ≤ stored_of stored v
least_of priority u v stored h (inl le) = le
least_of priority u v stored h (inr e) = rw e h

-- once its exception is at least as high too, there is none
abbrev IsClosed : (ℕ → Option ℕ) → ℕ → List ℕ → Type 0
IsClosed next priority stored = (w v : ℕ) → next w ≡ Some v → IsPlace stored v → priority ≤ stored_of stored w → priority ≤ stored_of stored v

stop_at : (next : ℕ → Option ℕ) (priority fuel v : ℕ) (stored : List ℕ) → IsWithin next stored → (IsPlace stored v → raised_along next priority fuel v stored ≡ stored) → IsPlace stored v ⊎ (IsPlace stored v → ⊥) → raised_along next priority fuel v stored ≡ stored
stop_at next priority fuel v stored within ih (inl place) = ih place
stop_at next priority fuel v stored within ih (inr past) = along_past next priority fuel v stored within past

after_stop : (next : ℕ → Option ℕ) (priority fuel u : ℕ) (stored : List ℕ) → IsWithin next stored → ((v : ℕ) → priority ≤ stored_of stored v → raised_along next priority fuel v stored ≡ stored)
    → IsClosed next priority stored → priority ≤ stored_of stored u → (o : Option ℕ) → next u ≡ o
    → unwrap_or (option_map (λ v. raised_along next priority fuel v stored) o) stored ≡ stored
after_stop next priority fuel u stored within ih closed h None e = refl
after_stop next priority fuel u stored within ih closed h (Some v) e = stop_at next priority fuel v stored within (λ place. ih v (closed u v e place h)) (place_or_past stored v)

pub stopped : (next : ℕ → Option ℕ) (priority fuel u : ℕ) (stored : List ℕ) → IsWithin next stored → IsClosed next priority stored → priority ≤ stored_of stored u → raised_along next priority fuel u stored ≡ stored
stopped next priority zero u stored within closed h = raised-same priority u stored h
stopped next priority (suc fuel) u stored within closed h =
    rw (raised-same priority u stored h) (after_stop next priority fuel u stored within (λ v le. stopped next priority fuel v stored within closed le) closed h (next u) refl)

-- ---- a step that raises

not_less_by : (priority u w : ℕ) (stored : List ℕ) → priority ≤ stored_of stored w → priority ≤ stored_of (raised priority u stored) u → (w ≡ u) ⊎ (w ≢ u) → priority ≤ stored_of (raised priority u stored) w
not_less_by priority u w stored h own (inl e) = rw e own
not_less_by priority u w stored h own (inr ne) = rw (stored-raised_other priority u w stored ne) h

step_other : (priority u v x : ℕ) (stored : List ℕ) → priority ≤ stored_of (raised priority u stored) u → (priority ≤ stored_of stored x) ⊎ (x ≡ u) → (priority ≤ stored_of (raised priority u stored) x) ⊎ (x ≡ v)
step_other priority u v x stored own (inl le) = inl (not_less_by priority u x stored le own (cases_eq x u))
step_other priority u v x stored own (inr e) = inl (rw e own)

step_cases : (next : ℕ → Option ℕ) (priority u v w x : ℕ) (stored : List ℕ) → IsWithin next stored → IsClosedBut next priority u stored → next u ≡ Some v → next w ≡ Some x
    → IsPlace stored x → priority ≤ stored_of (raised priority u stored) w → (w ≡ u) ⊎ (w ≢ u) → (priority ≤ stored_of (raised priority u stored) x) ⊎ (x ≡ v)
step_cases next priority u v w x stored within closed e f place h (inl same) = inr (let g : next u ≡ Some x = subst (λ y. next y ≡ Some x) same f in cc)
step_cases next priority u v w x stored within closed e f place h (inr ne) =
    step_other priority u v x stored (let r = within.each u v e in stored-raised_same priority u stored r.0 r.1)
    (closed.each w x f place (rw (stored-raised_other priority u w stored ne) at h))

pub closed_step : (next : ℕ → Option ℕ) (priority u v : ℕ) (stored : List ℕ) → IsWithin next stored → IsClosedBut next priority u stored → next u ≡ Some v → IsClosedBut next priority v (raised priority u stored)
closed_step next priority u v stored within closed e = record { each = λ w x f place h. step_cases next priority u v w x stored within closed e f (rw (length-raised priority u stored) at place) h (cases_eq w u) }

-- ---- the walk that stops early

risen_next : (next : ℕ → Option ℕ) (priority fuel u : ℕ) (s : List ℕ) → ((v : ℕ) → next u ≡ Some v → risen next priority fuel v s ≡ raised_along next priority fuel v s) → (o : Option ℕ) → next u ≡ o
    → unwrap_or (option_map (λ v. risen next priority fuel v s) o) s ≡ unwrap_or (option_map (λ v. raised_along next priority fuel v s) o) s
risen_next next priority fuel u s ih None e = refl
risen_next next priority fuel u s ih (Some v) e = ih v e

full : (next : ℕ → Option ℕ) (priority u : ℕ) (stored : List ℕ) → IsClosedBut next priority u stored → priority ≤ stored_of stored u → IsClosed next priority stored
full next priority u stored closed h = λ w v e place le. least_of priority u v stored h (closed.each w v e place le)

risen_by : (next : ℕ → Option ℕ) (priority fuel u : ℕ) (stored : List ℕ) → IsWithin next stored → IsClosedBut next priority u stored
    → ((v : ℕ) → next u ≡ Some v → risen next priority fuel v (raised priority u stored) ≡ raised_along next priority fuel v (raised priority u stored))
    → (b : Bool) → nat_le priority (stored_of stored u) ≡ b
    → (if b then stored else unwrap_or (option_map (λ v. risen next priority fuel v (raised priority u stored)) (next u)) (raised priority u stored)) ≡ raised_along next priority (suc fuel) u stored
risen_by next priority fuel u stored within closed ih true e =
    let h : priority ≤ stored_of stored u = grind (arith, nat_tests) in
    sym (stopped next priority (suc fuel) u stored within (full next priority u stored closed h) h)
risen_by next priority fuel u stored within closed ih false e = risen_next next priority fuel u (raised priority u stored) ih (next u) refl

pub risen-is : (next : ℕ → Option ℕ) (priority fuel u : ℕ) (stored : List ℕ) → IsWithin next stored → IsClosedBut next priority u stored → risen next priority fuel u stored ≡ raised_along next priority fuel u stored
risen-is next priority zero u stored within closed = refl
risen-is next priority (suc fuel) u stored within closed =
    risen_by next priority fuel u stored within closed
    (λ v e. risen-is next priority fuel v (raised priority u stored) (record { each = λ w x f. rw (length-raised priority u stored) (within.each w x f) }) (closed_step next priority u v stored within closed e))
    (nat_le priority (stored_of stored u)) refl
