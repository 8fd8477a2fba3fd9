-- When numbers that led nowhere lead to one, its chain rises to their greatest priority, and nothing else changes.
use Rattle.std.proofs.Common.{arith, ◌≡◌, ℕ, zero, suc, ◌<◌, ◌≤◌, max, Bool, true, false, List, length, map, get_or, sym, ◌∙◌, ap, refl, subst, inl, inr}
use Rattle.std.specs.Prelude.{Option, Some, None, ◌⊎◌, option_and_then, if◌then◌else◌}
use Rattle.ptk_words.specs.Pools.{numbers_to}
use Rattle.ptk_words.proofs.Options.{max_cases}
use Rattle.ptk_words_model.specs.Chain.{steps_from, Leads, leads_to, greatest_leading}
use Rattle.ptk_roster.specs.Raised.{risen}
use Rattle.ptk_threads.specs.Table.{stored_of}
use Rattle.ptk_words_sync_invariant.proofs.ChainLaws.{false_true, none_some, reaches_sound, chain_complete, IsNumber, IsBounded}
use Rattle.ptk_roster.proofs.LevelLists.{length-numbered, numbered_at, numbered_of, numbered_all}
use Rattle.ptk_roster.proofs.Tops.{IsTop, top-unique, greatest_leading-top, led_on, rising}
use Rattle.ptk_roster.proofs.Risen.{IsPlace, IsWithin}
use Rattle.ptk_roster.proofs.Sweeps.{place_number, number_place}
use Rattle.ptk_mutex.proofs.Along.{raised_along, raised_along_at, length-raised_along}
use Rattle.ptk_mutex.proofs.Rises.{risen-is}

-- ---- numbers that begin to lead

-- those numbers, which led nowhere, lead to o, and all others lead where they led
pub record IsJoin (next after : ℕ → Option ℕ) (joins : ℕ → Bool) (o : ℕ) : Type 0 where
  pub free : (w : ℕ) → joins w ≡ true → next w ≡ None
  pub waits : (w : ℕ) → joins w ≡ true → after w ≡ Some o
  pub others : (w : ℕ) → joins w ≡ false → after w ≡ next w

differs : (next after : ℕ → Option ℕ) (joins : ℕ → Bool) (o w t : ℕ) → IsJoin next after joins o → next w ≡ Some t → (j : Bool) → joins w ≡ j → joins w ≡ false
differs next after joins o w t join e true j = none_some (next w) t (join.free w j) e
differs next after joins o w t join e false j = j

kept_step : (next after : ℕ → Option ℕ) (joins : ℕ → Bool) (o u t n : ℕ) → IsJoin next after joins o → ((w : ℕ) → steps_from next u n ≡ Some w → steps_from after u n ≡ Some w)
    → (x : Option ℕ) → steps_from next u n ≡ x → option_and_then next x ≡ Some t → steps_from after u (suc n) ≡ Some t
kept_step next after joins o u t n join ih None p e = none_some None t refl e
kept_step next after joins o u t n join ih (Some w) p e = ap (option_and_then after) (ih w p) ∙ join.others w (differs next after joins o w t join e (joins w) refl) ∙ e

kept : (next after : ℕ → Option ℕ) (joins : ℕ → Bool) (o u n : ℕ) → IsJoin next after joins o → (t : ℕ) → steps_from next u n ≡ Some t → steps_from after u n ≡ Some t
kept next after joins o u zero join t e = e
kept next after joins o u (suc n) join t e =
    kept_step next after joins o u t n join (λ w. kept next after joins o u n join w) (steps_from next u n) refl e

leads-kept : (next after : ℕ → Option ℕ) (joins : ℕ → Bool) (o u t : ℕ) → IsJoin next after joins o → Leads next u t → Leads after u t
leads-kept next after joins o u t join r = (r.0, kept next after joins o u r.0 join t r.1)

abbrev Split : (ℕ → Option ℕ) → (ℕ → Bool) → ℕ → ℕ → ℕ → Type 0
Split next joins o u t = Leads next u t ⊎ ((b : ℕ) × (joins b ≡ true) × Leads next u b × Leads next o t)

at_join : (next : ℕ → Option ℕ) (joins : ℕ → Bool) (o u w t : ℕ) → joins w ≡ true → Some o ≡ Some t → Split next joins o u w → Split next joins o u t
at_join next joins o u w t j e (inl r) = inr (w, j, r, (0, e))
at_join next joins o u w t j e (inr (b, k, r, s)) = inr (b, k, r, (0, e))

past_join : (next : ℕ → Option ℕ) (joins : ℕ → Bool) (o u w t : ℕ) → next w ≡ Some t → Split next joins o u w → Split next joins o u t
past_join next joins o u w t e (inl r) = inl (led_on next u w t r e)
past_join next joins o u w t e (inr (b, k, r, s)) = inr (b, k, r, led_on next o w t s e)

split_cases : (next after : ℕ → Option ℕ) (joins : ℕ → Bool) (o u w t : ℕ) → IsJoin next after joins o → Split next joins o u w → after w ≡ Some t → (j : Bool) → joins w ≡ j → Split next joins o u t
split_cases next after joins o u w t join s e true j = at_join next joins o u w t j (sym (join.waits w j) ∙ e) s
split_cases next after joins o u w t join s e false j = past_join next joins o u w t (sym (join.others w j) ∙ e) s

split_step : (next after : ℕ → Option ℕ) (joins : ℕ → Bool) (o u n t : ℕ) → IsJoin next after joins o → ((w : ℕ) → steps_from after u n ≡ Some w → Split next joins o u w)
    → (x : Option ℕ) → steps_from after u n ≡ x → option_and_then after x ≡ Some t → Split next joins o u t
split_step next after joins o u n t join ih None p e = none_some None t refl e
split_step next after joins o u n t join ih (Some w) p e = split_cases next after joins o u w t join (ih w p) e (joins w) refl

-- a chain after the join is one from before, or leads to one that joins, and goes on from o
split : (next after : ℕ → Option ℕ) (joins : ℕ → Bool) (o u n : ℕ) → IsJoin next after joins o → (t : ℕ) → steps_from after u n ≡ Some t → Split next joins o u t
split next after joins o u zero join t e = inl (0, e)
split next after joins o u (suc n) join t e = split_step next after joins o u n t join (λ w. split next after joins o u n join w) (steps_from after u n) refl e

led_far_step : (next : ℕ → Option ℕ) (u o n t : ℕ) → ((w : ℕ) → steps_from next o n ≡ Some w → Leads next u w) → (x : Option ℕ) → steps_from next o n ≡ x → option_and_then next x ≡ Some t → Leads next u t
led_far_step next u o n t ih None p e = none_some None t refl e
led_far_step next u o n t ih (Some w) p e = led_on next u w t (ih w p) e

led_far : (next : ℕ → Option ℕ) (u o n : ℕ) → Leads next u o → (t : ℕ) → steps_from next o n ≡ Some t → Leads next u t
led_far next u o zero r t e = (r.0, r.1 ∙ e)
led_far next u o (suc n) r t e = led_far_step next u o n t (λ w. led_far next u o n r w) (steps_from next o n) refl e

through : (next after : ℕ → Option ℕ) (joins : ℕ → Bool) (o b u t : ℕ) → IsJoin next after joins o → joins b ≡ true → Leads next u b → Leads next o t → Leads after u t
through next after joins o b u t join j r s =
    let far : Leads after o t = leads-kept next after joins o o t join s in
    led_far after u o far.0 (led_on after u b o (leads-kept next after joins o u b join r) (join.waits b j)) t far.1

from_owner : (next : ℕ → Option ℕ) (joins : ℕ → Bool) (o t : ℕ) → Split next joins o o t → Leads next o t
from_owner next joins o t (inl r) = r
from_owner next joins o t (inr (b, j, r, s)) = s

-- ---- priorities after the join

-- h is the greatest priority of those that join, or 0
pub record IsPassed (joins : ℕ → Bool) (before : ℕ → ℕ) (h : ℕ) : Type 0 where
  pub least : (w : ℕ) → joins w ≡ true → before w ≤ h
  pub reached : (h ≡ 0) ⊎ ((b : ℕ) × (joins b ≡ true) × (before b ≡ h))

joined_greatest : (size : ℕ) (next : ℕ → Option ℕ) (rank : ℕ → ℕ) (joins : ℕ → Bool) (o t u h : ℕ) → IsBounded size next → IsPassed joins (greatest_leading size next rank) h → IsNumber size u → Split next joins o u t → rank u ≤ max (greatest_leading size next rank t) h
joined_greatest size next rank joins o t u h bounded passed n (inl r) =
    let le : rank u ≤ greatest_leading size next rank t = (greatest_leading-top size next rank t bounded).greatest u n r in omega (arith, le)
joined_greatest size next rank joins o t u h bounded passed n (inr (b, j, r, s)) =
    let le : rank u ≤ greatest_leading size next rank b = (greatest_leading-top size next rank b bounded).greatest u n r in omega (arith, le, passed.least b j)

abbrev pub ReachedBy : ℕ → (ℕ → Option ℕ) → (ℕ → ℕ) → ℕ → ℕ → Type 0
ReachedBy size next rank t x = (x ≡ 0) ⊎ ((u : ℕ) × IsNumber size u × Leads next u t × (rank u ≡ x))

reached_kept : (size : ℕ) (next after : ℕ → Option ℕ) (rank : ℕ → ℕ) (joins : ℕ → Bool) (o t x : ℕ) → IsJoin next after joins o → ReachedBy size next rank t x → ReachedBy size after rank t x
reached_kept size next after rank joins o t x join (inl z) = inl z
reached_kept size next after rank joins o t x join (inr (u, n, l, e)) = inr (u, n, leads-kept next after joins o u t join l, e)

reached_through : (size : ℕ) (next after : ℕ → Option ℕ) (rank : ℕ → ℕ) (joins : ℕ → Bool) (o b t y : ℕ) → IsJoin next after joins o → joins b ≡ true → Leads next o t → ReachedBy size next rank b y → ReachedBy size after rank t y
reached_through size next after rank joins o b t y join j s (inl z) = inl z
reached_through size next after rank joins o b t y join j s (inr (u, n, l, e)) = inr (u, n, through next after joins o b u t join j l s, e)

passed_on : (size : ℕ) (next after : ℕ → Option ℕ) (rank : ℕ → ℕ) (joins : ℕ → Bool) (o t h : ℕ) → IsBounded size next → IsJoin next after joins o → Leads next o t
    → (h ≡ 0) ⊎ ((b : ℕ) × (joins b ≡ true) × (greatest_leading size next rank b ≡ h)) → ReachedBy size after rank t h
passed_on size next after rank joins o t h bounded join s (inl z) = inl z
passed_on size next after rank joins o t h bounded join s (inr (b, j, e)) =
    subst (λ y. ReachedBy size after rank t y) e (reached_through size next after rank joins o b t (greatest_leading size next rank b) join j s (greatest_leading-top size next rank b bounded).reached)

reached_max : (size : ℕ) (next : ℕ → Option ℕ) (rank : ℕ → ℕ) (t x y : ℕ) → (max x y ≡ x) ⊎ (max x y ≡ y) → ReachedBy size next rank t x → ReachedBy size next rank t y → ReachedBy size next rank t (max x y)
reached_max size next rank t x y (inl e) r s = subst (λ z. ReachedBy size next rank t z) (sym e) r
reached_max size next rank t x y (inr e) r s = subst (λ z. ReachedBy size next rank t z) (sym e) s

unreached : (size : ℕ) (next after : ℕ → Option ℕ) (rank : ℕ → ℕ) (joins : ℕ → Bool) (o t u : ℕ) → IsBounded size next → IsBounded size after → IsJoin next after joins o → IsNumber size u → leads_to after t size o ≡ false → Split next joins o u t
    → rank u ≤ greatest_leading size next rank t
unreached size next after rank joins o t u bounded bounded_after join n e (inl r) = (greatest_leading-top size next rank t bounded).greatest u n r
unreached size next after rank joins o t u bounded bounded_after join n e (inr (b, j, r, s)) =
    false_true (sym e ∙ chain_complete size after bounded_after o t (leads-kept next after joins o o t join s))

joined_by : (size : ℕ) (next after : ℕ → Option ℕ) (rank : ℕ → ℕ) (joins : ℕ → Bool) (o t h : ℕ) → IsBounded size next → IsBounded size after → IsJoin next after joins o → IsPassed joins (greatest_leading size next rank) h
    → (b : Bool) → leads_to after t size o ≡ b → IsTop size after rank t (if b then max (greatest_leading size next rank t) h else greatest_leading size next rank t)
joined_by size next after rank joins o t h bounded bounded_after join passed true e =
    let l : Leads after o t = reaches_sound after t size o e in
    let s : Leads next o t = from_owner next joins o t (split next after joins o o l.0 join t l.1) in
    record {
      greatest = λ u n r. joined_greatest size next rank joins o t u h bounded passed n (split next after joins o u r.0 join t r.1);
      reached =
          reached_max size after rank t (greatest_leading size next rank t) h (max_cases (greatest_leading size next rank t) h)
          (reached_kept size next after rank joins o t (greatest_leading size next rank t) join (greatest_leading-top size next rank t bounded).reached)
          (passed_on size next after rank joins o t h bounded join s passed.reached);
    }
joined_by size next after rank joins o t h bounded bounded_after join passed false e =
    record {
      greatest = λ u n r. unreached size next after rank joins o t u bounded bounded_after join n e (split next after joins o u r.0 join t r.1);
      reached = reached_kept size next after rank joins o t (greatest_leading size next rank t) join (greatest_leading-top size next rank t bounded).reached;
    }

-- ---- the rise is the whole computation

abbrev pub priorities : ℕ → (ℕ → Option ℕ) → (ℕ → ℕ) → List ℕ
priorities size next rank = map (greatest_leading size next rank) (numbers_to size)

pub length-priorities : (size : ℕ) (next : ℕ → Option ℕ) (rank : ℕ → ℕ) → length (priorities size next rank) ≡ size
length-priorities size next rank = length-numbered size (greatest_leading size next rank)

pub priority_at : (size : ℕ) (next : ℕ → Option ℕ) (rank : ℕ → ℕ) (i : ℕ) → i < size → get_or (priorities size next rank) i 0 ≡ greatest_leading size next rank (suc i)
priority_at size next rank i lt = numbered_at size (greatest_leading size next rank) i lt

pub stored_as : (size : ℕ) (next : ℕ → Option ℕ) (rank : ℕ → ℕ) (t : ℕ) → IsNumber size t → stored_of (priorities size next rank) t ≡ greatest_leading size next rank t
stored_as size next rank t n = numbered_of size (greatest_leading size next rank) t n

pub within_priorities : (size : ℕ) (next after : ℕ → Option ℕ) (rank : ℕ → ℕ) → IsBounded size after → IsWithin after (priorities size next rank)
within_priorities size next after rank bounded = record { each = λ w v e. number_place size w (priorities size next rank) (length-priorities size next rank) (bounded.each w v e) }

-- along a step of the chain the priorities do not fall
pub step_up : (size : ℕ) (next : ℕ → Option ℕ) (rank : ℕ → ℕ) (w v h : ℕ) → IsBounded size next → next w ≡ Some v → IsPlace (priorities size next rank) v → h ≤ stored_of (priorities size next rank) w → h ≤ stored_of (priorities size next rank) v
step_up size next rank w v h bounded f place le =
    let here : stored_of (priorities size next rank) w ≡ greatest_leading size next rank w = stored_as size next rank w (bounded.each w v f) in
    let there : stored_of (priorities size next rank) v ≡ greatest_leading size next rank v = stored_as size next rank v (place_number size v (priorities size next rank) (length-priorities size next rank) place) in
    let up : greatest_leading size next rank w ≤ greatest_leading size next rank v =
    rising size next rank w v _ _ (greatest_leading-top size next rank w bounded) (greatest_leading-top size next rank v bounded) f in
    omega (arith, here, there, up, le)

closed_by : (size : ℕ) (next after : ℕ → Option ℕ) (rank : ℕ → ℕ) (joins : ℕ → Bool) (o w v h : ℕ) → IsBounded size next → IsJoin next after joins o → after w ≡ Some v → IsPlace (priorities size next rank) v
    → h ≤ stored_of (priorities size next rank) w → (j : Bool) → joins w ≡ j → (h ≤ stored_of (priorities size next rank) v) ⊎ (v ≡ o)
closed_by size next after rank joins o w v h bounded join e place le true j = inr (let g : after w ≡ Some o = join.waits w j in cc)
closed_by size next after rank joins o w v h bounded join e place le false j = inl (step_up size next rank w v h bounded (sym (join.others w j) ∙ e) place le)

-- a rise from o on gives the priorities after the join
pub join-is : (size : ℕ) (next after : ℕ → Option ℕ) (rank : ℕ → ℕ) (joins : ℕ → Bool) (o h : ℕ) → IsBounded size next → IsBounded size after → IsJoin next after joins o → IsPassed joins (greatest_leading size next rank) h
    → risen after h size o (priorities size next rank) ≡ priorities size after rank
join-is size next after rank joins o h bounded bounded_after join passed =
    let stored : List ℕ = priorities size next rank in
    let long : length stored ≡ size = length-priorities size next rank in
    risen-is after h size o stored (within_priorities size next after rank bounded_after)
    (record { each = λ w v e place le. closed_by size next after rank joins o w v h bounded join e place le (joins w) refl })
    ∙ numbered_all size (greatest_leading size after rank) (raised_along after h size o stored) (length-raised_along after h size o stored ∙ long) (λ i lt.
    let in_stored : i < length stored = rw long lt in
    raised_along_at after h size o i stored in_stored
    ∙ rw (priority_at size next rank i lt)
    (top-unique size after rank (suc i) _ _
    (joined_by size next after rank joins o (suc i) h bounded bounded_after join passed (leads_to after (suc i) size o) refl)
    (greatest_leading-top size after rank (suc i) bounded_after)))
