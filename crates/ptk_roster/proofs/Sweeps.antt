-- Held priorities, and what is left once the thread that each waits for raised its chain.
use Rattle.std.proofs.Common.{◌≡◌, ℕ, zero, suc, ◌<◌, ◌≤◌, List, length, map, get_or, true, false, refl, sym, ◌∙◌, ap, subst, arith, ◌⊎◌, inl, inr}
use Rattle.std.specs.Prelude.{◌==◌, Option, Some, None, option_map, unwrap_or}
use Rattle.std.proofs.lemmas.Bool.{cases_lt, eqb-true, or_cases}
use Rattle.std.proofs.lemmas.List.{get_or_past}
use Rattle.ptk_words.specs.Pools.{numbers_to}
use Rattle.ptk_words.specs.declared.threads.Thread.{Thread}
use Rattle.ptk_words_model.specs.Chain.{leads_to, Leads, greatest_leading}
use Rattle.ptk_words_sync_invariant.proofs.ChainLaws.{none_some, false_true, chain_complete, IsNumber, IsBounded}
use Rattle.ptk_threads.specs.Table.{stored_of, AreLevelsOf}
use Rattle.ptk_roster.specs.Raised.{risen}
use Rattle.ptk_roster.proofs.LevelLists.{length-numbered, numbered_of, numbered_all}
use Rattle.ptk_roster.proofs.Tops.{greatest_leading-top, rising}
use Rattle.ptk_roster.proofs.Risen.{IsPlace, IsWithin, IsClosed, IsRising, place_or_past, length-risen, risen_keeps, risen_up_to, walk_closes, lower, lower_all}

-- ---- the sweep over all numbers

-- once the next ones of the numbers 1 to k raised their chains
pub record IsSwept (n : ℕ) (next : ℕ → Option ℕ) (rank : ℕ → ℕ) (k : ℕ) (stored : List ℕ) : Type 0 where
  pub long : length stored ≡ n
  pub least : (t : ℕ) → IsNumber n t → rank t ≤ stored_of stored t
  pub most : (t : ℕ) → stored_of stored t ≤ greatest_leading n next rank t
  pub closed : IsClosed next k stored

pub place_number : (n t : ℕ) (stored : List ℕ) → length stored ≡ n → IsPlace stored t → IsNumber n t
place_number n t stored long place = (place.0, omega (arith, place.1, long))

pub number_place : (n t : ℕ) (stored : List ℕ) → length stored ≡ n → IsNumber n t → IsPlace stored t
number_place n t stored long at = (at.0, omega (arith, at.1, long))

own_top : (n : ℕ) (next : ℕ → Option ℕ) (rank : ℕ → ℕ) (t : ℕ) → IsBounded n next → IsNumber n t → rank t ≤ greatest_leading n next rank t
own_top n next rank t bounded at = (greatest_leading-top n next rank t bounded).greatest t at (0, refl)

past_index : (i : ℕ) (stored : List ℕ) → (IsPlace stored (suc i) → ⊥) → (i < length stored) ⊎ (length stored ≤ i) → get_or stored i 0 ≡ 0
past_index i stored past (inl lt) = absurd (past (omega arith, omega (arith, lt)))
past_index i stored past (inr le) = get_or_past stored i 0 le

past_stored : (t : ℕ) (stored : List ℕ) → (IsPlace stored t → ⊥) → stored_of stored t ≡ 0
past_stored zero stored past = refl
past_stored (suc i) stored past = past_index i stored past (cases_lt i (length stored))

held_most : (n : ℕ) (next : ℕ → Option ℕ) (rank : ℕ → ℕ) (t : ℕ) (stored : List ℕ) → IsBounded n next → stored ≡ map rank (numbers_to n) → IsPlace stored t ⊎ (IsPlace stored t → ⊥) → stored_of stored t ≤ greatest_leading n next rank t
held_most n next rank t stored bounded e (inl place) =
    let at : IsNumber n t = place_number n t stored (ap length e ∙ length-numbered n rank) place in
    let here : stored_of stored t ≡ rank t = ap (λ s. stored_of s t) e ∙ numbered_of n rank t at in
    omega (arith, here, own_top n next rank t bounded at)
held_most n next rank t stored bounded e (inr past) = omega (arith, past_stored t stored past)

-- at first each has what it holds
pub swept_none : (n : ℕ) (next : ℕ → Option ℕ) (rank : ℕ → ℕ) (stored : List ℕ) → IsBounded n next → stored ≡ map rank (numbers_to n) → IsSwept n next rank 0 stored
swept_none n next rank stored bounded e =
    record {
      long = ap length e ∙ length-numbered n rank;
      least = λ t at. let here : stored_of stored t ≡ rank t = ap (λ s. stored_of s t) e ∙ numbered_of n rank t at in omega (arith, here);
      most = λ t. held_most n next rank t stored bounded e (place_or_past stored t);
      closed = λ w v le f place. absurd (omega (arith, le, (bounded.each w v f).0));
    }

closed_more : (next : ℕ → Option ℕ) (k w v : ℕ) (stored : List ℕ) → IsClosed next k stored → next (suc k) ≡ None → next w ≡ Some v → IsPlace stored v → (w ≤ k) ⊎ (w ≡ suc k) → stored_of stored w ≤ stored_of stored v
closed_more next k w v stored closed n e place (inl le) = closed w v le e place
closed_more next k w v stored closed n e place (inr same) = none_some (next (suc k)) v n (subst (λ x. next x ≡ Some v) same e)

last_or_before : (k w : ℕ) → w ≤ suc k → (w ≤ k) ⊎ (w ≡ suc k)
last_or_before k w le = grind (arith, le)

pub swept_over : (n : ℕ) (next : ℕ → Option ℕ) (rank : ℕ → ℕ) (k : ℕ) (stored : List ℕ) → next (suc k) ≡ None → IsSwept n next rank k stored → IsSwept n next rank (suc k) stored
swept_over n next rank k stored none swept =
    record {
      long = swept.long;
      least = swept.least;
      most = swept.most;
      closed = λ w v le e place. closed_more next k w v stored swept.closed none e place (last_or_before k w le);
    }

on_way : (next : ℕ → Option ℕ) (k v w x : ℕ) (stored : List ℕ) → IsClosed next k stored → next (suc k) ≡ Some v → next w ≡ Some x → IsPlace stored x → (w ≤ k) ⊎ (w ≡ suc k)
    → (stored_of stored w ≤ stored_of stored x) ⊎ ((x ≡ v) × (stored_of stored w ≤ stored_of stored (suc k)))
on_way next k v w x stored closed e f place (inl le) = inl (closed w x le f place)
on_way next k v w x stored closed e f place (inr same) = let g : next (suc k) ≡ Some x = subst (λ y. next y ≡ Some x) same f in inr (cc, rw same (omega arith))

top_rises : (n : ℕ) (next : ℕ → Option ℕ) (rank : ℕ → ℕ) → IsBounded n next → IsRising next (greatest_leading n next rank)
top_rises n next rank bounded = λ w v e. rising n next rank w v _ _ (greatest_leading-top n next rank w bounded) (greatest_leading-top n next rank v bounded) e

pub swept_more : (n : ℕ) (next : ℕ → Option ℕ) (rank : ℕ → ℕ) (k v priority fuel : ℕ) (stored new : List ℕ) → n ≤ fuel → IsBounded n next → next (suc k) ≡ Some v → priority ≡ stored_of stored (suc k) → new ≡ risen next priority fuel v stored
    → IsSwept n next rank k stored → IsSwept n next rank (suc k) new
swept_more n next rank k v priority fuel stored new enough bounded e own f swept =
    let within : IsWithin next stored = record { each = λ w x g. number_place n w stored swept.long (bounded.each w x g) } in
    let few : lower priority stored ≤ fuel = omega (arith, lower_all priority stored, swept.long, enough) in
    let rises = top_rises n next rank bounded in
    rw f (record {
      long = length-risen next priority fuel v stored ∙ swept.long;
      least = λ t at. omega (arith, swept.least t at, risen_keeps next priority fuel v t stored);
      most = risen_up_to next (greatest_leading n next rank) priority fuel v stored rises (omega (arith, own, swept.most (suc k), rises (suc k) v e)) swept.most;
      closed = walk_closes next (suc k) priority fuel v stored within few
          (λ w x le g place. rw own (on_way next k v w x stored swept.closed e g place (last_or_before k w le)));
    })

-- ---- once all did

past_or : (next : ℕ → Option ℕ) (t fuel v : ℕ) → next v ≡ None → ((v == t) ≡ true) ⊎ (unwrap_or (option_map (leads_to next t fuel) (next v)) false ≡ true) → v ≡ t
past_or next t fuel v n (inl e) = eqb-true v t e
past_or next t fuel v n (inr h) = false_true (sym (ap (λ o. unwrap_or (option_map (leads_to next t fuel) o) false) n) ∙ h)

past_end : (next : ℕ → Option ℕ) (t fuel v : ℕ) → next v ≡ None → leads_to next t fuel v ≡ true → v ≡ t
past_end next t zero v n h = eqb-true v t h
past_end next t (suc fuel) v n h = past_or next t fuel v n (or_cases _ _ h)

no_next : (n : ℕ) (next : ℕ → Option ℕ) (v : ℕ) → IsBounded n next → (IsNumber n v → ⊥) → (o : Option ℕ) → next v ≡ o → o ≡ None
no_next n next v bounded past None e = refl
no_next n next v bounded past (Some x) e = absurd (past (bounded.each v x e))

follow_place : (n : ℕ) (next : ℕ → Option ℕ) (stored : List ℕ) → IsBounded n next → length stored ≡ n → IsClosed next n stored → (t fuel u v : ℕ) → (leads_to next t fuel v ≡ true → stored_of stored v ≤ stored_of stored t)
    → IsNumber n t → next u ≡ Some v → leads_to next t fuel v ≡ true → IsPlace stored v ⊎ (IsPlace stored v → ⊥) → stored_of stored u ≤ stored_of stored t
follow_place n next stored bounded long closed t fuel u v ih at e h (inl place) =
    let r : IsNumber n u = bounded.each u v e in
    omega (arith, closed u v (omega (arith, r.1)) e place, ih h)
follow_place n next stored bounded long closed t fuel u v ih at e h (inr past) =
    let none : next v ≡ None = no_next n next v bounded (λ q. past (number_place n v stored long q)) (next v) refl in
    let same : v ≡ t = past_end next t fuel v none h in
    absurd (past (number_place n v stored long (subst (IsNumber n) (sym same) at)))

follow_next : (n : ℕ) (next : ℕ → Option ℕ) (stored : List ℕ) → IsBounded n next → length stored ≡ n → IsClosed next n stored → (t fuel u : ℕ) → ((v : ℕ) → leads_to next t fuel v ≡ true → stored_of stored v ≤ stored_of stored t)
    → IsNumber n t → (o : Option ℕ) → next u ≡ o → unwrap_or (option_map (leads_to next t fuel) o) false ≡ true → stored_of stored u ≤ stored_of stored t
follow_next n next stored bounded long closed t fuel u ih at None e h = false_true h
follow_next n next stored bounded long closed t fuel u ih at (Some v) e h = follow_place n next stored bounded long closed t fuel u v (ih v) at e h (place_or_past stored v)

follow_or : (n : ℕ) (next : ℕ → Option ℕ) (stored : List ℕ) → IsBounded n next → length stored ≡ n → IsClosed next n stored → (t fuel u : ℕ) → ((v : ℕ) → leads_to next t fuel v ≡ true → stored_of stored v ≤ stored_of stored t)
    → IsNumber n t → ((u == t) ≡ true) ⊎ (unwrap_or (option_map (leads_to next t fuel) (next u)) false ≡ true) → stored_of stored u ≤ stored_of stored t
follow_or n next stored bounded long closed t fuel u ih at (inl e) = let same : u ≡ t = eqb-true u t e in rw same (omega arith)
follow_or n next stored bounded long closed t fuel u ih at (inr h) = follow_next n next stored bounded long closed t fuel u ih at (next u) refl h

-- along a chain none is lower than those before it
follow : (n : ℕ) (next : ℕ → Option ℕ) (stored : List ℕ) → IsBounded n next → length stored ≡ n → IsClosed next n stored → (t fuel u : ℕ) → IsNumber n t → leads_to next t fuel u ≡ true → stored_of stored u ≤ stored_of stored t
follow n next stored bounded long closed t zero u at h = let e : u ≡ t = eqb-true u t h in rw e (omega arith)
follow n next stored bounded long closed t (suc fuel) u at h =
    follow_or n next stored bounded long closed t fuel u (λ v. follow n next stored bounded long closed t fuel v at) at (or_cases _ _ h)

top_le : (n : ℕ) (next : ℕ → Option ℕ) (rank : ℕ → ℕ) (stored : List ℕ) (t x : ℕ) → IsBounded n next → IsSwept n next rank n stored → IsNumber n t → (x ≡ 0) ⊎ ((u : ℕ) × IsNumber n u × Leads next u t × (rank u ≡ x)) → x ≤ stored_of stored t
top_le n next rank stored t x bounded swept at (inl z) = omega (arith, z)
top_le n next rank stored t x bounded swept at (inr (u, m, l, e)) =
    omega (arith, e, swept.least u m, follow n next stored bounded swept.long swept.closed t n u at (chain_complete n next bounded u t l))

pub swept_all : (n : ℕ) (next : ℕ → Option ℕ) (rank : ℕ → ℕ) (stored : List ℕ) → IsBounded n next → IsSwept n next rank n stored → stored ≡ map (greatest_leading n next rank) (numbers_to n)
swept_all n next rank stored bounded swept =
    numbered_all n (greatest_leading n next rank) stored swept.long (λ i lt.
    let up = top_le n next rank stored (suc i) (greatest_leading n next rank (suc i)) bounded swept (omega arith, omega (arith, lt)) (greatest_leading-top n next rank (suc i) bounded).reached in
    omega (arith, up, swept.most (suc i)))

-- ---- each priority stays in its range

pub levels_more : (next : ℕ → Option ℕ) (threads : List (Option Thread)) (priority fuel u : ℕ) (stored new : List ℕ) → priority ≤ 32 → new ≡ risen next priority fuel u stored → AreLevelsOf threads stored → AreLevelsOf threads new
levels_more next threads priority fuel u stored new le e levels =
    rw e (record {
      greatest = risen_up_to next (λ _. 32) priority fuel u stored (λ w v f. omega arith) le levels.greatest;
      least = λ k used. omega (arith, levels.least k used, risen_keeps next priority fuel u k stored);
    })
