-- Chains: the test with so many steps and the relation agree.
use Rattle.std.proofs.Common.{arith, ◌≡◌, ℕ, zero, suc, ◌<◌, ◌≤◌, Bool, true, false, List, [], ◌∷◌, length, sym, ◌∙◌, ap, refl, subst, inl, inr}
use Rattle.std.specs.Prelude.{◌==◌, slice_get, nat_eq, Option, Some, None, option_map, option_and_then, unwrap_or, ◌⊎◌}
use Rattle.std.specs.List.{IsDistinct, list_any}
use Rattle.std.specs.Option.{option_flatten}
use Rattle.std.proofs.lemmas.Option.{slice_get_within}
use Rattle.std.proofs.lemmas.Bool.{eqb-true, eq-eqb, or_cases, or_left, or_right}
use Rattle.std.proofs.lemmas.Map.Keys.{IsDistinct-tail}
use Rattle.std.proofs.lemmas.Map.Steps.{length-le_from_distinct_below}
use Rattle.ptk_words.specs.Pools.{pool_get}
use Rattle.ptk_words.proofs.Lists.{distinct_head, none_distinct}
use Rattle.ptk_words.specs.declared.threads.Thread.{Thread}
use Rattle.ptk_words_model.specs.Chain.{steps_from, Leads, leads_to}
use Rattle.ptk_words_model.specs.State.{Mutex}
use Rattle.ptk_words_model.specs.Priority.{awaited, inheritor_of, next_in_chain}

-- ---- one step

-- the chain of the next thread is the chain, one step on
pub chain_at-next : (next : ℕ → Option ℕ) (u v n : ℕ) → next u ≡ Some v → steps_from next u (suc n) ≡ steps_from next v n
chain_at-next next u v zero e = e
chain_at-next next u v (suc n) e = ap (option_and_then next) (chain_at-next next u v n e)

-- where there is no next thread, the chain has ended
pub chain_at-ended : (next : ℕ → Option ℕ) (u n : ℕ) → next u ≡ None → steps_from next u (suc n) ≡ None
chain_at-ended next u zero e = e
chain_at-ended next u (suc n) e = ap (option_and_then next) (chain_at-ended next u n e)

pub none_some : {A : Type 0} (o : Option ℕ) (t : ℕ) → o ≡ None → o ≡ Some t → A
none_some o t e f = absurd (cc (e, f))

pub false_true : {A : Type 0} → false ≡ true → A
false_true e = absurd (cc e)

-- ---- sound: what the test finds, some number of steps reaches

sound_step : (next : ℕ → Option ℕ) (t fuel u : ℕ) → ((v : ℕ) → leads_to next t fuel v ≡ true → Leads next v t) → (o : Option ℕ) → next u ≡ o → unwrap_or (option_map (leads_to next t fuel) o) false ≡ true → Leads next u t
sound_step next t fuel u ih None n h = false_true h
sound_step next t fuel u ih (Some v) n h = let r : Leads next v t = ih v h in (suc r.0, chain_at-next next u v r.0 n ∙ r.1)

sound_cases : (next : ℕ → Option ℕ) (t fuel u : ℕ) → ((v : ℕ) → leads_to next t fuel v ≡ true → Leads next v t) → ((u == t) ≡ true) ⊎ (unwrap_or (option_map (leads_to next t fuel) (next u)) false ≡ true) → Leads next u t
sound_cases next t fuel u ih (inl e) = (0, ap Some (eqb-true u t e))
sound_cases next t fuel u ih (inr h) = sound_step next t fuel u ih (next u) refl h

pub reaches_sound : (next : ℕ → Option ℕ) (t fuel u : ℕ) → leads_to next t fuel u ≡ true → Leads next u t
reaches_sound next t zero u e = (0, ap Some (eqb-true u t e))
reaches_sound next t (suc fuel) u e = sound_cases next t fuel u (reaches_sound next t fuel) (or_cases _ _ e)

-- ---- complete: so many steps are found with that much fuel

found_step : (next : ℕ → Option ℕ) (t fuel n u : ℕ) → ((v : ℕ) → steps_from next v n ≡ Some t → leads_to next t fuel v ≡ true) → (o : Option ℕ) → next u ≡ o → steps_from next u (suc n) ≡ Some t → unwrap_or (option_map (leads_to next t fuel) o) false ≡ true
found_step next t fuel n u ih None e c = none_some (steps_from next u (suc n)) t (chain_at-ended next u n e) c
found_step next t fuel n u ih (Some v) e c = ih v (sym (chain_at-next next u v n e) ∙ c)

pub reaches_found : (next : ℕ → Option ℕ) (t fuel n u : ℕ) → n ≤ fuel → steps_from next u n ≡ Some t → leads_to next t fuel u ≡ true
reaches_found next t zero zero u h c = eq-eqb u t (ap (λ o. unwrap_or o 0) c)
reaches_found next t zero (suc n) u h c = absurd (omega (arith, h))
reaches_found next t (suc fuel) zero u h c = or_left _ _ (eq-eqb u t (ap (λ o. unwrap_or o 0) c))
reaches_found next t (suc fuel) (suc n) u h c =
    or_right _ _ (found_step next t fuel n u (λ v. reaches_found next t fuel n v (omega (arith, h))) (next u) refl c)

-- ---- a chain without repetition

-- the threads that the first n steps of the chain of u start from
abbrev pub visited : (ℕ → Option ℕ) → ℕ → ℕ → List ℕ
visited next zero u = []
visited next (suc n) u = u ∷ unwrap_or (option_map (visited next n) (next u)) []

pub visited-next : (next : ℕ → Option ℕ) (n u v : ℕ) → next u ≡ Some v → visited next (suc n) u ≡ u ∷ visited next n v
visited-next next n u v e = ap (λ o. u ∷ unwrap_or (option_map (visited next n) o) []) e

-- so many steps of the chain of u lead to t, and start from different threads
pub record IsPath (next : ℕ → Option ℕ) (t n u : ℕ) : Type 0 where
  pub leads : steps_from next u n ≡ Some t
  pub distinct : IsDistinct nat_eq (visited next n u)

-- the rest of a path, from a thread that it starts from again
rest_of_path : (next : ℕ → Option ℕ) (t k v w : ℕ) → next v ≡ Some w → IsPath next t (suc k) v → IsPath next t k w
rest_of_path next t k v w e p =
    record {
      leads = sym (chain_at-next next v w k e) ∙ p.leads;
      distinct = IsDistinct-tail nat_eq v (visited next k w) (rw (visited-next next k v w e) at p.distinct);
    }

suffix_step : (next : ℕ → Option ℕ) (t k v u : ℕ) → ((w : ℕ) → list_any (nat_eq u) (visited next k w) ≡ true → IsPath next t k w → (j : ℕ) × IsPath next t j u)
    → (o : Option ℕ) → next v ≡ o → list_any (nat_eq u) (unwrap_or (option_map (visited next k) o) []) ≡ true → IsPath next t (suc k) v → (j : ℕ) × IsPath next t j u
suffix_step next t k v u ih None e h p = false_true h
suffix_step next t k v u ih (Some w) e h p = ih w h (rest_of_path next t k v w e p)

suffix_cases : (next : ℕ → Option ℕ) (t k v u : ℕ) → ((w : ℕ) → list_any (nat_eq u) (visited next k w) ≡ true → IsPath next t k w → (j : ℕ) × IsPath next t j u)
    → (nat_eq u v ≡ true) ⊎ (list_any (nat_eq u) (unwrap_or (option_map (visited next k) (next v)) []) ≡ true) → IsPath next t (suc k) v → (j : ℕ) × IsPath next t j u
suffix_cases next t k v u ih (inl e) p = (suc k, subst (λ x. IsPath next t (suc k) x) (sym (eqb-true u v e)) p)
suffix_cases next t k v u ih (inr h) p = suffix_step next t k v u ih (next v) refl h p

suffix : (next : ℕ → Option ℕ) (t k v u : ℕ) → list_any (nat_eq u) (visited next k v) ≡ true → IsPath next t k v → (j : ℕ) × IsPath next t j u
suffix next t zero v u h p = false_true h
suffix next t (suc k) v u h p = suffix_cases next t k v u (λ w. suffix next t k w u) (or_cases _ _ h) p

longer : (next : ℕ → Option ℕ) (t k u v : ℕ) → next u ≡ Some v → IsPath next t k v → list_any (nat_eq u) (visited next k v) ≡ false → IsPath next t (suc k) u
longer next t k u v e p n =
    record {
      leads = chain_at-next next u v k e ∙ p.leads;
      distinct = rw (visited-next next k u v e) (distinct_head u (visited next k v) p.distinct n);
    }

erased_cases : (next : ℕ → Option ℕ) (t k u v : ℕ) → next u ≡ Some v → IsPath next t k v → (b : Bool) → list_any (nat_eq u) (visited next k v) ≡ b → (j : ℕ) × IsPath next t j u
erased_cases next t k u v e p true h = suffix next t k v u h p
erased_cases next t k u v e p false h = (suc k, longer next t k u v e p h)

erased_step : (next : ℕ → Option ℕ) (t n u : ℕ) → ((v : ℕ) → steps_from next v n ≡ Some t → (k : ℕ) × IsPath next t k v) → (o : Option ℕ) → next u ≡ o → steps_from next u (suc n) ≡ Some t → (j : ℕ) × IsPath next t j u
erased_step next t n u ih None e c = none_some (steps_from next u (suc n)) t (chain_at-ended next u n e) c
erased_step next t n u ih (Some v) e c =
    let p : (k : ℕ) × IsPath next t k v = ih v (sym (chain_at-next next u v n e) ∙ c) in
    erased_cases next t p.0 u v e p.1 (list_any (nat_eq u) (visited next p.0 v)) refl

-- any number of steps can be made without repetition
pub erased : (next : ℕ → Option ℕ) (t n u : ℕ) → steps_from next u n ≡ Some t → (k : ℕ) × IsPath next t k u
erased next t zero u c = (0, record { leads = c; distinct = none_distinct })
erased next t (suc n) u c = erased_step next t n u (erased next t n) (next u) refl c

-- ---- such a chain is no longer than the pool

length_step : (next : ℕ → Option ℕ) (t n u : ℕ) → ((v : ℕ) → steps_from next v n ≡ Some t → length (visited next n v) ≡ n) → (o : Option ℕ) → next u ≡ o → steps_from next u (suc n) ≡ Some t → length (unwrap_or (option_map (visited next n) o) []) ≡ n
length_step next t n u ih None e c = none_some (steps_from next u (suc n)) t (chain_at-ended next u n e) c
length_step next t n u ih (Some v) e c = ih v (sym (chain_at-next next u v n e) ∙ c)

length-visited : (next : ℕ → Option ℕ) (t n u : ℕ) → steps_from next u n ≡ Some t → length (visited next n u) ≡ n
length-visited next t zero u c = refl
length-visited next t (suc n) u c = ap suc (length_step next t n u (length-visited next t n) (next u) refl c)

-- a number of the pool
abbrev pub IsNumber : ℕ → ℕ → Type 0
IsNumber size q = (0 < q) × (q < suc size)

flat_some : {A : Type 0} (o : Option (Option A)) (a : A) → option_flatten o ≡ Some a → (x : Option A) × (o ≡ Some x)
flat_some None a e = absurd (cc e)
flat_some (Some x) a e = (x, refl)

-- the number of an entry in use lies within the pool
pub number_of : {A : Type 0} (pool : List (Option A)) (q : ℕ) (a : A) → pool_get pool q ≡ Some a → IsNumber (length pool) q
number_of pool zero a e = absurd (cc e)
number_of pool (suc i) a e =
    let f : (x : Option _) × (slice_get pool i ≡ Some x) = flat_some (slice_get pool i) a e in
    let w : i < length pool = slice_get_within pool i f.0 f.1 in
    (omega arith, omega (arith, w))

-- only numbers of the pool lead on
pub record IsBounded (size : ℕ) (next : ℕ → Option ℕ) : Type 0 where
  pub each : (q v : ℕ) → next q ≡ Some v → IsNumber size q

within_step : (size : ℕ) (next : ℕ → Option ℕ) → IsBounded size next → (t n u q : ℕ) → ((v : ℕ) → steps_from next v n ≡ Some t → list_any (nat_eq q) (visited next n v) ≡ true → IsNumber size q)
    → (o : Option ℕ) → next u ≡ o → steps_from next u (suc n) ≡ Some t → (nat_eq q u ≡ true) ⊎ (list_any (nat_eq q) (unwrap_or (option_map (visited next n) o) []) ≡ true) → IsNumber size q
within_step size next b t n u q ih None e c d = none_some (steps_from next u (suc n)) t (chain_at-ended next u n e) c
within_step size next b t n u q ih (Some v) e c (inl h) = subst (IsNumber size) (sym (eqb-true q u h)) (b.each u v e)
within_step size next b t n u q ih (Some v) e c (inr h) = ih v (sym (chain_at-next next u v n e) ∙ c) h

visited_within : (size : ℕ) (next : ℕ → Option ℕ) → IsBounded size next → (t n u q : ℕ) → steps_from next u n ≡ Some t → list_any (nat_eq q) (visited next n u) ≡ true → IsNumber size q
visited_within size next b t zero u q c h = false_true h
visited_within size next b t (suc n) u q c h =
    within_step size next b t n u q (λ v. visited_within size next b t n v q) (next u) refl c (or_cases _ _ h)

zero_fresh : (size : ℕ) (next : ℕ → Option ℕ) → IsBounded size next → (t n u : ℕ) → steps_from next u n ≡ Some t → (b : Bool) → list_any (nat_eq 0) (visited next n u) ≡ b → b ≡ false
zero_fresh size next bd t n u c true h = absurd (omega (arith, (visited_within size next bd t n u 0 c h).0))
zero_fresh size next bd t n u c false h = refl

below : (size : ℕ) (next : ℕ → Option ℕ) → IsBounded size next → (t n u q : ℕ) → steps_from next u n ≡ Some t → (nat_eq q 0 ≡ true) ⊎ (list_any (nat_eq q) (visited next n u) ≡ true) → q < suc size
below size next b t n u q c (inl h) = let z : q ≡ 0 = eqb-true q 0 h in omega (arith, z)
below size next b t n u q c (inr h) = (visited_within size next b t n u q c h).1

path-le : (size : ℕ) (next : ℕ → Option ℕ) → IsBounded size next → (t n u : ℕ) → IsPath next t n u → n ≤ size
path-le size next b t n u p =
    let zeros : list_any (nat_eq 0) (visited next n u) ≡ false = zero_fresh size next b t n u p.leads _ refl in
    let h : length (0 ∷ visited next n u) ≤ suc size =
    length-le_from_distinct_below (0 ∷ visited next n u) (suc size)
    (distinct_head 0 (visited next n u) p.distinct zeros)
    (λ q e. below size next b t n u q p.leads (or_cases _ _ e)) in
    let l : length (visited next n u) ≡ n = length-visited next t n u p.leads in
    omega (arith, h, l)

pub chain_complete : (size : ℕ) (next : ℕ → Option ℕ) → IsBounded size next → (u t : ℕ) → Leads next u t → leads_to next t size u ≡ true
chain_complete size next b u t r =
    let p : (k : ℕ) × IsPath next t k u = erased next t r.0 u r.1 in
    reaches_found next t size p.0 u (path-le size next b t p.0 u p.1) p.1.leads

-- ---- chains of threads

-- a free number waits for nothing
pub next-free : (threads : List (Option Thread)) (mutexes : List (Option Mutex)) (q : ℕ) → pool_get threads q ≡ None → next_in_chain threads mutexes q ≡ None
next-free threads mutexes q e = ap (λ o. option_and_then (λ m. inheritor_of (pool_get mutexes m)) (awaited o)) e

next_within : (threads : List (Option Thread)) (mutexes : List (Option Mutex)) (q v : ℕ) (o : Option Thread) → pool_get threads q ≡ o → next_in_chain threads mutexes q ≡ Some v → IsNumber (length threads) q
next_within threads mutexes q v None e n = none_some (next_in_chain threads mutexes q) v (next-free threads mutexes q e) n
next_within threads mutexes q v (Some thread) e n = number_of threads q thread e

-- only threads of the pool lead on
pub next_bounded : (threads : List (Option Thread)) (mutexes : List (Option Mutex)) → IsBounded (length threads) (next_in_chain threads mutexes)
next_bounded threads mutexes = record { each = λ q v n. next_within threads mutexes q v (pool_get threads q) refl n }
