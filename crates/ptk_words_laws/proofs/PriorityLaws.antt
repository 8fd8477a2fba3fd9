-- The effective priority is the greatest held priority of the threads whose chain holds the thread.
use Rattle.std.proofs.Common.{arith, ◌≡◌, ℕ, zero, suc, ◌≤◌, true, ◌&&◌, List, length, sym, ◌∙◌, ap, refl, subst, inl, inr}
use Rattle.std.specs.Prelude.{nat_eq, Option, Some, None, IsSome, is_some, filter, unwrap_or}
use Rattle.std.specs.List.{list_any}
use Rattle.std.proofs.lemmas.Bool.{eqb-true, and_from, and_parts}
use Rattle.std.proofs.lemmas.Map.Views.{any-filter_same}
use Rattle.ptk_words.specs.Pools.{numbers_to, pool_get}
use Rattle.ptk_words.specs.declared.threads.Thread.{Thread}
use Rattle.ptk_words_model.specs.State.{Mutex}
use Rattle.ptk_words_model.specs.Chain.{steps_from, Leads, leads_to}
use Rattle.ptk_words_model.specs.Priority.{next_in_chain, held_of, effective_of}
use Rattle.ptk_words_laws.specs.Laws.{ChainIsDecided, PriorityIsGreatest}
use Rattle.ptk_words_sync_invariant.proofs.ChainLaws.{false_true, none_some, chain_at-ended, number_of, reaches_sound, chain_complete, IsNumber, next-free, next_bounded}
use Rattle.ptk_words_sync_invariant.proofs.Greatest.{member_le, Attained, attained, numbers_member}

-- ---- numbers of the pool

number_if_some : {A : Type 0} (pool : List (Option A)) (q : ℕ) (o : Option A) → pool_get pool q ≡ o → is_some o ≡ true → IsNumber (length pool) q
number_if_some pool q None e h = false_true h
number_if_some pool q (Some a) e h = number_of pool q a e

-- ---- chains of threads

pub chain_decided : (threads : List (Option Thread)) (mutexes : List (Option Mutex)) → ChainIsDecided threads mutexes
chain_decided threads mutexes u t =
    (reaches_sound (next_in_chain threads mutexes) t (length threads) u, chain_complete (length threads) (next_in_chain threads mutexes) (next_bounded threads mutexes) u t)

-- ---- the threads whose chain holds t

abbrev leading : List (Option Thread) → List (Option Mutex) → ℕ → List ℕ
leading threads mutexes t = filter (λ u. leads_to (next_in_chain threads mutexes) t (length threads) u) (numbers_to (length threads))

leading-any : (threads : List (Option Thread)) (mutexes : List (Option Mutex)) (t u : ℕ) → list_any (nat_eq u) (leading threads mutexes t) ≡ (leads_to (next_in_chain threads mutexes) t (length threads) u && list_any (nat_eq u) (numbers_to (length threads)))
leading-any threads mutexes t u =
    any-filter_same (nat_eq u) (λ v. leads_to (next_in_chain threads mutexes) t (length threads) v) (leads_to (next_in_chain threads mutexes) t (length threads) u)
    (λ k e. ap (λ v. leads_to (next_in_chain threads mutexes) t (length threads) v) (sym (eqb-true u k e))) (numbers_to (length threads))

is_leading : (threads : List (Option Thread)) (mutexes : List (Option Mutex)) (t u : ℕ) → is_some (pool_get threads u) ≡ true → Leads (next_in_chain threads mutexes) u t → list_any (nat_eq u) (leading threads mutexes t) ≡ true
is_leading threads mutexes t u s r =
    let n : IsNumber (length threads) u = number_if_some threads u (pool_get threads u) refl s in
    leading-any threads mutexes t u
    ∙ and_from _ _ (chain_complete (length threads) (next_in_chain threads mutexes) (next_bounded threads mutexes) u t r) (numbers_member (length threads) u n.0 n.1)

-- where u is no thread, its chain is u alone
some_if_leads : (threads : List (Option Thread)) (mutexes : List (Option Mutex)) (u t n : ℕ) (o : Option Thread) → pool_get threads u ≡ o → steps_from (next_in_chain threads mutexes) u n ≡ Some t → is_some (pool_get threads t) ≡ true → is_some (pool_get threads u) ≡ true
some_if_leads threads mutexes u t n (Some thread) e c s = ap is_some e
some_if_leads threads mutexes u t zero None e c s = subst (λ x. is_some (pool_get threads x) ≡ true) (sym (ap (λ x. unwrap_or x 0) c)) s
some_if_leads threads mutexes u t (suc n) None e c s =
    none_some (steps_from (next_in_chain threads mutexes) u (suc n)) t (chain_at-ended (next_in_chain threads mutexes) u n (next-free threads mutexes u e)) c

abbrev Reached : List (Option Thread) → List (Option Mutex) → ℕ → Type 0
Reached threads mutexes t =
    (u : ℕ) × IsSome (pool_get threads u) × Leads (next_in_chain threads mutexes) u t × (held_of threads mutexes u ≡ effective_of threads mutexes t)

reached_from : (threads : List (Option Thread)) (mutexes : List (Option Mutex)) (t : ℕ) → is_some (pool_get threads t) ≡ true → Attained (held_of threads mutexes) 0 (leading threads mutexes t) → Reached threads mutexes t
reached_from threads mutexes t s (inl e) =
    let le : held_of threads mutexes t ≤ effective_of threads mutexes t = member_le (held_of threads mutexes) t (leading threads mutexes t) 0 (is_leading threads mutexes t t s (0, refl)) in
    let z : effective_of threads mutexes t ≡ 0 = e in
    (t, s, (0, refl), omega (arith, le, z))
reached_from threads mutexes t s (inr (u, h, e)) =
    let p : (leads_to (next_in_chain threads mutexes) t (length threads) u ≡ true) × (list_any (nat_eq u) (numbers_to (length threads)) ≡ true) = and_parts _ _ (sym (leading-any threads mutexes t u) ∙ h) in
    let r : Leads (next_in_chain threads mutexes) u t = reaches_sound (next_in_chain threads mutexes) t (length threads) u p.0 in
    (u, some_if_leads threads mutexes u t r.0 (pool_get threads u) refl r.1 s, r, e)

pub priority_greatest : (threads : List (Option Thread)) (mutexes : List (Option Mutex)) → PriorityIsGreatest threads mutexes
priority_greatest threads mutexes t s =
    record {
      greatest = λ u h r. member_le (held_of threads mutexes) u (leading threads mutexes t) 0 (is_leading threads mutexes t u h r);
      reached = reached_from threads mutexes t s (attained (held_of threads mutexes) 0 (leading threads mutexes t));
    }
