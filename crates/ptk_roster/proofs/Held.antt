-- Assigned priorities stored one by one, and held ones by the ceilings of the mutexes.
use Rattle.std.proofs.Common.{◌≡◌, ◌≢◌, ℕ, zero, suc, ◌+◌, ◌-◌, ◌<◌, ◌≤◌, List, [], ◌∷◌, ◌++◌, length, map, get_or, max, fold, take, Bool, true, false, refl, sym, ◌∙◌, ap, arith, ◌⊎◌, inl, inr, add-one}
use Rattle.std.specs.Prelude.{◌==◌, if◌then◌else◌, Option, Some, None, IsSome, option_map, unwrap_or}
use Rattle.std.proofs.Math.ListN.{set}
use Rattle.std.proofs.Math.Seq.{take-suc}
use Rattle.std.proofs.lemmas.Bool.{cases_eq, cases_lt}
use Rattle.std.proofs.lemmas.List.{length-set, get_or-set_same, get_or-set_other, get_or_past}
use Rattle.std.proofs.lemmas.List.Sums.{fold-append}
use Rattle.ptk_words.specs.Pools.{pool_get, numbers_of}
use Rattle.ptk_words.specs.declared.threads.Thread.{Thread}
use Rattle.ptk_words.specs.declared.mutexes.Protocol.{Protocol}
use Rattle.ptk_words.specs.declared.mutexes.Protocol.TheVariants.{NoProtocol, Inherit, Protect}
use Rattle.ptk_words.specs.declared.mutexes.Owner.{Owner}
use Rattle.ptk_words.specs.declared.mutexes.Owner.TheVariants.{Free, Abandoned, OwnedBy}
use Rattle.ptk_words.proofs.Pools.{get_beyond}
use Rattle.ptk_words.proofs.Options.{same_either_way}
use Rattle.ptk_words_model.specs.State.{Mutex}
use Rattle.ptk_words_model.specs.Priority.{assigned_of, is_owner, ceiling_of, ceiling_for, held_of}
use Rattle.ptk_threads.specs.declared.slot.Slot.{Slot}
use Rattle.ptk_threads.specs.Links.{threads_of}
use Rattle.ptk_threads.proofs.Slots.{read_at}
use Rattle.ptk_threads.specs.Table.{stored_of, AreLevelsOf}
use Rattle.ptk_roster.specs.Raised.{raised, protected, protected_at, with_ceilings}
use Rattle.ptk_roster.proofs.LevelLists.{length-raised, raised_at, length-numbered, numbered_at, numbered_all}

-- ---- assigned priorities

-- a slot as it is read at its place
pub read_here : (slots : List Slot) (i : ℕ) (slot : Slot) → i < length slots → slot ≡ get_or slots i slot → slot.thread ≡ pool_get (threads_of slots) (suc i)
read_here slots i slot lt is = let e : suc i - 1 ≡ i = omega arith in read_at slots (suc i) slot (omega arith) (rw e lt) (rw e is)

-- once those of the numbers 1 to k are stored
pub record AreAssigned (threads : List (Option Thread)) (k : ℕ) (stored : List ℕ) : Type 0 where
  pub long : length stored ≡ length threads
  pub value : (i : ℕ) → i < k → get_or stored i 0 ≡ assigned_of threads (suc i)
  pub greatest : (i : ℕ) → i < k → get_or stored i 0 ≤ 32
  pub least : (i : ℕ) → i < k → IsSome (pool_get threads (suc i)) → 0 < get_or stored i 0

pub assigned_none : (threads : List (Option Thread)) (stored : List ℕ) → length stored ≡ length threads → AreAssigned threads 0 stored
assigned_none threads stored long = record { long = long; value = λ i lt. absurd (omega (arith, lt)); greatest = λ i lt. absurd (omega (arith, lt)); least = λ i lt. absurd (omega (arith, lt)) }

set_cases : (Z : ℕ → ℕ → Type 0) (stored : List ℕ) (k i priority : ℕ) → k < length stored → Z k priority → (i < k → Z i (get_or stored i 0)) → i < k + 1 → (i ≡ k) ⊎ (i ≢ k) → Z i (get_or (set stored k priority) i 0)
set_cases Z stored k i priority within own before lt (inl e) = rw (e, get_or-set_same stored k priority 0 within) own
set_cases Z stored k i priority within own before lt (inr ne) = rw (get_or-set_other stored k i priority 0 ne) (before (omega (arith, lt, ne)))

pub assigned_more : (threads : List (Option Thread)) (k priority : ℕ) (stored : List ℕ) → k < length threads → priority ≡ assigned_of threads (suc k) → priority ≤ 32 → (IsSome (pool_get threads (suc k)) → 0 < priority)
    → AreAssigned threads k stored → AreAssigned threads (k + 1) (set stored k priority)
assigned_more threads k priority stored lt e le own all =
    let within : k < length stored = rw all.long lt in
    record {
      long = length-set stored k priority ∙ all.long;
      value = λ i below. set_cases (λ j x. x ≡ assigned_of threads (suc j)) stored k i priority within e (all.value i) below (cases_eq i k);
      greatest = λ i below. set_cases (λ j x. x ≤ 32) stored k i priority within le (all.greatest i) below (cases_eq i k);
      least = λ i below. set_cases (λ j x. IsSome (pool_get threads (suc j)) → 0 < x) stored k i priority within own (all.least i) below (cases_eq i k);
    }

pub assigned_all : (threads : List (Option Thread)) (k : ℕ) (stored : List ℕ) → k ≡ length threads → AreAssigned threads k stored → stored ≡ map (assigned_of threads) (numbers_of threads)
assigned_all threads k stored e all = numbered_all (length threads) (assigned_of threads) stored all.long (λ i lt. all.value i (rw e lt))

greatest_cases : (threads : List (Option Thread)) (k i : ℕ) (stored : List ℕ) → k ≡ length threads → AreAssigned threads k stored → (i < length threads) ⊎ (length threads ≤ i) → get_or stored i 0 ≤ 32
greatest_cases threads k i stored e all (inl lt) = all.greatest i (rw e lt)
greatest_cases threads k i stored e all (inr past) = rw (get_or_past stored i 0 (rw all.long past)) (omega arith)

greatest_all : (threads : List (Option Thread)) (k t : ℕ) (stored : List ℕ) → k ≡ length threads → AreAssigned threads k stored → stored_of stored t ≤ 32
greatest_all threads k zero stored e all = omega arith
greatest_all threads k (suc i) stored e all = greatest_cases threads k i stored e all (cases_lt i (length threads))

least_cases : (threads : List (Option Thread)) (k i : ℕ) (stored : List ℕ) → k ≡ length threads → AreAssigned threads k stored → IsSome (pool_get threads (suc i)) → (i < length threads) ⊎ (length threads ≤ i) → 0 < get_or stored i 0
least_cases threads k i stored e all used (inl lt) = all.least i (rw e lt) used
least_cases threads k i stored e all used (inr past) = let none : pool_get threads (suc i) ≡ None = get_beyond (suc i) threads (omega (arith, past)) in absurd (cc (none, used))

least_all : (threads : List (Option Thread)) (k t : ℕ) (stored : List ℕ) → k ≡ length threads → AreAssigned threads k stored → IsSome (pool_get threads t) → 0 < stored_of stored t
least_all threads k zero stored e all used = absurd (cc)
least_all threads k (suc i) stored e all used = least_cases threads k i stored e all used (cases_lt i (length threads))

pub assigned_levels : (threads : List (Option Thread)) (k : ℕ) (stored : List ℕ) → k ≡ length threads → AreAssigned threads k stored → AreLevelsOf threads stored
assigned_levels threads k stored e all = record { greatest = λ t. greatest_all threads k t stored e all; least = λ t used. least_all threads k t stored e all used }

-- ---- ceilings

ceiling_of_owner : (t u ceiling : ℕ) (protocol : Protocol) (owner : Owner) → protected protocol owner ≡ Some (u, ceiling) → (if is_owner t owner then ceiling_of protocol else 0) ≡ (if u == t then ceiling else 0)
ceiling_of_owner t u ceiling NoProtocol owner e = absurd (cc e)
ceiling_of_owner t u ceiling Inherit owner e = absurd (cc e)
ceiling_of_owner t u ceiling (Protect c) Free e = absurd (cc e)
ceiling_of_owner t u ceiling (Protect c) Abandoned e = absurd (cc e)
ceiling_of_owner t u ceiling (Protect c) (OwnedBy v) e = ap (λ o. unwrap_or (option_map (λ (x : ℕ × ℕ). if x.0 == t then x.1 else 0) o) 0) e

pub protected_ceiling : (t u ceiling : ℕ) (x : Option Mutex) → protected_at x ≡ Some (u, ceiling) → ceiling_for t x ≡ (if u == t then ceiling else 0)
protected_ceiling t u ceiling None e = absurd (cc e)
protected_ceiling t u ceiling (Some m) e = ceiling_of_owner t u ceiling m.protocol m.owner e

no_ceiling : (t : ℕ) (protocol : Protocol) (owner : Owner) → protected protocol owner ≡ None → (if is_owner t owner then ceiling_of protocol else 0) ≡ 0
no_ceiling t NoProtocol owner e = same_either_way (is_owner t owner) 0
no_ceiling t Inherit owner e = same_either_way (is_owner t owner) 0
no_ceiling t (Protect c) Free e = refl
no_ceiling t (Protect c) Abandoned e = refl
no_ceiling t (Protect c) (OwnedBy v) e = absurd (cc e)

pub unprotected_ceiling : (t : ℕ) (x : Option Mutex) → protected_at x ≡ None → ceiling_for t x ≡ 0
unprotected_ceiling t None e = refl
unprotected_ceiling t (Some m) e = no_ceiling t m.protocol m.owner e

max_if : (b : Bool) (a c : ℕ) → (if b then max a c else a) ≡ max a (if b then c else 0)
max_if true a c = refl
max_if false a c = omega arith

-- the priority that number t has at least by the mutexes
abbrev ceilinged : List (Option Mutex) → List ℕ → ℕ → ℕ
ceilinged mutexes stored t = fold (λ most m. max most (ceiling_for t m)) (stored_of stored t) mutexes

one_more : (mutexes : List (Option Mutex)) (x : Option Mutex) (stored : List ℕ) (t : ℕ) → ceilinged (mutexes ++ x ∷ []) stored t ≡ max (ceilinged mutexes stored t) (ceiling_for t x)
one_more mutexes x stored t = fold-append (λ most m. max most (ceiling_for t m)) (stored_of stored t) mutexes (x ∷ [])

pub ceilings_none : (stored : List ℕ) → stored ≡ with_ceilings [] stored
ceilings_none stored = numbered_all (length stored) (ceilinged [] stored) stored refl (λ i lt. refl)

pub length-ceilings : (mutexes : List (Option Mutex)) (stored : List ℕ) → length (with_ceilings mutexes stored) ≡ length stored
length-ceilings mutexes stored = length-numbered (length stored) (ceilinged mutexes stored)

-- a PROTECT mutex more, which a thread owns
pub ceilings_more : (mutexes : List (Option Mutex)) (x : Option Mutex) (u ceiling : ℕ) (stored : List ℕ) → protected_at x ≡ Some (u, ceiling) → raised ceiling u (with_ceilings mutexes stored) ≡ with_ceilings (mutexes ++ x ∷ []) stored
ceilings_more mutexes x u ceiling stored e =
    numbered_all (length stored) (ceilinged (mutexes ++ x ∷ []) stored) (raised ceiling u (with_ceilings mutexes stored)) (length-raised ceiling u (with_ceilings mutexes stored) ∙ length-ceilings mutexes stored)
    (λ i lt.
    raised_at ceiling u i (with_ceilings mutexes stored) (rw (length-ceilings mutexes stored) lt)
    ∙ max_if (u == suc i) (get_or (with_ceilings mutexes stored) i 0) ceiling
    ∙ rw (numbered_at (length stored) (ceilinged mutexes stored) i lt, sym (protected_ceiling (suc i) u ceiling x e)) (sym (one_more mutexes x stored (suc i))))

-- a mutex more that gives nobody a ceiling
pub ceilings_same : (mutexes : List (Option Mutex)) (x : Option Mutex) (stored : List ℕ) → protected_at x ≡ None → with_ceilings mutexes stored ≡ with_ceilings (mutexes ++ x ∷ []) stored
ceilings_same mutexes x stored e =
    numbered_all (length stored) (ceilinged (mutexes ++ x ∷ []) stored) (with_ceilings mutexes stored) (length-ceilings mutexes stored)
    (λ i lt. numbered_at (length stored) (ceilinged mutexes stored) i lt ∙ sym (one_more mutexes x stored (suc i) ∙ rw (unprotected_ceiling (suc i) x e) (omega arith)))

-- a turn of the pass over the mutexes
take_more : (mutexes : List (Option Mutex)) (k : ℕ) (x : Option Mutex) → k < length mutexes → x ≡ get_or mutexes k x → take (k + 1) mutexes ≡ take k mutexes ++ x ∷ []
take_more mutexes k x lt is = ap (λ j. take j mutexes) (add-one k) ∙ take-suc mutexes k x lt ∙ ap (λ y. take k mutexes ++ y ∷ []) (sym is)

pub owner_raised : (mutexes : List (Option Mutex)) (k u ceiling : ℕ) (x : Option Mutex) (stored so_far new : List ℕ) → k < length mutexes → x ≡ get_or mutexes k x → so_far ≡ with_ceilings (take k mutexes) stored
    → protected_at x ≡ Some (u, ceiling) → new ≡ raised ceiling u so_far → new ≡ with_ceilings (take (k + 1) mutexes) stored
owner_raised mutexes k u ceiling x stored so_far new lt is before e f =
    f ∙ ap (raised ceiling u) before ∙ ceilings_more (take k mutexes) x u ceiling stored e ∙ ap (λ ms. with_ceilings ms stored) (sym (take_more mutexes k x lt is))

pub nobody_raised : (mutexes : List (Option Mutex)) (k : ℕ) (x : Option Mutex) (stored so_far new : List ℕ) → k < length mutexes → x ≡ get_or mutexes k x → so_far ≡ with_ceilings (take k mutexes) stored
    → protected_at x ≡ None → new ≡ so_far → new ≡ with_ceilings (take (k + 1) mutexes) stored
nobody_raised mutexes k x stored so_far new lt is before e f =
    f ∙ before ∙ ceilings_same (take k mutexes) x stored e ∙ ap (λ ms. with_ceilings ms stored) (sym (take_more mutexes k x lt is))

-- the ceilings over the assigned priorities are the held ones
pub ceilings_held : (threads : List (Option Thread)) (mutexes : List (Option Mutex)) → with_ceilings mutexes (map (assigned_of threads) (numbers_of threads)) ≡ map (held_of threads mutexes) (numbers_of threads)
ceilings_held threads mutexes =
    let assigned : List ℕ = map (assigned_of threads) (numbers_of threads) in
    let long : length assigned ≡ length threads = length-numbered (length threads) (assigned_of threads) in
    numbered_all (length threads) (held_of threads mutexes) (with_ceilings mutexes assigned) (length-ceilings mutexes assigned ∙ long)
    (λ i lt.
    numbered_at (length assigned) (ceilinged mutexes assigned) i (rw long lt)
    ∙ ap (λ a. fold (λ most m. max most (ceiling_for (suc i) m)) a mutexes) (numbered_at (length threads) (assigned_of threads) i lt))
