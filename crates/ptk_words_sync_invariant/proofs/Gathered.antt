-- A thread begins or ends a wait on a condition variable, and a condition variable is set up and destroyed.
use Rattle.std.proofs.Common.{◌≡◌, ℕ, true, List, [], ◌∷◌, ◌++◌, refl, sym, ◌∙◌, ap, subst, inl, inr}
use Rattle.std.specs.Prelude.{◌≢◌, IsSome, Option, Some, None, option_map, nat_eq}
use Rattle.std.specs.List.{IsDistinct}
use Rattle.std.proofs.lemmas.Bool.{cases_eq, false≢true, false_from_ne_true}
use Rattle.ptk_words.specs.Pools.{pool_get, pool_set, pool_changed, without, is_in}
use Rattle.ptk_words.specs.declared.threads.Thread.{Thread}
use Rattle.ptk_words.specs.declared.threads.Wait.TheVariants.{ConditionWait}
use Rattle.ptk_words.proofs.Options.{one_value}
use Rattle.ptk_words.proofs.Pools.{each_set, each_changed}
use Rattle.ptk_words.proofs.Lists.{in_push, own_push, still_push, without_other, in_without, distinct_push, distinct_without}
use Rattle.ptk_words_model.specs.State.{Mutex, Condition}
use Rattle.ptk_words_model.specs.Mutex.{wait_of}
use Rattle.ptk_words_model.specs.Condition.{mutex_of_condition_wait, waiters_on}
use Rattle.ptk_words_sync_invariant.specs.Conditions.{HasRoom, AreConditions}
use Rattle.ptk_words.specs.Threads.{condition_of_wait}
use Rattle.ptk_words_sync_invariant.proofs.Conditions.{waits_on, names, off_names, IsGathered, AreReturnable, gathered_at, returnable_of, conditions_from, AreOtherWaits}

-- ---- the waiters of one condition variable

-- the condition variable with these of its waiters (own)
abbrev pub gathering : (List ℕ → List ℕ) → Condition → Condition
gathering g condition = record { waiters = g condition.waiters }

gathering_some : (g : List ℕ → List ℕ) (o : Option Condition) → IsSome o → Some (record { waiters = g (waiters_on o) }) ≡ option_map (gathering g) o
gathering_some g None e = absurd (false≢true e)
gathering_some g (Some x) e = refl

-- the waiters of a condition variable in use replaced, as a change of it
set_gathering : (g : List ℕ → List ℕ) (c : ℕ) (conditions : List (Option Condition)) → IsSome (pool_get conditions c) → pool_changed c (gathering g) conditions ≡ pool_set conditions c (Some (record { waiters = g (waiters_on (pool_get conditions c)) }))
set_gathering g c conditions used = ap (λ (o : Option Condition). pool_set conditions c o) (sym (gathering_some g (pool_get conditions c) used))

gathered_map : (g : List ℕ → List ℕ) (threads : List (Option Thread)) (c : ℕ) (o : Option Condition) → IsSome o → IsGathered threads c (Some (record { waiters = g (waiters_on o) })) → IsGathered threads c (option_map (gathering g) o)
gathered_map g threads c None used own = absurd (false≢true used)
gathered_map g threads c (Some x) used own = own

-- one condition variable's waiters replaced, where the others' stay
gathered_each : (g : List ℕ → List ℕ) (c : ℕ) (threads : List (Option Thread)) (conditions : List (Option Condition)) → IsSome (pool_get conditions c)
    → IsGathered threads c (Some (record { waiters = g (waiters_on (pool_get conditions c)) })) → ((d : ℕ) → d ≢ c → IsGathered threads d (pool_get conditions d))
    → (d : ℕ) → IsGathered threads d (pool_get (pool_set conditions c (Some (record { waiters = g (waiters_on (pool_get conditions c)) }))) d)
gathered_each g c threads conditions used own others d =
    subst (λ (pool : List (Option Condition)). IsGathered threads d (pool_get pool d)) (set_gathering g c conditions used)
    (each_changed (λ (n : ℕ) (o : Option Condition). IsGathered threads n o) c (gathering g) conditions (gathered_map g threads c (pool_get conditions c) used own) others d)

-- a condition variable on which the one thread waits neither before nor after
gathered_beside : (t d : ℕ) (before after : List (Option Thread)) (x : Option Condition) → AreOtherWaits t before after → waits_on (pool_get before t) ≢ Some d → waits_on (pool_get after t) ≢ Some d → IsGathered before d x → IsGathered after d x
gathered_beside t d before after x others was now is = record {
  waiters_wait = λ u e.
      let old : waits_on (pool_get before u) ≡ Some d = is.waiters_wait u e in
      let ne : u ≢ t = λ same. was (ap (λ v. waits_on (pool_get before v)) (sym same) ∙ old) in
      ap condition_of_wait (others u ne) ∙ old;
  waits_listed = λ u e.
      let ne : u ≢ t = λ same. now (ap (λ v. waits_on (pool_get after v)) (sym same) ∙ e) in
      is.waits_listed u (sym (ap condition_of_wait (others u ne)) ∙ e);
  waiters_distinct = is.waiters_distinct;
}

pub waiter_used : (t : ℕ) (o : Option Condition) → is_in t (waiters_on o) ≡ true → IsSome o
waiter_used t None e = absurd (false≢true e)
waiter_used t (Some x) e = refl

none_on : (d : ℕ) (o : Option ℕ) → o ≡ None → o ≢ Some d
none_on d o e f = let no : ⊥ = cc in no

-- ---- a wait ends

gathered_left : (t c : ℕ) (before after : List (Option Thread)) (ts : List ℕ) → AreOtherWaits t before after → waits_on (pool_get after t) ≡ None → IsGathered before c (Some (record { waiters = ts })) → IsGathered after c (Some (record { waiters = without t ts }))
gathered_left t c before after ts others now is = record {
  waiters_wait = λ u e. let still = in_without t u ts e in ap condition_of_wait (others u still.0) ∙ is.waiters_wait u still.1;
  waits_listed = λ u e.
      let ne : u ≢ t = λ same. none_on c (waits_on (pool_get after t)) now (ap (λ v. waits_on (pool_get after v)) (sym same) ∙ e) in
      without_other t u ts ne ∙ is.waits_listed u (sym (ap condition_of_wait (others u ne)) ∙ e);
  waiters_distinct = distinct_without t ts is.waiters_distinct;
}

gathered_any : (threads : List (Option Thread)) (c : ℕ) (o : Option Condition) → IsGathered threads c o → IsGathered threads c (Some (record { waiters = waiters_on o }))
gathered_any threads c o is = record { waiters_wait = is.waiters_wait; waits_listed = is.waits_listed; waiters_distinct = is.waiters_distinct }

returnable_off : (t : ℕ) (before after : List (Option Thread)) (mutexes : List (Option Mutex)) → AreOtherWaits t before after → waits_on (pool_get after t) ≡ None → AreReturnable before mutexes → AreReturnable after mutexes
returnable_off t before after mutexes others now are =
    let ne : (u m : ℕ) → names (pool_get after u) ≡ Some m → u ≢ t = λ u m e same. none_on m (names (pool_get after t)) (off_names (wait_of (pool_get after t)) now) (ap (λ v. names (pool_get after v)) (sym same) ∙ e) in
    record {
      used = λ u m e. are.used u m (sym (ap mutex_of_condition_wait (others u (ne u m e))) ∙ e);
      room = λ u m e. are.room u m (sym (ap mutex_of_condition_wait (others u (ne u m e))) ∙ e);
    }

-- a waiter leaves the condition variable and waits on none
pub conditions_left : (t c : ℕ) (before after : List (Option Thread)) (mutexes : List (Option Mutex)) (conditions : List (Option Condition)) → AreOtherWaits t before after → waits_on (pool_get before t) ≡ Some c → waits_on (pool_get after t) ≡ None
    → AreConditions before mutexes conditions → AreConditions after mutexes (pool_set conditions c (Some (record { waiters = without t (waiters_on (pool_get conditions c)) })))
conditions_left t c before after mutexes conditions others was now are =
    conditions_from after mutexes (pool_set conditions c (Some (record { waiters = without t (waiters_on (pool_get conditions c)) })))
    (gathered_each (without t) c after conditions (waiter_used t (pool_get conditions c) (are.waits_listed c t was))
    (gathered_left t c before after (waiters_on (pool_get conditions c)) others now (gathered_any before c (pool_get conditions c) (gathered_at before mutexes conditions are c)))
    (λ d ne. gathered_beside t d before after (pool_get conditions d) others (λ e. ne (one_value d c (waits_on (pool_get before t)) e was)) (none_on d (waits_on (pool_get after t)) now) (gathered_at before mutexes conditions are d)))
    (returnable_off t before after mutexes others now (returnable_of before mutexes conditions are))

-- ---- a wait begins

gathered_joined : (t c : ℕ) (before after : List (Option Thread)) (ts : List ℕ) → AreOtherWaits t before after → waits_on (pool_get before t) ≡ None → waits_on (pool_get after t) ≡ Some c
    → IsGathered before c (Some (record { waiters = ts })) → IsGathered after c (Some (record { waiters = ts ++ t ∷ [] }))
gathered_joined t c before after ts others was now is =
    let off : (u : ℕ) → is_in u ts ≡ true → u ≢ t = λ u e same. none_on c (waits_on (pool_get before t)) was (ap (λ v. waits_on (pool_get before v)) (sym same) ∙ is.waiters_wait u e) in
    record {
      waiters_wait = λ u e. elim (in_push t u ts e) [
        | inl same ↦ ap (λ v. waits_on (pool_get after v)) same ∙ now
        | inr here ↦ ap condition_of_wait (others u (off u here)) ∙ is.waiters_wait u here
      ];
      waits_listed = λ u e. elim (cases_eq u t) [
        | inl same ↦ ap (λ v. is_in v (ts ++ t ∷ [])) same ∙ own_push t ts
        | inr ne ↦ still_push t u ts (is.waits_listed u (sym (ap condition_of_wait (others u ne)) ∙ e))
      ];
      waiters_distinct = distinct_push t ts is.waiters_distinct (false_from_ne_true (is_in t ts) (λ e. off t e refl));
    }

-- a thread that waited on none joins the waiters of a condition variable in use, and names a mutex in use that has room for it
pub conditions_joined : (t c m : ℕ) (deadline : Option ℕ) (before after : List (Option Thread)) (mutexes : List (Option Mutex)) (conditions : List (Option Condition)) → AreOtherWaits t before after → waits_on (pool_get before t) ≡ None
    → wait_of (pool_get after t) ≡ Some (ConditionWait c m deadline) → IsSome (pool_get conditions c) → IsSome (pool_get mutexes m) → HasRoom t (pool_get mutexes m)
    → AreConditions before mutexes conditions → AreConditions after mutexes (pool_set conditions c (Some (record { waiters = waiters_on (pool_get conditions c) ++ t ∷ [] })))
conditions_joined t c m deadline before after mutexes conditions others was waits used named room are =
    let now : waits_on (pool_get after t) ≡ Some c = ap condition_of_wait waits in
    let own : (n : ℕ) → names (pool_get after t) ≡ Some n → n ≡ m = λ n e. one_value n m (names (pool_get after t)) e (ap mutex_of_condition_wait waits) in
    conditions_from after mutexes (pool_set conditions c (Some (record { waiters = waiters_on (pool_get conditions c) ++ t ∷ [] })))
    (gathered_each (λ ts. ts ++ t ∷ []) c after conditions used
    (gathered_joined t c before after (waiters_on (pool_get conditions c)) others was now (gathered_any before c (pool_get conditions c) (gathered_at before mutexes conditions are c)))
    (λ d ne. gathered_beside t d before after (pool_get conditions d) others (none_on d (waits_on (pool_get before t)) was) (λ e. ne (one_value d c (waits_on (pool_get after t)) e now)) (gathered_at before mutexes conditions are d)))
    (record {
      used = λ u n e. elim (cases_eq u t) [
        | inl same ↦ subst (λ (j : ℕ). IsSome (pool_get mutexes j)) (sym (own n (ap (λ v. names (pool_get after v)) (sym same) ∙ e))) named
        | inr ne ↦ are.named_used u n (sym (ap mutex_of_condition_wait (others u ne)) ∙ e)
      ];
      room = λ u n e. elim (cases_eq u t) [
        | inl same ↦ subst (λ (v : ℕ). HasRoom v (pool_get mutexes n)) (sym same) (subst (λ (j : ℕ). HasRoom t (pool_get mutexes j)) (sym (own n (ap (λ v. names (pool_get after v)) (sym same) ∙ e))) room)
        | inr ne ↦ are.room u n (sym (ap mutex_of_condition_wait (others u ne)) ∙ e)
      ];
    })

-- ---- set up and destroyed

-- a condition variable without waiters is set, or its number gets free, where it had none
pub conditions_empty : (c : ℕ) (x : Option Condition) (threads : List (Option Thread)) (mutexes : List (Option Mutex)) (conditions : List (Option Condition)) → waiters_on (pool_get conditions c) ≡ [] → waiters_on x ≡ []
    → AreConditions threads mutexes conditions → AreConditions threads mutexes (pool_set conditions c x)
conditions_empty c x threads mutexes conditions was now are =
    let same : waiters_on x ≡ waiters_on (pool_get conditions c) = now ∙ sym was in
    conditions_from threads mutexes (pool_set conditions c x)
    (each_set (λ (n : ℕ) (o : Option Condition). IsGathered threads n o) c x conditions
    (record {
      waiters_wait = λ t e. are.waiters_wait c t (sym (ap (is_in t) same) ∙ e);
      waits_listed = λ t e. ap (is_in t) same ∙ are.waits_listed c t e;
      waiters_distinct = subst (IsDistinct nat_eq) (sym same) (are.waiters_distinct c);
    })
    (gathered_at threads mutexes conditions are))
    (returnable_of threads mutexes conditions are)
