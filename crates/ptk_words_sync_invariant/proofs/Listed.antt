-- The waits of the threads agree with the console's waiters and with the joiners, whatever deadlines they have.
use Rattle.std.proofs.Common.{◌≡◌, ℕ, false, List, [], ◌∷◌, ◌++◌, refl, sym, ◌∙◌, ap, inl, inr}
use Rattle.std.specs.Prelude.{◌≢◌, Option, Some, None}
use Rattle.std.proofs.lemmas.Bool.{cases_eq, false_from_ne_true}
use Rattle.ptk_words.specs.Pools.{pool_get, without, is_in}
use Rattle.ptk_words.specs.declared.threads.Thread.{Thread}
use Rattle.ptk_words.specs.declared.threads.Wait.{Wait}
use Rattle.ptk_words.specs.declared.threads.Wait.TheVariants.{InputWait, JoinWait}
use Rattle.ptk_words.specs.Threads.{mutex_of_wait}
use Rattle.ptk_words.proofs.Lists.{in_push, own_push, still_push, without_other, in_without, distinct_push, distinct_without}
use Rattle.ptk_words_model.specs.Mutex.{wait_of}
use Rattle.ptk_words_model.specs.Unwinding.{is_alive}
use Rattle.ptk_words_sync_invariant.specs.Locks.{joiner_of}
pub use Rattle.ptk_words_sync_invariant.specs.Conditions.{AreListed}

-- ---- no wait begins or ends

-- every thread has the wait and the joiner that it had (own)
pub record AreSameWaits (before after : List (Option Thread)) : Type 0 where
  pub wait : (u : ℕ) → wait_of (pool_get after u) ≡ wait_of (pool_get before u)
  pub joiner : (u : ℕ) → joiner_of (pool_get after u) ≡ joiner_of (pool_get before u)

pub listed_same : (threads after : List (Option Thread)) (waiters : List ℕ) → AreSameWaits threads after → ((t : ℕ) → is_alive (pool_get after t) ≡ false → wait_of (pool_get after t) ≡ None)
    → AreListed threads waiters → AreListed after waiters
listed_same threads after waiters same ended are = record {
  waiters_wait = λ t e. same.wait t ∙ are.waiters_wait t e;
  waiters_distinct = are.waiters_distinct;
  waits_listed = λ t e. are.waits_listed t (sym (same.wait t) ∙ e);
  joiners_wait = λ t u e. same.wait t ∙ are.joiners_wait t u (sym (same.joiner u) ∙ e);
  joins_listed = λ t u e. same.joiner u ∙ are.joins_listed t u (sym (same.wait t) ∙ e);
  ended_wait = ended;
}

-- ---- one wait begins or ends

-- one thread has another wait, all else is the same (own)
pub record IsWaitChange (t : ℕ) (before after : List (Option Thread)) : Type 0 where
  pub wait : (u : ℕ) → u ≢ t → wait_of (pool_get after u) ≡ wait_of (pool_get before u)
  pub joiner : (u : ℕ) → joiner_of (pool_get after u) ≡ joiner_of (pool_get before u)
  pub ended : (u : ℕ) → is_alive (pool_get after u) ≡ false → wait_of (pool_get after u) ≡ None

away : (t u : ℕ) (threads : List (Option Thread)) (wait : Wait) → wait_of (pool_get threads t) ≡ None → wait_of (pool_get threads u) ≡ Some wait → u ≢ t
away t u threads wait free e same = let joined : wait_of (pool_get threads u) ≡ wait_of (pool_get threads t) = ap (λ v. wait_of (pool_get threads v)) same in let no : ⊥ = cc in no

-- a thread begins to wait for input
pub listed_input : (t : ℕ) (threads after : List (Option Thread)) (waiters : List ℕ) → IsWaitChange t threads after → wait_of (pool_get threads t) ≡ None → wait_of (pool_get after t) ≡ Some InputWait
    → AreListed threads waiters → AreListed after (waiters ++ t ∷ [])
listed_input t threads after waiters change free waits are =
    let out : is_in t waiters ≡ false = false_from_ne_true (is_in t waiters) (λ e. away t t threads InputWait free (are.waiters_wait t e) refl) in
    record {
      waiters_wait = λ u e. elim (in_push t u waiters e) [
        | inl same ↦ ap (λ v. wait_of (pool_get after v)) same ∙ waits
        | inr here ↦ change.wait u (away t u threads InputWait free (are.waiters_wait u here)) ∙ are.waiters_wait u here
      ];
      waiters_distinct = distinct_push t waiters are.waiters_distinct out;
      waits_listed = λ u e. elim (cases_eq u t) [
        | inl same ↦ ap (λ v. is_in v (waiters ++ t ∷ [])) same ∙ own_push t waiters
        | inr ne ↦ still_push t u waiters (are.waits_listed u (sym (change.wait u ne) ∙ e))
      ];
      joiners_wait = λ v u e.
          let was : wait_of (pool_get threads v) ≡ Some (JoinWait u) = are.joiners_wait v u (sym (change.joiner u) ∙ e) in
          change.wait v (away t v threads (JoinWait u) free was) ∙ was;
      joins_listed = λ v u e. elim (cases_eq v t) [
        | inl same ↦ absurd (let now : wait_of (pool_get after v) ≡ Some InputWait = ap (λ w. wait_of (pool_get after w)) same ∙ waits in let no : ⊥ = cc in no)
        | inr ne ↦ change.joiner u ∙ are.joins_listed v u (sym (change.wait v ne) ∙ e)
      ];
      ended_wait = change.ended;
    }

-- a thread no longer waits for input
pub listed_answered : (t : ℕ) (threads after : List (Option Thread)) (waiters : List ℕ) → IsWaitChange t threads after → wait_of (pool_get threads t) ≡ Some InputWait → wait_of (pool_get after t) ≡ None
    → AreListed threads waiters → AreListed after (without t waiters)
listed_answered t threads after waiters change was free are = record {
  waiters_wait = λ u e. let still = in_without t u waiters e in change.wait u still.0 ∙ are.waiters_wait u still.1;
  waiters_distinct = distinct_without t waiters are.waiters_distinct;
  waits_listed = λ u e. let ne : u ≢ t = away t u after InputWait free e in without_other t u waiters ne ∙ are.waits_listed u (sym (change.wait u ne) ∙ e);
  joiners_wait = λ v u e.
      let old : wait_of (pool_get threads v) ≡ Some (JoinWait u) = are.joiners_wait v u (sym (change.joiner u) ∙ e) in
      let ne : v ≢ t = λ same. let here : wait_of (pool_get threads v) ≡ Some InputWait = ap (λ w. wait_of (pool_get threads w)) same ∙ was in let no : ⊥ = cc in no in
      change.wait v ne ∙ old;
  joins_listed = λ v u e. let ne : v ≢ t = away t v after (JoinWait u) free e in change.joiner u ∙ are.joins_listed v u (sym (change.wait v ne) ∙ e);
  ended_wait = change.ended;
}

-- ---- joins

-- one thread has another wait and one another joiner, all else is the same (own)
pub record IsJoinChange (t u : ℕ) (before after : List (Option Thread)) : Type 0 where
  pub wait : (v : ℕ) → v ≢ t → wait_of (pool_get after v) ≡ wait_of (pool_get before v)
  pub joiner : (v : ℕ) → v ≢ u → joiner_of (pool_get after v) ≡ joiner_of (pool_get before v)
  pub ended : (v : ℕ) → is_alive (pool_get after v) ≡ false → wait_of (pool_get after v) ≡ None

unjoined : (u w : ℕ) (threads : List (Option Thread)) (v : ℕ) → joiner_of (pool_get threads u) ≡ None → joiner_of (pool_get threads w) ≡ Some v → w ≢ u
unjoined u w threads v free e same = let joined : joiner_of (pool_get threads w) ≡ joiner_of (pool_get threads u) = ap (λ x. joiner_of (pool_get threads x)) same in let no : ⊥ = cc in no

-- a thread begins to wait for the end of u
pub listed_join : (t u : ℕ) (threads after : List (Option Thread)) (waiters : List ℕ) → IsJoinChange t u threads after → wait_of (pool_get threads t) ≡ None → joiner_of (pool_get threads u) ≡ None
    → wait_of (pool_get after t) ≡ Some (JoinWait u) → joiner_of (pool_get after u) ≡ Some t → AreListed threads waiters → AreListed after waiters
listed_join t u threads after waiters change free single waits joined are = record {
  waiters_wait = λ v e. change.wait v (away t v threads InputWait free (are.waiters_wait v e)) ∙ are.waiters_wait v e;
  waiters_distinct = are.waiters_distinct;
  waits_listed = λ v e. elim (cases_eq v t) [
    | inl same ↦ absurd (let now : wait_of (pool_get after v) ≡ Some (JoinWait u) = ap (λ w. wait_of (pool_get after w)) same ∙ waits in let no : ⊥ = cc in no)
    | inr ne ↦ are.waits_listed v (sym (change.wait v ne) ∙ e)
  ];
  joiners_wait = λ v w e. elim (cases_eq w u) [
    | inl same ↦
        (let own : joiner_of (pool_get after w) ≡ Some t = ap (λ x. joiner_of (pool_get after x)) same ∙ joined in
        let one : v ≡ t = cc in
        ap (λ x. wait_of (pool_get after x)) one ∙ waits ∙ ap (λ x. Some (JoinWait x)) (sym same))
    | inr ne ↦
        (let was : wait_of (pool_get threads v) ≡ Some (JoinWait w) = are.joiners_wait v w (sym (change.joiner w ne) ∙ e) in
        change.wait v (away t v threads (JoinWait w) free was) ∙ was)
  ];
  joins_listed = λ v w e. elim (cases_eq v t) [
    | inl same ↦
        (let own : wait_of (pool_get after v) ≡ Some (JoinWait u) = ap (λ x. wait_of (pool_get after x)) same ∙ waits in
        let one : w ≡ u = cc in
        ap (λ x. joiner_of (pool_get after x)) one ∙ joined ∙ ap Some (sym same))
    | inr ne ↦
        (let was : joiner_of (pool_get threads w) ≡ Some v = are.joins_listed v w (sym (change.wait v ne) ∙ e) in
        change.joiner w (unjoined u w threads v single was) ∙ was)
  ];
  ended_wait = change.ended;
}

-- a thread no longer waits for the end of u
pub listed_joined : (t u : ℕ) (threads after : List (Option Thread)) (waiters : List ℕ) → IsJoinChange t u threads after → joiner_of (pool_get threads u) ≡ Some t
    → wait_of (pool_get after t) ≡ None → joiner_of (pool_get after u) ≡ None → AreListed threads waiters → AreListed after waiters
listed_joined t u threads after waiters change joined free single are =
    let waited : wait_of (pool_get threads t) ≡ Some (JoinWait u) = are.joiners_wait t u joined in
    record {
      waiters_wait = λ v e.
          let was : wait_of (pool_get threads v) ≡ Some InputWait = are.waiters_wait v e in
          let ne : v ≢ t = λ same. let here : wait_of (pool_get threads v) ≡ Some (JoinWait u) = ap (λ w. wait_of (pool_get threads w)) same ∙ waited in let no : ⊥ = cc in no in
          change.wait v ne ∙ was;
      waiters_distinct = are.waiters_distinct;
      waits_listed = λ v e. are.waits_listed v (sym (change.wait v (away t v after InputWait free e)) ∙ e);
      joiners_wait = λ v w e.
          let other : w ≢ u = unjoined u w after v single e in
          let was : wait_of (pool_get threads v) ≡ Some (JoinWait w) = are.joiners_wait v w (sym (change.joiner w other) ∙ e) in
          let ne : v ≢ t = λ same. let here : wait_of (pool_get threads v) ≡ Some (JoinWait u) = ap (λ x. wait_of (pool_get threads x)) same ∙ waited in let one : w ≡ u = cc in other one in
          change.wait v ne ∙ was;
      joins_listed = λ v w e.
          let ne : v ≢ t = away t v after (JoinWait w) free e in
          let was : joiner_of (pool_get threads w) ≡ Some v = are.joins_listed v w (sym (change.wait v ne) ∙ e) in
          let other : w ≢ u = λ same. let here : joiner_of (pool_get threads w) ≡ Some t = ap (λ x. joiner_of (pool_get threads x)) same ∙ joined in let one : v ≡ t = cc in ne one in
          change.joiner w other ∙ was;
      ended_wait = change.ended;
    }

-- ---- waits for what neither the console nor a thread lists

-- no wait, or one that is neither for input nor for a thread's end (own)
pub record IsElsewhere (wait : Option Wait) : Type 0 where
  pub no_input : wait ≢ Some InputWait
  pub no_join : (u : ℕ) → wait ≢ Some (JoinWait u)

pub elsewhere_none : IsElsewhere None
elsewhere_none = record { no_input = λ e. let no : ⊥ = cc in no; no_join = λ u e. let no : ⊥ = cc in no }

-- a wait for a mutex
pub elsewhere_mutex : (m : ℕ) (wait : Option Wait) → mutex_of_wait wait ≡ Some m → IsElsewhere wait
elsewhere_mutex m wait e = record {
  no_input = λ same. let none : mutex_of_wait wait ≡ None = ap mutex_of_wait same in let no : ⊥ = cc in no;
  no_join = λ u same. let none : mutex_of_wait wait ≡ None = ap mutex_of_wait same in let no : ⊥ = cc in no;
}

-- a thread begins or ends such a wait
pub listed_elsewhere : (t : ℕ) (threads after : List (Option Thread)) (waiters : List ℕ) → IsWaitChange t threads after → IsElsewhere (wait_of (pool_get threads t)) → IsElsewhere (wait_of (pool_get after t))
    → AreListed threads waiters → AreListed after waiters
listed_elsewhere t threads after waiters change was now are =
    let apart : (u : ℕ) (wait : Wait) → wait_of (pool_get threads u) ≡ Some wait → wait_of (pool_get threads t) ≢ Some wait → u ≢ t = λ u wait e other same. other (ap (λ v. wait_of (pool_get threads v)) (sym same) ∙ e) in
    let aside : (u : ℕ) (wait : Wait) → wait_of (pool_get after u) ≡ Some wait → wait_of (pool_get after t) ≢ Some wait → u ≢ t = λ u wait e other same. other (ap (λ v. wait_of (pool_get after v)) (sym same) ∙ e) in
    record {
      waiters_wait = λ u e. let old : wait_of (pool_get threads u) ≡ Some InputWait = are.waiters_wait u e in change.wait u (apart u InputWait old was.no_input) ∙ old;
      waiters_distinct = are.waiters_distinct;
      waits_listed = λ u e. are.waits_listed u (sym (change.wait u (aside u InputWait e now.no_input)) ∙ e);
      joiners_wait = λ v u e.
          let old : wait_of (pool_get threads v) ≡ Some (JoinWait u) = are.joiners_wait v u (sym (change.joiner u) ∙ e) in
          change.wait v (apart v (JoinWait u) old (was.no_join u)) ∙ old;
      joins_listed = λ v u e. change.joiner u ∙ are.joins_listed v u (sym (change.wait v (aside v (JoinWait u) e (now.no_join u))) ∙ e);
      ended_wait = change.ended;
    }
