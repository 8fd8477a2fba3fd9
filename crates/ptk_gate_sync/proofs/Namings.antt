-- The mutex and the condition variable of a word.
use Rattle.std.proofs.Common.{◌≡◌, ◌≢◌, ℕ, zero, suc, ◌+◌, ◌≤◌, Bool, true, false, [], length, refl, sym, ◌∙◌, ap, subst}
use Rattle.std.specs.Prelude.{◌==◌, not, Option, Some, None, is_some, option_map, unwrap_or, Result, Ok, Err, IfOk, if◌then◌else◌}
use Rattle.std.proofs.lemmas.Bool.{eq-eqb, ne_eqb}
use Rattle.ptk_words.specs.Names.{MutexNumber, ConditionNumber}
use Rattle.ptk_words.specs.Words.{word_at}
use Rattle.ptk_words.specs.Pools.{pool_get, least_free}
use Rattle.ptk_words.specs.declared.faults.Errno.{Errno}
use Rattle.ptk_words.specs.declared.faults.Errno.TheVariants.{EFAULT, ENOMEM, EINVAL}
use Rattle.ptk_words.specs.declared.mutexes.MutexKind.TheVariants.{Normal}
use Rattle.ptk_words.specs.declared.mutexes.Protocol.TheVariants.{NoProtocol}
use Rattle.ptk_words.specs.declared.sections.Limits.{Limits}
use Rattle.ptk_words.proofs.Pools.{get-set_own}
use Rattle.ptk_words_model.specs.declared.Invocation.{Invocation}
use Rattle.ptk_words_model.specs.State.{Part}
use Rattle.ptk_words_model.specs.Mutex.{mutex_at, new_mutex}
use Rattle.ptk_words_model.specs.Calls.{Answer, refusal, is_pointer, is_cancelled, with_stored, with_pool_mutex, with_pool_condition}
use Rattle.ptk_words_model.specs.Steps.{Row, readable, cancellation_point, mutex_named, condition_named}
use Rattle.ptk_words_invariant.specs.Well.{IsWell}
use Rattle.ptk_words_invariant.proofs.Starts.{IsFree, least_free_is}
use Rattle.ptk_words_invariant.proofs.MutexCalls.{length-stored, well_stored, well_set_up}
use Rattle.ptk_words_invariant.proofs.NamedRows.{well_new_condition}
use Rattle.ptk_words_invariant.proofs.TimeRows.{pointer_within}
use Rattle.ptk_gate_sync.specs.Named.{IsNamed, IsMutexOfWord, IsConditionOfWord, IsConditionNamed}

-- ---- a pointer

-- the bytes at a pointer lie in memory, and the call goes on
pub readable_on : (pointer count : ℕ) (rest : Row) (i : Invocation) (s : Part) → is_pointer s pointer count ≡ true → readable pointer count rest i s ≡ rest i s
readable_on pointer count rest i s e = rw e refl

-- they do not, and it is refused
pub readable_off : (pointer count : ℕ) (rest : Row) (i : Invocation) (s : Part) → is_pointer s pointer count ≡ false → readable pointer count rest i s ≡ refusal EFAULT i s
readable_off pointer count rest i s e = rw e refl

-- the second of two pointers is looked at first
pub readable_within : (i : Invocation) (s : Part) (rest : Row) → is_pointer s i.a1 12 ≡ true → readable i.a0 4 (readable i.a1 12 rest) i s ≡ readable i.a0 4 rest i s
readable_within i s rest e = ap (λ (a : Answer). if not (is_pointer s i.a0 4) then refusal EFAULT i s else a) (readable_on i.a1 12 rest i s e)

-- the caller is not cancelled
uncancelled : (rest : Row) (i : Invocation) (s : Part) → is_cancelled s i.caller ≡ false → cancellation_point rest i s ≡ rest i s
uncancelled rest i s e = rw e refl

-- the rest of a wait, of which these are the condition variable and the mutex named (own)
abbrev pub both_named : (ConditionNumber → MutexNumber → Row) → Invocation → Row
both_named rest i = condition_named i.a0 (λ c. mutex_named i.a1 (λ m. rest c m))

-- the row of a wait is its rest on what is named
pub wait_row : (i : Invocation) (s : Part) (rest : ConditionNumber → MutexNumber → Row) (a : Answer) → is_pointer s i.a0 4 ≡ true → is_pointer s i.a1 4 ≡ true → is_cancelled s i.caller ≡ false → both_named rest i i s ≡ a
    → readable i.a0 4 (readable i.a1 4 (cancellation_point (both_named rest i))) i s ≡ a
wait_row i s rest a condition mutex free e =
    readable_on i.a0 4 (readable i.a1 4 (cancellation_point (both_named rest i))) i s condition
    ∙ readable_on i.a1 4 (cancellation_point (both_named rest i)) i s mutex ∙ uncancelled (both_named rest i) i s free ∙ e

-- so of a wait with a deadline
pub timed_row : (i : Invocation) (s : Part) (rest : ConditionNumber → MutexNumber → Row) (a : Answer) → is_pointer s i.a0 4 ≡ true → is_pointer s i.a1 4 ≡ true → is_pointer s i.a2 12 ≡ true → is_cancelled s i.caller ≡ false
    → both_named rest i i s ≡ a → readable i.a0 4 (readable i.a1 4 (readable i.a2 12 (cancellation_point (both_named rest i)))) i s ≡ a
timed_row i s rest a condition mutex time free e =
    readable_on i.a0 4 (readable i.a1 4 (readable i.a2 12 (cancellation_point (both_named rest i)))) i s condition
    ∙ readable_on i.a1 4 (readable i.a2 12 (cancellation_point (both_named rest i))) i s mutex
    ∙ readable_on i.a2 12 (cancellation_point (both_named rest i)) i s time ∙ uncancelled (both_named rest i) i s free ∙ e

ok_any : {A : Type 0} (P : Type 0) (named : Result A Errno) → P → IfOk named (λ _. P)
ok_any P (Ok a) h = h
ok_any P (Err e) h = tt

-- ---- by the word

by_zero : (word : ℕ) (made other : Answer) → word ≡ 0 → (if word == 0 then made else other) ≡ made
by_zero word made other e = rw (eq-eqb word 0 e) refl

-- ---- mutexes

-- the mutex of a word of 0 is set up at the least free number
mutex_made : (limits : Limits) (pointer : ℕ) (s u : Part) (m : ℕ) → IsWell limits s → is_pointer s pointer 4 ≡ true → word_at s.memory pointer ≡ 0 → least_free s.mutexes ≡ Some m
    → u ≡ with_stored pointer m (with_pool_mutex m (Some (new_mutex Normal NoProtocol false)) s) → IsMutexOfWord limits pointer s (Ok m) u
mutex_made limits pointer s u m well within blank found e =
    rw e
    (record {
      call = λ i rest. by_zero (word_at s.memory pointer) _ _ blank ∙ ap (λ o. unwrap_or (option_map (λ m. rest m i (with_stored pointer m (with_pool_mutex m (Some (new_mutex Normal NoProtocol false)) s))) o) (refusal ENOMEM i s)) found;
      well = well_set_up limits m pointer s found within well;
      running = refl;
      memory = length-stored s pointer m within;
      conditions = refl;
    })

-- no number is free for it
mutex_unmade : (limits : Limits) (pointer : ℕ) (s : Part) → IsWell limits s → word_at s.memory pointer ≡ 0 → least_free s.mutexes ≡ None → IsMutexOfWord limits pointer s (Err ENOMEM) s
mutex_unmade limits pointer s well blank none = record {
  call = λ i rest. by_zero (word_at s.memory pointer) _ _ blank ∙ ap (λ o. unwrap_or (option_map (λ m. rest m i (with_stored pointer m (with_pool_mutex m (Some (new_mutex Normal NoProtocol false)) s))) o) (refusal ENOMEM i s)) none;
  well = well;
  running = refl;
  memory = refl;
  conditions = refl;
}

-- what stands at a pointer to 0 is set up at the least free number, if one is
pub mutex_set_up : (limits : Limits) (pointer : ℕ) (s u : Part) (named : Result MutexNumber Errno) (o : Option ℕ) → IsWell limits s → is_pointer s pointer 4 ≡ true → word_at s.memory pointer ≡ 0 → least_free s.mutexes ≡ o
    → named ≡ unwrap_or (option_map Ok o) (Err ENOMEM) → u ≡ unwrap_or (option_map (λ m. with_stored pointer m (with_pool_mutex m (Some (new_mutex Normal NoProtocol false)) s)) o) s → IsMutexOfWord limits pointer s named u
mutex_set_up limits pointer s u named None well within blank none told made =
    let P : Result MutexNumber Errno → Part → Type 0 = λ (r : Result MutexNumber Errno) (v : Part). IsMutexOfWord limits pointer s r v in
    subst (λ (r : Result MutexNumber Errno). P r u) (sym told) (subst (P (Err ENOMEM)) (sym made) (mutex_unmade limits pointer s well blank none))
mutex_set_up limits pointer s u named (Some m) well within blank found told made =
    let P : Result MutexNumber Errno → Type 0 = λ (r : Result MutexNumber Errno). IsMutexOfWord limits pointer s r u in
    subst P (sym told) (mutex_made limits pointer s u m well within blank found made)

known_call : (b : Bool) (m pointer : ℕ) (i : Invocation) (s : Part) (rest : MutexNumber → Row) → is_some (mutex_at s.locks m) ≡ b → word_at s.memory pointer ≡ m → m ≢ 0
    → mutex_named pointer rest i s ≡ (if not b then refusal EINVAL i s else rest m i s)
known_call b m pointer i s rest used e ne = rw (e, ne_eqb m 0 ne, used) refl

known_at : (limits : Limits) (b : Bool) (m pointer : ℕ) (s : Part) → IsWell limits s → is_some (mutex_at s.locks m) ≡ b → word_at s.memory pointer ≡ m → m ≢ 0 → IsMutexOfWord limits pointer s (if b then Ok m else Err EINVAL) s
known_at limits true m pointer s well used e ne =
    record { call = λ i rest. known_call true m pointer i s rest used e ne; well = well; running = refl; memory = refl; conditions = refl }
known_at limits false m pointer s well used e ne =
    record { call = λ i rest. known_call false m pointer i s rest used e ne; well = well; running = refl; memory = refl; conditions = refl }

numbered_at : (limits : Limits) (b : Bool) (w m pointer : ℕ) (s : Part) → IsWell limits s → is_some (mutex_at s.locks w) ≡ b → w ≡ word_at s.memory pointer → w ≢ 0 → (if b then Some w else None) ≡ Some m → IsMutexOfWord limits pointer s (Ok m) s
numbered_at limits true w m pointer s well used e ne is =
    let same : w ≡ m = cc in
    subst (λ (n : ℕ). IsMutexOfWord limits pointer s (Ok n) s) same (known_at limits true w pointer s well used (sym e) ne)
numbered_at limits false w m pointer s well used e ne is = absurd cc

-- the word is the number of a mutex in use
pub mutex_numbered : (limits : Limits) (w m pointer : ℕ) (s : Part) → IsWell limits s → w ≡ word_at s.memory pointer → (if is_some (mutex_at s.locks w) then Some w else None) ≡ Some m → IsMutexOfWord limits pointer s (Ok m) s
mutex_numbered limits zero m pointer s well e is = absurd cc
mutex_numbered limits (suc w) m pointer s well e is = numbered_at limits (is_some (mutex_at s.locks (suc w))) (suc w) m pointer s well refl e (λ z. absurd cc) is

-- it is a number, of none in use
pub mutex_unnumbered : (limits : Limits) (w pointer : ℕ) (s : Part) → IsWell limits s → w ≡ word_at s.memory pointer → is_some (mutex_at s.locks w) ≡ false → w ≢ 0 → IsMutexOfWord limits pointer s (Err EINVAL) s
mutex_unnumbered limits w pointer s well e unused ne = known_at limits false w pointer s well unused (sym e) ne

-- of a pointer whose word lies in memory
pub mutex_read : (limits : Limits) (i : Invocation) (s u : Part) (named : Result MutexNumber Errno) → is_pointer s i.a0 4 ≡ true → IsMutexOfWord limits i.a0 s named u → IsNamed limits i s named u
mutex_read limits i s u named within of = record {
  call = λ rest. readable_on i.a0 4 (mutex_named i.a0 rest) i s within ∙ of.call i rest;
  well = of.well;
  running = of.running;
  memory = of.memory;
  word = (
      let old : i.a0 + 4 ≤ length s.memory = pointer_within s i.a0 4 within in
      let here : i.a0 + 4 ≤ length u.memory = rw of.memory old in
      ok_any (i.a0 + 4 ≤ length u.memory) named here
      );
}

-- of another pointer
pub mutex_unread : (limits : Limits) (i : Invocation) (s : Part) → is_pointer s i.a0 4 ≡ false → IsWell limits s → IsNamed limits i s (Err EFAULT) s
mutex_unread limits i s outside well =
    record { call = λ rest. readable_off i.a0 4 (mutex_named i.a0 rest) i s outside; well = well; running = refl; memory = refl; word = tt }

-- ---- condition variables

-- the condition variable of a word of 0 is set up at the least free number
condition_made : (limits : Limits) (pointer : ℕ) (s u : Part) (c : ℕ) → IsWell limits s → is_pointer s pointer 4 ≡ true → word_at s.memory pointer ≡ 0 → least_free s.conditions ≡ Some c
    → u ≡ with_stored pointer c (with_pool_condition c (Some (record { waiters = [] })) s) → IsConditionOfWord limits pointer s (Ok c) u
condition_made limits pointer s u c well within blank found e =
    let free : IsFree s.conditions c = least_free_is s.conditions c found in
    let made : Part = with_pool_condition c (Some (record { waiters = [] })) s in
    rw e
    (record {
      call = λ i rest. by_zero (word_at s.memory pointer) _ _ blank ∙ ap (λ o. unwrap_or (option_map (λ c. rest c i (with_stored pointer c (with_pool_condition c (Some (record { waiters = [] })) s))) o) (refusal ENOMEM i s)) found;
      well = well_stored limits pointer c made within (well_new_condition limits c s found well);
      running = refl;
      memory = length-stored s pointer c within;
      in_use = ap is_some (get-set_own c (Some (record { waiters = [] })) s.conditions free.least free.most);
    })

-- no number is free for it
condition_unmade : (limits : Limits) (pointer : ℕ) (s : Part) → IsWell limits s → word_at s.memory pointer ≡ 0 → least_free s.conditions ≡ None → IsConditionOfWord limits pointer s (Err ENOMEM) s
condition_unmade limits pointer s well blank none = record {
  call = λ i rest. by_zero (word_at s.memory pointer) _ _ blank ∙ ap (λ o. unwrap_or (option_map (λ c. rest c i (with_stored pointer c (with_pool_condition c (Some (record { waiters = [] })) s))) o) (refusal ENOMEM i s)) none;
  well = well;
  running = refl;
  memory = refl;
  in_use = tt;
}

-- what stands at a pointer to 0 is set up at the least free number, if one is
pub condition_set_up : (limits : Limits) (pointer : ℕ) (s u : Part) (named : Result ConditionNumber Errno) (o : Option ℕ) → IsWell limits s → is_pointer s pointer 4 ≡ true → word_at s.memory pointer ≡ 0 → least_free s.conditions ≡ o
    → named ≡ unwrap_or (option_map Ok o) (Err ENOMEM) → u ≡ unwrap_or (option_map (λ c. with_stored pointer c (with_pool_condition c (Some (record { waiters = [] })) s)) o) s → IsConditionOfWord limits pointer s named u
condition_set_up limits pointer s u named None well within blank none told made =
    let P : Result ConditionNumber Errno → Part → Type 0 = λ (r : Result ConditionNumber Errno) (v : Part). IsConditionOfWord limits pointer s r v in
    subst (λ (r : Result ConditionNumber Errno). P r u) (sym told) (subst (P (Err ENOMEM)) (sym made) (condition_unmade limits pointer s well blank none))
condition_set_up limits pointer s u named (Some c) well within blank found told made =
    let P : Result ConditionNumber Errno → Type 0 = λ (r : Result ConditionNumber Errno). IsConditionOfWord limits pointer s r u in
    subst P (sym told) (condition_made limits pointer s u c well within blank found made)

known_condition_call : (b : Bool) (c pointer : ℕ) (i : Invocation) (s : Part) (rest : ConditionNumber → Row) → is_some (pool_get s.conditions c) ≡ b → word_at s.memory pointer ≡ c → c ≢ 0
    → condition_named pointer rest i s ≡ (if not b then refusal EINVAL i s else rest c i s)
known_condition_call b c pointer i s rest used e ne = rw (e, ne_eqb c 0 ne, used) refl

known_condition_at : (limits : Limits) (b : Bool) (c pointer : ℕ) (s : Part) → IsWell limits s → is_some (pool_get s.conditions c) ≡ b → word_at s.memory pointer ≡ c → c ≢ 0 → IsConditionOfWord limits pointer s (if b then Ok c else Err EINVAL) s
known_condition_at limits true c pointer s well used e ne =
    record { call = λ i rest. known_condition_call true c pointer i s rest used e ne; well = well; running = refl; memory = refl; in_use = used }
known_condition_at limits false c pointer s well used e ne =
    record { call = λ i rest. known_condition_call false c pointer i s rest used e ne; well = well; running = refl; memory = refl; in_use = tt }

numbered_condition_at : (limits : Limits) (b : Bool) (w c pointer : ℕ) (s : Part) → IsWell limits s → is_some (pool_get s.conditions w) ≡ b → w ≡ word_at s.memory pointer → w ≢ 0 → (if b then Some w else None) ≡ Some c → IsConditionOfWord limits pointer s (Ok c) s
numbered_condition_at limits true w c pointer s well used e ne is =
    let same : w ≡ c = cc in
    subst (λ (n : ℕ). IsConditionOfWord limits pointer s (Ok n) s) same (known_condition_at limits true w pointer s well used (sym e) ne)
numbered_condition_at limits false w c pointer s well used e ne is = absurd cc

-- the word is the number of a condition variable in use
pub condition_numbered : (limits : Limits) (w c pointer : ℕ) (s : Part) → IsWell limits s → w ≡ word_at s.memory pointer → (if is_some (pool_get s.conditions w) then Some w else None) ≡ Some c → IsConditionOfWord limits pointer s (Ok c) s
condition_numbered limits zero c pointer s well e is = absurd cc
condition_numbered limits (suc w) c pointer s well e is = numbered_condition_at limits (is_some (pool_get s.conditions (suc w))) (suc w) c pointer s well refl e (λ z. absurd cc) is

-- it is a number, of none in use
pub condition_unnumbered : (limits : Limits) (w pointer : ℕ) (s : Part) → IsWell limits s → w ≡ word_at s.memory pointer → is_some (pool_get s.conditions w) ≡ false → w ≢ 0 → IsConditionOfWord limits pointer s (Err EINVAL) s
condition_unnumbered limits w pointer s well e unused ne = known_condition_at limits false w pointer s well unused (sym e) ne

-- of a pointer whose word lies in memory
pub condition_read : (limits : Limits) (i : Invocation) (s u : Part) (named : Result ConditionNumber Errno) → is_pointer s i.a0 4 ≡ true → IsConditionOfWord limits i.a0 s named u → IsConditionNamed limits i s named u
condition_read limits i s u named within of = record {
  call = λ rest. readable_on i.a0 4 (condition_named i.a0 rest) i s within ∙ of.call i rest;
  well = of.well;
  word = (
      let old : i.a0 + 4 ≤ length s.memory = pointer_within s i.a0 4 within in
      let here : i.a0 + 4 ≤ length u.memory = rw of.memory old in
      ok_any (i.a0 + 4 ≤ length u.memory) named here
      );
}

-- of another pointer
pub condition_unread : (limits : Limits) (i : Invocation) (s : Part) → is_pointer s i.a0 4 ≡ false → IsWell limits s → IsConditionNamed limits i s (Err EFAULT) s
condition_unread limits i s outside well = record { call = λ rest. readable_off i.a0 4 (condition_named i.a0 rest) i s outside; well = well; word = tt }

pub ruleset naming = (mutex_numbered, mutex_unnumbered, mutex_read, mutex_unread, condition_numbered, condition_unnumbered, condition_read, condition_unread)
