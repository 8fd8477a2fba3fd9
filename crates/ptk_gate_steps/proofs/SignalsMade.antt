-- What signal and broadcast do with a condition variable that nobody waits on.
use Rattle.std.proofs.Common.{◌≡◌, ℕ, zero, suc, Bool, true, false, not, ◌&&◌, List, [], ◌∷◌, length, refl, sym, ap, ◌∙◌, arith}
use Rattle.std.specs.Prelude.{◌==◌, Option, Some, None, is_some, nat_lt, if◌then◌else◌}
use Rattle.std.specs.Fn.{iterate}
use Rattle.std.proofs.lemmas.Bool.{false≢true, ne_eqb}
use Rattle.std.proofs.lemmas.Bool.Decides.{nat_tests}
use Rattle.ptk_words.specs.Calls.{call_of}
use Rattle.ptk_words.specs.Pools.{pool_get, first_of_greatest}
use Rattle.ptk_words.specs.Processor.{Processor, register, with_register}
use Rattle.ptk_words.specs.Words.{word_at}
use Rattle.ptk_words.specs.declared.TheConstants.{A0, A7}
use Rattle.ptk_words.specs.declared.calls.Call.{Call}
use Rattle.ptk_words.specs.declared.calls.Call.TheVariants.{CondSignal, CondBroadcast}
use Rattle.ptk_words.specs.declared.faults.Errno.TheVariants.{EFAULT, EINVAL}
use Rattle.ptk_words.specs.declared.sections.Limits.{Limits}
use Rattle.ptk_words_model.specs.declared.Invocation.{Invocation}
use Rattle.ptk_words_model.specs.State.{Condition, Part, with_syncs}
use Rattle.ptk_words_model.specs.Priority.{effective_priority}
use Rattle.ptk_words_model.specs.Condition.{condition_waiters, after_signal, after_signal_to, after_broadcast}
use Rattle.ptk_words_model.specs.ConditionCalls.{cond_signal, cond_broadcast}
use Rattle.ptk_words_model.specs.Calls.{Answer, replied, refusal, is_pointer}
use Rattle.ptk_words_model.specs.CallTable.{answer_to}
use Rattle.ptk_words_model.specs.Steps.{Row, readable, condition_named}
use Rattle.ptk_words_model.specs.Decision.{with_thread_cpu, invocation}
use Rattle.ptk_words_invariant.specs.Rests.{signal_named, broadcast_named}
use Rattle.ptk_rv32i.specs.Effects.{at_pc}
use Rattle.ptk_gate_moves.specs.Held.{Held, limits_here}
use Rattle.ptk_gate_steps.specs.QuietCalls.{is_unwaited_at}
use Rattle.ptk_gate_steps.specs.Replies.{Keeps, IsMade, IsPut, caught_up}
use Rattle.ptk_gate_steps.proofs.RepliesPut.{keeps_made}

-- ---- whether nobody waits

-- the condition variable of a word, where the pointer is one
abbrev unwaited_by : Bool → ℕ → Part → Bool
unwaited_by pointer word s = pointer && is_some (pool_get s.conditions word) && not (nat_lt 0 (length (condition_waiters s.syncs word)))

-- no pointer
pub unwaited_nowhere : (pointer : ℕ) (s : Part) → is_pointer s pointer 4 ≡ false → false ≡ is_unwaited_at pointer s
unwaited_nowhere pointer s e = sym (ap (λ (b : Bool). unwaited_by b (word_at s.memory pointer) s) e)

numbered_by : (b : Bool) (word : ℕ) (o : Option ℕ) → o ≡ (if b then Some word else None) → o ≡ None → b ≡ false
numbered_by true word o e none = let no : ⊥ = cc in absurd no
numbered_by false word o e none = refl

used_by : (b : Bool) (word c : ℕ) (o : Option ℕ) → o ≡ (if b then Some word else None) → o ≡ Some c → (b ≡ true) × (word ≡ c)
used_by true word c o e some = (refl, cc)
used_by false word c o e some = let no : ⊥ = cc in absurd no

unused_by : (word : ℕ) (s : Part) → is_some (pool_get s.conditions word) ≡ false → false ≡ unwaited_by true word s
unused_by word s e = sym (ap (λ (b : Bool). b && not (nat_lt 0 (length (condition_waiters s.syncs word)))) e)

-- no condition variable
pub unwaited_none : (pointer word : ℕ) (o : Option ℕ) (s : Part) → is_pointer s pointer 4 ≡ true → word ≡ word_at s.memory pointer → o ≡ (if is_some (pool_get s.conditions word) then Some word else None) → o ≡ None
    → false ≡ is_unwaited_at pointer s
unwaited_none pointer word o s is at numbered none =
    unused_by word s (numbered_by (is_some (pool_get s.conditions word)) word o numbered none)
    ∙ (ap (λ (w : ℕ). unwaited_by true w s) at ∙ sym (ap (λ (b : Bool). unwaited_by b (word_at s.memory pointer) s) is))

-- one that waiters are told of
pub unwaited_some : (pointer word c : ℕ) (o : Option ℕ) (some : Bool) (s : Part) → is_pointer s pointer 4 ≡ true → word ≡ word_at s.memory pointer → o ≡ (if is_some (pool_get s.conditions word) then Some word else None) → o ≡ Some c
    → some ≡ nat_lt 0 (length (condition_waiters s.syncs c)) → not some ≡ is_unwaited_at pointer s
unwaited_some pointer word c o some s is at numbered found waited =
    let used = used_by (is_some (pool_get s.conditions word)) word c o numbered found in
    ap (λ (b : Bool). not b) (waited ∙ ap (λ (k : ℕ). nat_lt 0 (length (condition_waiters s.syncs k))) (sym used.1))
    ∙ (sym (ap (λ (b : Bool). b && not (nat_lt 0 (length (condition_waiters s.syncs word)))) used.0)
    ∙ (ap (λ (w : ℕ). unwaited_by true w s) at ∙ sym (ap (λ (b : Bool). unwaited_by b (word_at s.memory pointer) s) is)))

-- ---- the moves

-- what is known of a condition variable that nobody waits on
record IsAlone (pointer : ℕ) (s : Part) : Type 0 where
  pointed : is_pointer s pointer 4 ≡ true
  used : is_some (pool_get s.conditions (word_at s.memory pointer)) ≡ true
  alone : condition_waiters s.syncs (word_at s.memory pointer) ≡ []

nil_by : (ts : List ℕ) → not (nat_lt 0 (length ts)) ≡ true → ts ≡ []
nil_by [] e = refl
nil_by (t ∷ ts) e = let some : nat_lt 0 (length (t ∷ ts)) ≡ true = grind (arith, nat_tests) in absurd (false≢true (sym (ap not some) ∙ e))

all_by : (a b c : Bool) → (a && b && c) ≡ true → (a ≡ true) × (b ≡ true) × (c ≡ true)
all_by true true true e = (refl, refl, refl)
all_by true true false e = let no : ⊥ = cc in absurd no
all_by true false c e = let no : ⊥ = cc in absurd no
all_by false b c e = let no : ⊥ = cc in absurd no

alone : (pointer : ℕ) (s : Part) → is_unwaited_at pointer s ≡ true → IsAlone pointer s
alone pointer s e =
    let word : ℕ = word_at s.memory pointer in
    let all = all_by (is_pointer s pointer 4) (is_some (pool_get s.conditions word)) (not (nat_lt 0 (length (condition_waiters s.syncs word)))) e in
    record { pointed = all.0; used = all.1; alone = nil_by (condition_waiters s.syncs word) all.2 }

-- a signal then unblocks nobody
signals_none : (c : ℕ) (s : Part) → condition_waiters s.syncs c ≡ [] → with_syncs (after_signal c) s ≡ s
signals_none c s e = ap (λ (ts : List ℕ). with_syncs (after_signal_to (first_of_greatest (effective_priority s.locks) ts) c) s) e

-- nor does a broadcast
broadcasts_none : (c : ℕ) (s : Part) → condition_waiters s.syncs c ≡ [] → with_syncs (after_broadcast c) s ≡ s
broadcasts_none c s e = ap (λ (ts : List ℕ). with_syncs (iterate (after_signal c) (length ts)) s) e

-- ---- the condition variable of a word

named_by : (word : ℕ) (made other rest : Answer) (pool : List (Option Condition)) → is_some (pool_get pool word) ≡ true → (if word == 0 then made else if not (is_some (pool_get pool word)) then other else rest) ≡ rest
named_by zero made other rest pool e = let no : ⊥ = cc in absurd no
named_by (suc n) made other rest pool e =
    ap (λ (b : Bool). if b then made else if not (is_some (pool_get pool (suc n))) then other else rest) (ne_eqb (suc n) 0 (λ z. absurd (omega (arith, z))))
    ∙ ap (λ (b : Bool). if not b then other else rest) e

-- the call goes on with it
named_row : (rest : ℕ → Row) (i : Invocation) (s : Part) → IsAlone i.a0 s → readable i.a0 4 (condition_named i.a0 rest) i s ≡ rest (word_at s.memory i.a0) i s
named_row rest i s is =
    ap (λ (b : Bool). if not b then refusal EFAULT i s else condition_named i.a0 rest i s) is.pointed
    ∙ named_by (word_at s.memory i.a0) _ (refusal EINVAL i s) (rest (word_at s.memory i.a0) i s) s.conditions is.used

-- ---- the calls

-- a signal
signal_row : (i : Invocation) (s : Part) → IsAlone i.a0 s → (cond_signal i s).part ≡ replied i.caller (0 ∷ []) s
signal_row i s is =
    ap (λ (a : Answer). a.part) (named_row signal_named i s is)
    ∙ ap (λ (u : Part). replied i.caller (0 ∷ []) u) (signals_none (word_at s.memory i.a0) s is.alone)

-- a broadcast
broadcast_row : (i : Invocation) (s : Part) → IsAlone i.a0 s → (cond_broadcast i s).part ≡ replied i.caller (0 ∷ []) s
broadcast_row i s is =
    ap (λ (a : Answer). a.part) (named_row broadcast_named i s is)
    ∙ ap (λ (u : Part). replied i.caller (0 ∷ []) u) (broadcasts_none (word_at s.memory i.a0) s is.alone)

-- the state that the thread's registers are of names the same
alone_with : (t pointer : ℕ) (cpu : Processor) (s : Part) → IsAlone pointer s → IsAlone pointer (with_thread_cpu t cpu s)
alone_with t pointer cpu s is = record { pointed = is.pointed; used = is.used; alone = is.alone }

-- pthread_cond_signal
signal_put : (limits : Limits) (t : ℕ) (before after : Processor) (s : Part) → call_of (register before A7) ≡ Some CondSignal → is_unwaited_at (register before A0) s ≡ true → after ≡ with_register before A0 0
    → IsPut limits t before after Keeps s
signal_put limits t before after s e unwaited left = record {
  values = 0 ∷ [];
  replies = λ tick.
      ap (λ (o : Option Call). (answer_to o (invocation limits tick t before) (with_thread_cpu t before s)).part) e
      ∙ signal_row (invocation limits tick t before) (with_thread_cpu t before s) (alone_with t (register before A0) before s (alone (register before A0) s unwaited));
  left = left;
  plain = tt;
}

-- pthread_cond_broadcast
broadcast_put : (limits : Limits) (t : ℕ) (before after : Processor) (s : Part) → call_of (register before A7) ≡ Some CondBroadcast → is_unwaited_at (register before A0) s ≡ true → after ≡ with_register before A0 0
    → IsPut limits t before after Keeps s
broadcast_put limits t before after s e unwaited left = record {
  values = 0 ∷ [];
  replies = λ tick.
      ap (λ (o : Option Call). (answer_to o (invocation limits tick t before) (with_thread_cpu t before s)).part) e
      ∙ broadcast_row (invocation limits tick t before) (with_thread_cpu t before s) (alone_with t (register before A0) before s (alone (register before A0) s unwaited));
  left = left;
  plain = tt;
}

-- ---- the calls made, whatever the registers, the used ticks and the last step are

pub signal_made : (t : ℕ) (before after : Processor) (h : Held) → call_of (register before A7) ≡ Some CondSignal → is_unwaited_at (register before A0) h.here ≡ true → after ≡ with_register before A0 0 → IsMade t before after h h
signal_made t before after h e unwaited left = keeps_made t before after h (λ pc n cpu last. signal_put (limits_here h) t (at_pc pc before) (at_pc pc after) (caught_up t n cpu last h.here) e unwaited (ap (at_pc pc) left))

pub broadcast_made : (t : ℕ) (before after : Processor) (h : Held) → call_of (register before A7) ≡ Some CondBroadcast → is_unwaited_at (register before A0) h.here ≡ true → after ≡ with_register before A0 0 → IsMade t before after h h
broadcast_made t before after h e unwaited left = keeps_made t before after h (λ pc n cpu last. broadcast_put (limits_here h) t (at_pc pc before) (at_pc pc after) (caught_up t n cpu last h.here) e unwaited (ap (at_pc pc) left))

pub ruleset unwaited = (unwaited_nowhere, unwaited_none, unwaited_some)

pub ruleset signals = (signal_made, broadcast_made)
