-- What quiet calls do, and how a reply is put.
use Rattle.std.proofs.Common.{◌≡◌, ℕ, ◌%◌, Bool, true, false, not, ◌&&◌, [], ◌∷◌, refl, sym, ap, ◌∙◌}
use Rattle.std.specs.Prelude.{Option, Some, None, option_map, unwrap_or, if◌then◌else◌}
use Rattle.std.proofs.Math.Bool.{and-false}
use Rattle.ptk_words.specs.Calls.{call_of}
use Rattle.ptk_words.specs.Faults.{errno_number}
use Rattle.ptk_words.specs.Pools.{pool_get, pool_set, numbered}
use Rattle.ptk_words.specs.Processor.{Processor, register, with_register}
use Rattle.ptk_words.specs.Threads.{is_normal, is_taken}
use Rattle.ptk_words.specs.declared.TheConstants.{A0, A1, A2, A7}
use Rattle.ptk_words.specs.declared.calls.Call.{Call}
use Rattle.ptk_words.specs.declared.calls.Call.TheVariants.{ConsolePut, PthreadDetach, PthreadGetschedparam, PthreadSelf, PthreadSetspecific, PthreadGetspecific}
use Rattle.ptk_words.specs.declared.faults.Errno.TheVariants.{EAGAIN, ENOSYS, ESRCH, EINVAL}
use Rattle.ptk_words.specs.declared.sections.Entry.{Entry}
use Rattle.ptk_words.specs.declared.sections.Limits.{Limits}
use Rattle.ptk_words.specs.declared.threads.Thread.{Thread}
use Rattle.ptk_words_model.specs.declared.Invocation.{Invocation}
use Rattle.ptk_words_model.specs.State.{Part, with_keys, with_console}
use Rattle.ptk_words_model.specs.Priority.{thread_at}
use Rattle.ptk_words_model.specs.Console.{is_full, with_output}
use Rattle.ptk_words_model.specs.Keys.{is_key, specific, with_values}
use Rattle.ptk_words_model.specs.Unwinding.{phase_of}
use Rattle.ptk_words_model.specs.ThreadCreation.{policy_number}
use Rattle.ptk_words_model.specs.Calls.{Answer, replied, refusal, success, cancellation_answer}
use Rattle.ptk_words_model.specs.CallTable.{answer_to}
use Rattle.ptk_words_model.specs.Decision.{with_thread_cpu, invocation}
use Rattle.ptk_words_sync_invariant.proofs.Threads.{changed_same}
use Rattle.ptk_words_laws.specs.Quiet.{computed}
use Rattle.ptk_words_laws.proofs.PlainDecisions.{with_registers_of}
use Rattle.ptk_rv32i.specs.Effects.{at_pc}
use Rattle.ptk_console.specs.ConsoleTable.{after_put}
use Rattle.ptk_gate_moves.specs.Held.{Held, limits_here}
use Rattle.ptk_gate_steps.specs.QuietCalls.{has_request}
use Rattle.ptk_gate_steps.specs.Replies.{Keeps, Puts, Sets, IsMade, IsPut, caught_up}
use Rattle.ptk_gate_steps.proofs.RepliesMade.{put_open}

-- ---- the calls

-- a number that is no call
unknown_put : (limits : Limits) (t : ℕ) (before after : Processor) (s : Part) → call_of (register before A7) ≡ None → after ≡ with_register before A0 (errno_number ENOSYS) → IsPut limits t before after Keeps s
unknown_put limits t before after s e left = record {
  values = errno_number ENOSYS ∷ [];
  replies = λ tick.
      ap (λ (o : Option Call). (answer_to o (invocation limits tick t before) (with_thread_cpu t before s)).part) e;
  left = left;
  plain = tt;
}

-- pthread_self
self_put : (limits : Limits) (t : ℕ) (before after : Processor) (s : Part) → call_of (register before A7) ≡ Some PthreadSelf → after ≡ with_register (with_register before A0 0) A1 t → IsPut limits t before after Keeps s
self_put limits t before after s e left = record {
  values = 0 ∷ t ∷ [];
  replies = λ tick.
      ap (λ (o : Option Call). (answer_to o (invocation limits tick t before) (with_thread_cpu t before s)).part) e;
  left = left;
  plain = tt;
}

-- ---- the calls that name a thread

word_same : {A : Type 0} (word : Thread → A) (cpu : Processor) (o : Option Thread) → ((thread : Thread) → word (with_registers_of cpu thread) ≡ word thread) → option_map word (option_map (with_registers_of cpu) o) ≡ option_map word o
word_same word cpu None same = refl
word_same word cpu (Some thread) same = ap Some (same thread)

-- what is read of a thread, whatever the caller's registers are
read_same : {A : Type 0} (word : Thread → A) (t u : ℕ) (cpu : Processor) (s : Part) → ((thread : Thread) → word (with_registers_of cpu thread) ≡ word thread)
    → option_map word (thread_at (with_thread_cpu t cpu s).locks u) ≡ option_map word (thread_at s.locks u)
read_same word t u cpu s same =
    changed_same (option_map word) t (with_registers_of cpu) s.threads (word_same word cpu (pool_get s.threads t) same) u

-- what pthread_getschedparam tells of a thread
abbrev told : Thread → ℕ × ℕ
told thread = (policy_number thread.policy, thread.priority)

told_by : (i : Invocation) (u : Part) (target : Thread) (o : Option Thread) → option_map told o ≡ Some (told target)
    → (unwrap_or (option_map (λ (thread : Thread). success (policy_number thread.policy ∷ thread.priority ∷ []) i u) o) (refusal ESRCH i u)).part ≡ replied i.caller (0 ∷ policy_number target.policy ∷ target.priority ∷ []) u
told_by i u target None e = absurd (let no : ⊥ = cc in no)
told_by i u target (Some thread) e =
    let same : told thread ≡ told target = cc in
    ap (λ (w : ℕ × ℕ). replied i.caller (0 ∷ w.0 ∷ w.1 ∷ []) u) same

missing_by : (f : Thread → Answer) (i : Invocation) (u : Part) (o : Option Thread) → option_map told o ≡ None
    → (unwrap_or (option_map f o) (refusal ESRCH i u)).part ≡ replied i.caller (errno_number ESRCH ∷ []) u
missing_by f i u None e = refl
missing_by f i u (Some thread) e = absurd (let no : ⊥ = cc in no)

taken_by : (f : Thread → Answer) (i : Invocation) (u : Part) (o : Option Thread) → option_map (λ (thread : Thread). is_taken thread) o ≡ Some true
    → (unwrap_or (option_map (λ (thread : Thread). if is_taken thread then refusal EINVAL i u else f thread) o) (refusal ESRCH i u)).part ≡ replied i.caller (errno_number EINVAL ∷ []) u
taken_by f i u None e = absurd (let no : ⊥ = cc in no)
taken_by f i u (Some thread) e =
    let taken : is_taken thread ≡ true = cc in
    ap (λ (b : Bool). (if b then refusal EINVAL i u else f thread).part) taken

-- pthread_getschedparam of a thread in use
told_put : (limits : Limits) (t policy priority : ℕ) (target : Thread) (before after : Processor) (s : Part) → call_of (register before A7) ≡ Some PthreadGetschedparam
    → option_map told (thread_at s.locks (register before A0)) ≡ Some (told target) → policy ≡ policy_number target.policy → priority ≡ target.priority
    → after ≡ with_register (with_register (with_register before A0 0) A1 policy) A2 priority → IsPut limits t before after Keeps s
told_put limits t policy priority target before after s e found is-policy is-priority left = record {
  values = 0 ∷ policy_number target.policy ∷ target.priority ∷ [];
  replies = λ tick.
      ap (λ (o : Option Call). (answer_to o (invocation limits tick t before) (with_thread_cpu t before s)).part) e
      ∙ told_by (invocation limits tick t before) (with_thread_cpu t before s) target (thread_at (with_thread_cpu t before s).locks (register before A0))
      (read_same told t (register before A0) before s (λ thread. refl) ∙ found);
  left = left
      ∙ ap (λ (w : ℕ). with_register (with_register (with_register before A0 0) A1 w) A2 priority) is-policy
      ∙ ap (λ (w : ℕ). with_register (with_register (with_register before A0 0) A1 (policy_number target.policy)) A2 w) is-priority;
  plain = tt;
}

-- pthread_getschedparam of a number that is not in use
missing_put : (limits : Limits) (t : ℕ) (before after : Processor) (s : Part) → call_of (register before A7) ≡ Some PthreadGetschedparam → option_map told (thread_at s.locks (register before A0)) ≡ None
    → after ≡ with_register before A0 (errno_number ESRCH) → IsPut limits t before after Keeps s
missing_put limits t before after s e found left = record {
  values = errno_number ESRCH ∷ [];
  replies = λ tick.
      ap (λ (o : Option Call). (answer_to o (invocation limits tick t before) (with_thread_cpu t before s)).part) e
      ∙ missing_by (λ (thread : Thread). success (policy_number thread.policy ∷ thread.priority ∷ []) (invocation limits tick t before) (with_thread_cpu t before s)) (invocation limits tick t before) (with_thread_cpu t before s) (thread_at (with_thread_cpu t before s).locks (register before A0))
      (read_same told t (register before A0) before s (λ thread. refl) ∙ found);
  left = left;
  plain = tt;
}

-- pthread_detach of a number that is not in use
undetached_put : (limits : Limits) (t : ℕ) (before after : Processor) (s : Part) → call_of (register before A7) ≡ Some PthreadDetach → option_map told (thread_at s.locks (register before A0)) ≡ None
    → after ≡ with_register before A0 (errno_number ESRCH) → IsPut limits t before after Keeps s
undetached_put limits t before after s e found left = record {
  values = errno_number ESRCH ∷ [];
  replies = λ tick.
      ap (λ (o : Option Call). (answer_to o (invocation limits tick t before) (with_thread_cpu t before s)).part) e
      ∙ missing_by _ (invocation limits tick t before) (with_thread_cpu t before s) (thread_at (with_thread_cpu t before s).locks (register before A0))
      (read_same told t (register before A0) before s (λ thread. refl) ∙ found);
  left = left;
  plain = tt;
}

-- pthread_detach of a thread that is detached or has a joiner
taken_put : (limits : Limits) (t : ℕ) (before after : Processor) (s : Part) → call_of (register before A7) ≡ Some PthreadDetach → option_map (λ (thread : Thread). is_taken thread) (thread_at s.locks (register before A0)) ≡ Some true
    → after ≡ with_register before A0 (errno_number EINVAL) → IsPut limits t before after Keeps s
taken_put limits t before after s e found left = record {
  values = errno_number EINVAL ∷ [];
  replies = λ tick.
      ap (λ (o : Option Call). (answer_to o (invocation limits tick t before) (with_thread_cpu t before s)).part) e
      ∙ taken_by _ (invocation limits tick t before) (with_thread_cpu t before s) (thread_at (with_thread_cpu t before s).locks (register before A0))
      (read_same (λ (thread : Thread). is_taken thread) t (register before A0) before s (λ thread. refl) ∙ found);
  left = left;
  plain = tt;
}

-- ---- console_put

-- a request is pending for the thread, with ENABLE (XSH 2.9.5.2)
abbrev acts : Part → ℕ → Bool
acts s t = unwrap_or (option_map (λ c. c.is_enabled && c.is_pending) (numbered s.cancellations t)) false

-- without one the call is carried out
goes_on : (i : Invocation) (u : Part) (rest : Answer) → acts u i.caller ≡ false → (if is_normal (phase_of (thread_at u.locks i.caller)) && acts u i.caller then cancellation_answer i u else rest) ≡ rest
goes_on i u rest none =
    ap (λ (b : Bool). if is_normal (phase_of (thread_at u.locks i.caller)) && b then cancellation_answer i u else rest) none
    ∙ ap (λ (b : Bool). if b then cancellation_answer i u else rest) (and-false (is_normal (phase_of (thread_at u.locks i.caller))))

-- its answer then
abbrev put_answer : Invocation → Part → Bool → Answer
put_answer i u full = if full then refusal EAGAIN i u else success [] i (with_console (with_output (i.a0 % 256)) u)

-- a byte more
output_put : (limits : Limits) (t byte : ℕ) (before after : Processor) (s : Part) → call_of (register before A7) ≡ Some ConsolePut → acts s t ≡ false → is_full limits.output s.console ≡ false → byte ≡ register before A0 % 256
    → after ≡ with_register before A0 0 → IsPut limits t before after (Puts byte) s
output_put limits t byte before after s e none room is left = record {
  values = 0 ∷ [];
  replies = λ tick.
      let i : Invocation = invocation limits tick t before in
      let u : Part = with_thread_cpu t before s in
      ap (λ (o : Option Call). (answer_to o i u).part) e
      ∙ (ap (λ (a : Answer). a.part) (goes_on i u (put_answer i u (is_full limits.output u.console)) none)
      ∙ (ap (λ (full : Bool). (put_answer i u full).part) room
      ∙ ap (λ (b : ℕ). replied t (0 ∷ []) (with_console (with_output b) u)) (sym is)));
  left = left;
  plain = room;
}

-- no room for it
refused_put : (limits : Limits) (t : ℕ) (before after : Processor) (s : Part) → call_of (register before A7) ≡ Some ConsolePut → acts s t ≡ false → is_full limits.output s.console ≡ true
    → after ≡ with_register before A0 (errno_number EAGAIN) → IsPut limits t before after Keeps s
refused_put limits t before after s e none full left = record {
  values = errno_number EAGAIN ∷ [];
  replies = λ tick.
      let i : Invocation = invocation limits tick t before in
      let u : Part = with_thread_cpu t before s in
      ap (λ (o : Option Call). (answer_to o i u).part) e
      ∙ (ap (λ (a : Answer). a.part) (goes_on i u (put_answer i u (is_full limits.output u.console)) none)
      ∙ ap (λ (b : Bool). (put_answer i u b).part) full);
  left = left;
  plain = tt;
}

-- ---- values of keys

-- pthread_getspecific
value_put : (limits : Limits) (t value : ℕ) (before after : Processor) (s : Part) → call_of (register before A7) ≡ Some PthreadGetspecific → value ≡ specific s.keys t (register before A0)
    → after ≡ with_register (with_register before A0 0) A1 value → IsPut limits t before after Keeps s
value_put limits t value before after s e is left = record {
  values = 0 ∷ value ∷ [];
  replies = λ tick.
      ap (λ (o : Option Call). (answer_to o (invocation limits tick t before) (with_thread_cpu t before s)).part) e
      ∙ ap (λ (v : ℕ). replied t (0 ∷ v ∷ []) (with_thread_cpu t before s)) (sym is);
  left = left;
  plain = tt;
}

-- the answer of pthread_setspecific
abbrev set_answer : Invocation → Part → Bool → Answer
set_answer i u known = if not known then refusal EINVAL i u else success [] i (with_keys (with_values i.caller (λ values. pool_set values i.a0 i.a1)) u)

-- of a key
set_put : (limits : Limits) (t k value : ℕ) (before after : Processor) (s : Part) → call_of (register before A7) ≡ Some PthreadSetspecific → is_key s.keys (register before A0) ≡ true → k ≡ register before A0
    → value ≡ register before A1 → after ≡ with_register before A0 0 → IsPut limits t before after (Sets k value) s
set_put limits t k value before after s e known key is left = record {
  values = 0 ∷ [];
  replies = λ tick.
      let i : Invocation = invocation limits tick t before in
      let u : Part = with_thread_cpu t before s in
      ap (λ (o : Option Call). (answer_to o i u).part) e
      ∙ (ap (λ (b : Bool). (set_answer i u b).part) known
      ∙ (ap (λ (n : ℕ). replied t (0 ∷ []) (with_keys (with_values t (λ values. pool_set values n i.a1)) u)) (sym key)
      ∙ ap (λ (v : ℕ). replied t (0 ∷ []) (with_keys (with_values t (λ values. pool_set values k v)) u)) (sym is)));
  left = left;
  plain = tt;
}

-- of an unknown one
unset_put : (limits : Limits) (t : ℕ) (before after : Processor) (s : Part) → call_of (register before A7) ≡ Some PthreadSetspecific → is_key s.keys (register before A0) ≡ false
    → after ≡ with_register before A0 (errno_number EINVAL) → IsPut limits t before after Keeps s
unset_put limits t before after s e unknown left = record {
  values = errno_number EINVAL ∷ [];
  replies = λ tick.
      let i : Invocation = invocation limits tick t before in
      let u : Part = with_thread_cpu t before s in
      ap (λ (o : Option Call). (answer_to o i u).part) e
      ∙ ap (λ (b : Bool). (set_answer i u b).part) unknown;
  left = left;
  plain = tt;
}

-- ---- the calls made, whatever the registers, the used ticks and the last step are

-- a call that changes nothing but the registers
pub keeps_made : (t : ℕ) (before after : Processor) (h : Held) → ((pc n : ℕ) (cpu : Processor) (last : Option Entry) → IsPut (limits_here h) t (at_pc pc before) (at_pc pc after) Keeps (caught_up t n cpu last h.here)) → IsMade t before after h h
keeps_made t before after h put = record { effect = Keeps; moved = refl; put = put }

caught_same : {A : Type 0} (word : Thread → A) (n : ℕ) (cpu : Processor) (o : Option Thread) → ((thread : Thread) → word (computed n cpu thread) ≡ word thread) → option_map word (option_map (computed n cpu) o) ≡ option_map word o
caught_same word n cpu None same = refl
caught_same word n cpu (Some thread) same = ap Some (same thread)

-- what is read of a thread is the same
pub caught_read : {A : Type 0} (word : Thread → A) (t u n : ℕ) (cpu : Processor) (last : Option Entry) (s : Part) → ((thread : Thread) → word (computed n cpu thread) ≡ word thread)
    → option_map word (thread_at (caught_up t n cpu last s).locks u) ≡ option_map word (thread_at s.locks u)
caught_read word t u n cpu last s same = changed_same (option_map word) t (computed n cpu) s.threads (caught_same word n cpu (pool_get s.threads t) same) u

pub unknown_made : (t : ℕ) (before after : Processor) (h : Held) → call_of (register before A7) ≡ None → after ≡ with_register before A0 (errno_number ENOSYS) → IsMade t before after h h
unknown_made t before after h e left = keeps_made t before after h (λ pc n cpu last. unknown_put (limits_here h) t (at_pc pc before) (at_pc pc after) (caught_up t n cpu last h.here) e (ap (at_pc pc) left))

pub self_made : (t : ℕ) (before after : Processor) (h : Held) → call_of (register before A7) ≡ Some PthreadSelf → after ≡ with_register (with_register before A0 0) A1 t → IsMade t before after h h
self_made t before after h e left = keeps_made t before after h (λ pc n cpu last. self_put (limits_here h) t (at_pc pc before) (at_pc pc after) (caught_up t n cpu last h.here) e (ap (at_pc pc) left))

pub told_made : (t policy priority : ℕ) (target : Thread) (before after : Processor) (h : Held) → call_of (register before A7) ≡ Some PthreadGetschedparam
    → Some target ≡ thread_at h.here.locks (register before A0) → policy ≡ policy_number target.policy → priority ≡ target.priority
    → after ≡ with_register (with_register (with_register before A0 0) A1 policy) A2 priority → IsMade t before after h h
told_made t policy priority target before after h e found is-policy is-priority left = keeps_made t before after h (λ pc n cpu last.
    told_put (limits_here h) t policy priority target (at_pc pc before) (at_pc pc after) (caught_up t n cpu last h.here) e
    (caught_read told t (register before A0) n cpu last h.here (λ thread. refl) ∙ ap (option_map told) (sym found)) is-policy is-priority (ap (at_pc pc) left))

pub missing_made : (t : ℕ) (before after : Processor) (h : Held) → call_of (register before A7) ≡ Some PthreadGetschedparam → None ≡ thread_at h.here.locks (register before A0)
    → after ≡ with_register before A0 (errno_number ESRCH) → IsMade t before after h h
missing_made t before after h e found left = keeps_made t before after h (λ pc n cpu last.
    missing_put (limits_here h) t (at_pc pc before) (at_pc pc after) (caught_up t n cpu last h.here) e
    (caught_read told t (register before A0) n cpu last h.here (λ thread. refl) ∙ ap (option_map told) (sym found)) (ap (at_pc pc) left))

pub undetached_made : (t : ℕ) (before after : Processor) (h : Held) → call_of (register before A7) ≡ Some PthreadDetach → None ≡ thread_at h.here.locks (register before A0)
    → after ≡ with_register before A0 (errno_number ESRCH) → IsMade t before after h h
undetached_made t before after h e found left = keeps_made t before after h (λ pc n cpu last.
    undetached_put (limits_here h) t (at_pc pc before) (at_pc pc after) (caught_up t n cpu last h.here) e
    (caught_read told t (register before A0) n cpu last h.here (λ thread. refl) ∙ ap (option_map told) (sym found)) (ap (at_pc pc) left))

pub taken_made : (t : ℕ) (target : Thread) (before after : Processor) (h : Held) → call_of (register before A7) ≡ Some PthreadDetach → Some target ≡ thread_at h.here.locks (register before A0) → is_taken target ≡ true
    → after ≡ with_register before A0 (errno_number EINVAL) → IsMade t before after h h
taken_made t target before after h e found taken left = keeps_made t before after h (λ pc n cpu last.
    taken_put (limits_here h) t (at_pc pc before) (at_pc pc after) (caught_up t n cpu last h.here) e
    (caught_read (λ (thread : Thread). is_taken thread) t (register before A0) n cpu last h.here (λ thread. refl) ∙ (ap (option_map (λ (thread : Thread). is_taken thread)) (sym found) ∙ ap Some taken)) (ap (at_pc pc) left))

-- a byte more
pub output_made : (t byte : ℕ) (before after : Processor) (h g : Held) → call_of (register before A7) ≡ Some ConsolePut → has_request t h.here ≡ false → is_full (limits_here h).output h.here.console ≡ false → byte ≡ register before A0 % 256
    → after ≡ with_register before A0 0 → g ≡ record h { here = with_console (after_put (limits_here h).output byte) h.here } → IsMade t before after h g
output_made t byte before after h g e none room is left moved = record {
  effect = Puts byte;
  moved = moved ∙ ap (λ (s : Part). record h { here = s }) (put_open (limits_here h).output byte h.here room);
  put = λ pc n cpu last. output_put (limits_here h) t byte (at_pc pc before) (at_pc pc after) (caught_up t n cpu last h.here) e none room is (ap (at_pc pc) left);
}

-- no room for it
pub refused_made : (t : ℕ) (before after : Processor) (h : Held) → call_of (register before A7) ≡ Some ConsolePut → has_request t h.here ≡ false → is_full (limits_here h).output h.here.console ≡ true
    → after ≡ with_register before A0 (errno_number EAGAIN) → IsMade t before after h h
refused_made t before after h e none full left = keeps_made t before after h (λ pc n cpu last. refused_put (limits_here h) t (at_pc pc before) (at_pc pc after) (caught_up t n cpu last h.here) e none full (ap (at_pc pc) left))

pub value_made : (t value : ℕ) (before after : Processor) (h : Held) → call_of (register before A7) ≡ Some PthreadGetspecific → value ≡ specific h.here.keys t (register before A0)
    → after ≡ with_register (with_register before A0 0) A1 value → IsMade t before after h h
value_made t value before after h e is left = keeps_made t before after h (λ pc n cpu last. value_put (limits_here h) t value (at_pc pc before) (at_pc pc after) (caught_up t n cpu last h.here) e is (ap (at_pc pc) left))

pub set_made : (t k value : ℕ) (before after : Processor) (h g : Held) → call_of (register before A7) ≡ Some PthreadSetspecific → is_key h.here.keys (register before A0) ≡ true → k ≡ register before A0
    → value ≡ register before A1 → after ≡ with_register before A0 0 → g ≡ record h { here = with_keys (with_values t (λ values. pool_set values k value)) h.here } → IsMade t before after h g
set_made t k value before after h g e known key is left moved = record {
  effect = Sets k value;
  moved = moved;
  put = λ pc n cpu last. set_put (limits_here h) t k value (at_pc pc before) (at_pc pc after) (caught_up t n cpu last h.here) e known key is (ap (at_pc pc) left);
}

pub unset_made : (t : ℕ) (before after : Processor) (h : Held) → call_of (register before A7) ≡ Some PthreadSetspecific → is_key h.here.keys (register before A0) ≡ false
    → after ≡ with_register before A0 (errno_number EINVAL) → IsMade t before after h h
unset_made t before after h e unknown left = keeps_made t before after h (λ pc n cpu last. unset_put (limits_here h) t (at_pc pc before) (at_pc pc after) (caught_up t n cpu last h.here) e unknown (ap (at_pc pc) left))

pub ruleset replies = (unknown_made, self_made, told_made, missing_made, undetached_made, taken_made)

pub ruleset outputs = (output_made, refused_made)

pub ruleset values = (value_made, set_made, unset_made)
