-- The decision of a quiet partition whose next step is a quiet call, and what it leaves.
use Rattle.std.proofs.Common.{◌≡◌, ℕ, ◌+◌, ◌%◌, ◌≤◌, ◌<◌, ◌==◌, eq-eqb, Bool, true, false, not, ◌&&◌, List, length, refl, sym, ap, ◌∙◌, arith}
use Rattle.std.specs.Prelude.{Option, Some, option_map, nat_lt, nat_le, if◌then◌else◌}
use Rattle.std.proofs.lemmas.Bool.{leb-true, lt-leb, le-ltb}
use Rattle.std.proofs.Math.Bool.{and-false}
use Rattle.ptk_words.specs.Calls.{cost_of}
use Rattle.ptk_words.specs.Pools.{pool_get, pool_set, pool_changed, first_of_greatest}
use Rattle.ptk_words.specs.Processor.{Processor, register}
use Rattle.ptk_words.specs.Threads.{is_ended}
use Rattle.ptk_words.specs.Words.{word_at}
use Rattle.ptk_words.specs.declared.TheConstants.{A0, A7, ECALL, RETURN_GATE}
use Rattle.ptk_words.specs.declared.faults.FaultKind.TheVariants.{Fetch, Misaligned}
use Rattle.ptk_words.specs.declared.sections.Entry.{Entry}
use Rattle.ptk_words.specs.declared.sections.Limits.{Limits}
use Rattle.ptk_words.specs.declared.threads.Policy.{Policy}
use Rattle.ptk_words.specs.declared.threads.Policy.TheVariants.{Fifo, RoundRobin}
use Rattle.ptk_words.specs.declared.threads.Thread.{Thread}
use Rattle.ptk_words.proofs.Pools.{changed_own, changed_twice}
use Rattle.ptk_words_model.specs.Instructions.{Effect, Call, Fault, effect_at, effect_of_word, decode_of, can_fetch, with_next_pc}
use Rattle.ptk_words_model.specs.PlainSteps.{Core, core}
use Rattle.ptk_words_model.specs.declared.Runner.{Runner}
use Rattle.ptk_words_model.specs.declared.Spent.TheVariants.{Step}
use Rattle.ptk_words_model.specs.declared.StepKind.TheVariants.{CallStep}
use Rattle.ptk_words_model.specs.State.{Part, with_locks}
use Rattle.ptk_words_model.specs.Priority.{thread_at, effective_priority}
use Rattle.ptk_words_model.specs.Schedule.{with_reply, is_round_robin, is_running, after_interval, after_turn_end, with_thread_used}
use Rattle.ptk_words_model.specs.Decision.{with_thread_cpu, word_fetched, entry_of, a0_after, after_effect, step_kind, after_whole_step, Decision, turn, runner_of}
use Rattle.ptk_words_laws.specs.Quiet.{stays_before, IsQuiet, used_after, computed, with_row}
use Rattle.ptk_words_laws.specs.Replies.{Outcome, with_outcome, IsReply, ReplyIsDecided, ReplyStaysQuiet, reply_entry, after_reply}
use Rattle.ptk_words_laws.proofs.PlainSteps.{no_gate_by}
use Rattle.ptk_words_laws.proofs.PlainRows.{used_fifo, used_robin}
use Rattle.ptk_words_laws.proofs.PlainDecisions.{runner, with_registers_of, moved, with_threads, quiet_ready, quiet_runner}
use Rattle.ptk_words_laws.proofs.QuietRows.{same_rank, same_due}

-- ---- the word of an ECALL

-- a word can be fetched that is an ECALL
inside_by : (aligned inside : Bool) (word : ℕ) → (if aligned && inside then word else 0) ≡ ECALL → inside ≡ true
inside_by true true word e = refl
inside_by true false word e = absurd (omega (arith, e))
inside_by false inside word e = absurd (omega (arith, e))

-- the pc is not the return gate
pub no_gate : (cpu : Processor) (memory : List ℕ) → word_fetched memory cpu.pc ≡ ECALL → length memory ≤ RETURN_GATE → (cpu.pc == RETURN_GATE) ≡ false
no_gate cpu memory e short =
    let inside : can_fetch memory cpu.pc ≡ true = inside_by (cpu.pc % 4 == 0) (can_fetch memory cpu.pc) (word_at memory cpu.pc) e in
    no_gate_by cpu.pc (length memory) (cpu.pc == RETURN_GATE) refl (leb-true (cpu.pc + 4) (length memory) inside) short

ecall_effect : (cpu : Processor) (memory : List ℕ) (word : ℕ) → word ≡ ECALL → effect_of_word cpu memory word (decode_of word) ≡ Call (with_next_pc cpu)
ecall_effect cpu memory word e = rw e refl

fetched_call : (cpu : Processor) (memory : List ℕ) (aligned inside : Bool) → (if aligned && inside then word_at memory cpu.pc else 0) ≡ ECALL
    → (if not aligned then Fault Misaligned else (if inside then effect_of_word cpu memory (word_at memory cpu.pc) (decode_of (word_at memory cpu.pc)) else Fault Fetch)) ≡ Call (with_next_pc cpu)
fetched_call cpu memory true true e = ecall_effect cpu memory (word_at memory cpu.pc) e
fetched_call cpu memory true false e = absurd (omega (arith, e))
fetched_call cpu memory false inside e = absurd (omega (arith, e))

-- its effect is a call
calls : (cpu : Processor) (memory : List ℕ) → word_fetched memory cpu.pc ≡ ECALL → effect_at cpu memory ≡ Call (with_next_pc cpu)
calls cpu memory e = fetched_call cpu memory (cpu.pc % 4 == 0) (can_fetch memory cpu.pc) e

reply_kind : (limits : Limits) (tick stop t : ℕ) (thread : Thread) (s : Part) → IsQuiet limits tick stop t thread s → word_fetched s.memory thread.cpu.pc ≡ ECALL → step_kind s t thread ≡ CallStep (register thread.cpu A7)
reply_kind limits tick stop t thread s quiet word = rw (quiet.goes_on, no_gate thread.cpu s.memory word quiet.gate, word) refl

-- ---- the step

-- the partition is as quiet with an outcome that changes no priority
quiet_with : (limits : Limits) (tick stop t : ℕ) (thread : Thread) (o : Outcome) (s : Part) → ((u : ℕ) → effective_priority (with_outcome o s).locks u ≡ effective_priority s.locks u)
    → IsQuiet limits tick stop t thread s → IsQuiet limits tick stop t thread (with_outcome o s)
quiet_with limits tick stop t thread o s same quiet =
    let ranks : effective_priority (with_outcome o s).locks ≡ effective_priority s.locks = λ i u. same u i in
    record {
      active = quiet.active;
      none_comes = quiet.none_comes;
      none_expires = quiet.none_expires;
      chosen = ap (λ (rank : ℕ → ℕ). stays_before rank t (first_of_greatest rank s.line)) ranks ∙ quiet.chosen;
      running = quiet.running;
      in_use = quiet.in_use;
      lives = quiet.lives;
      goes_on = quiet.goes_on;
      within = quiet.within;
      gate = quiet.gate;
    }

-- the call leaves the caller's registers, and the outcome
call_left : (limits : Limits) (tick t ticks : ℕ) (thread : Thread) (after : Processor) (o : Outcome) (s : Part) → IsReply limits ticks t thread after o s
    → after_effect limits tick t thread.cpu.pc (effect_at thread.cpu s.memory) s ≡ with_thread_cpu t after (with_outcome o s)
call_left limits tick t ticks thread after o s reply =
    let cpu : Processor = with_next_pc thread.cpu in
    let left : Part = with_outcome o s in
    ap (λ (e : Effect). after_effect limits tick t thread.cpu.pc e s) (calls thread.cpu s.memory reply.word)
    ∙ (reply.replies tick
    ∙ (ap (λ threads. with_locks (λ locks. record locks { threads = threads }) left) (changed_twice t (with_reply reply.values) (with_registers_of cpu) s.threads)
    ∙ ap (λ (c : Processor). with_thread_cpu t c left) (sym reply.left)))

entry_is : (tick t : ℕ) (after : Processor) (thread : Thread) (s : Part) → is_ended thread.phase ≡ false → word_fetched s.memory thread.cpu.pc ≡ ECALL
    → entry_of tick (runner t thread) (CallStep (register thread.cpu A7)) s.memory (Some (with_registers_of after thread)) ≡ reply_entry tick t thread after
entry_is tick t after thread s lives word =
    let a0 : a0_after thread (Some (with_registers_of after thread)) ≡ register after A0 = rw lives refl in
    let entry : ℕ → ℕ → Entry = λ word a. record { tick = tick; thread = t; pc = thread.cpu.pc; word = word; a0 = a } in
    ap (λ (w : ℕ). entry w (a0_after thread (Some (with_registers_of after thread)))) word
    ∙ ap (entry ECALL) a0

pub fifo_entry : (n : ℕ) (cpu : Processor) (thread : Thread) (o : Option Thread) → o ≡ Some thread → is_round_robin thread.policy ≡ false → option_map (with_registers_of cpu) o ≡ option_map (computed n cpu) o
fifo_entry n cpu thread o is fifo =
    ap (option_map (with_registers_of cpu)) is
    ∙ (ap (λ (used : ℕ). Some (record thread { cpu = cpu; used = used })) (sym (used_fifo thread.policy thread.used n fifo))
    ∙ sym (ap (option_map (computed n cpu)) is))

pub robin_entry : (n : ℕ) (cpu : Processor) (thread : Thread) (o : Option Thread) → o ≡ Some thread → is_round_robin thread.policy ≡ true
    → option_map (λ (u : Thread). record (with_registers_of cpu u) { used = thread.used + n }) o ≡ option_map (computed n cpu) o
robin_entry n cpu thread o is robin =
    ap (option_map (λ (u : Thread). record (with_registers_of cpu u) { used = thread.used + n })) is
    ∙ (ap (λ (used : ℕ). Some (record thread { cpu = cpu; used = used })) (sym (used_robin thread.policy thread.used n robin))
    ∙ sym (ap (option_map (computed n cpu)) is))

-- the interval counts a thread of SCHED_RR alone, and does not end
interval_by : (limits : Limits) (tick stop t n : ℕ) (thread : Thread) (c : Core) (last : Option Entry) (s : Part) → IsQuiet limits tick stop t thread s → tick + n ≤ stop → (robin : Bool) → is_round_robin thread.policy ≡ robin
    → after_interval limits.interval n t (Some (with_registers_of c.cpu thread)) (moved t c last s) ≡ with_row t n c last s
interval_by limits tick stop t n thread c last s quiet le false e =
    let u : Part = moved t c last s in
    let at_end : Part = if nat_le limits.interval (thread.used + n) then after_turn_end t u else with_thread_used t (thread.used + n) u in
    ap (λ (b : Bool). if is_running t s.running && b then at_end else u) e
    ∙ (ap (λ (b : Bool). if b then at_end else u) (and-false (is_running t s.running))
    ∙ ap (λ (o : Option Thread). with_threads c last s (pool_set s.threads t o)) (fifo_entry n c.cpu thread (pool_get s.threads t) quiet.in_use e))
interval_by limits tick stop t n thread c last s quiet le true e =
    let u : Part = moved t c last s in
    let at_end : Part = if nat_le limits.interval (thread.used + n) then after_turn_end t u else with_thread_used t (thread.used + n) u in
    let runs : is_running t s.running ≡ true = ap (is_running t) quiet.running ∙ eq-eqb t t refl in
    let within : thread.used + stop < limits.interval + tick = quiet.within e in
    let more : nat_le limits.interval (thread.used + n) ≡ false = lt-leb limits.interval (thread.used + n) (omega (arith, within, le)) in
    ap (λ (b : Bool). if b && is_round_robin thread.policy then at_end else u) runs
    ∙ (ap (λ (b : Bool). if b then at_end else u) e
    ∙ (ap (λ (b : Bool). if b then after_turn_end t u else with_thread_used t (thread.used + n) u) more
    ∙ (ap (with_threads c last s) (changed_twice t (λ (v : Thread). record v { used = thread.used + n }) (with_registers_of c.cpu) s.threads)
    ∙ ap (λ (o : Option Thread). with_threads c last s (pool_set s.threads t o)) (robin_entry n c.cpu thread (pool_get s.threads t) quiet.in_use e))))

reply_whole : (limits : Limits) (tick stop t ticks : ℕ) (thread : Thread) (after : Processor) (o : Outcome) (s : Part) → IsQuiet limits tick stop t thread s → IsReply limits ticks t thread after o s → tick + ticks ≤ stop
    → after_whole_step limits tick (runner t thread) (CallStep (register thread.cpu A7)) s ≡ after_reply tick t ticks thread after o s
reply_whole limits tick stop t ticks thread after o s quiet reply le =
    let number : ℕ = register thread.cpu A7 in
    let c : Core = core after s.memory in
    let left : Part = with_outcome o s in
    let still : IsQuiet limits tick stop t thread left = quiet_with limits tick stop t thread o s reply.priorities quiet in
    let entry : Option Thread → Option Entry = λ o. Some (entry_of tick (runner t thread) (CallStep number) s.memory o) in
    let own : pool_get (pool_changed t (with_registers_of after) s.threads) t ≡ Some (with_registers_of after thread) =
    changed_own t (with_registers_of after) s.threads ∙ ap (option_map (with_registers_of after)) quiet.in_use in
    ap (λ (u : Part). after_interval limits.interval (cost_of number) t (thread_at u.locks t) (record u { last = entry (thread_at u.locks t) })) (call_left limits tick t ticks thread after o s reply)
    ∙ (ap (λ (o : Option Thread). after_interval limits.interval (cost_of number) t o (moved t c (entry o) left)) own
    ∙ (ap (λ (n : ℕ). after_interval limits.interval n t (Some (with_registers_of after thread)) (moved t c (entry (Some (with_registers_of after thread))) left)) (sym reply.cost)
    ∙ (interval_by limits tick stop t ticks thread c (entry (Some (with_registers_of after thread))) left still le (is_round_robin thread.policy) refl
    ∙ ap (λ (e : Entry). with_row t ticks c (Some e) left) (entry_is tick t after thread s quiet.lives reply.word))))

-- ---- the decision

fits : (room ticks cost : ℕ) → ticks ≡ cost → ticks ≤ room → nat_lt room cost ≡ false
fits room ticks cost e le = le-ltb room cost (omega (arith, e, le))

reply_turn : (limits : Limits) (tick stop room t ticks : ℕ) (thread : Thread) (after : Processor) (o : Outcome) (s : Part) → IsQuiet limits tick stop t thread s → IsReply limits ticks t thread after o s → tick + ticks ≤ stop → ticks ≤ room
    → turn limits tick room (Some (runner t thread)) s ≡ record { spent = Step ticks; part = after_reply tick t ticks thread after o s }
reply_turn limits tick stop room t ticks thread after o s quiet reply le room_for =
    let made : Part → Decision = λ u. record { spent = Step (cost_of (register thread.cpu A7)); part = u } in
    let paid : ℕ → Decision = λ n. record { spent = Step n; part = after_reply tick t ticks thread after o s } in
    rw (reply_kind limits tick stop t thread s quiet reply.word, fits room ticks (cost_of (register thread.cpu A7)) reply.cost room_for)
    (ap made (reply_whole limits tick stop t ticks thread after o s quiet reply le) ∙ ap paid (sym reply.cost))

pub reply_decided : (limits : Limits) (tick stop room t ticks : ℕ) (thread : Thread) (after : Processor) (o : Outcome) (s : Part) → ReplyIsDecided limits tick stop room t ticks thread after o s
reply_decided limits tick stop room t ticks thread after o s quiet reply some le room_for =
    let lt : tick < stop = omega (arith, some, le) in
    ap (λ (u : Part). turn limits tick room (runner_of u) u) (quiet_ready limits tick stop t thread s quiet lt)
    ∙ (ap (λ (o : Option Runner). turn limits tick room o s) (quiet_runner limits tick stop t thread s quiet) ∙ reply_turn limits tick stop room t ticks thread after o s quiet reply le room_for)

-- ---- what it leaves

within_more : (policy : Policy) (used stop interval tick n : ℕ) → (is_round_robin policy ≡ true → used + stop < interval + tick) → is_round_robin policy ≡ true → used_after policy used n + stop < interval + (tick + n)
within_more Fifo used stop interval tick n h e = absurd (let no : ⊥ = cc in no)
within_more RoundRobin used stop interval tick n h e = let lt : used + stop < interval + tick = h e in omega (arith, lt)

pub reply_quiet : (limits : Limits) (tick stop t ticks : ℕ) (thread : Thread) (after : Processor) (o : Outcome) (s : Part) → ReplyStaysQuiet limits tick stop t ticks thread after o s
reply_quiet limits tick stop t ticks thread after o s quiet reply =
    let c : Core = core after s.memory in
    let last : Option Entry = Some (reply_entry tick t thread after) in
    let left : Part = with_outcome o s in
    let still : IsQuiet limits tick stop t thread left = quiet_with limits tick stop t thread o s reply.priorities quiet in
    record {
      active = still.active;
      none_comes = still.none_comes;
      none_expires = λ k lt. same_due k t ticks c last left ∙ still.none_expires k lt;
      chosen = ap (λ (rank : ℕ → ℕ). stays_before rank t (first_of_greatest rank left.line)) (same_rank t ticks after left.threads left.mutexes) ∙ still.chosen;
      running = still.running;
      in_use = changed_own t (computed ticks after) left.threads ∙ ap (option_map (computed ticks after)) still.in_use;
      lives = still.lives;
      goes_on = still.goes_on;
      within = within_more thread.policy thread.used stop limits.interval tick ticks still.within;
      gate = still.gate;
    }
