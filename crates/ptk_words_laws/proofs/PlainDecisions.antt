-- The decision of a quiet state.
use Rattle.std.proofs.Common.{◌≡◌, ℕ, ◌+◌, ◌≤◌, ◌<◌, eq-eqb, Bool, true, false, not, ◌&&◌, List, [], refl, sym, ap, ◌∙◌, arith}
use Rattle.std.specs.Prelude.{Option, Some, None, option_map, fold, nat_lt, nat_le, if◌then◌else◌}
use Rattle.std.proofs.lemmas.Bool.{le-ltb, lt-leb, false≢true}
use Rattle.std.proofs.Math.Bool.{and-false}
use Rattle.ptk_words.specs.Pools.{pool_get, pool_set, pool_changed}
use Rattle.ptk_words.specs.Processor.{Processor, register}
use Rattle.ptk_words.specs.Threads.{is_ended}
use Rattle.ptk_words.specs.Words.{word_at}
use Rattle.ptk_words.specs.declared.TheConstants.{A0}
use Rattle.ptk_words.specs.declared.sections.Entry.{Entry}
use Rattle.ptk_words.specs.declared.sections.Limits.{Limits}
use Rattle.ptk_words.specs.declared.threads.Thread.{Thread}
use Rattle.ptk_words.proofs.Pools.{changed_own, changed_twice}
use Rattle.ptk_words_model.specs.Instructions.{Effect}
use Rattle.ptk_words_model.specs.PlainSteps.{Core, core, is_plain, plain_step, plain_entry, plain_entries}
use Rattle.ptk_words_model.specs.Windows.{OwnTicks}
use Rattle.ptk_words_model.specs.declared.Runner.{Runner}
use Rattle.ptk_words_model.specs.declared.Spent.TheVariants.{Step}
use Rattle.ptk_words_model.specs.declared.StepKind.TheVariants.{InstructionStep}
use Rattle.ptk_words_model.specs.State.{Part, State, with_locks}
use Rattle.ptk_words_model.specs.Priority.{thread_at, effective_priority}
use Rattle.ptk_words_model.specs.Schedule.{first_ready, is_round_robin, is_running, after_choice, after_choice_between, after_dispatch, at_head, after_interval, after_turn_end, with_thread_used}
use Rattle.ptk_words_model.specs.Withdrawal.{due, Expiry, in_order, after_timeout, after_expiries}
use Rattle.ptk_words_model.specs.Console.{arriving}
use Rattle.ptk_words_model.specs.Mutex.{wait_of}
use Rattle.ptk_words_model.specs.Decision.{with_thread_cpu, a0_after, entry_of, after_effect, after_arrivals, runner_of, step_kind, after_whole_step, Decision, turn, ready_at, decision}
use Rattle.ptk_words_model.specs.Run.{accounted}
use Rattle.ptk_words_laws.specs.Quiet.{stays_before, IsQuiet, core_of, computed, with_row, after_row}
use Rattle.ptk_words_laws.specs.QuietLaws.{PlainIsDecided}
use Rattle.ptk_words_laws.proofs.PlainSteps.{plain_done, plain_word, plain_no_call, plain_no_gate}
use Rattle.ptk_words_laws.proofs.PlainRows.{used_fifo, used_robin, row_one}

-- the thread of this number, as a runner
abbrev pub runner : ℕ → Thread → Runner
runner t thread = record { number = t; thread = thread }

-- ---- before the step

pub no_arrivals : (limits : Limits) (tick : ℕ) (s : Part) → arriving tick s.console ≡ [] → after_arrivals limits tick s ≡ s
no_arrivals limits tick s e = rw e refl

pub no_expiries : (tick : ℕ) (s : Part) → due tick s ≡ [] → after_expiries tick s ≡ s
no_expiries tick s e = ap (λ (expiries : List Expiry). fold (λ u a. after_timeout a.thread (wait_of (thread_at u.locks a.thread)) u) s (in_order expiries)) e

chosen_by : (t : ℕ) (o : Option ℕ) (s : Part) → stays_before (effective_priority s.locks) t o ≡ true → after_choice_between (Some t) o s ≡ s
chosen_by t None s e = refl
chosen_by t (Some u) s e = by (nat_lt (effective_priority s.locks t) (effective_priority s.locks u)) e
  where
    by : (b : Bool) → not b ≡ true → (if b then after_dispatch u (with_locks (at_head t) s) else s) ≡ s
    by false stays = refl
    by true stays = absurd (false≢true stays)

chosen_stays : (t : ℕ) (s : Part) → s.running ≡ Some t → stays_before (effective_priority s.locks) t (first_ready s.locks) ≡ true → after_choice s ≡ s
chosen_stays t s runs e = ap (λ (running : Option ℕ). after_choice_between running (first_ready s.locks) s) runs ∙ chosen_by t (first_ready s.locks) s e

pub quiet_ready : (limits : Limits) (tick stop t : ℕ) (thread : Thread) (s : Part) → IsQuiet limits tick stop t thread s → tick < stop → ready_at limits tick s ≡ s
quiet_ready limits tick stop t thread s quiet lt =
    ap (λ (u : Part). after_choice (after_expiries tick u)) (no_arrivals limits tick s (quiet.none_comes tick lt))
    ∙ (ap after_choice (no_expiries tick s (quiet.none_expires tick lt)) ∙ chosen_stays t s quiet.running quiet.chosen)

pub quiet_runner : (limits : Limits) (tick stop t : ℕ) (thread : Thread) (s : Part) → IsQuiet limits tick stop t thread s → runner_of s ≡ Some (runner t thread)
quiet_runner limits tick stop t thread s quiet = rw (quiet.running, quiet.in_use) refl

plain_kind : (limits : Limits) (tick stop t : ℕ) (thread : Thread) (s : Part) → IsQuiet limits tick stop t thread s → is_plain (core_of thread s) ≡ true → step_kind s t thread ≡ InstructionStep
plain_kind limits tick stop t thread s quiet plain =
    let c : Core = core_of thread s in
    rw (quiet.goes_on, plain_no_gate c plain quiet.gate, plain_no_call c plain) refl

-- ---- the step

-- the thread's registers alone changed
abbrev pub with_registers_of : Processor → Thread → Thread
with_registers_of cpu thread = record thread { cpu = cpu }

-- the partition after an instruction that left these registers and this memory, with this last step
abbrev pub moved : ℕ → Core → Option Entry → Part → Part
moved t c last s = let after : Part = with_thread_cpu t c.cpu (record s { memory = c.memory }) in record after { last = last }

-- the partition with these threads in the place of its own
abbrev pub with_threads : Core → Option Entry → Part → List (Option Thread) → Part
with_threads c last s threads = let after : Part = with_locks (λ locks. record locks { threads = threads }) (record s { memory = c.memory }) in record after { last = last }

entry_plain : (tick t : ℕ) (cpu : Processor) (thread : Thread) (s : Part) → is_ended thread.phase ≡ false → is_plain (core_of thread s) ≡ true
    → entry_of tick (runner t thread) InstructionStep s.memory (Some (with_registers_of cpu thread)) ≡ plain_entry tick t (core_of thread s) (core cpu s.memory)
entry_plain tick t cpu thread s lives plain =
    let a0 : a0_after thread (Some (with_registers_of cpu thread)) ≡ register cpu A0 = rw lives refl in
    let c : Core = core_of thread s in
    let entry : ℕ → ℕ → Entry = λ word a. record { tick = tick; thread = t; pc = c.cpu.pc; word = word; a0 = a } in
    ap (λ (word : ℕ). entry word (a0_after thread (Some (with_registers_of cpu thread)))) (plain_word c plain)
    ∙ ap (entry (word_at c.memory c.cpu.pc)) a0

fifo_entry : (cpu : Processor) (thread : Thread) (o : Option Thread) → o ≡ Some thread → is_round_robin thread.policy ≡ false → option_map (with_registers_of cpu) o ≡ option_map (computed 1 cpu) o
fifo_entry cpu thread o is fifo =
    ap (option_map (with_registers_of cpu)) is
    ∙ (ap (λ (used : ℕ). Some (record thread { cpu = cpu; used = used })) (sym (used_fifo thread.policy thread.used 1 fifo))
    ∙ sym (ap (option_map (computed 1 cpu)) is))

robin_entry : (cpu : Processor) (thread : Thread) (o : Option Thread) → o ≡ Some thread → is_round_robin thread.policy ≡ true
    → option_map (λ (u : Thread). record (with_registers_of cpu u) { used = thread.used + 1 }) o ≡ option_map (computed 1 cpu) o
robin_entry cpu thread o is robin =
    ap (option_map (λ (u : Thread). record (with_registers_of cpu u) { used = thread.used + 1 })) is
    ∙ (ap (λ (used : ℕ). Some (record thread { cpu = cpu; used = used })) (sym (used_robin thread.policy thread.used 1 robin))
    ∙ sym (ap (option_map (computed 1 cpu)) is))

-- the interval counts a thread of SCHED_RR alone, and does not end
interval_by : (limits : Limits) (tick stop t : ℕ) (thread : Thread) (c : Core) (last : Option Entry) (s : Part) → IsQuiet limits tick stop t thread s → tick < stop → (robin : Bool) → is_round_robin thread.policy ≡ robin
    → after_interval limits.interval 1 t (Some (with_registers_of c.cpu thread)) (moved t c last s) ≡ with_row t 1 c last s
interval_by limits tick stop t thread c last s quiet lt false e =
    let u : Part = moved t c last s in
    let at_end : Part = if nat_le limits.interval (thread.used + 1) then after_turn_end t u else with_thread_used t (thread.used + 1) u in
    ap (λ (b : Bool). if is_running t s.running && b then at_end else u) e
    ∙ (ap (λ (b : Bool). if b then at_end else u) (and-false (is_running t s.running))
    ∙ ap (λ (o : Option Thread). with_threads c last s (pool_set s.threads t o)) (fifo_entry c.cpu thread (pool_get s.threads t) quiet.in_use e))
interval_by limits tick stop t thread c last s quiet lt true e =
    let u : Part = moved t c last s in
    let at_end : Part = if nat_le limits.interval (thread.used + 1) then after_turn_end t u else with_thread_used t (thread.used + 1) u in
    let runs : is_running t s.running ≡ true = ap (is_running t) quiet.running ∙ eq-eqb t t refl in
    let within : thread.used + stop < limits.interval + tick = quiet.within e in
    let more : nat_le limits.interval (thread.used + 1) ≡ false = lt-leb limits.interval (thread.used + 1) (omega (arith, within, lt)) in
    ap (λ (b : Bool). if b && is_round_robin thread.policy then at_end else u) runs
    ∙ (ap (λ (b : Bool). if b then at_end else u) e
    ∙ (ap (λ (b : Bool). if b then after_turn_end t u else with_thread_used t (thread.used + 1) u) more
    ∙ (ap (with_threads c last s) (changed_twice t (λ (v : Thread). record v { used = thread.used + 1 }) (with_registers_of c.cpu) s.threads)
    ∙ ap (λ (o : Option Thread). with_threads c last s (pool_set s.threads t o)) (robin_entry c.cpu thread (pool_get s.threads t) quiet.in_use e))))

plain_whole : (limits : Limits) (tick stop t : ℕ) (thread : Thread) (s : Part) → IsQuiet limits tick stop t thread s → tick < stop → is_plain (core_of thread s) ≡ true
    → after_whole_step limits tick (runner t thread) InstructionStep s ≡ after_row tick t 1 thread s
plain_whole limits tick stop t thread s quiet lt plain =
    let c : Core = core_of thread s in
    let next : Core = plain_step c in
    let entry : Option Thread → Option Entry = λ o. Some (entry_of tick (runner t thread) InstructionStep s.memory o) in
    let own : pool_get (pool_changed t (with_registers_of next.cpu) s.threads) t ≡ Some (with_registers_of next.cpu thread) =
    changed_own t (with_registers_of next.cpu) s.threads ∙ ap (option_map (with_registers_of next.cpu)) quiet.in_use in
    ap (λ (e : Effect). let after : Part = after_effect limits tick t thread.cpu.pc e s in after_interval limits.interval 1 t (thread_at after.locks t) (record after { last = entry (thread_at after.locks t) })) (plain_done c plain)
    ∙ (ap (λ (o : Option Thread). after_interval limits.interval 1 t o (moved t next (entry o) s)) own
    ∙ (interval_by limits tick stop t thread next (entry (Some (with_registers_of next.cpu thread))) s quiet lt (is_round_robin thread.policy) refl
    ∙ (ap (λ (e : Entry). with_row t 1 next (Some e) s) (entry_plain tick t next.cpu thread s quiet.lives plain)
    ∙ row_one tick t thread s)))

-- ---- the decision

has_room : (room : ℕ) → 1 ≤ room → nat_lt room 1 ≡ false
has_room room le = le-ltb room 1 le

plain_turn : (limits : Limits) (tick stop room t : ℕ) (thread : Thread) (s : Part) → IsQuiet limits tick stop t thread s → tick < stop → 1 ≤ room → is_plain (core_of thread s) ≡ true
    → turn limits tick room (Some (runner t thread)) s ≡ record { spent = Step 1; part = after_row tick t 1 thread s }
plain_turn limits tick stop room t thread s quiet lt le plain =
    let made : Part → Decision = λ u. record { spent = Step 1; part = u } in
    rw (plain_kind limits tick stop t thread s quiet plain, has_room room le) (ap made (plain_whole limits tick stop t thread s quiet lt plain))

pub quiet_decision : (limits : Limits) (tick stop room t : ℕ) (thread : Thread) (s : Part) → IsQuiet limits tick stop t thread s → tick < stop → 1 ≤ room → is_plain (core_of thread s) ≡ true
    → decision limits tick room s ≡ record { spent = Step 1; part = after_row tick t 1 thread s }
quiet_decision limits tick stop room t thread s quiet lt le plain =
    ap (λ (u : Part). turn limits tick room (runner_of u) u) (quiet_ready limits tick stop t thread s quiet lt)
    ∙ (ap (λ (o : Option Runner). turn limits tick room o s) (quiet_runner limits tick stop t thread s quiet) ∙ plain_turn limits tick stop room t thread s quiet lt le plain)

-- the decision is the plain step
pub plain_decided : (ticks : OwnTicks) (limits : Limits) (tick stop room t : ℕ) (thread : Thread) (s : State) → PlainIsDecided ticks limits tick stop room t thread s
unfolding plain_entries
plain_decided ticks limits tick stop room t thread s quiet lt le plain =
    let state : Decision → State = λ d. record { part = d.part; account = accounted ticks limits tick room d.part d.spent s.account } in
    ap state (quiet_decision limits tick stop room t thread s.part quiet lt le plain)
