-- The pc passed, the call, its entry and its ticks in the interval are the step of an ECALL.
use Rattle.std.proofs.Common.{◌≡◌, ℕ, ◌+◌, ◌%◌, ◌<◌, ◌≤◌, Bool, true, false, not, List, length, refl, sym, ◌∙◌, ap, subst, arith}
use Rattle.std.specs.Prelude.{Option, Some, None, IsSome, ◌&&◌, ◌==◌, nat_le, nat_lt, option_map, unwrap_or, if◌then◌else◌}
use Rattle.std.proofs.lemmas.Bool.{eqb-true, le-ltb, lt-ltb}
use Rattle.std.proofs.Math.Bool.{and-false}
use Rattle.ptk_words.specs.Calls.{call_of, cost_of}
use Rattle.ptk_words.specs.Pools.{is_in}
use Rattle.ptk_words.specs.Processor.{Processor, register}
use Rattle.ptk_words.specs.Words.{word_of, word_at}
use Rattle.ptk_words.specs.declared.TheConstants.{A0, A7, ECALL, RETURN_GATE}
use Rattle.ptk_words.specs.declared.calls.Call.{Call}
use Rattle.ptk_words.specs.declared.faults.FaultKind.TheVariants.{Fetch, Misaligned}
use Rattle.ptk_words.specs.declared.sections.Entry.{Entry}
use Rattle.ptk_words.specs.declared.sections.Limits.{Limits}
use Rattle.ptk_words.specs.declared.threads.Thread.{Thread}
use Rattle.ptk_words_model.specs.Instructions as instructions
use Rattle.ptk_words_model.specs.Instructions.{Effect, can_fetch, decode_of, effect_at, effect_of_word, with_next_pc}
use Rattle.ptk_words_model.specs.declared.Invocation.{Invocation}
use Rattle.ptk_words_model.specs.declared.Runner.{Runner}
use Rattle.ptk_words_model.specs.declared.Spent.TheVariants.{Step, Lost}
use Rattle.ptk_words_model.specs.declared.StepKind.TheVariants.{UnwindingStart, GateStep, CallStep, InstructionStep}
use Rattle.ptk_words_model.specs.State.{Part}
use Rattle.ptk_words_model.specs.Priority.{thread_at}
use Rattle.ptk_words_model.specs.Schedule.{after_interval, after_turn_end, is_round_robin, is_running, with_thread_used}
use Rattle.ptk_words_model.specs.CallTable.{answer_to}
use Rattle.ptk_words_model.specs.Decision.{a0_after, after_effect, after_step, Decision, turn, after_turn, after_whole_step, invocation, is_to_unwind, runner_in, runner_of, spent_in_turn, step_kind, word_fetched}
use Rattle.ptk_words_sync_invariant.specs.Conditions.{IsNoWaiter}
use Rattle.ptk_words_invariant.specs.Well.{IsWell}
use Rattle.ptk_words_invariant.proofs.Calls.{well_answer_to}
use Rattle.ptk_words_invariant.proofs.Decisions.{runner_runs, well_turn}
use Rattle.ptk_gate_pools.specs.Kept.{part_at, limits_at}
use Rattle.ptk_gate_pools.specs.Held.{Held, held, all_of, limits_here}
use Rattle.ptk_gate_pools.specs.Moves.{with_last_step}
use Rattle.ptk_gate_pools.proofs.NoWaiters.{runner_apart}
use Rattle.ptk_gate_threads.proofs.Requested.{runner_thread}
use Rattle.ptk_gate_steps.specs.NextSteps.{IsCallNext, a0_kept}
use Rattle.ptk_gate.specs.Whole.{AreWhole}
use Rattle.ptk_gate.specs.CallSteps.{ecall_entry, finished, past_ecall}
use Rattle.ptk_gate.proofs.Passing.{passed_as, well_passed}
use Rattle.ptk_gate.proofs.Wholes.{whole_lifted, well_at}

-- ---- the thread that runs

pub runner_found : (running : Option ℕ) (s : Part) (r : Runner) → running ≡ Some r.number → runner_in running s ≡ Some r → thread_at s.locks r.number ≡ Some r.thread
runner_found running s r runs e = runner_thread r.number (thread_at s.locks r.number) r (sym (ap (λ (o : Option ℕ). runner_in o s) runs) ∙ e)

abbrev runner : ℕ → Thread → Runner
runner t thread = record { number = t; thread = thread }

-- the thread that runs, and whose next step is a call, is in use
next_found : (t : ℕ) (s : Part) (next : IsCallNext t s) → thread_at s.locks t ≡ Some next.0
next_found t s next = runner_found s.running s (runner t next.0) (runner_runs s (runner t next.0) next.1) next.1

pub next_in_use : (t : ℕ) (s : Part) → IsCallNext t s → IsSome (thread_at s.locks t)
next_in_use t s next = subst (λ (o : Option Thread). IsSome o) (sym (next_found t s next)) refl

-- it is the one that was looked at
next_seen : (t : ℕ) (seen : Thread) (s : Part) → Some seen ≡ thread_at s.locks t → IsCallNext t s
    → (runner_of s ≡ Some (record { number = t; thread = seen })) × (step_kind s t seen ≡ CallStep (register seen.cpu A7))
next_seen t seen s looked next =
    let same : next.0 ≡ seen = ap (λ (o : Option Thread). unwrap_or o seen) (sym (looked ∙ next_found t s next)) in
    subst (λ (thread : Thread). (runner_of s ≡ Some (runner t thread)) × (step_kind s t thread ≡ CallStep (register thread.cpu A7))) same (next.1, next.2)

-- ---- the word of an ECALL

ecall_effect : (cpu : Processor) (memory : List ℕ) (word : ℕ) → word ≡ ECALL → effect_of_word cpu memory word (decode_of word) ≡ instructions.Call (with_next_pc cpu)
ecall_effect cpu memory word e = rw e refl

fetched_call : (cpu : Processor) (memory : List ℕ) (aligned inside : Bool) → (if aligned && inside then word_at memory cpu.pc else 0) ≡ ECALL
    → (if not aligned then instructions.Fault Misaligned else (if inside then effect_of_word cpu memory (word_at memory cpu.pc) (decode_of (word_at memory cpu.pc)) else instructions.Fault Fetch)) ≡ instructions.Call (with_next_pc cpu)
fetched_call cpu memory true true e = ecall_effect cpu memory (word_at memory cpu.pc) e
fetched_call cpu memory true false e = absurd (omega (arith, e))
fetched_call cpu memory false inside e = absurd (omega (arith, e))

-- the word of an ECALL makes a call
pub ecall_calls : (cpu : Processor) (memory : List ℕ) → word_fetched memory cpu.pc ≡ ECALL → effect_at cpu memory ≡ instructions.Call (with_next_pc cpu)
ecall_calls cpu memory e = fetched_call cpu memory (cpu.pc % 4 == 0) (can_fetch memory cpu.pc) e

kind_calls : (unwinds gate : Bool) (word a7 number : ℕ) (calls : Bool) → (word == ECALL) ≡ calls
    → (if unwinds then UnwindingStart else if gate then GateStep else if calls then CallStep a7 else InstructionStep) ≡ CallStep number → word ≡ ECALL
kind_calls true gate word a7 number calls is e = absurd (let no : ⊥ = cc in no)
kind_calls false true word a7 number calls is e = absurd (let no : ⊥ = cc in no)
kind_calls false false word a7 number true is e = eqb-true word ECALL is
kind_calls false false word a7 number false is e = absurd (let no : ⊥ = cc in no)

-- the word of a call's step is an ECALL
pub call_fetched : (t number : ℕ) (thread : Thread) (s : Part) → step_kind s t thread ≡ CallStep number → word_fetched s.memory thread.cpu.pc ≡ ECALL
call_fetched t number thread s kind =
    kind_calls (is_to_unwind s t thread) (thread.cpu.pc == RETURN_GATE) (word_fetched s.memory thread.cpu.pc) (register thread.cpu A7) number (word_fetched s.memory thread.cpu.pc == ECALL) refl kind

-- ---- the entry

-- a0 as it is kept is the model's
pub a0_is : (before : Thread) (after : Option Thread) → a0_kept (register before.cpu A0) after ≡ a0_after before after
a0_is before None = refl
a0_is before (Some thread) = refl

-- ---- the step

-- what the call leaves that this thread's registers state, its pc past the ECALL
abbrev called_by : Limits → ℕ → ℕ → Thread → Part → Part
called_by limits tick t thread s = (answer_to (call_of (register thread.cpu A7)) (invocation limits tick t thread.cpu) (past_ecall t thread.cpu.pc s)).part

-- the pc passed, and then the call, are the step
called_is : (limits : Limits) (tick t : ℕ) (thread : Thread) (s : Part) → runner_of s ≡ Some (record { number = t; thread = thread }) → word_fetched s.memory thread.cpu.pc ≡ ECALL
    → called_by limits tick t thread s ≡ after_step limits tick (record { number = t; thread = thread }) (CallStep (register thread.cpu A7)) s
called_is limits tick t thread s runs word =
    let cpu : Processor = thread.cpu in
    let found : thread_at s.locks t ≡ Some thread = runner_found s.running s (runner t thread) (runner_runs s (runner t thread) runs) runs in
    ap (λ (q : Part). (answer_to (call_of (register cpu A7)) (invocation limits tick t cpu) q).part) (passed_as t (word_of (cpu.pc + 4)) thread s found)
    ∙ ap (λ (effect : Effect). after_effect limits tick t cpu.pc effect s) (sym (ecall_calls cpu s.memory word))

-- with its entry and its ticks in the interval they are the whole step
finished_is : (limits : Limits) (tick t : ℕ) (thread : Thread) (s : Part) → runner_of s ≡ Some (record { number = t; thread = thread }) → word_fetched s.memory thread.cpu.pc ≡ ECALL
    → finished limits (ecall_entry thread.cpu.pc (invocation limits tick t thread.cpu)) (cost_of (register thread.cpu A7)) (called_by limits tick t thread s)
    ≡ after_whole_step limits tick (record { number = t; thread = thread }) (CallStep (register thread.cpu A7)) s
finished_is limits tick t thread s runs word =
    let number : ℕ = register thread.cpu A7 in
    let after : Part = after_step limits tick (runner t thread) (CallStep number) s in
    let left : Option Thread = thread_at after.locks t in
    let noted : ℕ → ℕ → Part = λ w a0. after_interval limits.interval (cost_of number) t left (record after { last = Some (record { tick = tick; thread = t; pc = thread.cpu.pc; word = w; a0 = a0 }) }) in
    ap (finished limits (ecall_entry thread.cpu.pc (invocation limits tick t thread.cpu)) (cost_of number)) (called_is limits tick t thread s runs word)
    ∙ ap (noted ECALL) (a0_is thread left)
    ∙ ap (λ (w : ℕ). noted w (a0_after thread left)) (sym word)

-- ---- the turn

-- the turn of a thread whose next step is this call, by whether its cost is too much for the room
abbrev made_or_lost : Limits → ℕ → ℕ → Runner → Part → Bool → Decision
made_or_lost limits tick number r s lost =
    if lost then record { spent = Lost; part = s } else record { spent = Step (cost_of number); part = after_whole_step limits tick r (CallStep number) s }

turn_is : (limits : Limits) (tick room number : ℕ) (r : Runner) (s : Part) (lost : Bool) → runner_of s ≡ Some r → step_kind s r.number r.thread ≡ CallStep number → nat_lt room (cost_of number) ≡ lost
    → turn limits tick room (runner_of s) s ≡ made_or_lost limits tick number r s lost
turn_is limits tick room number r s lost runs kind is = ap (λ (o : Option Runner). turn limits tick room o s) runs ∙ rw (kind, is) refl

over : (room cost paid : ℕ) → paid ≡ cost → room < paid → nat_lt room cost ≡ true
over room cost paid e lt = lt-ltb room cost (omega (arith, e, lt))

fits : (room cost paid : ℕ) → paid ≡ cost → paid ≤ room → nat_lt room cost ≡ false
fits room cost paid e le = le-ltb room cost (omega (arith, e, le))

-- the cost does not fit, and nothing changes
pub call_lost : (tick room cost t : ℕ) (seen : Thread) (pools : Held) → Some seen ≡ thread_at pools.here.locks t → IsCallNext t pools.here → cost ≡ cost_of (register seen.cpu A7) → room < cost
    → pools ≡ record pools { here = after_turn (limits_here pools) tick room (runner_of pools.here) pools.here }
call_lost tick room cost t seen pools looked next paid lt =
    let s : Part = pools.here in
    let limits : Limits = limits_here pools in
    let number : ℕ = register seen.cpu A7 in
    let is = next_seen t seen s looked next in
    sym (ap (λ (d : Decision). record pools { here = d.part }) (turn_is limits tick room number (runner t seen) s true is.0 is.1 (over room (cost_of number) cost paid lt)))

pub lost_told : (limits : Limits) (tick room cost t : ℕ) (seen : Thread) (s : Part) → Some seen ≡ thread_at s.locks t → IsCallNext t s → cost ≡ cost_of (register seen.cpu A7) → room < cost → Lost ≡ spent_in_turn limits tick room (runner_of s) s
lost_told limits tick room cost t seen s looked next paid lt =
    let number : ℕ = register seen.cpu A7 in
    let is = next_seen t seen s looked next in
    sym (ap (λ (d : Decision). d.spent) (turn_is limits tick room number (runner t seen) s true is.0 is.1 (over room (cost_of number) cost paid lt)))

-- the cost fits, and the call is made
pub call_made : (tick room cost pc t : ℕ) (seen : Thread) (known : Option Call) (i : Invocation) (old new : Held) → Some seen ≡ thread_at old.here.locks t → IsCallNext t old.here → cost ≡ cost_of (register seen.cpu A7) → cost ≤ room
    → pc ≡ seen.cpu.pc → known ≡ call_of (register seen.cpu A7) → i ≡ invocation (limits_here old) tick t seen.cpu
    → new ≡ record old { here = finished (limits_here old) (ecall_entry pc i) cost (answer_to known i (past_ecall i.caller pc old.here)).part }
    → new ≡ record old { here = after_turn (limits_here old) tick room (runner_of old.here) old.here }
call_made tick room cost pc t seen known i old new looked next paid le at named states moved =
    let s : Part = old.here in
    let limits : Limits = limits_here old in
    let number : ℕ = register seen.cpu A7 in
    let is = next_seen t seen s looked next in
    let made : ℕ → ℕ → Option Call → Invocation → Held = λ c a k j. record old { here = finished limits (ecall_entry a j) c (answer_to k j (past_ecall j.caller a s)).part } in
    moved
    ∙ ap (λ (c : ℕ). made c pc known i) paid
    ∙ ap (λ (a : ℕ). made (cost_of number) a known i) at
    ∙ ap (λ (k : Option Call). made (cost_of number) seen.cpu.pc k i) named
    ∙ ap (made (cost_of number) seen.cpu.pc (call_of number)) states
    ∙ ap (λ (q : Part). record old { here = q })
    (finished_is limits tick t seen s is.0 (call_fetched t number seen s is.1)
    ∙ sym (ap (λ (d : Decision). d.part) (turn_is limits tick room number (runner t seen) s false is.0 is.1 (fits room (cost_of number) cost paid le))))

pub made_told : (limits : Limits) (tick room cost t : ℕ) (seen : Thread) (s : Part) → Some seen ≡ thread_at s.locks t → IsCallNext t s → cost ≡ cost_of (register seen.cpu A7) → cost ≤ room → Step cost ≡ spent_in_turn limits tick room (runner_of s) s
made_told limits tick room cost t seen s looked next paid le =
    let number : ℕ = register seen.cpu A7 in
    let is = next_seen t seen s looked next in
    ap Step paid ∙ sym (ap (λ (d : Decision). d.spent) (turn_is limits tick room number (runner t seen) s false is.0 is.1 (fits room (cost_of number) cost paid le)))

-- ---- what holds of the partition

-- a turn leaves the tables whole
pub whole_turn : (p tick room : ℕ) (pools taken new : Held) → taken ≡ held p (all_of pools) → new ≡ record taken { here = after_turn (limits_here taken) tick room (runner_of taken.here) taken.here } → AreWhole (all_of pools) → p < length pools.elsewhere.limits → AreWhole (all_of new)
whole_turn p tick room pools taken new e moved are lt =
    let s : Part = part_at p (all_of pools) in
    whole_lifted p (λ limits u. after_turn limits tick room (runner_of u) u) pools taken new e moved are lt
    (well_turn (limits_at p (all_of pools)) tick room (runner_of s) s (runner_runs s) (well_at p (all_of pools) are lt))

-- past its ECALL the partition is whole
pub past_well : (pc : ℕ) (i : Invocation) (old mid : Held) → mid ≡ record old { here = past_ecall i.caller pc old.here } → old.here.running ≡ Some i.caller → IsWell (limits_here old) old.here → IsWell (limits_here mid) mid.here
past_well pc i old mid moved runs well =
    subst (λ (h : Held). IsWell (limits_here h) h.here) (sym moved) (well_passed (limits_here old) i.caller (word_of (pc + 4)) old.here runs well)

-- and after its call
pub called_well : (known : Option Call) (pc : ℕ) (i : Invocation) (old mid new : Held) → mid ≡ record old { here = past_ecall i.caller pc old.here } → new ≡ record mid { here = (answer_to known i mid.here).part }
    → i.limits ≡ limits_here old → old.here.running ≡ Some i.caller → IsWell (limits_here old) old.here → IsWell (limits_here new) new.here
called_well known pc i old mid new passed moved same runs well =
    let s : Part = past_ecall i.caller pc old.here in
    let left : Part = (answer_to known i s).part in
    let past : IsWell (limits_here old) s = well_passed (limits_here old) i.caller (word_of (pc + 4)) old.here runs well in
    let called : IsWell (limits_here old) left =
    subst (λ (limits : Limits). IsWell limits left) same (well_answer_to known i s runs (subst (λ (limits : Limits). IsWell limits s) (sym same) past)) in
    subst (λ (h : Held). IsWell (limits_here h) h.here) (sym (moved ∙ ap (λ (h : Held). record h { here = (answer_to known i h.here).part }) passed)) called

-- once the step is noted the running thread is in no line
pub noted_out : (t : ℕ) (entry : Entry) (old noted : Held) → noted ≡ record old { here = with_last_step entry old.here } → IsWell (limits_here old) old.here → noted.here.running ≡ Some t → is_in t noted.here.line ≡ false
noted_out t entry old noted moved well =
    subst (λ (h : Held). h.here.running ≡ Some t → is_in t h.here.line ≡ false) (sym moved) (well.running_out t)

-- nor in a list of waiters
pub noted_free : (t : ℕ) (entry : Entry) (old noted : Held) → noted ≡ record old { here = with_last_step entry old.here } → IsWell (limits_here old) old.here → noted.here.running ≡ Some t → IsNoWaiter t noted.here.mutexes noted.here.conditions
noted_free t entry old noted moved well =
    subst (λ (h : Held). h.here.running ≡ Some t → IsNoWaiter t h.here.mutexes h.here.conditions) (sym moved) (runner_apart (limits_here old) t old.here well)

-- ---- the interval

-- no tick counts of a thread that is not of SCHED_RR
not_counted : (interval cost t : ℕ) (o : Option Thread) (s : Part) → unwrap_or (option_map (λ (thread : Thread). is_round_robin thread.policy) o) false ≡ false → after_interval interval cost t o s ≡ s
not_counted interval cost t None s e = refl
not_counted interval cost t (Some thread) s e =
    let counted : Part = if nat_le interval (thread.used + cost) then after_turn_end t s else with_thread_used t (thread.used + cost) s in
    ap (λ (b : Bool). if is_running t s.running && b then counted else s) e
    ∙ ap (λ (b : Bool). if b then counted else s) (and-false (is_running t s.running))

noted_as : (entry : Entry) (a0 : ℕ) (old : Held) → a0 ≡ a0_kept entry.a0 (thread_at old.here.locks entry.thread)
    → with_last_step (record entry { a0 = a0 }) old.here ≡ with_last_step (record entry { a0 = a0_kept entry.a0 (thread_at old.here.locks entry.thread) }) old.here
noted_as entry a0 old e = ap (λ (a : ℕ). with_last_step (record entry { a0 = a }) old.here) e

-- the step noted is all
pub finished_uncounted : (cost a0 : ℕ) (entry : Entry) (counts : Bool) (old new : Held) → a0 ≡ a0_kept entry.a0 (thread_at old.here.locks entry.thread)
    → counts ≡ unwrap_or (option_map (λ (thread : Thread). is_round_robin thread.policy) (thread_at old.here.locks entry.thread)) false → counts ≡ false
    → new ≡ record old { here = with_last_step (record entry { a0 = a0 }) old.here } → new ≡ record old { here = finished (limits_here old) entry cost old.here }
finished_uncounted cost a0 entry counts old new left told none moved =
    let noted : Part = with_last_step (record entry { a0 = a0_kept entry.a0 (thread_at old.here.locks entry.thread) }) old.here in
    moved
    ∙ ap (λ (q : Part). record old { here = q })
    (noted_as entry a0 old left ∙ sym (not_counted (limits_here old).interval cost entry.thread (thread_at old.here.locks entry.thread) noted (sym told ∙ none)))

-- the step is noted, and then its ticks count
pub finished_counted : (cost a0 : ℕ) (entry : Entry) (limits : Limits) (old mid new : Held) → a0 ≡ a0_kept entry.a0 (thread_at old.here.locks entry.thread)
    → mid ≡ record old { here = with_last_step (record entry { a0 = a0 }) old.here } → limits ≡ limits_here mid
    → new ≡ record mid { here = after_interval limits.interval cost entry.thread (thread_at mid.here.locks entry.thread) mid.here }
    → new ≡ record old { here = finished (limits_here old) entry cost old.here }
finished_counted cost a0 entry limits old mid new left noted same moved =
    moved
    ∙ ap (λ (l : Limits). record mid { here = after_interval l.interval cost entry.thread (thread_at mid.here.locks entry.thread) mid.here }) same
    ∙ ap (λ (h : Held). record h { here = after_interval (limits_here h).interval cost entry.thread (thread_at h.here.locks entry.thread) h.here }) noted
    ∙ ap (λ (q : Part). record old { here = after_interval (limits_here old).interval cost entry.thread (thread_at old.here.locks entry.thread) q }) (noted_as entry a0 old left)

pub ruleset whole_turns = (whole_turn, well_at)

pub ruleset finishes = (noted_out, noted_free, finished_uncounted, finished_counted)
