-- Decisions, the start and whole runs keep the sizes of a state.
use Rattle.std.proofs.Common.{arith, ◌≡◌, ℕ, zero, suc, ◌-◌, ◌≤◌, Bool, true, false, List, [], ◌∷◌, ◌++◌, length, length-drop}
use Rattle.std.proofs.lemmas.Bool.{cond_both}
use Rattle.std.proofs.lemmas.List.Elements.{All-replicate}
use Rattle.std.specs.Prelude.{Option, Some, None, Result, Ok, Err, fold, nat_lt, option_to_list, if◌then◌else◌}
use Rattle.ptk_words.specs.Calls.{call_of}
use Rattle.ptk_words.specs.Image.{ImageParts, image_of}
use Rattle.ptk_words.specs.Processor.{register}
use Rattle.ptk_words.specs.declared.TheConstants.{A7}
use Rattle.ptk_words.specs.declared.faults.ImageFault.{ImageFault}
use Rattle.ptk_words.specs.declared.sections.Arrival.{Arrival}
use Rattle.ptk_words.specs.declared.sections.Limits.{Limits}
use Rattle.ptk_words.specs.declared.threads.Cleanup.{Cleanup}
use Rattle.ptk_words.specs.declared.threads.Phase.{Phase}
use Rattle.ptk_words.specs.declared.threads.Phase.TheVariants.{Normal, Unwinding, Ended}
use Rattle.ptk_words.specs.declared.threads.Thread.{Thread}
use Rattle.ptk_words.specs.declared.threads.Wait.{Wait}
use Rattle.ptk_words.specs.declared.threads.Wait.TheVariants.{InputWait}
use Rattle.ptk_words_model.specs.Instructions.{Effect, Call, effect_at}
use Rattle.ptk_words_model.specs.Windows.{OwnTicks}
use Rattle.ptk_words_model.specs.declared.Spent.{Spent}
use Rattle.ptk_words_model.specs.declared.Spent.TheVariants.{Step, Idle, Lost}
use Rattle.ptk_words_model.specs.declared.Runner.{Runner}
use Rattle.ptk_words_model.specs.declared.StepKind.{StepKind}
use Rattle.ptk_words_model.specs.declared.StepKind.TheVariants.{UnwindingStart, GateStep}
use Rattle.ptk_words_model.specs.State.{Console, Locks, Part, Account, State}
use Rattle.ptk_words_model.specs.Priority.{thread_at}
use Rattle.ptk_words_model.specs.Schedule.{after_choice_between, first_ready, after_interval}
use Rattle.ptk_words_model.specs.Mutex.{wait_of, after_owner_end}
use Rattle.ptk_words_model.specs.Keys.{DestructorCall, next_destructor}
use Rattle.ptk_words_model.specs.Console.{arriving, without_arriving}
use Rattle.ptk_words_model.specs.Unwinding.{after_join_by, after_release, after_end, after_destructor_or_end, after_unwinding_move, cleanups_of, after_gate_step}
use Rattle.ptk_words_model.specs.Withdrawal.{after_timeout, Expiry, due, in_order, after_expiries}
use Rattle.ptk_words_model.specs.Decision.{after_arrival_for, first_waiter, after_arrival, after_arrivals, runner_of, step_kind, step_cost, with_thread_cpu, invocation, after_effect, after_step, entry_of, Decision, after_turn, ready_at, after_decision, spent_by_decision}
use Rattle.ptk_words_model.specs.Run.{empty_part, fits, memory_of, with_image, start_part, accounted, decided, is_at, after_tick_until, alone}
use Rattle.ptk_words_invariant.proofs.Effects.{HasLength, effect_length}
use Rattle.ptk_words_invariant.proofs.Starts.{memory_fits}
use Rattle.ptk_words_laws.specs.Sizes.{IsSized, StartIsSized, CallsKeepSizes, DecisionsKeepSizes, SizesStay}
use Rattle.ptk_words_laws.proofs.Sizes.Kept.{kept}
use Rattle.ptk_words_laws.proofs.Sizes.Rows.{part_either, call_sized}

-- ---- unwinding and a thread's end

joined_threads : (o : Option ℕ) (result n : ℕ) (x : Locks) → length x.threads ≡ n → length (after_join_by o result x).threads ≡ n
joined_threads None result n x h = h
joined_threads (Some u) result n x h = search kept

joined_mutexes : (o : Option ℕ) (result n : ℕ) (x : Locks) → length x.mutexes ≡ n → length (after_join_by o result x).mutexes ≡ n
joined_mutexes None result n x h = h
joined_mutexes (Some u) result n x h = h

locks_either : (b : Bool) (x y : Locks) (s : Part) (l : Limits) → IsSized l (record s { syncs = record (s.syncs) { locks = x } }) → IsSized l (record s { syncs = record (s.syncs) { locks = y } })
    → IsSized l (record s { syncs = record (s.syncs) { locks = if b then x else y } })
locks_either true x y s l h k = h
locks_either false x y s l h k = k

released_sized : (l : Limits) (t : ℕ) (o : Option Thread) (x : Locks) (s : Part) → length x.threads ≡ l.threads → length x.mutexes ≡ l.mutexes → IsSized l s → IsSized l (record s { syncs = record (s.syncs) { locks = after_release t o x } })
released_sized l t None x s threads mutexes h = search kept
released_sized l t (Some thread) x s threads mutexes h = search (locks_either, joined_threads, joined_mutexes, kept) depth 8

last_sized : (l : Limits) (t : ℕ) (s : Part) → IsSized l s → IsSized l (after_end t s)
last_sized l t s h =
    let released = released_sized l t (thread_at s.locks t) (after_owner_end t s.locks) s (search kept) (search kept) h in
    search (part_either, kept) depth 8

destructor_sized : (l : Limits) (t : ℕ) (o : Option DestructorCall) (s : Part) → IsSized l s → IsSized l (after_destructor_or_end t o s)
destructor_sized l t None s h = last_sized l t s h
destructor_sized l t (Some call) s h = search kept depth 8

unwinding_sized : (l : Limits) (t : ℕ) (cleanups : List Cleanup) (s : Part) → IsSized l s → IsSized l (after_unwinding_move t cleanups s)
unwinding_sized l t [] s h = destructor_sized l t (next_destructor s.keys t) s h
unwinding_sized l t (cleanup ∷ cleanups) s h = search kept depth 8

gate_step_sized : (l : Limits) (phase : Phase) (t : ℕ) (thread : Thread) (s : Part) → IsSized l s → IsSized l (after_gate_step phase t thread s)
gate_step_sized l Normal t thread s h = search (part_either, kept) depth 8
gate_step_sized l Unwinding t thread s h = unwinding_sized l t (cleanups_of s t) s h
gate_step_sized l Ended t thread s h = h

-- ---- a step

effect_sized : (l : Limits) (tick t pc : ℕ) (effect : Effect) (s : Part) → HasLength l.memory effect → IsSized l s → IsSized l (after_effect l tick t pc effect s)
effect_sized l tick t pc (Call cpu) s k h =
    let read : IsSized l (with_thread_cpu t cpu s) = search kept depth 8 in
    (call_sized (call_of (register cpu A7)) (invocation l tick t cpu) (with_thread_cpu t cpu s) read).part
effect_sized l tick t pc _ s k h = search kept depth 8

step_sized : (l : Limits) (tick : ℕ) (r : Runner) (kind : StepKind) (s : Part) → IsSized l s → IsSized l (after_step l tick r kind s)
step_sized l tick r UnwindingStart s h = search kept depth 8
step_sized l tick r GateStep s h = gate_step_sized l r.thread.phase r.number r.thread s h
step_sized l tick r _ s h = effect_sized l tick r.number r.thread.cpu.pc (effect_at r.thread.cpu s.memory) s (effect_length l.memory r.thread.cpu s.memory h.memory) h

interval_sized : (l : Limits) (interval cost t : ℕ) (o : Option Thread) (s : Part) → IsSized l s → IsSized l (after_interval interval cost t o s)
interval_sized l interval cost t None s h = h
interval_sized l interval cost t (Some thread) s h = search (part_either, kept) depth 10

turn_sized : (l : Limits) (tick room : ℕ) (o : Option Runner) (s : Part) → IsSized l s → IsSized l (after_turn l tick room o s)
turn_sized l tick room None s h = h
turn_sized l tick room (Some r) s h =
    let kind : StepKind = step_kind s r.number r.thread in
    let after : Part = after_step l tick r kind s in
    let stepped : IsSized l after = step_sized l tick r kind s h in
    let thread : Option Thread = thread_at after.locks r.number in
    cond_both (nat_lt room (step_cost kind)) _ _ (λ (d : Decision). IsSized l d.part) (λ e. h)
    (λ e. interval_sized l l.interval (step_cost kind) r.number thread (record after { last = Some (entry_of tick r kind s.memory thread) }) (search kept))

-- ---- what comes before a step

arrival_sized : (l : Limits) (o : Option ℕ) (byte : ℕ) (s : Part) → IsSized l s → IsSized l (after_arrival_for o l.ring byte s)
arrival_sized l None byte s h =
    cond_both (nat_lt (length s.console.ring) l.ring) _ _ (λ (console : Console). IsSized l (record s { console = console })) (λ e. search kept depth 8) (λ e. search kept depth 8)
arrival_sized l (Some t) byte s h = search kept depth 8

arrived_sized : (l : Limits) (arrivals : List Arrival) (s : Part) → IsSized l s → IsSized l (fold (after_arrival l.ring) s arrivals)
arrived_sized l [] s h = h
arrived_sized l (a ∷ arrivals) s h = arrived_sized l arrivals (after_arrival l.ring s a) (arrival_sized l (first_waiter s) a.byte s h)

timeout_sized : (l : Limits) (t : ℕ) (wait : Option Wait) (s : Part) → IsSized l s → IsSized l (after_timeout t wait s)
timeout_sized l t (Some InputWait) s h = h
timeout_sized l t _ s h = search kept depth 8

timeouts_sized : (l : Limits) (expiries : List Expiry) (s : Part) → IsSized l s → IsSized l (fold (λ u a. after_timeout a.thread (wait_of (thread_at u.locks a.thread)) u) s expiries)
timeouts_sized l [] s h = h
timeouts_sized l (a ∷ expiries) s h =
    timeouts_sized l expiries (after_timeout a.thread (wait_of (thread_at s.locks a.thread)) s) (timeout_sized l a.thread (wait_of (thread_at s.locks a.thread)) s h)

choice_sized : (l : Limits) (running first : Option ℕ) (s : Part) → IsSized l s → IsSized l (after_choice_between running first s)
choice_sized l running None s h = h
choice_sized l None (Some t) s h = search kept depth 8
choice_sized l (Some r) (Some t) s h = search (part_either, kept) depth 8

decision_sized : (l : Limits) (tick room : ℕ) (s : Part) → IsSized l s → IsSized l (after_decision l tick room s)
decision_sized l tick room s h =
    let come : Part = after_arrivals l tick s in
    let arrived : IsSized l come = arrived_sized l (arriving tick s.console) (record s { console = without_arriving tick s.console }) (search kept) in
    let past : Part = after_expiries tick come in
    let expired : IsSized l past = timeouts_sized l (in_order (due tick come)) come arrived in
    turn_sized l tick room (runner_of (ready_at l tick s)) (ready_at l tick s) (choice_sized l past.running (first_ready past.locks) past expired)

-- ---- the start

empty_sized : (l : Limits) (input : List Arrival) → IsSized l (empty_part l input)
empty_sized l input =
    let ring : 0 ≤ l.ring = omega arith in
    let output : 0 ≤ l.output = omega arith in
    search (All-replicate, kept)

image_sized : (l : Limits) (result : Result ImageParts ImageFault) (s : Part) → IsSized l s → IsSized l (with_image l result s)
image_sized l (Err fault) s h = search kept
image_sized l (Ok image) s h =
    cond_both (fits l image) _ _ (IsSized l) (λ e. let memory : length (memory_of l image) ≡ l.memory = memory_fits l image e in search kept depth 8) (λ e. search kept)

start_sized : (l : Limits) (image : Option (List ℕ)) (input : List Arrival) → IsSized l (start_part l image input)
start_sized l None input = empty_sized l input
start_sized l (Some bytes) input = image_sized l (image_of bytes) (empty_part l input) (empty_sized l input)

-- ---- whole runs

-- a state with its trace
record StateSized (l : Limits) (s : State) : Type 0 where
  pub part : IsSized l s.part
  pub trace : length s.account.trace ≤ l.trace

accounted_sized : (ticks : OwnTicks) (l : Limits) (tick room : ℕ) (part : Part) (spent : Spent) (account : Account) → length account.trace ≤ l.trace → length (accounted ticks l tick room part spent account).trace ≤ l.trace
accounted_sized ticks l tick room part Idle account h = h
accounted_sized ticks l tick room part Lost account h = h
accounted_sized ticks l tick room part (Step cost) account h =
    let all : List _ = account.trace ++ option_to_list part.last in omega (arith, length-drop (length all - l.trace) all)

tick_sized : (o : Option ℕ) (ticks : OwnTicks) (l : Limits) (tick : ℕ) (s : State) → StateSized l s → StateSized l (after_tick_until o ticks l tick s)
tick_sized None ticks l tick s h = h
tick_sized (Some end) ticks l tick s h =
    cond_both (is_at tick s.account.next) (decided ticks l tick (end - tick) s) s (StateSized l)
    (λ e. record {
      part = decision_sized l tick (end - tick) s.part h.part;
      trace = accounted_sized ticks l tick (end - tick) (after_decision l tick (end - tick) s.part) (spent_by_decision l tick (end - tick) s.part) s.account h.trace;
    }) (λ e. h)

alone_sized : (ticks : OwnTicks) (l : Limits) (image : Option (List ℕ)) (input : List Arrival) (n : ℕ) → StateSized l (alone ticks l image input n)
alone_sized ticks l image input zero = record { part = start_sized l image input; trace = omega arith }
alone_sized ticks l image input (suc n) = tick_sized (ticks.end_at n) ticks l n (alone ticks l image input n) (alone_sized ticks l image input n)

-- ---- the laws

pub start_keeps : (l : Limits) (image : Option (List ℕ)) (input : List Arrival) → StartIsSized l image input
start_keeps l image input = start_sized l image input

pub calls_keep : (s : Part) → CallsKeepSizes s
calls_keep s number i h = (call_sized (call_of number) i s h).part

pub decisions_keep : (l : Limits) (s : Part) → DecisionsKeepSizes l s
decisions_keep l s tick room h = decision_sized l tick room s h

pub sizes_stay : (ticks : OwnTicks) (l : Limits) (image : Option (List ℕ)) (input : List Arrival) → SizesStay ticks l image input
sizes_stay ticks l image input n = let h : StateSized l (alone ticks l image input n) = alone_sized ticks l image input n in (h.part, h.trace)
