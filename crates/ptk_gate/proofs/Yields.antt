-- The step of a sched_yield in its parts: the caller goes to the tail with 0 in a0, and no thread runs, so that no tick counts.
use Rattle.std.proofs.Common.{◌≡◌, ℕ, zero, suc, ◌+◌, Bool, true, false, List, [], ◌∷◌, refl, sym, ◌∙◌, ap, subst}
use Rattle.std.specs.Prelude.{Option, Some, None, IsSome, ◌&&◌, ◌==◌, nat_le, option_map, slice_index, slice_set, if◌then◌else◌}
use Rattle.std.specs.List.{list_any}
use Rattle.std.proofs.lemmas.Bool.{eq-eqb, not-true}
use Rattle.ptk_words.specs.Pools.{is_in, pool_changed, without}
use Rattle.ptk_words.specs.Processor.{register}
use Rattle.ptk_words.specs.Threads.{is_ended}
use Rattle.ptk_words.specs.Words.{word_of}
use Rattle.ptk_words.specs.declared.TheConstants.{A0, ECALL}
use Rattle.ptk_words.specs.declared.calls.Call.TheVariants.{SchedYield}
use Rattle.ptk_words.specs.declared.sections.Entry.{Entry}
use Rattle.ptk_words.specs.declared.sections.Limits.{Limits}
use Rattle.ptk_words.specs.declared.threads.Thread.{Thread}
use Rattle.ptk_words.proofs.Pools.{changed_own}
use Rattle.ptk_threads.specs.Registers.{with_pc}
use Rattle.ptk_words_model.specs.declared.Invocation.{Invocation}
use Rattle.ptk_words_model.specs.State.{Part, with_locks}
use Rattle.ptk_words_model.specs.Priority.{thread_at}
use Rattle.ptk_words_model.specs.Schedule.{after_interval, after_turn_end, at_tail, is_round_robin, is_running, unused, with_registers, with_reply, with_thread, with_thread_used}
use Rattle.ptk_words_model.specs.Calls.{replied}
use Rattle.ptk_words_model.specs.CallTable.{answer_to}
use Rattle.ptk_words_model.specs.ThreadCalls.{after_placing}
use Rattle.ptk_words_model.specs.Unwinding.{is_alive}
use Rattle.ptk_words_sync_invariant.specs.Conditions.{IsNoWaiter}
use Rattle.ptk_words_sync_invariant.proofs.Lined.{ready_alive}
use Rattle.ptk_words_invariant.specs.Well.{IsWell}
use Rattle.ptk_gate_pools.specs.Held.{Held, limits_here}
use Rattle.ptk_gate_pools.specs.Moves.{with_last_step}
use Rattle.ptk_gate_pools.proofs.NoWaiters.{runner_apart}
use Rattle.ptk_gate_threads.proofs.Ready.{running_in_use}
use Rattle.ptk_gate_steps.specs.NextSteps.{a0_kept}
use Rattle.ptk_gate.specs.CallSteps.{ecall_entry, finished, past_ecall}
use Rattle.ptk_gate.proofs.Passing.{well_passed}

-- ---- past its ECALL

-- the caller goes on at this address
abbrev gone_on : ℕ → ℕ → Part → Part
gone_on t address s = with_locks (with_thread t (with_pc address)) s

-- it is in use
pub passed_in_use : (t address : ℕ) (old mid : Held) → mid ≡ record old { here = gone_on t address old.here } → IsWell (limits_here old) old.here → old.here.running ≡ Some t → IsSome (thread_at mid.here.locks t)
passed_in_use t address old mid passed well runs =
    subst (λ (h : Held). IsSome (thread_at h.here.locks t)) (sym passed)
    (running_in_use (limits_here old) (gone_on t address old.here) t (well_passed (limits_here old) t address old.here runs well) runs)

-- it is not in the line
pub passed_out : (t address : ℕ) (old mid : Held) → mid ≡ record old { here = gone_on t address old.here } → IsWell (limits_here old) old.here → old.here.running ≡ Some t → is_in t mid.here.line ≡ false
passed_out t address old mid passed well runs = subst (λ (h : Held). is_in t h.here.line ≡ false) (sym passed) (well.running_out t runs)

-- nor in a list of waiters
pub passed_free : (t address : ℕ) (old mid : Held) → mid ≡ record old { here = gone_on t address old.here } → IsWell (limits_here old) old.here → old.here.running ≡ Some t
    → IsNoWaiter t mid.here.mutexes mid.here.conditions
passed_free t address old mid passed well runs =
    subst (λ (h : Held). IsNoWaiter t h.here.mutexes h.here.conditions) (sym passed) (runner_apart (limits_here old) t old.here well runs)

-- ---- the call

-- what a yield leaves
abbrev yielded : ℕ → Part → Part
yielded t s = replied t (0 ∷ []) (after_turn_end t s)

-- the caller runs, so its turn ends
yield_is : (i : Invocation) (t : ℕ) (s : Part) → i.caller ≡ t → s.running ≡ Some t → (answer_to (Some SchedYield) i s).part ≡ yielded t s
yield_is i t s same runs =
    let lined : Part = if list_any (λ u. u == t) s.line then with_locks (λ locks. at_tail t (record locks { line = without t locks.line })) s else s in
    ap (λ (u : ℕ). replied u (0 ∷ []) (after_placing at_tail u s)) same
    ∙ ap (λ (b : Bool). replied t (0 ∷ []) (if b then after_turn_end t s else lined)) (ap (is_running t) runs ∙ eq-eqb t t refl)

-- ---- what the step notes

zero_read : (words : List ℕ) (i : ℕ) → slice_index (slice_set words i 0) i ≡ 0
zero_read [] i = refl
zero_read (word ∷ words) zero = refl
zero_read (word ∷ words) (suc i) = zero_read words i

a0_told : (before : ℕ) (o : Option Thread) → is_alive o ≡ true → a0_kept before (option_map (with_reply (0 ∷ [])) (option_map unused o)) ≡ 0
a0_told before None alive = absurd (let no : ⊥ = cc in no)
a0_told before (Some thread) alive =
    ap (λ (b : Bool). if b then before else register (with_registers thread.cpu A0 (0 ∷ [])) A0) (not-true (is_ended thread.phase) alive)
    ∙ zero_read thread.cpu.registers A0

-- a0 is 0
a0_yielded : (before t : ℕ) (s : Part) → is_alive (thread_at s.locks t) ≡ true → a0_kept before (thread_at (yielded t s).locks t) ≡ 0
a0_yielded before t s alive =
    ap (a0_kept before) (changed_own t (with_reply (0 ∷ [])) (pool_changed t unused s.threads) ∙ ap (option_map (with_reply (0 ∷ []))) (changed_own t unused s.threads))
    ∙ a0_told before (thread_at s.locks t) alive

-- no tick counts where no thread runs
idle_interval : (interval cost t : ℕ) (o : Option Thread) (s : Part) → s.running ≡ None → after_interval interval cost t o s ≡ s
idle_interval interval cost t None s idle = refl
idle_interval interval cost t (Some thread) s idle =
    let counted : Part = if nat_le interval (thread.used + cost) then after_turn_end t s else with_thread_used t (thread.used + cost) s in
    ap (λ (running : Option ℕ). if is_running t running && is_round_robin thread.policy then counted else s) idle

-- the step noted is all
finished_yield : (limits : Limits) (tick t pc cost : ℕ) (i : Invocation) (s : Part) → i.caller ≡ t → i.tick ≡ tick → is_alive (thread_at s.locks t) ≡ true
    → finished limits (ecall_entry pc i) cost (yielded t s) ≡ with_last_step (record { tick = tick; thread = t; pc = pc; word = ECALL; a0 = 0 }) (yielded t s)
finished_yield limits tick t pc cost i s same at alive =
    let left : Part = yielded t s in
    let noted : ℕ → ℕ → ℕ → Part = λ k u a0. with_last_step (record { tick = k; thread = u; pc = pc; word = ECALL; a0 = a0 }) left in
    idle_interval limits.interval cost i.caller (thread_at left.locks i.caller) (noted i.tick i.caller (a0_kept i.a0 (thread_at left.locks i.caller))) refl
    ∙ ap (λ (u : ℕ). noted i.tick u (a0_kept i.a0 (thread_at left.locks u))) same
    ∙ ap (λ (k : ℕ). noted k t (a0_kept i.a0 (thread_at left.locks t))) at
    ∙ ap (noted tick t) (a0_yielded i.a0 t s alive)

-- ---- the step

-- the pc passed, the turn's end with 0 in a0, and the entry are the step of a sched_yield
pub yield_made : (tick t pc cost : ℕ) (i : Invocation) (old mid left new : Held) → mid ≡ record old { here = past_ecall t pc old.here } → left ≡ record mid { here = replied t (0 ∷ []) (after_turn_end t mid.here) }
    → new ≡ record left { here = with_last_step (record { tick = tick; thread = t; pc = pc; word = ECALL; a0 = 0 }) left.here } → IsWell (limits_here old) old.here → old.here.running ≡ Some t → i.caller ≡ t → i.tick ≡ tick
    → new ≡ record old { here = finished (limits_here old) (ecall_entry pc i) cost (answer_to (Some SchedYield) i (past_ecall t pc old.here)).part }
yield_made tick t pc cost i old mid left new passed ended noted well runs same at =
    let s : Part = past_ecall t pc old.here in
    let entry : Entry = record { tick = tick; thread = t; pc = pc; word = ECALL; a0 = 0 } in
    let alive : is_alive (thread_at s.locks t) ≡ true = ready_alive (thread_at s.locks t) ((well_passed (limits_here old) t (word_of (pc + 4)) old.here runs well).running_ready t runs) in
    noted
    ∙ ap (λ (h : Held). record h { here = with_last_step entry h.here }) ended
    ∙ ap (λ (h : Held). record h { here = with_last_step entry (yielded t h.here) }) passed
    ∙ ap (λ (q : Part). record old { here = q })
    (sym (ap (finished (limits_here old) (ecall_entry pc i) cost) (yield_is i t s same runs) ∙ finished_yield (limits_here old) tick t pc cost i s same at alive))

pub ruleset yields = (passed_in_use, passed_out, passed_free)
