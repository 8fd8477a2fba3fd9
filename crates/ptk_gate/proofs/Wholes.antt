-- The tables stay whole when one partition's part is replaced by a whole one.
use Rattle.std.proofs.Common.{◌≡◌, ◌≢◌, ℕ, ◌<◌, Bool, length, refl, sym, ◌∙◌, ap, subst, ◌⊎◌, inl, inr, true, false}
use Rattle.std.specs.Prelude.{Some, IsSome}
use Rattle.std.proofs.lemmas.Bool.{cases_eq, false≢true}
use Rattle.ptk_words.specs.Processor.{Processor}
use Rattle.ptk_words.specs.declared.faults.Cause.TheVariants as cause
use Rattle.ptk_words.specs.declared.faults.Status.TheVariants.{Stopped}
use Rattle.ptk_words.specs.declared.sections.Limits.{Limits}
use Rattle.ptk_words_model.specs.Instructions.{Effect, Done, Call, Break, Fault, effect_at}
use Rattle.ptk_words.specs.declared.threads.Thread.{Thread}
use Rattle.ptk_words_model.specs.State.{Part}
use Rattle.ptk_words_model.specs.Priority.{thread_at}
use Rattle.ptk_words_invariant.specs.Well.{IsWell}
use Rattle.ptk_words.specs.Pools.{is_in}
use Rattle.ptk_words.specs.declared.sections.Entry.{Entry}
use Rattle.ptk_words_model.specs.Decision.{after_arrivals}
use Rattle.ptk_words_model.specs.Schedule.{after_choice, after_interval}
use Rattle.ptk_words_model.specs.Unwinding.{after_unwinding_start, after_gate_step}
use Rattle.ptk_words_model.specs.Withdrawal.{after_expiries}
use Rattle.ptk_words.specs.Faults.{is_active}
use Rattle.ptk_words_sync_invariant.proofs.Lined.{ready_alive}
use Rattle.ptk_words_invariant.proofs.Effects.{HasLength, effect_length}
use Rattle.ptk_words_invariant.proofs.Parts.{well_last, well_memory, well_halt}
use Rattle.ptk_words_invariant.proofs.Threads.{well_cpu}
use Rattle.ptk_words_invariant.proofs.Turns.{well_choice, well_interval}
use Rattle.ptk_words_invariant.proofs.Waits.{well_arrivals}
use Rattle.ptk_words_invariant.proofs.Decisions.{well_gate_step}
use Rattle.ptk_words_invariant.proofs.Unwindings.{well_unwinding_start}
use Rattle.ptk_words_invariant.proofs.Timeouts.{well_expiries}
use Rattle.ptk_gate_pools.specs.Moves.{with_last_step}
use Rattle.ptk_gate_pools.specs.Kept.{Kept, AreWell, part_at, put_part, limits_at}
use Rattle.ptk_gate_pools.specs.Held.{Held, held, all_of, limits_here}
use Rattle.ptk_gate_pools.proofs.Hands.{lifted, lowered}
use Rattle.ptk_words_sync_invariant.specs.Conditions.{IsNoWaiter}
use Rattle.ptk_gate_pools.proofs.NoWaiters.{runner_apart}
use Rattle.ptk_gate_pools.proofs.Parted.{part_at-put, part_at-other, parts_put}
use Rattle.ptk_gate_steps.specs.Instructions.{after_instruction}
use Rattle.ptk_gate.specs.Whole.{AreWhole}

well_put : (p q : ℕ) (s : Part) (kept : Kept) → AreWell kept → p < length kept.limits → q < length kept.limits → IsWell (limits_at p kept) s → (q ≡ p) ⊎ (q ≢ p)
    → IsWell (limits_at q kept) (part_at q (put_part p s kept))
well_put p q s kept are lt within well (inl e) =
    let P : ℕ → Type 0 = λ i. IsWell (limits_at i kept) (part_at i (put_part p s kept)) in
    let Q : Part → Type 0 = λ part. IsWell (limits_at p kept) part in
    subst P (sym e) (subst Q (sym (part_at-put (length kept.limits) p s kept are.parts lt)) well)
well_put p q s kept are lt within well (inr ne) =
    let Q : Part → Type 0 = λ part. IsWell (limits_at q kept) part in
    subst Q (sym (part_at-other p q s kept ne)) (are.wells q within)

are_well_put : (p : ℕ) (s : Part) (kept : Kept) → AreWell kept → p < length kept.limits → IsWell (limits_at p kept) s → AreWell (put_part p s kept)
are_well_put p s kept are lt well = record {
  parts = parts_put (length kept.limits) p s kept are.parts;
  wells = λ q within. well_put p q s kept are lt within well (cases_eq q p);
}

-- a whole part is put
pub are_whole_put : (p : ℕ) (s : Part) (kept new : Kept) → new ≡ put_part p s kept → AreWhole kept → p < length kept.limits → IsWell (limits_at p kept) s → AreWhole new
are_whole_put p s kept new e are lt well =
    let P : Kept → Type 0 = AreWhole in
    subst P (sym e) (record { some = are.some; wells = are_well_put p s kept are.wells lt well; ranges = are.ranges })

-- each part is whole
pub well_at : (p : ℕ) (kept : Kept) → AreWhole kept → p < length kept.limits → IsWell (limits_at p kept) (part_at p kept)
well_at p kept are lt = are.wells.wells p lt

-- ---- moves of the part in hand, in the tables

-- what leaves the part whole leaves the tables whole
pub whole_lifted : (p : ℕ) (f : Limits → Part → Part) (pools taken new : Held) → taken ≡ held p (all_of pools) → new ≡ record taken { here = f (limits_here taken) taken.here } → AreWhole (all_of pools) → p < length pools.elsewhere.limits
    → IsWell (limits_at p (all_of pools)) (f (limits_at p (all_of pools)) (part_at p (all_of pools))) → AreWhole (all_of new)
whole_lifted p f pools taken new e moved are lt well =
    are_whole_put p (f (limits_at p (all_of pools)) (part_at p (all_of pools))) (all_of pools) (all_of new) (lifted p f (all_of pools) taken new e moved) are lt well

pub whole_arrivals : (p tick : ℕ) (pools taken new : Held) → taken ≡ held p (all_of pools) → new ≡ record taken { here = after_arrivals (limits_here taken) tick taken.here } → AreWhole (all_of pools) → p < length pools.elsewhere.limits → AreWhole (all_of new)
whole_arrivals p tick pools taken new e moved are lt =
    whole_lifted p (λ limits s. after_arrivals limits tick s) pools taken new e moved are lt (well_arrivals (limits_at p (all_of pools)) tick (part_at p (all_of pools)) (well_at p (all_of pools) are lt))

pub whole_expiries : (p tick : ℕ) (pools taken new : Held) → taken ≡ held p (all_of pools) → new ≡ record taken { here = after_expiries tick taken.here } → AreWhole (all_of pools) → p < length pools.elsewhere.limits → AreWhole (all_of new)
whole_expiries p tick pools taken new e moved are lt =
    whole_lifted p (λ limits s. after_expiries tick s) pools taken new e moved are lt (well_expiries (limits_at p (all_of pools)) tick (part_at p (all_of pools)) (well_at p (all_of pools) are lt))

pub whole_choice : (p : ℕ) (pools taken new : Held) → taken ≡ held p (all_of pools) → new ≡ record taken { here = after_choice taken.here } → AreWhole (all_of pools) → p < length pools.elsewhere.limits → is_active (part_at p (all_of pools)).status ≡ true → AreWhole (all_of new)
whole_choice p pools taken new e moved are lt active =
    whole_lifted p (λ limits s. after_choice s) pools taken new e moved are lt (well_choice (limits_at p (all_of pools)) (part_at p (all_of pools)) active (well_at p (all_of pools) are lt))

pub whole_unwinding : (p t value : ℕ) (pools taken new : Held) → taken ≡ held p (all_of pools) → new ≡ record taken { here = after_unwinding_start t value taken.here } → AreWhole (all_of pools) → p < length pools.elsewhere.limits → (part_at p (all_of pools)).running ≡ Some t → AreWhole (all_of new)
whole_unwinding p t value pools taken new e moved are lt runs =
    let s : Part = part_at p (all_of pools) in
    let well : IsWell (limits_at p (all_of pools)) s = well_at p (all_of pools) are lt in
    whole_lifted p (λ limits u. after_unwinding_start t value u) pools taken new e moved are lt
    (well_unwinding_start (limits_at p (all_of pools)) t value s (ready_alive (thread_at s.locks t) (well.running_ready t runs)) well)

-- a step of the running thread at the return gate
pub whole_gate_step : (p t : ℕ) (thread : Thread) (pools taken new : Held) → taken ≡ held p (all_of pools) → new ≡ record taken { here = after_gate_step thread.phase t thread taken.here } → AreWhole (all_of pools) → p < length pools.elsewhere.limits → (part_at p (all_of pools)).running ≡ Some t → AreWhole (all_of new)
whole_gate_step p t thread pools taken new e moved are lt runs =
    whole_lifted p (λ limits s. after_gate_step thread.phase t thread s) pools taken new e moved are lt
    (well_gate_step (limits_at p (all_of pools)) thread.phase t thread (part_at p (all_of pools)) runs (well_at p (all_of pools) are lt))

pub whole_last : (p : ℕ) (entry : Entry) (pools taken new : Held) → taken ≡ held p (all_of pools) → new ≡ record taken { here = with_last_step entry taken.here } → AreWhole (all_of pools) → p < length pools.elsewhere.limits → AreWhole (all_of new)
whole_last p entry pools taken new e moved are lt =
    whole_lifted p (λ limits s. with_last_step entry s) pools taken new e moved are lt (well_last (limits_at p (all_of pools)) (Some entry) (part_at p (all_of pools)) (well_at p (all_of pools) are lt))

-- an instruction leaves the part whole, before its call
pub well_instruction : (limits : Limits) (t pc : ℕ) (e : Effect) (s : Part) → HasLength (length s.memory) e → IsWell limits s → IsWell limits (after_instruction t pc e s)
well_instruction limits t pc (Done cpu memory) s same well = well_cpu limits t cpu (record s { memory = memory }) (well_memory limits memory s same well)
well_instruction limits t pc (Call cpu) s same well = well_cpu limits t cpu s well
well_instruction limits t pc Break s same well = well_halt limits (Stopped cause.Break pc) s well
well_instruction limits t pc (Fault kind) s same well = well_halt limits (Stopped (cause.Fault kind) pc) s well

pub whole_instruction : (p t : ℕ) (cpu : Processor) (pools taken new : Held) → taken ≡ held p (all_of pools) → new ≡ record taken { here = after_instruction t cpu.pc (effect_at cpu taken.here.memory) taken.here } → AreWhole (all_of pools) → p < length pools.elsewhere.limits → AreWhole (all_of new)
whole_instruction p t cpu pools taken new e moved are lt =
    let s : Part = part_at p (all_of pools) in
    whole_lifted p (λ limits u. after_instruction t cpu.pc (effect_at cpu u.memory) u) pools taken new e moved are lt
    (well_instruction (limits_at p (all_of pools)) t cpu.pc (effect_at cpu s.memory) s (effect_length (length s.memory) cpu s.memory refl) (well_at p (all_of pools) are lt))

-- ---- the end of a round-robin interval

-- the running thread in hand is not in the line
pub running_out_here : (p t : ℕ) (pools taken : Held) → taken ≡ held p (all_of pools) → AreWhole (all_of pools) → p < length pools.elsewhere.limits → taken.here.running ≡ Some t → is_in t taken.here.line ≡ false
running_out_here p t pools taken e are lt =
    lowered p (λ limits s. s.running ≡ Some t → is_in t s.line ≡ false) (all_of pools) taken e (λ runs. (well_at p (all_of pools) are lt).running_out t runs)

-- nor in a list of waiters
pub running_free_here : (p t : ℕ) (pools taken : Held) → taken ≡ held p (all_of pools) → AreWhole (all_of pools) → p < length pools.elsewhere.limits → taken.here.running ≡ Some t → IsNoWaiter t taken.here.mutexes taken.here.conditions
running_free_here p t pools taken e are lt =
    lowered p (λ limits s. s.running ≡ Some t → IsNoWaiter t s.mutexes s.conditions) (all_of pools) taken e
    (λ runs. runner_apart (limits_at p (all_of pools)) t (part_at p (all_of pools)) (well_at p (all_of pools) are lt) runs)

-- the interval is the section's
pub interval_here : (cost t : ℕ) (limits : Limits) (taken new : Held) → limits ≡ limits_here taken → new ≡ record taken { here = after_interval limits.interval cost t (thread_at taken.here.locks t) taken.here }
    → new ≡ record taken { here = after_interval (limits_here taken).interval cost t (thread_at taken.here.locks t) taken.here }
interval_here cost t limits taken new same moved = moved ∙ ap (λ (l : Limits). record taken { here = after_interval l.interval cost t (thread_at taken.here.locks t) taken.here }) same

pub whole_interval : (p cost t : ℕ) (limits : Limits) (pools taken new : Held) → taken ≡ held p (all_of pools) → limits ≡ limits_here taken → new ≡ record taken { here = after_interval limits.interval cost t (thread_at taken.here.locks t) taken.here } → AreWhole (all_of pools) → p < length pools.elsewhere.limits → AreWhole (all_of new)
whole_interval p cost t limits pools taken new e same moved are lt =
    let s : Part = part_at p (all_of pools) in
    whole_lifted p (λ l u. after_interval l.interval cost t (thread_at u.locks t) u) pools taken new e (interval_here cost t limits taken new same moved) are lt
    (well_interval (limits_at p (all_of pools)) cost t (thread_at s.locks t) s (well_at p (all_of pools) are lt))

-- a partition in which a thread runs is not halted
pub active_at : (limits : Limits) (s : Part) (b : Bool) → IsWell limits s → IsSome s.running → is_active s.status ≡ b → b ≡ true
active_at limits s true well runs e = refl
active_at limits s false well runs e = absurd (false≢true (subst IsSome (well.halted e) runs))

pub ruleset moves = (well_at, whole_instruction, whole_arrivals, whole_expiries, whole_choice, whole_unwinding, whole_gate_step, whole_last)

pub ruleset intervals = (running_out_here, running_free_here, interval_here, whole_interval)
