-- A thread that goes on past its ECALL leaves the tables whole, and still runs.
use Rattle.std.proofs.Common.{◌≡◌, ℕ, ◌<◌, true, length, refl, sym, ◌∙◌, ap, subst}
use Rattle.std.specs.Prelude.{Option, Some, None, IsSome, option_map}
use Rattle.ptk_words.specs.Pools.{pool_set}
use Rattle.ptk_words.specs.declared.sections.Limits.{Limits}
use Rattle.ptk_words.specs.declared.threads.Thread.{Thread}
use Rattle.ptk_words_model.specs.State.{Part, with_locks}
use Rattle.ptk_words_model.specs.Priority.{thread_at}
use Rattle.ptk_words_model.specs.Schedule.{with_thread}
use Rattle.ptk_words_model.specs.Decision.{with_thread_cpu}
use Rattle.ptk_words.specs.Faults.{is_active}
use Rattle.ptk_threads.specs.Registers.{with_pc}
use Rattle.ptk_words_invariant.specs.Well.{IsWell}
use Rattle.ptk_words_invariant.proofs.Threads.{well_cpu}
use Rattle.ptk_gate_pools.specs.Kept.{part_at, limits_at}
use Rattle.ptk_gate_pools.specs.Held.{Held, held, all_of}
use Rattle.ptk_gate_pools.proofs.Hands.{lifted}
use Rattle.ptk_gate_pools.proofs.Parted.{part_at-put}
use Rattle.ptk_gate.specs.Whole.{AreWhole}
use Rattle.ptk_gate.proofs.Wholes.{active_at, whole_lifted, well_at}

-- the entry of the number is this
abbrev with_entry : ℕ → Option Thread → Part → Part
with_entry t o s = with_locks (λ locks. record locks { threads = pool_set locks.threads t o }) s

-- the thread goes on at the address with its own registers
pub passed_as : (t pc : ℕ) (thread : Thread) (s : Part) → thread_at s.locks t ≡ Some thread
    → with_locks (with_thread t (with_pc pc)) s ≡ with_thread_cpu t (record thread.cpu { pc = pc }) s
passed_as t pc thread s e =
    let g : Thread → Thread = λ (own : Thread). record own { cpu = record thread.cpu { pc = pc } } in
    ap (λ (o : Option Thread). with_entry t (option_map (with_pc pc) o) s) e ∙ sym (ap (λ (o : Option Thread). with_entry t (option_map g o) s) e)

well_passed_by : (limits : Limits) (t pc : ℕ) (s : Part) (o : Option Thread) → thread_at s.locks t ≡ o → s.running ≡ Some t → IsWell limits s → IsWell limits (with_locks (with_thread t (with_pc pc)) s)
well_passed_by limits t pc s None e runs well = absurd (let no : ⊥ = cc (well.running_ready t runs) in no)
well_passed_by limits t pc s (Some thread) e runs well =
    subst (λ (after : Part). IsWell limits after) (sym (passed_as t pc thread s e)) (well_cpu limits t (record thread.cpu { pc = pc }) s well)

-- a running thread that goes on at the address leaves the partition whole
pub well_passed : (limits : Limits) (t pc : ℕ) (s : Part) → s.running ≡ Some t → IsWell limits s → IsWell limits (with_locks (with_thread t (with_pc pc)) s)
well_passed limits t pc s runs well = well_passed_by limits t pc s (thread_at s.locks t) refl runs well

pub whole_passed : (p t pc : ℕ) (pools taken new : Held) → taken ≡ held p (all_of pools) → new ≡ record taken { here = with_locks (with_thread t (with_pc pc)) taken.here } → AreWhole (all_of pools) → p < length pools.elsewhere.limits → (part_at p (all_of pools)).running ≡ Some t → AreWhole (all_of new)
whole_passed p t pc pools taken new e moved are lt runs =
    let s : Part = part_at p (all_of pools) in
    whole_lifted p (λ limits u. with_locks (with_thread t (with_pc pc)) u) pools taken new e moved are lt
    (well_passed (limits_at p (all_of pools)) t pc s runs (well_at p (all_of pools) are lt))

-- the part that is left
passed_part : (p t pc : ℕ) (pools taken new : Held) → taken ≡ held p (all_of pools) → new ≡ record taken { here = with_locks (with_thread t (with_pc pc)) taken.here } → AreWhole (all_of pools) → p < length pools.elsewhere.limits
    → part_at p (all_of new) ≡ with_locks (with_thread t (with_pc pc)) (part_at p (all_of pools))
passed_part p t pc pools taken new e moved are lt =
    ap (part_at p) (lifted p (λ limits u. with_locks (with_thread t (with_pc pc)) u) (all_of pools) taken new e moved)
    ∙ part_at-put (length pools.elsewhere.limits) p (with_locks (with_thread t (with_pc pc)) (part_at p (all_of pools))) (all_of pools) are.wells.parts lt

pub passed_running : (p t pc : ℕ) (pools taken new : Held) → taken ≡ held p (all_of pools) → new ≡ record taken { here = with_locks (with_thread t (with_pc pc)) taken.here } → AreWhole (all_of pools) → p < length pools.elsewhere.limits → (part_at p (all_of pools)).running ≡ Some t
    → IsSome (part_at p (all_of new)).running
passed_running p t pc pools taken new e moved are lt runs =
    subst (λ (part : Part). IsSome part.running) (sym (passed_part p t pc pools taken new e moved are lt)) (subst IsSome (sym runs) refl)

pub passed_active : (p t pc : ℕ) (pools taken new : Held) → taken ≡ held p (all_of pools) → new ≡ record taken { here = with_locks (with_thread t (with_pc pc)) taken.here } → AreWhole (all_of pools) → p < length pools.elsewhere.limits → (part_at p (all_of pools)).running ≡ Some t
    → is_active (part_at p (all_of new)).status ≡ true
passed_active p t pc pools taken new e moved are lt runs =
    let s : Part = part_at p (all_of pools) in
    ap (λ (part : Part). is_active part.status) (passed_part p t pc pools taken new e moved are lt)
    ∙ active_at (limits_at p (all_of pools)) s (is_active s.status) (well_at p (all_of pools) are lt) (subst IsSome (sym runs) refl) refl

pub ruleset passing = (whole_passed, passed_running, passed_active)
