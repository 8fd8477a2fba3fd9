-- What plain steps in a row keep of a state.
use Rattle.std.proofs.Common.{ℕ, zero, suc, ◌+◌, ◌<◌, subst, arith}
use Rattle.std.specs.Prelude.{map}
use Rattle.ptk_words.specs.Pools.{numbers_to}
use Rattle.ptk_words.specs.declared.sections.Limits.{Limits}
use Rattle.ptk_words.specs.declared.threads.Thread.{Thread}
use Rattle.ptk_words.proofs.Pools.{length-changed}
use Rattle.ptk_words_model.specs.PlainSteps.{Core, plain_steps}
use Rattle.ptk_words_model.specs.State.{Part}
use Rattle.ptk_words_model.specs.Decision.{Decision}
use Rattle.ptk_words_invariant.specs.Well.{IsWell}
use Rattle.ptk_words_invariant.proofs.Decisions.{well_decision}
use Rattle.ptk_words_laws.specs.Quiet.{IsQuiet, ArePlain, core_of, computed, after_row, thread_after}
use Rattle.ptk_words_laws.specs.QuietLaws.{RowKeepsPriorities, RowKeepsWell}
use Rattle.ptk_words_laws.proofs.PlainDecisions.{quiet_decision}
use Rattle.ptk_words_laws.proofs.QuietRows.{same_rank, row_stays}
use Rattle.ptk_words_laws.proofs.TicksInARow.{part_more}

pub priorities_kept : (tick t n : ℕ) (thread : Thread) (s : Part) → RowKeepsPriorities tick t n thread s
priorities_kept tick t n thread s =
    let c : Core = plain_steps n (core_of thread s) in
    λ i. map (same_rank t n c.cpu s.threads s.mutexes i) (numbers_to (length-changed t (computed n c.cpu) s.threads i))

-- ---- whole states

one_well : (limits : Limits) (tick stop t : ℕ) (thread : Thread) (s : Part) → IsQuiet limits tick stop t thread s → tick < stop → ArePlain 1 (core_of thread s) → IsWell limits s → IsWell limits (after_row tick t 1 thread s)
unfolding plain_steps
one_well limits tick stop t thread s quiet lt plain well =
    subst (λ (d : Decision). IsWell limits d.part) (quiet_decision limits tick stop 1 t thread s quiet lt (omega arith) (plain 0 (omega arith))) (well_decision limits tick 1 s quiet.active well)

next_plain : (n : ℕ) (thread : Thread) (s : Part) (tick t : ℕ) → ArePlain (suc n) (core_of thread s) → ArePlain 1 (core_of (thread_after n thread s) (after_row tick t n thread s))
unfolding plain_steps
next_plain n thread s tick t plain zero lt = plain n (omega arith)
next_plain n thread s tick t plain (suc k) lt = absurd (omega (arith, lt))

pub well_kept : (limits : Limits) (tick stop t n : ℕ) (thread : Thread) (s : Part) → RowKeepsWell limits tick stop t n thread s
well_kept limits tick stop t zero thread s quiet le within plain well = absurd (omega (arith, le))
well_kept limits tick stop t (suc zero) thread s quiet le within plain well = one_well limits tick stop t thread s quiet (omega (arith, within)) plain well
well_kept limits tick stop t (suc (suc n)) thread s quiet le within plain well =
    let fewer : ArePlain (suc n) (core_of thread s) = λ k lt. plain k (omega (arith, lt)) in
    let before : IsWell limits (after_row tick t (suc n) thread s) = well_kept limits tick stop t (suc n) thread s quiet (omega arith) (omega (arith, within)) fewer well in
    let now : IsQuiet limits (tick + suc n) stop t (thread_after (suc n) thread s) (after_row tick t (suc n) thread s) = row_stays limits tick stop t (suc n) thread s quiet (omega arith) (omega (arith, within)) fewer in
    subst (IsWell limits) (part_more tick t (suc n) thread s)
    (one_well limits (tick + suc n) stop t (thread_after (suc n) thread s) (after_row tick t (suc n) thread s) now (omega (arith, within)) (next_plain (suc n) thread s tick t plain) before)
