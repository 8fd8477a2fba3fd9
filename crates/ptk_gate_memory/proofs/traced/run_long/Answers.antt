use Rattle.std.proofs.Common.{◌≡◌, ℕ, ◌-◌, List, Some, length, take, drop, ap, ◌∙◌, arith, length-take}
use Rattle.std.proofs.lemmas.List.{take_all, length-drop}
use Rattle.ptk_words_model.specs.PlainSteps.{Core, core}
use Rattle.ptk_rv32i.specs.declared.brief.Note.{Note}
use Rattle.ptk_rv32i.specs.Notes.{stamped}
use Rattle.ptk_trace.specs.KeptSteps.{with_newest}
use Rattle.ptk_gate_memory.proofs.RowsTraced.{none_last}
use Rattle.ptk_gate_memory.proofs.Stamps.{briefly_traced, briefly_last}
use Rattle.ptk_gate_memory.proofs.traced.run_long.Goals as goal
use Rattle.ptk_gate_memory.proofs.traced.run_long.Goals.{then-steps-gt0, else-steps-gt0}

pub returns-clause-traced : goal.returns-clause-traced
returns-clause-traced c =
    let first : Core = core c.args.cpu.now c.args.memory.now in
    let steps : ℕ = c.run_briefly-steps.result in
    let gone : ℕ = c.saturating_sub-gone.result in
    let notes : List Note = take steps c.run_briefly-steps.new.notes in
    let newest : List Note = take (length notes - gone) (drop gone notes) in
    let rest : newest ≡ drop gone notes = take_all (length notes - gone) (drop gone notes) (omega (arith, length-drop gone notes)) in
    briefly_traced c.args.tick c.args.thread c.new-first.result steps gone first c.args.trace.now _ notes (c.note_newest.ensures ∙ ap (λ (some : List Note). with_newest (stamped c.new-first.result c.args.thread some) c.args.trace.now) rest) (omega (arith, c.new-first.ensures, c.ticks.ensures))
    (c.saturating_sub-gone.ensures ∙ ap (λ (k : ℕ). steps - k) c.capacity.ensures.value)
    (omega (arith, length-take steps c.run_briefly-steps.new.notes, c.saturating_sub-gone.ensures, c.run_briefly-steps.ensures.few, c.run_briefly-steps.ensures.room, c.run_briefly-steps.auto.notes)) (c.run_briefly-steps.ensures.noted c.args.tick c.args.thread)

pub returns-clause-last : goal.returns-clause-last
returns-clause-last c =
    let first : Core = core c.args.cpu.now c.args.memory.now in
    let steps : ℕ = c.run_briefly-steps.result in
    let notes : List Note = take steps c.run_briefly-steps.new.notes in
    elim c.if-steps-gt0.branch [
      | then-steps-gt0 w ↦ (w.last-is ∙ (w.put_last.ensures ∙ (ap Some w.entry_of.ensures
          ∙ briefly_last c.args.tick c.args.thread steps (steps - 1) w.new-when.result first c.args.last.now notes _ (omega (arith, w.if-steps-gt0.true)) (omega (arith, w.new-when.ensures, w.ticks-then-steps-gt0.ensures, w.if-steps-gt0.true))
          (omega (arith, length-take steps c.run_briefly-steps.new.notes, w.if-steps-gt0.true, c.run_briefly-steps.ensures.few, c.run_briefly-steps.ensures.room, c.run_briefly-steps.auto.notes)) (c.run_briefly-steps.ensures.noted c.args.tick c.args.thread))))
      | else-steps-gt0 w ↦ (w.last-is ∙ none_last c.args.tick c.args.thread steps first c.args.last.now (omega (arith, w.if-steps-gt0.false)))
    ]
