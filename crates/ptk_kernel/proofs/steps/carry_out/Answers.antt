use Rattle.std.proofs.Common.{◌∙◌, ap}
use Rattle.ptk_words_model.specs.State.{Part}
use Rattle.ptk_gate.specs.Kept.{part_at, put_part, limits_at}
use Rattle.ptk_kernel.proofs.Turns.{next_runs, call_stepped}
use Rattle.ptk_kernel.proofs.steps.carry_out.Goals as goal

pub make_call-requires-clause-running : goal.make_call-requires-clause-running
make_call-requires-clause-running c = next_runs (part_at c.args.p c.args.tables.now) c.args.next.now c.requires.next

pub returns-in-CallStep : goal.returns-in-CallStep
returns-in-CallStep c = λ r runs.
    let s : Part = part_at c.args.p c.args.tables.now in
    c.make_call.ensures
    ∙ ap (λ (q : Part). put_part c.args.p q c.args.tables.now)
    (call_stepped (limits_at c.args.p c.args.tables.now) c.args.tick c.in-CallStep.field-0 c.args.next.now r s c.requires.next runs c.in-CallStep.is)
