use Rattle.std.proofs.Common.{length}
use Rattle.ptk_words_model.specs.declared.Runner.{Runner}
use Rattle.ptk_words_model.specs.State.{Part}
use Rattle.ptk_words_model.specs.Decision.{after_step}
use Rattle.ptk_gate.specs.Kept.{part_at, limits_at}
use Rattle.ptk_kernel.proofs.Turns.{within_after}
use Rattle.ptk_kernel.proofs.WholeSteps.{step_made}
use Rattle.ptk_kernel.proofs.steps.make_step.Goals as goal

pub note-requires : goal.note-requires
note-requires c =
    let s : Part = part_at c.args.p c.args.tables.now in
    record {
      partition = within_after c.args.p c.args.next.now c.args.tables.now c.carry_out.new.tables (λ (r : Runner). after_step (limits_at c.args.p c.args.tables.now) c.args.tick r c.args.next.now.kind s) c.requires.next c.requires.partition c.carry_out.ensures;
    }

pub returns : goal.returns
returns c = λ r runs.
    step_made (length c.args.tables.now.limits) c.args.p c.args.tick c.args.next.now r c.args.tables.now c.carry_out.new.tables c.note.new.tables c.parts-parts.ensures.whole c.requires.partition c.requires.next runs
    (c.carry_out.ensures r runs) c.note.ensures
