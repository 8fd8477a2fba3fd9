use Rattle.std.proofs.Common.{length}
use Rattle.ptk_words_model.specs.declared.Runner.{Runner}
use Rattle.ptk_words_model.specs.State.{Part}
use Rattle.ptk_gate.specs.Kept.{part_at, limits_at}
use Rattle.ptk_kernel.specs.StepParts.{stepped}
use Rattle.ptk_kernel.proofs.Turns.{within_after}
use Rattle.ptk_kernel.proofs.WholeSteps.{whole_made}
use Rattle.ptk_kernel.proofs.steps.whole_step.Goals as goal

pub count_interval-requires : goal.count_interval-requires
count_interval-requires c =
    let s : Part = part_at c.args.p c.args.tables.now in
    record {
      partition = within_after c.args.p c.args.next.now c.args.tables.now c.make_step.new.tables (λ (r : Runner). stepped (limits_at c.args.p c.args.tables.now) c.args.tick r c.args.next.now.kind s) c.requires.next c.requires.partition c.make_step.ensures;
    }

pub returns : goal.returns
returns c = λ r runs.
    whole_made (length c.args.tables.now.limits) c.args.p c.args.tick c.args.cost c.args.next.now r c.args.tables.now c.make_step.new.tables c.count_interval.new.self c.parts-parts.ensures.whole c.requires.partition c.requires.next runs c.requires.cost
    (c.make_step.ensures r runs) c.count_interval.ensures
