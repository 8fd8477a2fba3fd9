use Rattle.std.proofs.Common.{length}
use Rattle.ptk_kernel.proofs.Moves.{made_ready, ready_chosen, still_active}
use Rattle.ptk_kernel.proofs.decisions.prepare.Goals as goal

pub choose-requires-clause-active : goal.choose-requires-clause-active
choose-requires-clause-active c =
    still_active (length c.args.tables.now.limits) c.args.p c.args.tick c.args.tables.now c.arrive_due.new.self c.expire_due.new.self
    c.parts-parts.ensures.whole c.requires.partition c.requires.active c.arrive_due.ensures c.expire_due.ensures

pub returns-clause-moved : goal.returns-clause-moved
returns-clause-moved c =
    made_ready (length c.args.tables.now.limits) c.args.p c.args.tick c.args.tables.now c.arrive_due.new.self c.expire_due.new.self c.choose.new.self
    c.parts-parts.ensures.whole c.requires.partition c.arrive_due.ensures c.expire_due.ensures c.choose.ensures

pub returns-clause-chosen : goal.returns-clause-chosen
returns-clause-chosen c =
    ready_chosen (length c.args.tables.now.limits) c.args.p c.args.tick c.args.tables.now c.arrive_due.new.self c.expire_due.new.self c.choose.new.self
    c.parts-parts.ensures.whole c.requires.partition c.arrive_due.ensures c.expire_due.ensures c.choose.ensures
