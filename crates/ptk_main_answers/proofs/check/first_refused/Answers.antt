use Rattle.std.proofs.Common.{◌∙◌, ap, sym, arith}
use Rattle.ptk_main_answers.proofs.Images.{first_refused_is, none_refused, none_refused_to, refused_image_is}
use Rattle.ptk_main_answers.specs.Images.{refusal_in}
use Rattle.ptk_main_answers.proofs.check.first_refused.Goals as goal

pub returns-in-Some-clause-place : goal.returns-in-Some-clause-place
returns-in-Some-clause-place c =
    first_refused_is c.args.system.now c.loop-i.i c.new-p.result c.in-Some.fault c.states_are_alone.ensures.all c.requires (omega (arith, c.loop-i-test.true, c.parts-i-end.ensures.count))
    c.new-p.ensures c.loop-i.invariant (sym c.in-Some.is ∙ c.refusal_in.ensures ∙ ap refusal_in c.status.ensures)

pub returns-in-Some-clause-fault : goal.returns-in-Some-clause-fault
returns-in-Some-clause-fault c =
    refused_image_is c.args.system.now c.new-p.result c.in-Some.fault c.states_are_alone.ensures.all c.requires (omega (arith, c.new-p.ensures, c.loop-i-test.true, c.parts-i-end.ensures.count)) (sym c.in-Some.is ∙ c.refusal_in.ensures ∙ ap refusal_in c.status.ensures)

pub loop-i-preserved : goal.loop-i-preserved
loop-i-preserved c =
    none_refused_to c.args.system.now c.loop-i.i c.new-p.result c.states_are_alone.ensures.all c.requires (omega (arith, c.loop-i-test.true, c.parts-i-end.ensures.count)) c.new-p.ensures c.loop-i.invariant
    (sym c.in_default.is ∙ c.refusal_in.ensures ∙ ap refusal_in c.status.ensures)

pub returns-clause-place : goal.returns-clause-place
returns-clause-place c =
    none_refused c.args.system.now c.loop-i.i (omega (arith, c.loop-i-test.false, c.loop-i.auto.i-end, c.parts-i-end.ensures.count)) c.loop-i.invariant
