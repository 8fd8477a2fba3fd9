use Rattle.std.proofs.lemmas.Grind.{common_steps}
use Rattle.std.proofs.Common.{sym, ◌∙◌, ap, subst, arith}
use Rattle.ptk_gate_pools.specs.Held.{all_of}
use Rattle.ptk_gate_pools.proofs.Hands.{all-held}
use Rattle.ptk_gate.specs.Whole.{AreWhole}
use Rattle.ptk_gate.proofs.Blanks.{whole_blank, memory_of_words}
use Rattle.ptk_gate.proofs.tables.Tables.new.Goals as goal

pub invariant_of-result : goal.invariant_of-result
invariant_of-result c =
    subst AreWhole (sym (ap all_of c.in_ok-pools.ensures ∙ all-held 0 _)) (whole_blank (λ input. input.now) c.args.limits.now c.args.inputs.now c.requires.some c.requires.few c.requires.inputs c.requires.ranges)

pub build-requires-clause-memory : goal.build-requires-clause-memory
build-requires-clause-memory c = memory_of_words c.args.limits.now c.requires.ranges

pub returns : goal.returns
returns c = grind (arith, common_steps)
