use Rattle.std.proofs.Common.{◌+◌, sym, subst, arith, rules}
use Rattle.ptk_words.proofs.Options.{some_of}
use Rattle.ptk_words_laws.specs.Quiet.{IsQuiet}
use Rattle.ptk_kernel.specs.Kept.{limits_at, part_at}
use Rattle.ptk_system_machine.specs.Whole.{Whole}
use Rattle.ptk_system_machine.proofs.machine.Machine.quiet_until.Goals as goal

pub returns-clause-full : goal.returns-clause-full
returns-clause-full c = λ at.
    some_of c.quiet_until.result _ (c.quiet_until.ensures.full at.t (c.args.tick + 1) at.thread (omega arith) (omega (arith, c.requires.order))
    (subst (λ (w : Whole). IsQuiet (limits_at c.args.p w.kept) c.args.tick (c.args.tick + 1) at.t at.thread (part_at c.args.p w.kept)) (sym c.self.view_is) at.quiet))

pub returns-clause-quiet : goal.returns-clause-quiet
returns-clause-quiet c = search rules
