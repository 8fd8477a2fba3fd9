use Rattle.std.proofs.Common.{refl}
use Rattle.ptk_asm.proofs.Spots.{label_behind}
use Rattle.ptk_asm.proofs.statements.parts_of.Goals as goal

pub returns-in-Some-clause-behind : goal.returns-in-Some-clause-behind
returns-in-Some-clause-behind c =
    label_behind c.args.tokens.now c.in-Some.name.now _ _ c.if-tokens-lt2.false c.in-Some.ensures.label refl
