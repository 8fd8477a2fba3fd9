use Rattle.std.proofs.Common.{arith}
use Rattle.std.proofs.lemmas.Grind.{common_steps}
use Rattle.ptk_words.specs.declared.sections.Limits.{Limits}
use Rattle.ptk_words_model.specs.State.{Console}
use Rattle.ptk_console.specs.ConsoleTable.{after_put}
use Rattle.ptk_console.proofs.Moves.{moved}
use Rattle.ptk_console.proofs.consoles.Consoles.put.Goals as goal

pub returns-clause-moved : goal.returns-clause-moved
returns-clause-moved c =
    moved (λ (limits : Limits) (console : Console). after_put limits.output c.args.byte console) c.self.inside.items.items c.args.self.now c.args.p c.index.result c.index_mut-console.result.now c.put.new.self
    c.self.view_is c.index.ensures c.requires c.index_mut-console.ensures.value c.put.ensures.moved

pub returns-clause-told : goal.returns-clause-told
returns-clause-told c = grind (arith, common_steps)
