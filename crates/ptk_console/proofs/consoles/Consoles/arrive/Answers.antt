use Rattle.ptk_words.specs.declared.sections.Limits.{Limits}
use Rattle.ptk_words_model.specs.State.{Console}
use Rattle.ptk_console.specs.ConsoleTable.{after_next_byte}
use Rattle.ptk_console.proofs.Moves.{moved}
use Rattle.ptk_console.proofs.consoles.Consoles.arrive.Goals as goal

pub returns-clause-moved : goal.returns-clause-moved
returns-clause-moved c =
    moved (λ (limits : Limits) (console : Console). after_next_byte limits.ring c.args.tick console) c.self.inside.items.items c.args.self.now c.args.p c.index.result c.index_mut-console.result.now c.arrive.new.self
    c.self.view_is c.index.ensures c.requires c.index_mut-console.ensures.value c.arrive.ensures.moved
