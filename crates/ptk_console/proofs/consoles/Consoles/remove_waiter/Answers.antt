use Rattle.ptk_words.specs.declared.sections.Limits.{Limits}
use Rattle.ptk_words_model.specs.State.{Console}
use Rattle.ptk_words_model.specs.Console.{without_waiter}
use Rattle.ptk_console.proofs.Moves.{moved}
use Rattle.ptk_console.proofs.consoles.Consoles.remove_waiter.Goals as goal

pub returns : goal.returns
returns c =
    moved (λ (_ : Limits) (console : Console). without_waiter c.args.thread console) c.self.inside.items.items c.args.self.now c.args.p c.index.result c.index_mut-console.result.now c.remove_waiter.new.self
    c.self.view_is c.index.ensures c.requires c.index_mut-console.ensures.value c.remove_waiter.ensures
