use Rattle.std.proofs.Common.{List, ap, sym, ◌∙◌}
use Rattle.std.specs.Prelude.{Option}
use Rattle.ptk_words.specs.declared.threads.Thread.{Thread}
use Rattle.ptk_threads.proofs.Pools.{unused_same}
use Rattle.ptk_threads.proofs.threads.Threads.update_if_used.Goals as goal

pub returns-else-is_some : goal.returns-else-is_some
returns-else-is_some g c =
    ap (λ (threads : List (List (Option Thread))). record c.args.self.now { threads = threads })
    (sym (unused_same c.thread_ref.result c.args.p c.args.k (g.C.ThreadChange.changed c.args.change.now) c.args.self.now.threads (sym c.is_some.ensures ∙ c.if-is_some.false) c.thread_ref.ensures))
