use Rattle.std.proofs.Common.{◌≡◌, ◌∙◌, sym, ap, length, arith}
use Rattle.ptk_clock.proofs.ByThread.{length-by}
use Rattle.ptk_clock.proofs.threads.ThreadDeadlines.parts.Goals as goal

pub returns : goal.returns
returns c =
    let count : length c.args.self.now ≡ length c.self.inside.partitions.items = ap length (sym c.self.view_is) ∙ length-by c.self.inside.partitions.items c.self.inside.queue.pairs in
    omega (arith, count)
