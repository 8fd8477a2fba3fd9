use Rattle.std.proofs.Common.{◌+◌, ◌≤◌, arith}
use Rattle.ptk_clock.proofs.ByThread.{IsLaid, laid_at, put_least}
use Rattle.ptk_clock.proofs.threads.keep_least.Goals as goal

pub least_in-kept-requires : goal.least_in-kept-requires
least_in-kept-requires c =
    let is : IsLaid 0 c.args.queue.now.slots c.slots_at-slots.result = laid_at 0 c.args.queue.now.slots c.args.p c.args.partitions.now c.slots_at-slots.result c.requires.laid c.slots_at-slots.ensures in
    let high : c.slots_at-slots.result.first + c.slots_at-slots.result.count ≤ c.args.queue.now.slots = is.high in
    omega (arith, high, c.requires.few)

pub returns : goal.returns
returns c =
    put_least c.args.p c.index.result c.args.partitions.now c.slots_at-slots.result c.index-partitions-index.result c.args.queue.now.pairs c.least_in-kept.result
    c.index.ensures c.slots_at-slots.ensures c.least_in-kept.ensures
