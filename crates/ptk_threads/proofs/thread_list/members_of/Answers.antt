use Rattle.std.proofs.Common.{refl, arith}
use Rattle.ptk_threads.specs.Links.{place_of}
use Rattle.ptk_threads.proofs.Walks.{read_more, read_all}
use Rattle.ptk_threads.proofs.thread_list.members_of.Goals as goal

pub loop-preserved : goal.loop-preserved
loop-preserved c = read_more c.args.slots.now c.args.ends.now (place_of c.args.name) c.loop.counter c.in-Some.k c.loop.found _ c.loop.at _ _ c.loop.invariant c.loop-test.true c.in-Some.is c.push.ensures c.link_of-link.ensures refl

pub returns : goal.returns
returns c = read_all c.args.slots.now c.args.ends.now (place_of c.args.name) c.loop.counter c.loop.found c.loop.at c.loop.invariant c.requires.queues (omega arith)
