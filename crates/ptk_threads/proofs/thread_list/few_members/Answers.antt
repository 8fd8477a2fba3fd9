use Rattle.std.proofs.Common.{rules}
use Rattle.ptk_threads.specs.Links.{links_of, place_of}
use Rattle.ptk_threads.proofs.Lists.{only_read}
use Rattle.ptk_threads.proofs.thread_list.few_members.Goals as goal

pub returns-in-Some-last : goal.returns-in-Some-last
returns-in-Some-last c =
    only_read (links_of c.args.slots.now) c.args.ends.now (place_of c.args.name) c.in-Some.first c.in-Some-last.last c.ends_of-end.result c.requires.queues c.ends_of-end.ensures c.in-Some.is c.in-Some-last.is (search rules)
