use Rattle.ptk_threads.specs.Links.{links_of, place_of}
use Rattle.ptk_threads.proofs.Walks.{IsRead}
use Rattle.ptk_threads.proofs.thread_list.members_of.Given as goal

abbrev pub invariant-loop : goal.invariant-loop
invariant-loop l = IsRead (links_of l.slots) l.ends (place_of l.fn.name) l.found l.at l.counter
