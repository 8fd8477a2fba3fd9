use Rattle.std.proofs.Common.{ap}
use Rattle.ptk_words.specs.Parts.{part_of}
use Rattle.ptk_roster.specs.Rosters.{Rostered}
use Rattle.ptk_mutex.proofs.Raised.{block_before, block_next, block_put, inheritor-read, stored_visited}
use Rattle.ptk_mutex.proofs.rising.block.Goals as goal

pub rise_behind-requires-clause-before : goal.rise_behind-requires-clause-before
rise_behind-requires-clause-before c =
    let a : Rostered = c.args.roster.now in
    let mid : Rostered = c.wait_for_mutex.new.self in
    block_before c.args.p c.args.t c.args.m c.args.wait a.table mid.table a.lines a.mutexes mid.mutexes c.requires.ready c.requires.caller.awake (ap (λ (r : Rostered). r.mutexes) c.wait_for_mutex.ensures) (ap (λ (r : Rostered). r.table) c.wait_for_mutex.ensures)

pub rise_behind-requires-clause-next : goal.rise_behind-requires-clause-next
rise_behind-requires-clause-next c =
    let a : Rostered = c.args.roster.now in
    let mid : Rostered = c.wait_for_mutex.new.self in
    block_next c.args.p c.args.t c.args.m c.args.wait c.inheritor_of-inheritor.result a.table mid.table a.lines a.mutexes mid.mutexes c.requires.ready c.requires.named c.requires.caller.used
    (inheritor-read c.args.m c.inheritor_of-inheritor.result (part_of a.mutexes c.args.p) c.mutex_slots.result.now c.mutex_slots.ensures.mutexes c.inheritor_of-inheritor.ensures)
    (ap (λ (r : Rostered). r.mutexes) c.wait_for_mutex.ensures) (ap (λ (r : Rostered). r.table) c.wait_for_mutex.ensures)

pub returns-clause-roster : goal.returns-clause-roster
returns-clause-roster c = block_put c.args.p c.args.t c.args.m c.args.wait c.args.roster.now c.wait_for_mutex.new.self c.rise_behind.new.roster c.requires.ready.part c.wait_for_mutex.ensures c.rise_behind.ensures.stored

pub returns-clause-visited : goal.returns-clause-visited
returns-clause-visited c =
    let a : Rostered = c.args.roster.now in
    let mid : Rostered = c.wait_for_mutex.new.self in
    stored_visited c.args.p _ a.table mid.table c.rise_behind.new.roster.table (ap (λ (r : Rostered). r.table.stored) c.wait_for_mutex.ensures) c.rise_behind.ensures.visited
