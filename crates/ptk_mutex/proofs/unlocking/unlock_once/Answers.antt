use Rattle.std.proofs.Common.{rules, ap}
use Rattle.ptk_roster.specs.Rosters.{Rostered}
use Rattle.ptk_mutex.proofs.WokenMoves.{nobody-put}
use Rattle.ptk_mutex.proofs.unlocking.unlock_once.Goals as goal

pub amend-requires-clause-possible : goal.amend-requires-clause-possible
amend-requires-clause-possible c = search rules

pub returns-then-count-gt1-clause-roster : goal.returns-then-count-gt1-clause-roster
returns-then-count-gt1-clause-roster c = search rules

pub returns-else-count-gt1-clause-roster : goal.returns-else-count-gt1-clause-roster
returns-else-count-gt1-clause-roster c = search rules

pub returns-then-count-gt1-clause-woken : goal.returns-then-count-gt1-clause-woken
returns-then-count-gt1-clause-woken c = nobody-put c.args.p c.args.roster.now c.amend.new.roster (ap (λ (r : Rostered). r.table.threads) c.amend.ensures.roster)
