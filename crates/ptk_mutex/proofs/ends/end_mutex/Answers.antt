use Rattle.std.proofs.Common.{rules, refl, ap}
use Rattle.ptk_roster.specs.Rosters.{Rostered}
use Rattle.ptk_mutex.proofs.WokenMoves.{nobody-same, nobody-put}
use Rattle.ptk_mutex.proofs.ends.end_mutex.Goals as goal

pub returns-else-is_robust-clause-roster : goal.returns-else-is_robust-clause-roster
returns-else-is_robust-clause-roster c = search rules

pub returns-else-is_robust-clause-woken : goal.returns-else-is_robust-clause-woken
returns-else-is_robust-clause-woken c = nobody-put c.args.p c.args.roster.now c.alter.new.roster (ap (λ (r : Rostered). r.table.threads) c.alter.ensures.roster)

pub returns-then-not-is_owner-clause-woken : goal.returns-then-not-is_owner-clause-woken
returns-then-not-is_owner-clause-woken c = nobody-same c.args.p c.args.roster.now c.args.roster.now refl
