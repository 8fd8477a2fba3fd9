use Rattle.std.proofs.Common.{ap, sym, subst, arith}
use Rattle.std.specs.Prelude.{IsSome}
use Rattle.ptk_words.specs.Pools.{without}
use Rattle.ptk_threads.specs.Table.{thread_in}
use Rattle.ptk_ready.proofs.Partitions.{number_of_used}
use Rattle.ptk_roster.specs.Rosters.{Rostered}
use Rattle.ptk_roster.proofs.Waits.{has_queues, condition_whole, slept_seen, used_mark, left_apart, sleeper_in}
use Rattle.ptk_roster.proofs.roster.Roster.leave_condition.Goals as goal

pub take_from-requires-clause-slot : goal.take_from-requires-clause-slot
take_from-requires-clause-slot c = number_of_used c.self.inside.threads c.args.p c.args.k (subst (λ (n : Rostered). IsSome (thread_in n.table c.args.p c.args.k)) (sym c.self.view_is) c.requires.in_use)

pub invariant_of-self : goal.invariant_of-self
invariant_of-self c =
    condition_whole 4611686018427387904 c.self.inside.line c.self.inside.threads c.take_from.new.self c.self.inside.mutexes c.self.inside.conditions c.args.p c.args.c _ (omega (arith, c.number-number.ensures.value, c.number-number.ensures.positive))
    (λ free. ap (without c.args.k) (c.self.invariant.pools.free_conditions c.args.p c.args.c (omega (arith, c.number-number.ensures.value, c.number-number.ensures.positive)) free)) c.take_from.ensures.table c.self.invariant

pub returns-clause-roster : goal.returns-clause-roster
returns-clause-roster c =
    slept_seen 4611686018427387904 c.self.inside.line c.self.inside.threads c.take_from.new.self c.self.inside.mutexes c.self.inside.conditions c.args.self.now c.args.p c.args.c (without c.args.k) (has_queues 4611686018427387904 c.self.inside.line c.self.inside.threads c.self.inside.mutexes c.self.inside.conditions c.args.self.now c.args.p c.self.view_is c.self.invariant c.requires.partition c.parts-parts.ensures.queues) c.self.invariant (omega (arith, c.number-number.ensures.value, c.number-number.ensures.positive)) (omega (arith, c.number-number.ensures.value, c.number-number.ensures.in_range)) c.self.view_is
    (used_mark c.self.inside.threads.queues c.self.inside.conditions c.args.self.now.conditions c.args.p c.args.c (ap (λ (n : Rostered). n.conditions) c.self.view_is) c.requires.used) c.take_from.ensures.table

pub returns-clause-apart : goal.returns-clause-apart
returns-clause-apart c = λ inside.
    left_apart c.self.inside.line c.self.inside.threads c.take_from.new.self c.self.inside.mutexes c.self.inside.conditions c.args.p c.args.k
    (c.take_from.ensures.apart (sleeper_in c.self.inside.threads c.self.inside.mutexes c.self.inside.conditions c.args.self.now.conditions c.args.p c.args.c c.args.k c.self.invariant.pools (omega (arith, c.number-number.ensures.value, c.number-number.ensures.positive)) (ap (λ (n : Rostered). n.conditions) c.self.view_is) inside))
