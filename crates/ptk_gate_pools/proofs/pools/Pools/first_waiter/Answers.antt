use Rattle.ptk_gate_pools.specs.Held.{Held}
use Rattle.std.proofs.Common.{◌∙◌, ap, sym}
use Rattle.ptk_gate_pools.proofs.Ranks.{stored_waiter}
use Rattle.ptk_gate_pools.proofs.pools.Pools.first_waiter.Goals as goal

pub returns : goal.returns
returns c =
    stored_waiter c.self.inside.hand c.first_among.result c.args.self.now.here c.waiters.result.now c.self.inside.roster.table.stored c.self.inside.roster.table.threads c.self.inside.roster.mutexes
    c.first_among.ensures (c.waiters.ensures ∙ ap (λ (pools : Held). pools.here.console.waiters) c.self.view_is) c.self.invariant.stored
    (ap (λ (pools : Held). pools.here.threads) (sym c.self.view_is)) (ap (λ (pools : Held). pools.here.mutexes) (sym c.self.view_is)) c.requires.in_use
