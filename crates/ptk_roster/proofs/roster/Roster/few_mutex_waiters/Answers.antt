use Rattle.std.proofs.Common.{◌∙◌, ap, arith}
use Rattle.ptk_words.specs.Pools.{pool_get}
use Rattle.ptk_words.specs.Parts.{part_of}
use Rattle.ptk_words_model.specs.Mutex.{waiters_of}
use Rattle.ptk_threads.specs.LinkChanges.{few_of}
use Rattle.ptk_roster.specs.Rosters.{Rostered}
use Rattle.ptk_roster.proofs.Pools.{waiters_at}
use Rattle.ptk_roster.proofs.roster.Roster.few_mutex_waiters.Goals as goal

pub returns : goal.returns
returns c = c.few_members.ensures ∙ ap few_of (waiters_at c.self.inside.threads c.self.inside.mutexes c.self.inside.conditions c.args.p c.args.m c.self.invariant.pools (omega (arith, c.number-number.ensures.value, c.number-number.ensures.positive)) (omega (arith, c.number-number.ensures.value, c.number-number.ensures.in_range))
    ∙ ap (λ (n : Rostered). waiters_of (pool_get (part_of n.mutexes c.args.p) c.args.m)) c.self.view_is)
