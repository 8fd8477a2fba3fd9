use Rattle.std.proofs.Common.{◌∙◌, ap, List, ℕ}
use Rattle.ptk_words.specs.Pools.{first_of_greatest}
use Rattle.ptk_words.specs.Parts.{part_of}
use Rattle.ptk_threads.specs.Table.{stored_of}
use Rattle.ptk_cond.proofs.Steps.{next-is, next_may}
use Rattle.ptk_cond.proofs.signals.first_waiter.Goals as goal

pub returns-clause-told : goal.returns-clause-told
returns-clause-told c =
    next-is c.args.p c.args.c c.first_among.result c.args.roster.now.table c.args.roster.now.lines c.args.roster.now.mutexes c.args.roster.now.conditions c.requires.ready
    (c.first_among.ensures ∙ ap (λ (ks : List ℕ). first_of_greatest (stored_of (part_of c.args.roster.now.table.stored c.args.p)) ks) (c.as_slice.ensures.value ∙ c.condition_waiters-waiters.ensures))

pub returns-clause-may : goal.returns-clause-may
returns-clause-may c =
    next_may c.args.p c.args.c c.first_among.result c.args.roster.now.table c.args.roster.now.lines c.args.roster.now.mutexes c.args.roster.now.conditions c.requires.ready
    (c.first_among.ensures ∙ ap (λ (ks : List ℕ). first_of_greatest (stored_of (part_of c.args.roster.now.table.stored c.args.p)) ks) (c.as_slice.ensures.value ∙ c.condition_waiters-waiters.ensures))
