use Rattle.std.proofs.Common.{◌∙◌, ap, List, ℕ}
use Rattle.ptk_words.specs.Pools.{first_of_greatest}
use Rattle.ptk_words.specs.Parts.{part_of}
use Rattle.ptk_threads.specs.Table.{stored_of}
use Rattle.ptk_mutex.proofs.Moved.{choice-is}
use Rattle.ptk_mutex.proofs.unlocking.first_waiter.Goals as goal

pub returns-clause-told : goal.returns-clause-told
returns-clause-told c =
    choice-is c.args.p c.args.m c.first_among.result c.args.roster.now.table c.args.roster.now.lines c.args.roster.now.mutexes c.requires.ready
    (c.first_among.ensures ∙ ap (λ (ks : List ℕ). first_of_greatest (stored_of (part_of c.args.roster.now.table.stored c.args.p)) ks) (c.as_slice.ensures.value ∙ c.mutex_waiters-waiters.ensures))
