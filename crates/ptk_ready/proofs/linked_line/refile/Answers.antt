use Rattle.std.proofs.Common.{◌∙◌, ap, subst, sym}
use Rattle.ptk_threads.specs.Table.{ThreadTable, with_queues}
use Rattle.ptk_threads.specs.Queues.{IsUnqueued, with_none, with_last, with_before}
use Rattle.ptk_threads.specs.declared.link.QueueName.TheVariants.{Ready}
use Rattle.ptk_words.specs.Parts.{part_of}
use Rattle.ptk_ready.proofs.Partitions.{queues_twice, unqueued_there}
use Rattle.ptk_ready.proofs.linked_line.refile.Goals as goal

pub insert-requires-clause-free : goal.insert-requires-clause-free
insert-requires-clause-free c = subst (λ (t : ThreadTable). IsUnqueued c.args.k (part_of t.queues c.args.p)) (sym c.take.ensures) (unqueued_there c.args.p c.args.k c.args.threads.now c.requires.partition.1)

pub append-requires-clause-free : goal.append-requires-clause-free
append-requires-clause-free c = subst (λ (t : ThreadTable). IsUnqueued c.args.k (part_of t.queues c.args.p)) (sym c.take.ensures) (unqueued_there c.args.p c.args.k c.args.threads.now c.requires.partition.1)

pub returns-in-Some : goal.returns-in-Some
returns-in-Some c = rw c.in-Some.is
    (c.insert.ensures ∙ (ap (with_queues c.args.p (with_before c.args.k c.in-Some.before)) c.take.ensures
    ∙ queues_twice c.args.p (with_none c.args.k) (with_before c.args.k c.in-Some.before) c.args.threads.now c.requires.partition.1))

pub returns-in-None : goal.returns-in-None
returns-in-None c = rw c.in-None.is
    (c.append.ensures ∙ (ap (with_queues c.args.p (with_last (Ready c.args.priority) c.args.k)) c.take.ensures
    ∙ queues_twice c.args.p (with_none c.args.k) (with_last (Ready c.args.priority) c.args.k) c.args.threads.now c.requires.partition.1))
