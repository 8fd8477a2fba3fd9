use Rattle.std.proofs.Common.{List, subst}
use Rattle.std.specs.Prelude.{Option, IfSome}
use Rattle.ptk_words.specs.Pools.{pool_get, pool_changed}
use Rattle.ptk_words.specs.declared.threads.Thread.{Thread}
use Rattle.ptk_threads.specs.Table.{replaced_by}
use Rattle.ptk_threads.proofs.Linked.{kept_at, changed_view, threads_here}
use Rattle.ptk_threads.proofs.slot_table.SlotTable.work_on.Goals as goal

pub invariant_of-self : goal.invariant_of-self
invariant_of-self g c =
    kept_at c.self.inside.slots c.self.inside.ends c.args.p c.args.self.now c.lend.result.now c.work_in.new.slots c.self.invariant c.self.view_is c.requires.partition c.lend.ensures.value c.work_in.ensures.links

pub returns : goal.returns
returns g c =
    let made = c.work_in.ensures.threads.0 in (
      made,
      changed_view c.self.inside.slots c.self.inside.ends c.args.p c.args.self.now c.lend.result.now c.work_in.new.slots (pool_changed c.args.k (replaced_by made)) c.self.view_is c.requires.partition c.lend.ensures.value c.work_in.ensures.links c.work_in.ensures.threads.1,
      subst (λ (pool : List (Option Thread)). IfSome (pool_get pool c.args.k) (λ thread. g.W.Work.has_run c.args.work.now thread c.work_in.result c.work_in.new.work made)) (threads_here c.self.inside.slots c.self.inside.ends c.args.p c.args.self.now c.lend.result.now c.self.view_is c.lend.ensures.value) c.work_in.ensures.threads.2,
    )
