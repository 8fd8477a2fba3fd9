use Rattle.std.proofs.Common.{refl, sym, subst}
use Rattle.std.specs.Prelude.{Option, IsSome, IfSome}
use Rattle.ptk_words.specs.declared.threads.Thread.{Thread}
use Rattle.ptk_threads.proofs.Slots.{used_at, worked_at, worked_links}
use Rattle.ptk_threads.proofs.changes.work_in.Goals as goal

pub work_at-requires-clause-in_use : goal.work_at-requires-clause-in_use
work_at-requires-clause-in_use g c =
    subst (λ (place : Option Thread). IsSome place) (sym (used_at c.args.k c.place.result c.args.slots.now c.index-slots-place.result c.place.ensures.value c.place.ensures.positive c.requires.in_use c.index-slots-place.is)) c.requires.in_use

pub work_at-requires-clause-ready : goal.work_at-requires-clause-ready
work_at-requires-clause-ready g c =
    subst (λ (place : Option Thread). IfSome place (g.W.Work.can_run c.args.work.now)) (sym (used_at c.args.k c.place.result c.args.slots.now c.index-slots-place.result c.place.ensures.value c.place.ensures.positive c.requires.in_use c.index-slots-place.is)) c.requires.ready

pub returns-clause-threads : goal.returns-clause-threads
returns-clause-threads g c =
    let here = used_at c.args.k c.place.result c.args.slots.now c.index-slots-place.result c.place.ensures.value c.place.ensures.positive c.requires.in_use c.index-slots-place.is in (
      c.work_at.ensures.0,
      worked_at c.args.k c.place.result c.args.slots.now _ c.work_at.ensures.0 c.place.ensures.value c.place.ensures.positive c.requires.in_use c.work_at.ensures.1,
      subst (λ (place : Option Thread). IfSome place (λ thread. g.W.Work.has_run c.args.work.now thread c.work_at.result c.work_at.new.work c.work_at.ensures.0)) here c.work_at.ensures.2,
    )

pub returns-clause-links : goal.returns-clause-links
returns-clause-links g c = worked_links c.place.result c.args.slots.now c.index-slots-place.result _ refl
