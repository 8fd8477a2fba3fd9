use Rattle.std.proofs.Common.{refl, sym, subst}
use Rattle.std.specs.Prelude.{Option, IsSome}
use Rattle.ptk_words.specs.declared.threads.Thread.{Thread}
use Rattle.ptk_threads.proofs.Slots.{used_at, used_changed, worked_links}
use Rattle.ptk_threads.proofs.changes.update_in.Goals as goal

pub update_at-requires-clause-in_use : goal.update_at-requires-clause-in_use
update_at-requires-clause-in_use g c =
    subst (λ (place : Option Thread). IsSome place) (sym (used_at c.args.k c.place.result c.args.slots.now c.index-slots-place.result c.place.ensures.value c.place.ensures.positive c.requires.in_use c.index-slots-place.is)) c.requires.in_use

pub returns-clause-threads : goal.returns-clause-threads
returns-clause-threads g c =
    used_changed c.args.k c.place.result (g.C.ThreadChange.changed c.args.change.now) c.args.slots.now c.index-slots-place.result _ c.place.ensures.value c.place.ensures.positive c.requires.in_use c.index-slots-place.is c.update_at.ensures

pub returns-clause-links : goal.returns-clause-links
returns-clause-links g c = worked_links c.place.result c.args.slots.now c.index-slots-place.result _ refl
