use Rattle.std.proofs.Common.{◌+◌, ◌-◌, List, length, take, drop, sym, ap, ◌∙◌, arith, length-take}
use Rattle.std.proofs.lemmas.List.{take-append-drop}
use borrow.Rule.Slice.PartMut.{put_mid}
use Rattle.ptk_words.specs.declared.sections.Entry.{Entry}
use Rattle.ptk_trace.specs.KeptSteps.{with_newest}
use Rattle.ptk_trace.proofs.Batches.{noted_more, written}
use Rattle.ptk_trace.proofs.trace.Trace.note.Goals as goal

pub returns-clause-noted : goal.returns-clause-noted
returns-clause-noted g c =
    let newest : List Entry = take c.note-written.result c.note-written.new.room in
    let many = length-take c.note-written.result c.note-written.new.room in (
      newest,
      omega (arith, many, c.note-written.ensures.few, c.note-written.auto.room),
      noted_more c.make_room-noted.new.ring.capacity c.make_room-noted.new.ring.items c.self.inside.batch newest (put_mid c.make_room-noted.result (length c.self.inside.batch - c.make_room-noted.result) c.self.inside.batch c.note-written.new.room) c.make_room-noted.result (c.make_room-noted.result + c.note-written.result)
          (written c.self.inside.batch c.note-written.new.room newest (drop c.note-written.result c.note-written.new.room) _ c.make_room-noted.result c.note-written.result (omega (arith, c.make_room-noted.ensures.room, c.self.ranges)) (omega (arith, many, c.note-written.ensures.few, c.note-written.auto.room)) (sym (take-append-drop c.note-written.result c.note-written.new.room)))
          ∙ ap (with_newest newest) (c.make_room-noted.ensures.kept ∙ c.self.view_is),
      c.note-written.ensures.noted,
    )
