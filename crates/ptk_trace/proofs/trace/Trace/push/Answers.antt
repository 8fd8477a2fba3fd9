use Rattle.std.proofs.Common.{◌∷◌, [], ap, ◌∙◌, ◌+◌, slice_set, arith}
use Rattle.std.proofs.lemmas.List.{take_more_set}
use Rattle.ptk_trace.specs.KeptSteps.{with_newest}
use Rattle.ptk_trace.proofs.Batches.{noted_more}
use Rattle.ptk_trace.proofs.trace.Trace.push.Goals as goal

pub returns : goal.returns
returns c =
    let noted = c.make_room-self-inside.result in
    noted_more c.make_room-self-inside.new.ring.capacity c.make_room-self-inside.new.ring.items c.self.inside.batch (c.args.entry ∷ []) (slice_set c.self.inside.batch noted c.args.entry) noted (noted + 1)
    (take_more_set c.self.inside.batch noted c.args.entry (omega (arith, c.make_room-self-inside.ensures.room, c.self.ranges)))
    ∙ ap (with_newest (c.args.entry ∷ [])) (c.make_room-self-inside.ensures.kept ∙ c.self.view_is)
