use Rattle.std.proofs.Common.{◌+◌, ◌<◌, length, arith, inl, inr}
use Rattle.std.proofs.lemmas.Bool.{cases_lt}
use Rattle.ptk_window.proofs.Nexts.{next_has}
use Rattle.ptk_window.proofs.near.Near.next_stage.Goals as goal

pub returns-else-next-end_of : goal.returns-else-next-end_of
returns-else-next-end_of c =
    let frame = c.args.self.now.frame in
    let more : c.args.self.now.stage + 1 < length c.args.tables.now =
    elim (cases_lt (c.args.self.now.stage + 1) (length c.args.tables.now)) [
      | inl more ↦ more
      | inr last ↦ absurd (omega (arith, c.end_of.ensures.last last, c.if-next-end_of.false, c.requires.room))
    ] in
    next_has frame c.args.tables.now c.requires.planned c.args.self.now.stage c.args.self.now.frame_start c.args.next c.requires.has c.args.self.now.aligned c.requires.next more
    (omega (arith, c.end_of.ensures.next more frame c.requires.planned, c.if-next-end_of.false))
