use Rattle.std.proofs.Common.{rules, ◌≡◌, refl, pos, ◌+ℤ◌, ◌<ℤ◌, FitsSigned, to_z, of_z, w64, arith}
use Rattle.std.proofs.lemmas.Int.{ints}
use Rattle.ptk_threads.specs.Links.{links_of}
use Rattle.ptk_ready.specs.Entries.{AreStamps}
use Rattle.ptk_ready.proofs.Ranks.{longer}
use Rattle.ptk_ready.proofs.entries.LinkedEntries.tail_stamp.Goals as goal
use Rattle.ptk_ready.proofs.entries.LinkedEntries.tail_stamp.Goals.{then-self, else-self}

pub returns : goal.returns
returns g c =
    let mid : AreStamps g.row.LIMIT c.if-self.self.range (links_of c.args.slots.now) c.if-self.self.stamps =
    elim c.if-self.branch [ then-self w ↦ rw (w.self-is) (w.number_anew.ensures.stamps) | else-self w ↦ rw (w.self-is) (c.requires.stamps) ] in
    let room : c.if-self.self.range.last <ℤ pos g.row.LIMIT = elim c.if-self.branch [
      | then-self w ↦ rw (w.self-is, w.number_anew.ensures.range) (omega (arith, ints, c.requires.limit.0))
      | else-self w ↦ (let fits : FitsSigned w64 c.args.self.now.range.last = search rules in rw (w.self-is) (grind (arith, ints, w.if-self.false)))
    ] in
    let fits : FitsSigned w64 c.if-self.self.range.last = search rules in
    let last = to_z w64 (of_z w64 (to_z w64 (of_z w64 c.if-self.self.range.last) +ℤ pos 1)) in
    let next : last ≡ c.if-self.self.range.last +ℤ pos 1 = omega (arith, ints, room, c.requires.limit.1, mid.limits) in
    let same : to_z w64 (of_z w64 last) ≡ last = omega (arith, ints) in
    record {
      stamps = longer g.row.LIMIT c.if-self.self.range (links_of c.args.slots.now) c.if-self.self.stamps last mid room next;
      line = elim c.if-self.branch [ then-self w ↦ rw (w.self-is) (w.number_anew.ensures.line) | else-self w ↦ rw (w.self-is) refl ];
      bitmap = elim c.if-self.branch [ then-self w ↦ rw (w.self-is) (w.number_anew.ensures.bitmap) | else-self w ↦ rw (w.self-is) refl ];
      last = λ k ready. (let in_range = mid.within k ready in omega (arith, ints, in_range.1, same, next));
      within = (omega (arith, ints, same, next, mid.limits.1), omega (arith, ints, same));
    }
