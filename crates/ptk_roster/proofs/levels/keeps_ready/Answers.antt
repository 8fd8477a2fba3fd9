use Rattle.std.proofs.Common.{◌≡◌, ◌<◌, suc, length, true, ◌∙◌, arith}
use Rattle.ptk_roster.proofs.Stores.{ready_slot}
use Rattle.ptk_roster.proofs.levels.keeps_ready.Goals as goal

pub returns-then-not-is_kept : goal.returns-then-not-is_kept
returns-then-not-is_kept c = (
  λ no. absurd (cc),
  λ all.
      (let lt : c.loop-i.i < length c.args.slots.now = omega (arith, c.loop-i-test.true, c.requires.slots) in
      let ready = ready_slot c.args.slots.now c.loop-i.i c.index-slots-i.result lt c.index-slots-i.is in
      let kept : c.is_kept.result ≡ true = c.is_kept.ensures.1 (λ is. all (suc c.loop-i.i) (ready ∙ is)) in absurd (cc)),
)
