use Rattle.std.proofs.Common.{◌≡◌, ◌<◌, ℕ, length, subst, inl, inr, arith}
use Rattle.std.proofs.lemmas.Bool.{cases_lt}
use Rattle.ptk_system.specs.World.{at_tick, but_next, state_of}
use Rattle.ptk_system.proofs.system.System.all_stay_until.Goals as goal

pub loop-i-preserved : goal.loop-i-preserved
loop-i-preserved c =
    let here : c.new-p.result < length c.args.self.now.config.sections = omega (arith, c.new-p.ensures, c.loop-i-test.true, c.parts-i-end.ensures.count) in (
      omega (arith, c.loop-i.invariant.0, c.stays_until-until.ensures.within),
      (λ (p : ℕ) below (k : ℕ) from to. elim (cases_lt p c.loop-i.i) [
        | inl sooner ↦ c.loop-i.invariant.1 p sooner k from (omega (arith, to, c.stays_until-until.ensures.within))
        | inr later ↦
            let at : c.new-p.result ≡ p = omega (arith, c.new-p.ensures, below, later) in
            subst (λ (q : ℕ). but_next (state_of (at_tick k c.args.self.now) q) ≡ but_next (state_of c.args.self.now q)) at (c.stays_until-until.ensures.stays k from to)
      ]),
      λ early (k : ℕ) within same. c.stays_until-until.ensures.latest (omega (arith, early, c.loop-i.invariant.0)) k (c.loop-i.invariant.2 early k within same) (same c.new-p.result here),
    )
