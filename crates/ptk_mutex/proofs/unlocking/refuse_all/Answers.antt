use Rattle.std.proofs.Common.{◌≡◌, ◌+◌, ◌-◌, length, suc, arith}
use Rattle.ptk_roster.specs.Rosters.{Rostered}
use Rattle.ptk_mutex.proofs.Steps.{refused_none, refused_more}
use Rattle.ptk_mutex.proofs.WokenMoves.{still_refusal, woken_start, woken_more}
use Rattle.ptk_mutex.proofs.unlocking.refuse_all.Goals as goal

pub loop-i-init : goal.loop-i-init
loop-i-init c = record {
  refused = refused_none c.args.p c.args.m _ _ c.args.roster.now (omega arith) c.requires.ready;
  woken = woken_start c.args.p c.args.roster.now;
}

pub loop-i-preserved : goal.loop-i-preserved
loop-i-preserved c =
    let a : Rostered = c.args.roster.now in
    let b : Rostered = c.loop-i.roster in
    let after : Rostered = c.refuse_next-woken.new.roster in
    let more : length c.as_slice-count.result.now - c.loop-i.i ≡ suc (length c.as_slice-count.result.now - (c.loop-i.i + 1)) = omega arith in
    record {
      refused = refused_more c.args.p c.args.m _ _ _ a b after c.requires.ready.part more c.loop-i.invariant.refused c.refuse_next-woken.ensures.roster c.refuse_next-woken.ensures.ready;
      woken = woken_more c.args.p c.loop-i.woken c.refuse_next-woken.result a b after c.loop-i.invariant.woken c.refuse_next-woken.ensures.woken (still_refusal c.args.p c.args.m b after c.loop-i.invariant.refused.ready c.refuse_next-woken.ensures.roster);
    }
