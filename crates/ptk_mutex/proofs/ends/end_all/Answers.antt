use Rattle.ptk_roster.specs.Rosters.{Rostered}
use Rattle.ptk_mutex.proofs.Steps.{put_none, ended_more}
use Rattle.ptk_mutex.proofs.WokenMoves.{still_end, woken_start, woken_more}
use Rattle.ptk_mutex.proofs.ends.end_all.Goals as goal

pub loop-i-init : goal.loop-i-init
loop-i-init c = record {
  ended = record { ready = c.requires.ready; moved = put_none c.args.p c.args.roster.now c.requires.ready };
  woken = woken_start c.args.p c.args.roster.now;
}

pub loop-i-preserved : goal.loop-i-preserved
loop-i-preserved c =
    let a : Rostered = c.args.roster.now in
    let b : Rostered = c.loop-i.roster in
    let after : Rostered = c.end_mutex-woken.new.roster in
    record {
      ended = ended_more c.args.p c.args.t c.loop-i.i c.new.result a b after c.requires.ready.part c.new.ensures c.loop-i.invariant.ended c.end_mutex-woken.ensures.roster c.end_mutex-woken.ensures.ready;
      woken = woken_more c.args.p c.loop-i.woken c.end_mutex-woken.result a b after c.loop-i.invariant.woken c.end_mutex-woken.ensures.woken (still_end c.args.p c.args.t c.new.result b after c.loop-i.invariant.ended.ready c.end_mutex-woken.ensures.roster);
    }
