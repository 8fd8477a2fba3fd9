use Rattle.std.proofs.Common.{◌≡◌, ◌+◌, ◌-◌, ◌<◌, ◌∙◌, length, suc, arith, refl, ap, sym, subst, ℕ}
use Rattle.std.specs.Fn.{iterate}
use Rattle.ptk_words_model.specs.Condition.{after_signal, condition_waiters}
use Rattle.ptk_mutex.specs.SyncRosters.{Rostered}
use Rattle.ptk_cond.proofs.Steps.{of_part, put_none, signalled_more}
use Rattle.ptk_cond.proofs.Visited.{AreVisited, reached_more, visited_more}
use Rattle.ptk_cond.proofs.Woken.{still_signal}
use Rattle.ptk_mutex.proofs.WokenMoves.{woken_start, woken_more}
use Rattle.ptk_cond.proofs.signals.broadcast.Goals as goal

pub loop-i-init : goal.loop-i-init
loop-i-init c =
    let a : Rostered = c.args.roster.now in
    let all : length c.as_slice-count.result.now - 0 ≡ length c.as_slice-count.result.now = omega arith in
    record {
      signalled = record { synced = c.requires.ready; moved = put_none c.args.p a c.requires.ready; same = ap (λ (n : ℕ). iterate (after_signal c.args.c) n (of_part c.args.p a)) all };
      reached = refl;
      visited = record { none = λ e. refl; some = λ lt. absurd (omega (arith, lt)) };
      woken = woken_start c.args.p a;
      sound = λ sound. sound;
    }

pub loop-i-preserved : goal.loop-i-preserved
loop-i-preserved c =
    let a : Rostered = c.args.roster.now in
    let b : Rostered = c.loop-i.roster in
    let after : Rostered = c.signal-woken.new.roster in
    let more : length c.as_slice-count.result.now - c.loop-i.i ≡ suc (length c.as_slice-count.result.now - (c.loop-i.i + 1)) = omega arith in
    let step : suc c.loop-i.i ≡ c.loop-i.i + 1 = omega arith in
    let many : length (condition_waiters (of_part c.args.p a) c.args.c) ≡ length c.as_slice-count.result.now = ap length (sym (c.as_slice-count.ensures.value ∙ c.condition_waiters-waiters.ensures)) in
    let some : 0 < length (condition_waiters (of_part c.args.p a) c.args.c) = omega (arith, many) in
    record {
      signalled = signalled_more c.args.p c.args.c _ _ _ a b after c.requires.ready more c.loop-i.invariant.signalled c.signal-woken.ensures.roster c.signal-woken.ensures.ready;
      reached = reached_more c.args.p c.args.c c.loop-i.i a b after c.loop-i.invariant.reached c.loop-i.invariant.signalled.synced c.signal-woken.ensures.roster ∙ ap (λ (n : ℕ). iterate (after_signal c.args.c) n (of_part c.args.p a)) step;
      visited = subst (λ (n : ℕ). AreVisited c.args.c n (of_part c.args.p a) c.args.mutexes.now c.signal-woken.new.mutexes) step
          (visited_more c.args.p c.args.c c.loop-i.i a b after c.args.mutexes.now c.loop-i.mutexes c.signal-woken.new.mutexes some c.loop-i.invariant.reached c.loop-i.invariant.signalled.synced c.signal-woken.ensures.roster c.signal-woken.ensures.ready c.signal-woken.ensures.visited c.signal-woken.ensures.unvisited c.loop-i.invariant.visited);
      woken = woken_more c.args.p c.loop-i.woken c.signal-woken.result a b after c.loop-i.invariant.woken c.signal-woken.ensures.woken (still_signal c.args.p c.args.c b after c.loop-i.invariant.signalled.synced c.signal-woken.ensures.roster);
      sound = λ sound. c.signal-woken.ensures.sound (c.loop-i.invariant.sound sound);
    }
