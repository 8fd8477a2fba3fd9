use Rattle.std.proofs.Common.{[], ◌∷◌, ◌++◌, ◌∙◌, ap}
use Rattle.ptk_words.specs.Pools.{pool_get}
use Rattle.ptk_words.specs.Parts.{part_of}
use Rattle.ptk_words_model.specs.Condition.{waiters_on}
use Rattle.ptk_cond.proofs.Steps.{ready_waiters, asleep, asleep_synced, asleep_sound}
use Rattle.ptk_mutex.specs.SyncRosters.{Rostered}
use Rattle.ptk_mutex.proofs.WokenMoves.{woken_beside, woken_from}
use Rattle.ptk_cond.proofs.waiting.wait.Goals as goal

pub unlock-woken-requires : goal.unlock-woken-requires
unlock-woken-requires c = record {
  ready = ready_waiters c.args.p c.args.c (waiters_on (pool_get (part_of c.args.roster.now.conditions c.args.p) c.args.c) ++ c.args.t ∷ []) c.args.roster.now c.await_condition.new.self c.await_condition.ensures c.requires.ready.ready;
}

pub returns-clause-roster : goal.returns-clause-roster
returns-clause-roster c =
    asleep c.args.p c.args.t c.args.c c.args.m c.args.deadline c.args.roster.now c.await_condition.new.self c.unlock-woken.new.roster c.update.new.self c.requires.ready c.requires.caller c.await_condition.ensures c.unlock-woken.ensures.roster c.update.ensures

pub returns-clause-ready : goal.returns-clause-ready
returns-clause-ready c =
    asleep_synced c.args.p c.args.t c.args.c c.args.m c.args.deadline c.args.roster.now c.await_condition.new.self c.unlock-woken.new.roster c.update.new.self c.requires.ready c.requires.caller c.await_condition.ensures c.unlock-woken.ensures.roster c.unlock-woken.ensures.ready c.update.ensures

pub returns-clause-sound : goal.returns-clause-sound
returns-clause-sound c =
    asleep_sound c.args.p c.args.t c.args.c c.args.m c.args.deadline c.args.roster.now c.await_condition.new.self c.unlock-woken.new.roster c.update.new.self c.requires.ready c.requires.caller c.await_condition.ensures c.unlock-woken.ensures.roster c.unlock-woken.ensures.ready c.update.ensures

pub returns-clause-woken : goal.returns-clause-woken
returns-clause-woken c =
    let a : Rostered = c.args.roster.now in
    c.unlock-woken.ensures.woken
    ∙ woken_from c.args.p a c.await_condition.new.self c.unlock-woken.new.roster (ap (λ (r : Rostered). r.table.threads) c.await_condition.ensures)
    ∙ woken_beside c.args.p c.args.t _ a c.unlock-woken.new.roster c.update.new.self c.unlock-woken.ensures.ready.part.of_threads c.requires.caller.awake (ap (λ (r : Rostered). r.table.threads) c.update.ensures)
