use Rattle.std.proofs.Common.{refl, ◌∙◌, ap}
use Rattle.std.specs.Prelude.{option_to_list}
use Rattle.ptk_words_model.specs.State.{Locks}
use Rattle.ptk_words_model.specs.Priority.{thread_at}
use Rattle.ptk_words_model.specs.Schedule.{woken_with}
use Rattle.ptk_mutex.specs.Tables.{locks_by}
use Rattle.ptk_mutex.specs.Moves.{after_withdrawal}
use Rattle.ptk_mutex.proofs.Locked.{locked_left}
use Rattle.ptk_mutex.proofs.Steps.{refreshed_put, put_ready}
use Rattle.ptk_roster.specs.Rosters.{Rostered}
use Rattle.ptk_mutex.proofs.Sound.{sound_withdrawal}
use Rattle.ptk_mutex.proofs.Unraised.{unraised_withdrawal, unraised_stored}
use Rattle.ptk_mutex.proofs.WokenMoves.{woken_to, woken_ended}
use Rattle.ptk_mutex.proofs.WokenSets.{awaited_waits}
use Rattle.ptk_mutex.proofs.mutexes.Mutexes.withdraw.Goals as goal

pub refresh_after-requires-clause-plain : goal.refresh_after-requires-clause-plain
refresh_after-requires-clause-plain c = λ plain.
    let a : Rostered = c.args.roster.now in
    let locks : Locks = locks_by c.args.p a.table a.lines a.mutexes in
    unraised_stored c.args.p c.args.m a c.take_out.new.roster (after_withdrawal c.args.t c.args.m c.args.reply locks) c.requires.ready (unraised_withdrawal c.args.m c.args.t c.args.reply locks c.requires.waiter) c.take_out.ensures plain

pub returns-clause-roster : goal.returns-clause-roster
returns-clause-roster c =
    let a : Rostered = c.args.roster.now in
    refreshed_put c.args.p a c.take_out.new.roster c.refresh_after.new.roster (after_withdrawal c.args.t c.args.m c.args.reply (locks_by c.args.p a.table a.lines a.mutexes)) c.requires.ready.part c.take_out.ensures c.refresh_after.ensures

pub returns-clause-ready : goal.returns-clause-ready
returns-clause-ready c =
    let a : Rostered = c.args.roster.now in
    let locks : Locks = locks_by c.args.p a.table a.lines a.mutexes in
    put_ready c.args.p a c.refresh_after.new.roster (after_withdrawal c.args.t c.args.m c.args.reply locks) c.requires.ready.part
    (locked_left c.args.m c.args.t (woken_with (option_to_list c.args.reply)) locks c.requires.waiter c.requires.ready.locked) (returns-clause-roster c)

pub returns-clause-sound : goal.returns-clause-sound
returns-clause-sound c = λ sound.
    sound_withdrawal c.args.p c.args.t c.args.m c.args.reply c.args.roster.now c.refresh_after.new.roster c.requires.waiter
    (record { before = c.requires.ready; moved = returns-clause-roster c; after = returns-clause-ready c }) sound

pub returns-clause-woken : goal.returns-clause-woken
returns-clause-woken c =
    let a : Rostered = c.args.roster.now in
    let locks : Locks = locks_by c.args.p a.table a.lines a.mutexes in
    c.only.ensures
    ∙ woken_ended c.args.p c.args.t (woken_with (option_to_list c.args.reply)) a c.take_out.new.roster c.requires.ready.part.of_threads (λ thread. refl) (awaited_waits c.args.m (thread_at locks c.args.t) c.requires.waiter.waits) (ap (λ (r : Rostered). r.table.threads) c.take_out.ensures)
    ∙ woken_to c.args.p a c.take_out.new.roster c.refresh_after.new.roster (ap (λ (r : Rostered). r.table.threads) c.refresh_after.ensures)
