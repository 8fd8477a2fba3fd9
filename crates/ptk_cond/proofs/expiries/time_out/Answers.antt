use Rattle.std.proofs.Common.{rules, ◌≡◌, arith}
use Rattle.std.specs.Prelude.{Some}
use Rattle.ptk_words.specs.declared.threads.Wait.TheVariants.{SleepWait, MutexWait}
use Rattle.ptk_words_model.specs.Mutex.{wait_of}
use Rattle.ptk_threads.specs.Table.{thread_in}
use Rattle.ptk_cond.specs.Rosters.{Rostered}
use Rattle.ptk_cond.proofs.Sound.{of_part, synced_withdrawal}
use Rattle.ptk_cond.proofs.Waits.{waits}
use Rattle.ptk_cond.specs.Timeouts.{after_sync_timeout}
use Rattle.ptk_cond.proofs.TimedOut.{slept, synced_slept, sound_slept, waiter_by, untimed}
use Rattle.ptk_cond.proofs.expiries.time_out.Goals as goal

-- the stored priorities are those that a sleeper leaves
pub returns-in-Some-SleepWait-clause-roster : goal.returns-in-Some-SleepWait-clause-roster
returns-in-Some-SleepWait-clause-roster c =
    let is : wait_of (thread_in c.args.roster.now.table c.args.p c.args.t) ≡ Some (SleepWait c.in-Some-SleepWait.field-0-0) = first_of (search rules, grind (arith, waits)) in
    slept c.args.p c.args.t c.in-Some-SleepWait.field-0-0 c.args.roster.now c.rouse.new.self c.requires.ready is c.rouse.ensures

-- and the calls find what they ask
pub returns-in-Some-SleepWait-clause-ready : goal.returns-in-Some-SleepWait-clause-ready
returns-in-Some-SleepWait-clause-ready c =
    let is : wait_of (thread_in c.args.roster.now.table c.args.p c.args.t) ≡ Some (SleepWait c.in-Some-SleepWait.field-0-0) = first_of (search rules, grind (arith, waits)) in
    synced_slept c.args.p c.args.t c.in-Some-SleepWait.field-0-0 c.args.roster.now c.rouse.new.self c.requires.ready is c.rouse.ensures

pub returns-in-Some-SleepWait-clause-sound : goal.returns-in-Some-SleepWait-clause-sound
returns-in-Some-SleepWait-clause-sound c = λ sound.
    let is : wait_of (thread_in c.args.roster.now.table c.args.p c.args.t) ≡ Some (SleepWait c.in-Some-SleepWait.field-0-0) = first_of (search rules, grind (arith, waits)) in
    sound_slept c.args.p c.args.t c.in-Some-SleepWait.field-0-0 c.args.roster.now c.rouse.new.self c.requires.ready is c.rouse.ensures sound

-- so where a waiter of a mutex left
pub returns-in-Some-MutexWait-clause-ready : goal.returns-in-Some-MutexWait-clause-ready
returns-in-Some-MutexWait-clause-ready c =
    let a : Rostered = c.args.roster.now in
    let is : wait_of (thread_in a.table c.args.p c.args.t) ≡ Some (MutexWait c.in-Some-MutexWait.m c.in-Some-MutexWait.field-0-1) = first_of (search rules, grind (arith, waits)) in
    synced_withdrawal c.args.p c.args.t c.in-Some-MutexWait.m (Some c.number.result) a c.withdraw.new.roster (waiter_by c.args.t c.in-Some-MutexWait.m c.in-Some-MutexWait.field-0-1 (of_part c.args.p a) c.requires.blocked is)
    (record { before = c.requires.ready.ready; moved = c.withdraw.ensures.roster; after = c.withdraw.ensures.ready })
    c.requires.ready

-- a thread in no timed wait stays
pub returns-2-clause-roster : goal.returns-2-clause-roster
returns-2-clause-roster c =
    let stay : after_sync_timeout c.args.t (wait_of (thread_in c.args.roster.now.table c.args.p c.args.t)) (of_part c.args.p c.args.roster.now) ≡ of_part c.args.p c.args.roster.now = first_of (search rules, grind (arith, waits)) in
    untimed c.args.p c.args.t c.args.roster.now c.requires.ready stay

pub returns-3-clause-roster : goal.returns-3-clause-roster
returns-3-clause-roster c =
    let stay : after_sync_timeout c.args.t (wait_of (thread_in c.args.roster.now.table c.args.p c.args.t)) (of_part c.args.p c.args.roster.now) ≡ of_part c.args.p c.args.roster.now = first_of (search rules, grind (arith, waits)) in
    untimed c.args.p c.args.t c.args.roster.now c.requires.ready stay

pub returns-4-clause-roster : goal.returns-4-clause-roster
returns-4-clause-roster c =
    let stay : after_sync_timeout c.args.t (wait_of (thread_in c.args.roster.now.table c.args.p c.args.t)) (of_part c.args.p c.args.roster.now) ≡ of_part c.args.p c.args.roster.now = first_of (search rules, grind (arith, waits)) in
    untimed c.args.p c.args.t c.args.roster.now c.requires.ready stay
