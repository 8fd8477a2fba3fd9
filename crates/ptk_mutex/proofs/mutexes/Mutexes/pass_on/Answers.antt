use Rattle.std.proofs.Common.{refl, sym, ◌∙◌, ap}
use Rattle.ptk_words.specs.declared.threads.Wait.TheVariants.{RelockWait}
use Rattle.ptk_words.specs.Parts.{part_of}
use Rattle.ptk_words_model.specs.declared.LockMove.{LockMove}
use Rattle.ptk_words_model.specs.State.{Locks}
use Rattle.ptk_words_model.specs.Mutex.{mutex_at, relock_move, after_relock, after_relock_move}
use Rattle.ptk_threads.specs.Links.{links_of}
use Rattle.ptk_roster.specs.Rosters.{Rostered}
use Rattle.ptk_mutex.specs.Tables.{locks_by, put_locks, without_condition_waiter}
use Rattle.ptk_mutex.proofs.Passed.{passed_free, sound_passed}
use Rattle.ptk_mutex.proofs.Raised.{block_before, block_next, block_put, inheritor-read, stored_visited}
use Rattle.ptk_mutex.proofs.Steps.{locked_relock, put_ready}
use Rattle.ptk_mutex.proofs.mutexes.Mutexes.pass_on.Goals as goal

pub rise_behind-self-requires-clause-before : goal.rise_behind-self-requires-clause-before
rise_behind-self-requires-clause-before c =
    let a : Rostered = c.args.roster.now in
    let mid : Rostered = c.pass_to_mutex.new.self in
    block_before c.args.p c.args.t c.args.m _ a.table mid.table a.lines a.mutexes mid.mutexes c.requires.ready c.requires.caller.awake (ap (λ (r : Rostered). r.mutexes) c.pass_to_mutex.ensures) (ap (λ (r : Rostered). r.table) c.pass_to_mutex.ensures)

pub rise_behind-self-requires-clause-next : goal.rise_behind-self-requires-clause-next
rise_behind-self-requires-clause-next c =
    let a : Rostered = c.args.roster.now in
    let mid : Rostered = c.pass_to_mutex.new.self in
    block_next c.args.p c.args.t c.args.m _ c.inheritor_of-inheritor.result a.table mid.table a.lines a.mutexes mid.mutexes c.requires.ready refl c.requires.caller.used
    (inheritor-read c.args.m c.inheritor_of-inheritor.result (part_of a.mutexes c.args.p) c.mutex_slots.result.now c.mutex_slots.ensures.mutexes c.inheritor_of-inheritor.ensures)
    (ap (λ (r : Rostered). r.mutexes) c.pass_to_mutex.ensures) (ap (λ (r : Rostered). r.table) c.pass_to_mutex.ensures)

pub returns-clause-roster : goal.returns-clause-roster
returns-clause-roster c =
    let a : Rostered = c.args.roster.now in
    let locks : Locks = locks_by c.args.p a.table a.lines a.mutexes in
    let left : Rostered = without_condition_waiter c.args.p c.args.t c.args.c a in
    block_put c.args.p c.args.t c.args.m (RelockWait c.args.m c.args.reply) left c.pass_to_mutex.new.self c.rise_behind-self.new.roster c.requires.ready.part c.pass_to_mutex.ensures c.rise_behind-self.ensures.stored
    ∙ ap (λ (made : LockMove). put_locks c.args.p (after_relock_move made c.args.t c.args.m c.args.reply locks) left) (sym c.requires.waits)

pub returns-clause-visited : goal.returns-clause-visited
returns-clause-visited c =
    let a : Rostered = c.args.roster.now in
    let mid : Rostered = c.pass_to_mutex.new.self in
    stored_visited c.args.p _ a.table mid.table c.rise_behind-self.new.roster.table (ap (λ (r : Rostered). r.table.stored) c.pass_to_mutex.ensures) c.rise_behind-self.ensures.visited

pub returns-clause-ready : goal.returns-clause-ready
returns-clause-ready c =
    let a : Rostered = c.args.roster.now in
    let locks : Locks = locks_by c.args.p a.table a.lines a.mutexes in
    put_ready c.args.p (without_condition_waiter c.args.p c.args.t c.args.c a) c.rise_behind-self.new.roster (after_relock c.args.t c.args.m c.args.reply locks) c.requires.ready.part
    (locked_relock (relock_move c.args.t (mutex_at locks c.args.m)) c.args.t c.args.m c.args.reply locks (λ counts. absurd (let no : ⊥ = cc (c.requires.waits, counts) in no)) c.requires.caller c.requires.ready.locked) (returns-clause-roster c)

pub returns-clause-sound : goal.returns-clause-sound
returns-clause-sound c = λ sound.
    let a : Rostered = c.args.roster.now in
    sound_passed c.args.p c.args.t c.args.c c.args.m c.args.reply a c.rise_behind-self.new.roster
    (λ lt. passed_free c.args.p c.args.t c.args.c (links_of c.linked-part.result.slots.now) c.linked-part.result.ends.now c.threads.result.now.queues a c.linked-part.ensures.sound c.linked-part.ensures.lists c.threads.ensures.queues c.requires.ready c.requires.caller.awake c.requires.inside lt)
    (record { before = c.requires.ready; moved = returns-clause-roster c; after = returns-clause-ready c }) sound
