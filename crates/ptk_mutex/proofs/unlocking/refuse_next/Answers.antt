use Rattle.std.proofs.Common.{◌∙◌, ap, ℕ}
use Rattle.std.specs.Prelude.{Option}
use Rattle.ptk_words_model.specs.State.{Locks}
use Rattle.ptk_words_model.specs.Mutex.{after_refusal, after_refusal_to}
use Rattle.ptk_roster.specs.Rosters.{Rostered}
use Rattle.ptk_mutex.specs.Tables.{locks_by, put_locks}
use Rattle.ptk_mutex.proofs.Steps.{refreshed_put, put_ready, locked_refusal}
use Rattle.ptk_mutex.proofs.Unraised.{unraised_refusal, unraised_stored}
use Rattle.ptk_mutex.proofs.WokenMoves.{woken_to}
use Rattle.ptk_mutex.proofs.unlocking.refuse_next.Goals as goal

pub refresh_after-requires-clause-plain : goal.refresh_after-requires-clause-plain
refresh_after-requires-clause-plain c = λ plain.
    let a : Rostered = c.args.roster.now in
    let locks : Locks = locks_by c.args.p a.table a.lines a.mutexes in
    unraised_stored c.args.p c.args.m a c.refuse_to-woken.new.roster (after_refusal_to c.choose-next.result c.args.m locks) c.requires.ready (unraised_refusal c.args.m c.choose-next.result locks c.choose-next.ensures.may) c.refuse_to-woken.ensures.roster plain

pub returns-clause-roster : goal.returns-clause-roster
returns-clause-roster c =
    let a : Rostered = c.args.roster.now in
    let locks : Locks = locks_by c.args.p a.table a.lines a.mutexes in
    refreshed_put c.args.p a c.refuse_to-woken.new.roster c.refresh_after.new.roster (after_refusal_to c.choose-next.result c.args.m locks) c.requires.ready.part c.refuse_to-woken.ensures.roster c.refresh_after.ensures
    ∙ ap (λ (o : Option ℕ). put_locks c.args.p (after_refusal_to o c.args.m locks) a) c.choose-next.ensures.told

pub returns-clause-ready : goal.returns-clause-ready
returns-clause-ready c =
    let a : Rostered = c.args.roster.now in
    let locks : Locks = locks_by c.args.p a.table a.lines a.mutexes in
    put_ready c.args.p a c.refresh_after.new.roster (after_refusal c.args.m locks) c.requires.ready.part (locked_refusal c.args.m locks c.requires.ready.locked) (returns-clause-roster c)

pub returns-clause-woken : goal.returns-clause-woken
returns-clause-woken c = c.refuse_to-woken.ensures.woken ∙ woken_to c.args.p c.args.roster.now c.refuse_to-woken.new.roster c.refresh_after.new.roster (ap (λ (r : Rostered). r.table.threads) c.refresh_after.ensures)
