use Rattle.std.proofs.Common.{◌≡◌, refl, sym, subst, ap, ◌∙◌, ℕ}
use Rattle.std.specs.Prelude.{Option, Some}
use Rattle.ptk_words_model.specs.declared.LockMove.{LockMove}
use Rattle.ptk_words_model.specs.State.{Locks}
use Rattle.ptk_words_model.specs.Mutex.{mutex_at, soundness_of, free_move, handed, after_hand_over_to, after_leave, after_take}
use Rattle.ptk_words_model.specs.Priority.{thread_at}
use Rattle.ptk_roster.specs.declared.slot.Change.TheVariants.{Take}
use Rattle.ptk_roster.specs.Changes.{mutex_changed}
use Rattle.ptk_roster.specs.Rosters.{Rostered}
use Rattle.ptk_mutex.specs.Tables.{locks_by, put_locks_alone, IsWaiter, MayGet}
use Rattle.ptk_mutex.proofs.Steps.{mutex_alone, alone_more}
use Rattle.ptk_mutex.proofs.WokenMoves.{nobody-same, woken_ended}
use Rattle.ptk_mutex.proofs.WokenSets.{awaited_waits}
use Rattle.ptk_mutex.proofs.unlocking.hand_to.Goals as goal

pub returns-in-Some-clause-roster : goal.returns-in-Some-clause-roster
returns-in-Some-clause-roster c =
    let a : Rostered = c.args.roster.now in
    let mid : Rostered = c.change_mutex.new.self in
    let locks : Locks = locks_by c.args.p a.table a.lines a.mutexes in
    let taken : Locks = after_take c.in-Some.t c.args.m locks in
    alone_more c.args.p (after_leave c.args.made c.in-Some.t c.args.m) a mid c.leave.new.roster taken c.requires.part (mutex_alone c.args.p c.args.m (mutex_changed (Take c.in-Some.t)) a mid c.change_mutex.ensures) c.leave.ensures
    ∙ ap (λ (made : LockMove). put_locks_alone c.args.p (after_leave made c.in-Some.t c.args.m taken) a) c.requires.made ∙ ap (λ (o : Option ℕ). put_locks_alone c.args.p (after_hand_over_to o c.args.m locks) a) (sym c.in-Some.is)

pub returns-in-Some-clause-woken : goal.returns-in-Some-clause-woken
returns-in-Some-clause-woken c =
    let a : Rostered = c.args.roster.now in
    let locks : Locks = locks_by c.args.p a.table a.lines a.mutexes in
    let waiter : IsWaiter locks c.args.m c.in-Some.t = subst (λ (o : Option ℕ). MayGet o locks c.args.m) c.in-Some.is c.requires.may in
    let moved : c.leave.new.roster ≡ put_locks_alone c.args.p (after_hand_over_to (Some c.in-Some.t) c.args.m locks) a = returns-in-Some-clause-roster c ∙ ap (λ (o : Option ℕ). put_locks_alone c.args.p (after_hand_over_to o c.args.m locks) a) c.in-Some.is in
    c.only.ensures
    ∙ woken_ended c.args.p c.in-Some.t (handed (free_move (soundness_of (mutex_at locks c.args.m)))) a c.leave.new.roster c.requires.part.of_threads (λ thread. refl) (awaited_waits c.args.m (thread_at locks c.in-Some.t) waiter.waits) (ap (λ (r : Rostered). r.table.threads) moved)

pub returns-in-None-clause-woken : goal.returns-in-None-clause-woken
returns-in-None-clause-woken c = nobody-same c.args.p c.args.roster.now c.change_mutex-in-None.new.self (ap (λ (r : Rostered). r.table.threads) c.change_mutex-in-None.ensures)
