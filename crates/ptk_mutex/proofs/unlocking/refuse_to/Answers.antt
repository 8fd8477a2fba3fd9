use Rattle.std.proofs.Common.{refl, subst, ap, ◌∙◌, ℕ}
use Rattle.std.specs.Prelude.{Option}
use Rattle.ptk_words.specs.declared.faults.Errno.TheVariants.{ENOTRECOVERABLE}
use Rattle.ptk_words_model.specs.declared.LockMove.TheVariants.{Refuses}
use Rattle.ptk_words_model.specs.State.{Locks}
use Rattle.ptk_words_model.specs.Mutex.{handed}
use Rattle.ptk_words_model.specs.Priority.{thread_at}
use Rattle.ptk_roster.specs.Rosters.{Rostered}
use Rattle.ptk_mutex.specs.Tables.{locks_by, IsWaiter, MayGet}
use Rattle.ptk_mutex.proofs.WokenMoves.{nobody-same, woken_ended}
use Rattle.ptk_mutex.proofs.WokenSets.{awaited_waits}
use Rattle.ptk_mutex.proofs.unlocking.refuse_to.Goals as goal

pub returns-in-Some-clause-woken : goal.returns-in-Some-clause-woken
returns-in-Some-clause-woken c =
    let a : Rostered = c.args.roster.now in
    let locks : Locks = locks_by c.args.p a.table a.lines a.mutexes in
    let waiter : IsWaiter locks c.args.m c.in-Some.t = subst (λ (o : Option ℕ). MayGet o locks c.args.m) c.in-Some.is c.requires.may in
    c.only.ensures
    ∙ woken_ended c.args.p c.in-Some.t (handed (Refuses ENOTRECOVERABLE)) a c.leave.new.roster c.requires.part.of_threads (λ thread. refl) (awaited_waits c.args.m (thread_at locks c.in-Some.t) waiter.waits) (ap (λ (r : Rostered). r.table.threads) c.leave.ensures)

pub returns-in-None-clause-woken : goal.returns-in-None-clause-woken
returns-in-None-clause-woken c = nobody-same c.args.p c.args.roster.now c.args.roster.now refl
