use Rattle.std.proofs.Common.{◌≡◌, ◌∙◌, ap}
use Rattle.ptk_words.specs.declared.mutexes.Soundness.TheVariants.{Unrecoverable}
use Rattle.ptk_words_model.specs.State.{Locks}
use Rattle.ptk_words_model.specs.Mutex.{after_free, after_refusals, with_soundness}
use Rattle.ptk_roster.specs.Rosters.{Rostered}
use Rattle.ptk_mutex.specs.Tables.{locks_by, put_locks}
use Rattle.ptk_mutex.proofs.Steps.{put_more}
use Rattle.ptk_mutex.proofs.WokenMoves.{woken_from, threads_put}
use Rattle.ptk_mutex.proofs.unlocking.lose.Goals as goal

pub returns-clause-roster : goal.returns-clause-roster
returns-clause-roster c =
    let a : Rostered = c.args.roster.now in
    let free : Locks = after_free c.args.m (locks_by c.args.p a.table a.lines a.mutexes) in
    let lost : Locks = with_soundness Unrecoverable c.args.m free in
    let marked : c.amend.new.roster ≡ put_locks c.args.p lost a = put_more c.args.p (with_soundness Unrecoverable c.args.m) a c.alter.new.roster c.amend.new.roster free c.requires.ready.part c.alter.ensures.roster c.amend.ensures.roster in
    put_more c.args.p (after_refusals c.args.m) a c.amend.new.roster c.refuse_all.new.roster lost c.requires.ready.part marked c.refuse_all.ensures.roster

pub returns-clause-woken : goal.returns-clause-woken
returns-clause-woken c =
    let a : Rostered = c.args.roster.now in
    c.refuse_all.ensures.woken
    ∙ woken_from c.args.p a c.amend.new.roster c.refuse_all.new.roster
    (threads_put c.args.p c.alter.new.roster c.amend.new.roster (ap (λ (r : Rostered). r.table.threads) c.amend.ensures.roster) ∙ threads_put c.args.p a c.alter.new.roster (ap (λ (r : Rostered). r.table.threads) c.alter.ensures.roster))
