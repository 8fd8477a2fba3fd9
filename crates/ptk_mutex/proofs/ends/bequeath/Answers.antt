use Rattle.std.proofs.Common.{◌≡◌, List, sym, ◌∙◌, ap}
use Rattle.std.specs.Prelude.{Option}
use Rattle.ptk_words.specs.Pools.{pool_get, pool_changed}
use Rattle.ptk_words.specs.declared.mutexes.Soundness.TheVariants.{Inconsistent}
use Rattle.ptk_words.proofs.Pools.{changed_own}
use Rattle.ptk_words.specs.Parts.{part_of}
use Rattle.ptk_words_model.specs.State.{Mutex}
use Rattle.ptk_words_model.specs.Mutex.{soundness_of, free_move, after_hand_over, with_soundness}
use Rattle.ptk_threads.proofs.Pools.{part_of-set}
use Rattle.ptk_roster.specs.declared.slot.Change.TheVariants.{Mark}
use Rattle.ptk_roster.specs.Changes.{mutex_changed}
use Rattle.ptk_roster.specs.Rosters.{Rostered}
use Rattle.ptk_mutex.specs.Tables.{locks_by}
use Rattle.ptk_mutex.proofs.Moved.{left_recovers}
use Rattle.ptk_mutex.proofs.Steps.{put_more}
use Rattle.ptk_mutex.proofs.WokenMoves.{woken_from, threads_put}
use Rattle.ptk_mutex.proofs.ends.bequeath.Goals as goal

pub hand_over-requires-clause-made : goal.hand_over-requires-clause-made
hand_over-requires-clause-made c =
    let a : Rostered = c.args.roster.now in
    let row : List (Option Mutex) = part_of a.mutexes c.args.p in
    let marked : part_of c.amend.new.roster.mutexes c.args.p ≡ pool_changed c.args.m (mutex_changed (Mark Inconsistent)) row =
    ap (λ (r : Rostered). part_of r.mutexes c.args.p) c.amend.ensures.roster ∙ part_of-set a.mutexes c.args.p (pool_changed c.args.m (mutex_changed (Mark Inconsistent)) row) c.requires.ready.part.of_mutexes in
    left_recovers (pool_get row c.args.m) c.requires.used
    ∙ ap (λ (x : Option Mutex). free_move (soundness_of x)) (sym (changed_own c.args.m (mutex_changed (Mark Inconsistent)) row))
    ∙ ap (λ (l : List (Option Mutex)). free_move (soundness_of (pool_get l c.args.m))) (sym marked)

pub returns-clause-roster : goal.returns-clause-roster
returns-clause-roster c =
    let a : Rostered = c.args.roster.now in
    put_more c.args.p (after_hand_over c.args.m) a c.amend.new.roster c.hand_over.new.roster (with_soundness Inconsistent c.args.m (locks_by c.args.p a.table a.lines a.mutexes)) c.requires.ready.part c.amend.ensures.roster c.hand_over.ensures.roster

pub returns-clause-woken : goal.returns-clause-woken
returns-clause-woken c =
    let a : Rostered = c.args.roster.now in
    c.hand_over.ensures.woken ∙ woken_from c.args.p a c.amend.new.roster c.hand_over.new.roster (threads_put c.args.p a c.amend.new.roster (ap (λ (r : Rostered). r.table.threads) c.amend.ensures.roster))
