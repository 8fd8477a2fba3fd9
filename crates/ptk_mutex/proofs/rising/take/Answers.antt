use Rattle.std.proofs.Common.{◌≡◌, sym, ap, subst}
use Rattle.std.specs.Prelude.{IsSome, slice_set}
use Rattle.ptk_words.specs.Pools.{pool_changed}
use Rattle.ptk_words.specs.Parts.{part_of}
use Rattle.ptk_threads.specs.Table.{ThreadTable, thread_in}
use Rattle.ptk_roster.specs.declared.slot.Change.TheVariants.{Take}
use Rattle.ptk_roster.specs.Changes.{mutex_changed}
use Rattle.ptk_roster.specs.Rosters.{Rostered}
use Rattle.ptk_words_model.specs.Mutex.{after_take}
use Rattle.ptk_mutex.specs.Tables.{locks_by}
use Rattle.ptk_mutex.proofs.Steps.{mutex_alone, refreshed_put}
use Rattle.ptk_mutex.proofs.Raised.{take_before, take_owned, stored_visited}
use Rattle.ptk_mutex.proofs.rising.take.Goals as goal

pub raise-requires-clause-before : goal.raise-requires-clause-before
raise-requires-clause-before c =
    let same : c.change_mutex.new.self.table ≡ c.args.roster.now.table = ap (λ (r : Rostered). r.table) c.change_mutex.ensures in
    let changed : c.change_mutex.new.self.mutexes ≡ slice_set c.args.roster.now.mutexes c.args.p (pool_changed c.args.m (mutex_changed (Take c.args.t)) (part_of c.args.roster.now.mutexes c.args.p)) = ap (λ (r : Rostered). r.mutexes) c.change_mutex.ensures in (
      subst (λ (l : ThreadTable). IsSome (thread_in l c.args.p c.args.t)) (sym same) c.requires.used,
      take_owned c.args.p c.args.t c.args.m c.args.roster.now.mutexes c.change_mutex.new.self.mutexes c.requires.ready.part.of_mutexes c.requires.free changed,
      take_before c.args.p c.args.t c.args.m c.args.roster.now.table c.change_mutex.new.self.table c.args.roster.now.lines c.args.roster.now.mutexes c.change_mutex.new.self.mutexes c.requires.ready c.requires.free same changed,
    )

pub returns-clause-roster : goal.returns-clause-roster
returns-clause-roster c =
    let a : Rostered = c.args.roster.now in
    let mid : Rostered = c.change_mutex.new.self in
    refreshed_put c.args.p a mid c.raise.new.roster (after_take c.args.t c.args.m (locks_by c.args.p a.table a.lines a.mutexes)) c.requires.ready.part (mutex_alone c.args.p c.args.m (mutex_changed (Take c.args.t)) a mid c.change_mutex.ensures) c.raise.ensures.stored

pub returns-clause-visited : goal.returns-clause-visited
returns-clause-visited c =
    stored_visited c.args.p _ c.args.roster.now.table c.change_mutex.new.self.table c.raise.new.roster.table (ap (λ (r : Rostered). r.table.stored) c.change_mutex.ensures) c.raise.ensures.visited
