use Rattle.std.proofs.Common.{List, [], ◌∙◌, ap}
use Rattle.std.specs.Prelude.{Option}
use Rattle.ptk_words.specs.Pools.{pool_get}
use Rattle.ptk_words.specs.declared.threads.Thread.{Thread}
use Rattle.ptk_words.specs.Parts.{part_of}
use Rattle.ptk_words_model.specs.State.{Mutex, locks_of}
use Rattle.ptk_words_model.specs.Mutex.{lock_move}
use Rattle.ptk_roster.proofs.Bare.{lock_move-waiters, pool_get-bare}
use Rattle.ptk_mutex.proofs.mutexes.Mutexes.lock_move.Goals as goal

pub returns-in-Some : goal.returns-in-Some
returns-in-Some c =
    let threads : List (Option Thread) = part_of c.args.roster.now.table.threads c.args.p in
    let mutexes : List (Option Mutex) = part_of c.args.roster.now.mutexes c.args.p in
    c.lock_move.ensures
    ∙ ap (λ (l : List (Option Thread)). lock_move (locks_of l []) c.args.t c.in-Some.slot.now) (c.part.ensures.slots ∙ ap (λ (l : List (List (Option Thread))). part_of l c.args.p) c.threads.ensures.threads)
    ∙ ap (lock_move (locks_of threads []) c.args.t) (c.in-Some.ensures ∙ ap (λ (l : List (Option Mutex)). pool_get l c.args.m) c.mutex_slots.ensures.mutexes ∙ pool_get-bare mutexes c.args.m)
    ∙ lock_move-waiters (locks_of threads mutexes) [] c.args.t [] (pool_get mutexes c.args.m)
