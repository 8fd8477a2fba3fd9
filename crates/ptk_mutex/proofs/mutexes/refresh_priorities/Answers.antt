use Rattle.std.proofs.Common.{◌≡◌, ℕ, List, ◌∙◌, ap}
use Rattle.std.specs.Prelude.{Option, slice_set}
use Rattle.ptk_words.specs.declared.threads.Thread.{Thread}
use Rattle.ptk_words.specs.Parts.{part_of}
use Rattle.ptk_words_model.specs.Priority.{effective_priorities}
use Rattle.ptk_roster.specs.Rosters.{Rostered}
use Rattle.ptk_roster.proofs.Bare.{effective_priorities-bare}
use Rattle.ptk_mutex.proofs.mutexes.refresh_priorities.Goals as goal

pub store-requires-clause-levels : goal.store-requires-clause-levels
store-requires-clause-levels c = rw (← c.threads.ensures.threads, ← c.part-slots.ensures.slots) c.recompute.ensures.levels

pub returns : goal.returns
returns c =
    let a : Rostered = c.args.roster.now in
    let threads : List (Option Thread) = part_of a.table.threads c.args.p in
    let stored : c.recompute.new.stored ≡ effective_priorities threads (part_of a.mutexes c.args.p) =
    c.recompute.ensures.stored
    ∙ ap (λ (l : List (Option Thread)). effective_priorities l c.mutex_slots.result.now) (c.part-slots.ensures.slots ∙ ap (λ (l : List (List (Option Thread))). part_of l c.args.p) c.threads.ensures.threads)
    ∙ ap (effective_priorities threads) c.mutex_slots.ensures.mutexes ∙ effective_priorities-bare threads (part_of a.mutexes c.args.p) in
    let table = c.store.ensures.table ∙ ap (λ (levels : List ℕ). record a.table { stored = slice_set a.table.stored c.args.p levels }) stored in
    λ i. record { table = table i; lines = c.store.ensures.lines i; mutexes = c.store.ensures.mutexes i; conditions = c.store.ensures.conditions i }
