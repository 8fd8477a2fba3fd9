use Rattle.std.proofs.Common.{List, ◌∙◌, ap}
use Rattle.std.specs.Prelude.{Option}
use Rattle.ptk_words.specs.declared.threads.Thread.{Thread}
use Rattle.ptk_words.specs.Parts.{part_of}
use Rattle.ptk_words_model.specs.State.{Mutex}
use Rattle.ptk_words_model.specs.Priority.{next_in_chain}
use Rattle.ptk_roster.proofs.Bare.{next_in_chain-bare}
use Rattle.ptk_mutex.proofs.walk.next_in.Goals as goal

pub returns : goal.returns
returns c =
    c.next_in_chain.ensures ∙ ap (λ (l : List (Option Thread)). next_in_chain l c.mutex_slots.result.now c.args.t) c.slots_of.ensures.slots
    ∙ ap (λ (l : List (Option Mutex)). next_in_chain (part_of c.args.roster.now.table.threads c.args.p) l c.args.t) c.mutex_slots.ensures.mutexes
    ∙ next_in_chain-bare (part_of c.args.roster.now.table.threads c.args.p) (part_of c.args.roster.now.mutexes c.args.p) c.args.t
