use Rattle.std.proofs.Common.{◌∙◌, ap}
use Rattle.std.specs.List.{list_any}
use Rattle.ptk_words.specs.Parts.{part_of}
use Rattle.ptk_words_model.specs.Mutex.{is_raising_for}
use Rattle.ptk_roster.proofs.Bare.{owns_raising-bare}
use Rattle.ptk_mutex.proofs.mutexes.Mutexes.owns_raising.Goals as goal

pub returns : goal.returns
returns c = c.is_any_raising_for.ensures ∙ ap (list_any (is_raising_for c.args.t)) c.mutex_slots.ensures.mutexes ∙ owns_raising-bare (part_of c.args.roster.now.mutexes c.args.p) c.args.t
