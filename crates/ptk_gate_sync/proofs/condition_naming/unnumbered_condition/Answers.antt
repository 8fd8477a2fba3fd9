use Rattle.std.proofs.Common.{◌≡◌, refl, sym, ◌∙◌}
use Rattle.ptk_words.specs.Pools.{least_free}
use Rattle.ptk_words.specs.Words.{word_at}
use Rattle.ptk_words_model.specs.State.{Part}
use Rattle.ptk_gate_moves.specs.Held.{limits_here}
use Rattle.ptk_gate_sync.proofs.Carried.{part_moved}
use Rattle.ptk_gate_sync.proofs.Namings.{condition_set_up}
use Rattle.ptk_gate_sync.proofs.condition_naming.unnumbered_condition.Goals as goal

pub returns-clause-named : goal.returns-clause-named
returns-clause-named c =
    let s : Part = c.args.pools.now.here in
    let is : c.args.word ≡ word_at s.memory c.args.pointer = c.requires.read in
    let zero : word_at s.memory c.args.pointer ≡ 0 = sym is ∙ c.if-word-ne0.false in
    condition_set_up (limits_here c.args.pools.now) c.args.pointer s c.new_condition_at.new.pools.here c.new_condition_at.result (least_free s.conditions) c.requires.well c.requires.readable zero refl c.new_condition_at.ensures.told
    (part_moved _ c.args.pools.now c.new_condition_at.new.pools c.new_condition_at.ensures.moved)
