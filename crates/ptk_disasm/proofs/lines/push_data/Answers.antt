use Rattle.std.proofs.Common.{List, ℕ, ◌++◌, ◌+◌, ◌-◌, length, take, drop, ap, ◌∙◌}
use Rattle.std.specs.Prelude.{string_bytes}
use Rattle.ptk_disasm.specs.Disassembly.{data_lines, text_for}
use Rattle.ptk_disasm.proofs.Written.{data-length, data-more}
use Rattle.ptk_disasm.proofs.lines.push_data.Goals as goal

pub loop-rest-preserved : goal.loop-rest-preserved
loop-rest-preserved c =
    let rest : List ℕ = c.loop-rest.rest.now in (
      data-length c.loop-rest.at _ rest c.in-len4-up.len_at_least c.loop-rest.invariant.0,
      ap (λ (t : List ℕ). t ++ text_for (data_lines (c.loop-rest.at + 4) (take (length rest - 4) (drop 4 rest)))) c.in_ok-push_data_word.ensures
          ∙ data-more (string_bytes c.loop-rest.out) c.loop-rest.at rest c.from_le_bytes-word.result c.in-len4-up.len_at_least c.from_le_bytes-word.ensures
          ∙ c.loop-rest.invariant.1,
    )
