use Rattle.std.proofs.Common.{◌≢◌, ◌∙◌, ◌+◌, ◌<◌, ℕ, ap, arith}
use Rattle.std.specs.List.{position_or_len}
use Rattle.ptk_disasm.specs.Looking.{pairs}
use Rattle.ptk_disasm.proofs.Places.{is_from, some_at, found_below, last_before, last_none}
use Rattle.ptk_disasm.proofs.symbols.last_below.Goals as goal

positive : (i : ℕ) → i ≢ 0 → 0 < i
positive i other = omega arith

pub returns-then-above-eq0-clause-value : goal.returns-then-above-eq0-clause-value
returns-then-above-eq0-clause-value c =
    last_none c.args.address c.args.symbols.now c.place_from-above.result c.requires
    (c.place_from-above.ensures.place ∙ ap (λ (n : ℕ). position_or_len (is_from (n + 1)) c.args.symbols.now) c.from.ensures) c.if-above-eq0.true

pub returns-clause-value : goal.returns-clause-value
returns-clause-value c =
    c.symbol_at.ensures ∙ last_before c.args.address c.args.symbols.now c.place_from-above.result (some_at 0) c.requires
    (c.place_from-above.ensures.place ∙ ap (λ (n : ℕ). position_or_len (is_from (n + 1)) c.args.symbols.now) c.from.ensures)
    (positive c.place_from-above.result c.if-above-eq0.false) c.place_from-above.ensures.bound

pub returns-clause-below : goal.returns-clause-below
returns-clause-below c = found_below c.args.address (pairs c.args.symbols.now) c.symbol_at.result (returns-clause-value c)
