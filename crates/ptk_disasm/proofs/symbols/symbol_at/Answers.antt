use Rattle.std.proofs.Common.{◌∙◌, ◌<◌, ◌≤◌, ◌≢◌, ℕ, length, ap, arith}
use Rattle.std.specs.List.{position_or_len}
use Rattle.ptk_disasm.proofs.Places.{is_from, some_at, found_here, missing_here, missing_past}
use Rattle.ptk_disasm.proofs.symbols.symbol_at.Goals as goal

-- a place that is not past the end
within : (i n : ℕ) → i ≤ n → i ≢ n → i < n
within i n bound other = omega arith

pub returns-then-place-symbols : goal.returns-then-place-symbols
returns-then-place-symbols c =
    missing_past c.args.address c.args.symbols.now c.place_from-place.result
    (c.place_from-place.ensures.place ∙ ap (λ (n : ℕ). position_or_len (is_from n) c.args.symbols.now) c.from.ensures) c.if-place-symbols.true

pub returns-then-symbol-address : goal.returns-then-symbol-address
returns-then-symbol-address c =
    found_here c.args.address c.args.symbols.now c.place_from-place.result (some_at 0)
    (c.place_from-place.ensures.place ∙ ap (λ (n : ℕ). position_or_len (is_from n) c.args.symbols.now) c.from.ensures)
    (within c.place_from-place.result (length c.args.symbols.now) c.place_from-place.ensures.bound c.if-place-symbols.false) c.if-symbol-address.true

pub returns-else-symbol-address : goal.returns-else-symbol-address
returns-else-symbol-address c =
    missing_here c.args.address c.args.symbols.now c.place_from-place.result c.requires
    (c.place_from-place.ensures.place ∙ ap (λ (n : ℕ). position_or_len (is_from n) c.args.symbols.now) c.from.ensures)
    (within c.place_from-place.result (length c.args.symbols.now) c.place_from-place.ensures.bound c.if-place-symbols.false) c.if-symbol-address.false
