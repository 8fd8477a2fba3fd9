-- The bytes of the operand at fault.
use Rattle.std.proofs.Common.{◌≡◌, ℕ, ◌+◌, ◌<◌, ◌≤◌, List, [], length, drop, get_or, refl, sym, ap, ◌∙◌, arith, add-one, suc, drop-cons, Ok, Err}
use Rattle.std.proofs.lemmas.Grind.{common_steps}
use Rattle.std.proofs.lemmas.List.{get_or-map, get_or_past}
use Rattle.ptk_asm_language.specs.declared.statement.Slot.{Slot}
use Rattle.ptk_asm_language.specs.declared.fault.FaultKind.{FaultKind}
use Rattle.ptk_asm_language.specs.declared.fault.FaultKind.TheVariants as fault
use Rattle.ptk_asm_language.specs.declared.token.Spanned.{Spanned}
use Rattle.ptk_asm_language.specs.Statements.{Operands, operand}
use Rattle.ptk_asm_language.specs.Places.{operand_index, place_at, end_at}
use Rattle.ptk_asm_language.specs.Reading.{view, views, spot, spots, Answers, IsPlaced}

-- an operand more
pub index_more : (o more : Operands) (slots : List Slot) (tokens : List Spanned) (i : ℕ) (s : Slot) (t : Spanned) → i < length slots → i < length tokens
    → s ≡ get_or slots i s → t ≡ get_or tokens i t → operand o s (view t.token) ≡ Ok more
    → (i + 1) + operand_index more (drop (i + 1) slots) (views (drop (i + 1) tokens)) ≡ i + operand_index o (drop i slots) (views (drop i tokens))
index_more o more slots tokens i s t inside within is_s is_t e =
    let next : operand_index o (drop i slots) (views (drop i tokens)) ≡ suc (operand_index more (drop (suc i) slots) (views (drop (suc i) tokens))) =
    rw (drop-cons slots i s inside, drop-cons tokens i t within, ← is_s, ← is_t, e) refl in
    rw (next, add-one) (omega arith)

-- an operand at fault
index_fault : (o : Operands) (k : FaultKind) (slots : List Slot) (tokens : List Spanned) (i : ℕ) (s : Slot) (t : Spanned) → i < length slots → i < length tokens
    → s ≡ get_or slots i s → t ≡ get_or tokens i t → operand o s (view t.token) ≡ Err k
    → operand_index o (drop i slots) (views (drop i tokens)) ≡ 0
index_fault o k slots tokens i s t inside within is_s is_t e =
    rw (drop-cons slots i s inside, drop-cons tokens i t within, ← is_s, ← is_t, e) refl

-- the bytes of the token of this number
spot_at : (tokens : List Spanned) (i n end : ℕ) (t : Spanned) → i < length tokens → t ≡ get_or tokens i t → n ≡ i → spot t ≡ place_at (spots tokens) n end
spot_at tokens i n end t within is_t same =
    rw same (ap spot is_t ∙ sym (get_or-map spot tokens i t (end_at end) within))

fault_at : (k : FaultKind) (o : Operands) (slots : List Slot) (tokens : List Spanned) (i n end : ℕ) (s : Slot) (t : Spanned) → i < length slots → i < length tokens
    → s ≡ get_or slots i s → t ≡ get_or tokens i t → operand o s (view t.token) ≡ Err k → i + operand_index o (drop i slots) (views (drop i tokens)) ≡ n
    → spot t ≡ place_at (spots tokens) n end
fault_at k o slots tokens i n end s t inside within is_s is_t e count =
    let none : operand_index o (drop i slots) (views (drop i tokens)) ≡ 0 = index_fault o k slots tokens i s t inside within is_s is_t e in
    spot_at tokens i n end t within is_t (omega (arith, none, count))

pub placed_fault : (k : FaultKind) (o : Operands) (slots : List Slot) (tokens : List Spanned) (i n end : ℕ) (s : Slot) (t : Spanned) → i < length slots → i < length tokens
    → s ≡ get_or slots i s → t ≡ get_or tokens i t → Answers k (operand o s (view t.token)) → i + operand_index o (drop i slots) (views (drop i tokens)) ≡ n
    → IsPlaced k (record { from = t.from; to = t.to; kind = k }) (place_at (spots tokens) n end)
placed_fault fault.Memory o slots tokens i n end s t inside within is_s is_t e count = tt
placed_fault fault.Token o slots tokens i n end s t inside within is_s is_t e count = fault_at _ o slots tokens i n end s t inside within is_s is_t e count
placed_fault fault.Mnemonic o slots tokens i n end s t inside within is_s is_t e count = fault_at _ o slots tokens i n end s t inside within is_s is_t e count
placed_fault fault.Register o slots tokens i n end s t inside within is_s is_t e count = fault_at _ o slots tokens i n end s t inside within is_s is_t e count
placed_fault fault.Range o slots tokens i n end s t inside within is_s is_t e count = fault_at _ o slots tokens i n end s t inside within is_s is_t e count
placed_fault fault.UnknownLabel o slots tokens i n end s t inside within is_s is_t e count = fault_at _ o slots tokens i n end s t inside within is_s is_t e count
placed_fault fault.DoubledLabel o slots tokens i n end s t inside within is_s is_t e count = fault_at _ o slots tokens i n end s t inside within is_s is_t e count

-- an operand that is missing
pub placed_missing : (o : Operands) (slots : List Slot) (tokens : List Spanned) (i n end : ℕ) → length tokens ≤ i
    → i + operand_index o (drop i slots) (views (drop i tokens)) ≡ n → end_at end ≡ place_at (spots tokens) n end
placed_missing o slots tokens i n end short count =
    let same : length (spots tokens) ≡ length tokens = grind (arith, common_steps) in
    let past : length (spots tokens) ≤ n = omega arith in
    sym (get_or_past (spots tokens) n (end_at end) past)

-- an operand too many
pub placed_extra : (o : Operands) (slots : List Slot) (tokens : List Spanned) (i n end : ℕ) (t : Spanned) → i ≡ length slots → length slots < length tokens → t ≡ get_or tokens (length slots) t
    → i + operand_index o (drop i slots) (views (drop i tokens)) ≡ n → spot t ≡ place_at (spots tokens) n end
placed_extra o slots tokens i n end t ends within is_t count =
    let none : drop i slots ≡ [] = grind (arith, common_steps) in
    spot_at tokens (length slots) n end t within is_t (sym count ∙ rw none (omega arith))
