-- The statement for a word writes it.
use Rattle.std.proofs.Common.{◌≡◌, ℕ, ◌%◌, ◌^◌, ◌<◌, Bool, true, false, ◌&&◌, [], ◌∷◌, Option, Some, None, option_map, refl, sym, ap, subst, ◌∙◌, arith, ◌==◌, ℤ, pos}
use Rattle.std.specs.Prelude.{⊤, flat_map, negsuc, if◌then◌else◌}
use Rattle.std.specs.Int.{w32, to_le_bytes}
use Rattle.std.proofs.lemmas.List.{append-nil}
use Rattle.std.proofs.lemmas.Bool.Decides.{nat_tests}
use Rattle.std.proofs.lemmas.Bool.{and_parts, eqb-true}
use Rattle.ptk_rv32i_code.specs.declared.instr.Instr.{Instr}
use Rattle.ptk_rv32i_code.specs.declared.instr.Instr.TheVariants as instr
use Rattle.ptk_rv32i_code.specs.declared.instr.ImmediateOp.{ImmediateOp}
use Rattle.ptk_rv32i_code.specs.declared.instr.ImmediateOp.TheVariants as immediate
use Rattle.ptk_words_model.specs.Instructions as isa
use Rattle.ptk_words_model.specs.Instructions.{Name, InstructionRow, decode_of}
use Rattle.ptk_rv32i_code.specs.declared.instr.BranchTest.{BranchTest}
use Rattle.ptk_rv32i_code.specs.declared.instr.LoadKind.{LoadKind}
use Rattle.ptk_rv32i_code.specs.declared.instr.StoreKind.{StoreKind}
use Rattle.ptk_rv32i_code.specs.declared.instr.ShiftOp.{ShiftOp}
use Rattle.ptk_rv32i_code.specs.declared.instr.RegisterOp.{RegisterOp}
use Rattle.ptk_rv32i_code.specs.Coding.{decoded, encoded, instr_of, i_coded}
use Rattle.ptk_asm_language.specs.declared.statement.Section.TheVariants as section
use Rattle.ptk_asm_language.specs.declared.statement.Form.TheVariants as form
use Rattle.ptk_asm_language.specs.declared.statement.Slot.TheVariants as slot
use Rattle.ptk_asm_language.specs.Statements.{Value, Given, Labelled, is_within, is_even, given_if, field, distance_field, stands_in, size_of, bytes_of}
use Rattle.ptk_asm_language.specs.Source.{Statement}
use Rattle.ptk_disasm.specs.WordStatements.{bare, given, signed, add_statement, immediate_statement, jalr_statement, jal_statement, word_statement, fence_statement, instruction_statement, decoded_statement, statement_for}
use Rattle.ptk_disasm.proofs.Signed.{IsShort, short, IsDistance, branch_distance, jump_distance}
use Rattle.ptk_disasm.proofs.Operands.{Takes, comma-mark, open-mark, close-mark}
use Rattle.ptk_disasm.proofs.Numbers.{number-piece}
use Rattle.ptk_disasm.proofs.Stated.{IsSpelled}
use Rattle.ptk_disasm.proofs.Coded.{decoded-again}

-- the statement names no label
abbrev pub has_no_label : Value → Bool
has_no_label (Labelled name) = false
has_no_label v = true

-- the number of a value that is no label
abbrev pub value_number : Value → ℤ
value_number (Given n) = n
value_number v = pos 0

-- the statement is spelled, stands in the text and writes the word
pub record Writes (s : Statement) (word : ℕ) : Type 0 where
  pub spelled : IsSpelled s
  pub stands : stands_in s.form section.Text ≡ true
  pub size : size_of s.form s.operands.value ≡ 4
  pub no_label : has_no_label s.operands.value ≡ true
  pub written : bytes_of s.form s.operands.registers (value_number s.operands.value) ≡ to_le_bytes w32 word

-- the fields of an instruction are as wide as its word has them
abbrev pub InstrFits : Instr → Type 0
InstrFits (instr.Lui rd bits) = (rd < 32) × (bits < 2 ^ 20)
InstrFits (instr.Auipc rd bits) = (rd < 32) × (bits < 2 ^ 20)
InstrFits (instr.Jal rd bits) = (rd < 32) × ((bits < 2 ^ 21) × (bits % 2 ≡ 0))
InstrFits (instr.Jalr rd rs1 bits) = (rd < 32) × ((rs1 < 32) × (bits < 2 ^ 12))
InstrFits (instr.Branch t rs1 rs2 bits) = (rs1 < 32) × ((rs2 < 32) × ((bits < 2 ^ 13) × (bits % 2 ≡ 0)))
InstrFits (instr.Load k rd rs1 bits) = (rd < 32) × ((rs1 < 32) × (bits < 2 ^ 12))
InstrFits (instr.Store k rs1 rs2 bits) = (rs1 < 32) × ((rs2 < 32) × (bits < 2 ^ 12))
InstrFits (instr.WithImmediate op rd rs1 bits) = (rd < 32) × ((rs1 < 32) × (bits < 2 ^ 12))
InstrFits (instr.Shift op rd rs1 bits) = (rd < 32) × ((rs1 < 32) × (bits < 32))
InstrFits (instr.WithRegister op rd rs1 rs2) = (rd < 32) × ((rs1 < 32) × (rs2 < 32))
InstrFits i = ⊤

-- ---- places for numbers

pub takes_number : (below above : ℕ) (n : ℤ) → is_within below above n ≡ true → Takes (slot.Number below above) n
takes_number below above n e o = ap (λ (b : Bool). given_if o b n) e

takes_word : (below above : ℕ) (n : ℤ) → is_within below above n ≡ true → Takes (slot.NumberOrLabel below above) n
takes_word below above n e o = ap (λ (b : Bool). given_if o b n) e

takes_target : (below above : ℕ) (n : ℤ) → (is_within below above n && is_even n) ≡ true → Takes (slot.Target below above) n
takes_target below above n e o = ap (λ (b : Bool). given_if o b n) e

-- ---- what is written

one_written : (i j : Instr) (word : ℕ) → i ≡ j → encoded j ≡ word → flat_map (λ i. to_le_bytes w32 (encoded i)) (i ∷ []) ≡ to_le_bytes w32 word
one_written i j word e h = append-nil (to_le_bytes w32 (encoded i)) ∙ ap (to_le_bytes w32) (ap encoded e ∙ h)

-- ---- by instruction

pub word_writes : (word : ℕ) → word < 2 ^ 32 → Writes (word_statement word) word
word_writes word h = record {
  spelled = record {
    number = pos word;
    fits = ((number-piece form.Word (pos word) (omega (arith, h)), takes_word 2147483648 4294967295 (pos word) (grind (arith, nat_tests))), (refl, tt));
    value = refl;
  };
  stands = refl;
  size = refl;
  no_label = refl;
  written = ap (to_le_bytes w32) (omega (arith, h));
}

lui_writes : (word rd bits : ℕ) → rd < 32 → bits < 2 ^ 20 → encoded (instr.Lui rd bits) ≡ word → Writes (given form.Lui (rd ∷ []) (pos bits)) word
lui_writes word rd bits d h e = record {
  spelled = record {
    number = pos bits;
    fits = (d, (refl, (comma-mark, ((number-piece form.Lui (pos bits) (omega (arith, h)), takes_number 0 1048575 (pos bits) (grind (arith, nat_tests))), (refl, tt)))));
    value = refl;
  };
  stands = refl;
  size = refl;
  no_label = refl;
  written = one_written (instr.Lui rd (field 20 (pos bits))) (instr.Lui rd bits) word (ap (instr.Lui rd) (omega (arith, h))) e;
}

auipc_writes : (word rd bits : ℕ) → rd < 32 → bits < 2 ^ 20 → encoded (instr.Auipc rd bits) ≡ word → Writes (given form.Auipc (rd ∷ []) (pos bits)) word
auipc_writes word rd bits d h e = record {
  spelled = record { number = pos bits; fits = (d, (refl, (comma-mark, ((number-piece form.Auipc (pos bits) (omega (arith, h)), takes_number 0 1048575 (pos bits) (grind (arith, nat_tests))), (refl, tt))))); value = refl };
  stands = refl;
  size = refl;
  no_label = refl;
  written = one_written (instr.Auipc rd (field 20 (pos bits))) (instr.Auipc rd bits) word (ap (instr.Auipc rd) (omega (arith, h))) e;
}

immediate_writes : (op : ImmediateOp) (word rd rs1 bits : ℕ) → rd < 32 → rs1 < 32 → bits < 2 ^ 12 → encoded (instr.WithImmediate op rd rs1 bits) ≡ word → Writes (given (form.WithImmediate op) (rd ∷ rs1 ∷ []) (signed 12 bits)) word
immediate_writes op word rd rs1 bits d f h e = let is : IsShort (signed 12 bits) bits = short bits h in record {
  spelled = record { number = signed 12 bits; fits = (d, (refl, (comma-mark, (f, (refl, (comma-mark, ((number-piece (form.WithImmediate op) (signed 12 bits) is.small, takes_number 2048 2047 (signed 12 bits) is.within), (refl, tt)))))))); value = refl };
  stands = refl;
  size = refl;
  no_label = refl;
  written = one_written (instr.WithImmediate op rd rs1 (field 12 (signed 12 bits))) (instr.WithImmediate op rd rs1 bits) word (ap (instr.WithImmediate op rd rs1) is.same) e;
}

shift_writes : (op : ShiftOp) (word rd rs1 bits : ℕ) → rd < 32 → rs1 < 32 → bits < 32 → encoded (instr.Shift op rd rs1 bits) ≡ word → Writes (given (form.Shift op) (rd ∷ rs1 ∷ []) (pos bits)) word
shift_writes op word rd rs1 bits d f h e = record {
  spelled = record { number = pos bits; fits = (d, (refl, (comma-mark, (f, (refl, (comma-mark, ((number-piece (form.Shift op) (pos bits) (omega (arith, h)), takes_number 0 31 (pos bits) (grind (arith, nat_tests))), (refl, tt)))))))); value = refl };
  stands = refl;
  size = refl;
  no_label = refl;
  written = one_written (instr.Shift op rd rs1 (field 5 (pos bits))) (instr.Shift op rd rs1 bits) word (ap (instr.Shift op rd rs1) (omega (arith, h))) e;
}

register_writes : (op : RegisterOp) (word rd rs1 rs2 : ℕ) → rd < 32 → rs1 < 32 → rs2 < 32 → encoded (instr.WithRegister op rd rs1 rs2) ≡ word → Writes (bare (form.WithRegister op) (rd ∷ rs1 ∷ rs2 ∷ [])) word
register_writes op word rd rs1 rs2 d f g e = record {
  spelled = record { number = pos 0; fits = (d, (refl, (comma-mark, (f, (refl, (comma-mark, (g, (refl, tt)))))))); value = refl };
  stands = refl;
  size = refl;
  no_label = refl;
  written = one_written (instr.WithRegister op rd rs1 rs2) (instr.WithRegister op rd rs1 rs2) word refl e;
}

load_writes : (k : LoadKind) (word rd rs1 bits : ℕ) → rd < 32 → rs1 < 32 → bits < 2 ^ 12 → encoded (instr.Load k rd rs1 bits) ≡ word → Writes (given (form.Load k) (rd ∷ rs1 ∷ []) (signed 12 bits)) word
load_writes k word rd rs1 bits d f h e = let is : IsShort (signed 12 bits) bits = short bits h in record {
  spelled = record { number = signed 12 bits; fits = (d, (refl, (comma-mark, ((number-piece (form.Load k) (signed 12 bits) is.small, takes_number 2048 2047 (signed 12 bits) is.within), (refl, (open-mark, (f, (refl, (close-mark, tt))))))))); value = refl };
  stands = refl;
  size = refl;
  no_label = refl;
  written = one_written (instr.Load k rd rs1 (field 12 (signed 12 bits))) (instr.Load k rd rs1 bits) word (ap (instr.Load k rd rs1) is.same) e;
}

store_writes : (k : StoreKind) (word rs2 rs1 bits : ℕ) → rs2 < 32 → rs1 < 32 → bits < 2 ^ 12 → encoded (instr.Store k rs1 rs2 bits) ≡ word → Writes (given (form.Store k) (rs2 ∷ rs1 ∷ []) (signed 12 bits)) word
store_writes k word rs2 rs1 bits d f h e = let is : IsShort (signed 12 bits) bits = short bits h in record {
  spelled = record { number = signed 12 bits; fits = (d, (refl, (comma-mark, ((number-piece (form.Store k) (signed 12 bits) is.small, takes_number 2048 2047 (signed 12 bits) is.within), (refl, (open-mark, (f, (refl, (close-mark, tt))))))))); value = refl };
  stands = refl;
  size = refl;
  no_label = refl;
  written = one_written (instr.Store k rs1 rs2 (field 12 (signed 12 bits))) (instr.Store k rs1 rs2 bits) word (ap (instr.Store k rs1 rs2) is.same) e;
}

jalr_writes : (word rd rs1 bits : ℕ) → rd < 32 → rs1 < 32 → bits < 2 ^ 12 → encoded (instr.Jalr rd rs1 bits) ≡ word → Writes (given form.Jalr (rd ∷ rs1 ∷ []) (signed 12 bits)) word
jalr_writes word rd rs1 bits d f h e = let is : IsShort (signed 12 bits) bits = short bits h in record {
  spelled = record { number = signed 12 bits; fits = (d, (refl, (comma-mark, ((number-piece form.Jalr (signed 12 bits) is.small, takes_number 2048 2047 (signed 12 bits) is.within), (refl, (open-mark, (f, (refl, (close-mark, tt))))))))); value = refl };
  stands = refl;
  size = refl;
  no_label = refl;
  written = one_written (instr.Jalr rd rs1 (field 12 (signed 12 bits))) (instr.Jalr rd rs1 bits) word (ap (instr.Jalr rd rs1) is.same) e;
}

branch_writes : (t : BranchTest) (word rs1 rs2 bits : ℕ) → rs1 < 32 → rs2 < 32 → bits < 2 ^ 13 → bits % 2 ≡ 0 → encoded (instr.Branch t rs1 rs2 bits) ≡ word → Writes (given (form.Branch t) (rs1 ∷ rs2 ∷ []) (signed 13 bits)) word
branch_writes t word rs1 rs2 bits d f h even e = let is : IsDistance 13 4096 4094 (signed 13 bits) bits = branch_distance bits h even in record {
  spelled = record { number = signed 13 bits; fits = (d, (refl, (comma-mark, (f, (refl, (comma-mark, ((number-piece (form.Branch t) (signed 13 bits) is.small, takes_target 4096 4094 (signed 13 bits) is.within), (refl, tt)))))))); value = refl };
  stands = refl;
  size = refl;
  no_label = refl;
  written = one_written (instr.Branch t rs1 rs2 (distance_field 13 (signed 13 bits))) (instr.Branch t rs1 rs2 bits) word (ap (instr.Branch t rs1 rs2) is.same) e;
}

jal_writes : (word rd bits : ℕ) → rd < 32 → bits < 2 ^ 21 → bits % 2 ≡ 0 → encoded (instr.Jal rd bits) ≡ word → Writes (given form.Jal (rd ∷ []) (signed 21 bits)) word
jal_writes word rd bits d h even e = let is : IsDistance 21 1048576 1048574 (signed 21 bits) bits = jump_distance bits h even in record {
  spelled = record { number = signed 21 bits; fits = (d, (refl, (comma-mark, ((number-piece form.Jal (signed 21 bits) is.small, takes_target 1048576 1048574 (signed 21 bits) is.within), (refl, tt))))); value = refl };
  stands = refl;
  size = refl;
  no_label = refl;
  written = one_written (instr.Jal rd (distance_field 21 (signed 21 bits))) (instr.Jal rd bits) word (ap (instr.Jal rd) is.same) e;
}

j_writes : (word bits : ℕ) → bits < 2 ^ 21 → bits % 2 ≡ 0 → encoded (instr.Jal 0 bits) ≡ word → Writes (given form.Jump [] (signed 21 bits)) word
j_writes word bits h even e = let is : IsDistance 21 1048576 1048574 (signed 21 bits) bits = jump_distance bits h even in record {
  spelled = record { number = signed 21 bits; fits = ((number-piece form.Jump (signed 21 bits) is.small, takes_target 1048576 1048574 (signed 21 bits) is.within), (refl, tt)); value = refl };
  stands = refl;
  size = refl;
  no_label = refl;
  written = one_written (instr.Jal 0 (distance_field 21 (signed 21 bits))) (instr.Jal 0 bits) word (ap (instr.Jal 0) is.same) e;
}

nop_writes : (word : ℕ) → encoded (instr.WithImmediate immediate.Add 0 0 0) ≡ word → Writes (bare form.Nop []) word
nop_writes word e = record {
  spelled = record { number = pos 0; fits = tt; value = refl };
  stands = refl;
  size = refl;
  no_label = refl;
  written = one_written (instr.WithImmediate immediate.Add 0 0 0) (instr.WithImmediate immediate.Add 0 0 0) word refl e;
}

mv_writes : (word rd rs1 : ℕ) → rd < 32 → rs1 < 32 → encoded (instr.WithImmediate immediate.Add rd rs1 0) ≡ word → Writes (bare form.Move (rd ∷ rs1 ∷ [])) word
mv_writes word rd rs1 d f e = record {
  spelled = record { number = pos 0; fits = (d, (refl, (comma-mark, (f, (refl, tt))))); value = refl };
  stands = refl;
  size = refl;
  no_label = refl;
  written = one_written (instr.WithImmediate immediate.Add rd rs1 0) (instr.WithImmediate immediate.Add rd rs1 0) word refl e;
}

jr_writes : (word rs1 : ℕ) → rs1 < 32 → encoded (instr.Jalr 0 rs1 0) ≡ word → Writes (bare form.JumpRegister (rs1 ∷ [])) word
jr_writes word rs1 f e = record {
  spelled = record { number = pos 0; fits = (f, (refl, tt)); value = refl };
  stands = refl;
  size = refl;
  no_label = refl;
  written = one_written (instr.Jalr 0 rs1 0) (instr.Jalr 0 rs1 0) word refl e;
}

ret_writes : (word : ℕ) → encoded (instr.Jalr 0 1 0) ≡ word → Writes (bare form.Return []) word
ret_writes word e = record {
  spelled = record { number = pos 0; fits = tt; value = refl };
  stands = refl;
  size = refl;
  no_label = refl;
  written = one_written (instr.Jalr 0 1 0) (instr.Jalr 0 1 0) word refl e;
}

ecall_writes : (word : ℕ) → encoded (instr.Ecall) ≡ word → Writes (bare form.Ecall []) word
ecall_writes word e = record {
  spelled = record { number = pos 0; fits = tt; value = refl };
  stands = refl;
  size = refl;
  no_label = refl;
  written = one_written (instr.Ecall) (instr.Ecall) word refl e;
}

ebreak_writes : (word : ℕ) → encoded (instr.Ebreak) ≡ word → Writes (bare form.Ebreak []) word
ebreak_writes word e = record {
  spelled = record { number = pos 0; fits = tt; value = refl };
  stands = refl;
  size = refl;
  no_label = refl;
  written = one_written (instr.Ebreak) (instr.Ebreak) word refl e;
}

fence_writes : (word : ℕ) → encoded (instr.Fence 0 0 255) ≡ word → Writes (bare form.Fence []) word
fence_writes word e = record {
  spelled = record { number = pos 0; fits = tt; value = refl };
  stands = refl;
  size = refl;
  no_label = refl;
  written = one_written (instr.Fence 0 0 255) (instr.Fence 0 0 255) word refl e;
}

wide : (n : ℤ) → is_within 2048 2047 n ≡ true → is_within 2147483648 4294967295 n ≡ true
wide (pos n) h = grind (arith, nat_tests)
wide (negsuc n) h = grind (arith, nat_tests)

li_writes : (word rd bits : ℕ) → rd < 32 → bits < 2 ^ 12 → encoded (instr.WithImmediate immediate.Add rd 0 bits) ≡ word → Writes (given form.LoadValue (rd ∷ []) (signed 12 bits)) word
li_writes word rd bits d h e = let is : IsShort (signed 12 bits) bits = short bits h in record {
  spelled = record { number = signed 12 bits; fits = (d, (refl, (comma-mark, ((number-piece form.LoadValue (signed 12 bits) is.small, takes_number 2147483648 4294967295 (signed 12 bits) (wide (signed 12 bits) is.within)), (refl, tt))))); value = refl };
  stands = refl;
  size = rw is.within refl;
  no_label = refl;
  written = rw is.within (one_written (instr.WithImmediate immediate.Add rd 0 (field 12 (signed 12 bits))) (instr.WithImmediate immediate.Add rd 0 bits) word (ap (instr.WithImmediate immediate.Add rd 0) is.same) e);
}

-- ---- the short forms

add_writes : (word rd rs1 bits : ℕ) → rd < 32 → rs1 < 32 → bits < 2 ^ 12 → encoded (instr.WithImmediate immediate.Add rd rs1 bits) ≡ word → Writes (add_statement rd rs1 bits) word
add_writes word rd rs1 bits d f h e = by_source (rs1 == 0) refl
  where
    from_zero : rs1 ≡ 0 → (b : Bool) → (rd == 0 && bits == 0) ≡ b → Writes (if rd == 0 && bits == 0 then bare form.Nop [] else given form.LoadValue (rd ∷ []) (signed 12 bits)) word
    from_zero z true t =
        let parts = and_parts (rd == 0) (bits == 0) t in
        let a : rd ≡ 0 = eqb-true rd 0 parts.0 in
        let c : bits ≡ 0 = eqb-true bits 0 parts.1 in
        rw t (nop_writes word (sym (ap (λ (x : ℕ). encoded (instr.WithImmediate immediate.Add x rs1 bits)) a ∙ ap (λ (x : ℕ). encoded (instr.WithImmediate immediate.Add 0 x bits)) z ∙ ap (λ (x : ℕ). encoded (instr.WithImmediate immediate.Add 0 0 x)) c) ∙ e))
    from_zero z false t = rw t (li_writes word rd bits d h (sym (ap (λ (x : ℕ). encoded (instr.WithImmediate immediate.Add rd x bits)) z) ∙ e))

    from_register : (b : Bool) → (bits == 0) ≡ b → Writes (if bits == 0 then bare form.Move (rd ∷ rs1 ∷ []) else given (form.WithImmediate immediate.Add) (rd ∷ rs1 ∷ []) (signed 12 bits)) word
    from_register true t = rw t (mv_writes word rd rs1 d f (sym (ap (λ (x : ℕ). encoded (instr.WithImmediate immediate.Add rd rs1 x)) (eqb-true bits 0 t)) ∙ e))
    from_register false t = rw t (immediate_writes immediate.Add word rd rs1 bits d f h e)

    by_source : (b : Bool) → (rs1 == 0) ≡ b → Writes (add_statement rd rs1 bits) word
    by_source true t = rw t (from_zero (eqb-true rs1 0 t) (rd == 0 && bits == 0) refl)
    by_source false t = rw t (from_register (bits == 0) refl)

any_immediate : (op : ImmediateOp) (word rd rs1 bits : ℕ) → rd < 32 → rs1 < 32 → bits < 2 ^ 12 → encoded (instr.WithImmediate op rd rs1 bits) ≡ word → Writes (immediate_statement op rd rs1 bits) word
any_immediate immediate.Add word rd rs1 bits d f h e = add_writes word rd rs1 bits d f h e
any_immediate immediate.Less word rd rs1 bits d f h e = immediate_writes immediate.Less word rd rs1 bits d f h e
any_immediate immediate.LessUnsigned word rd rs1 bits d f h e = immediate_writes immediate.LessUnsigned word rd rs1 bits d f h e
any_immediate immediate.Xor word rd rs1 bits d f h e = immediate_writes immediate.Xor word rd rs1 bits d f h e
any_immediate immediate.Or word rd rs1 bits d f h e = immediate_writes immediate.Or word rd rs1 bits d f h e
any_immediate immediate.And word rd rs1 bits d f h e = immediate_writes immediate.And word rd rs1 bits d f h e

any_jalr : (word rd rs1 bits : ℕ) → rd < 32 → rs1 < 32 → bits < 2 ^ 12 → encoded (instr.Jalr rd rs1 bits) ≡ word → Writes (jalr_statement rd rs1 bits) word
any_jalr word rd rs1 bits d f h e = by_test (rd == 0 && bits == 0) refl
  where
    by_source : encoded (instr.Jalr 0 rs1 0) ≡ word → (b : Bool) → (rs1 == 1) ≡ b → Writes (if rs1 == 1 then bare form.Return [] else bare form.JumpRegister (rs1 ∷ [])) word
    by_source g true t = rw t (ret_writes word (sym (ap (λ (x : ℕ). encoded (instr.Jalr 0 x 0)) (eqb-true rs1 1 t)) ∙ g))
    by_source g false t = rw t (jr_writes word rs1 f g)

    by_test : (b : Bool) → (rd == 0 && bits == 0) ≡ b → Writes (jalr_statement rd rs1 bits) word
    by_test true t =
        let parts = and_parts (rd == 0) (bits == 0) t in
        rw t (by_source (sym (ap (λ (x : ℕ). encoded (instr.Jalr x rs1 bits)) (eqb-true rd 0 parts.0) ∙ ap (λ (x : ℕ). encoded (instr.Jalr 0 rs1 x)) (eqb-true bits 0 parts.1)) ∙ e) (rs1 == 1) refl)
    by_test false t = rw t (jalr_writes word rd rs1 bits d f h e)

any_jal : (word rd bits : ℕ) → rd < 32 → bits < 2 ^ 21 → bits % 2 ≡ 0 → encoded (instr.Jal rd bits) ≡ word → Writes (jal_statement rd bits) word
any_jal word rd bits d h even e = by_test (rd == 0) refl
  where
    by_test : (b : Bool) → (rd == 0) ≡ b → Writes (jal_statement rd bits) word
    by_test true t = rw t (j_writes word bits h even (sym (ap (λ (x : ℕ). encoded (instr.Jal x bits)) (eqb-true rd 0 t)) ∙ e))
    by_test false t = rw t (jal_writes word rd bits d h even e)

fence_word : encoded (instr.Fence 0 0 255) ≡ 0x0ff0000f
unfolding i_coded
fence_word = refl

any_fence : (word : ℕ) → word < 2 ^ 32 → Writes (fence_statement word) word
any_fence word h = by_test (word == 0x0ff0000f) refl
  where
    by_test : (b : Bool) → (word == 0x0ff0000f) ≡ b → Writes (fence_statement word) word
    by_test true t = rw t (fence_writes word (fence_word ∙ sym (eqb-true word 0x0ff0000f t)))
    by_test false t = rw t (word_writes word h)

-- the statement of an instruction writes its word
instruction_writes : (word : ℕ) (i : Instr) → word < 2 ^ 32 → InstrFits i → encoded i ≡ word → Writes (instruction_statement word i) word
instruction_writes word (instr.Lui rd bits) h fits e = lui_writes word rd bits fits.0 fits.1 e
instruction_writes word (instr.Auipc rd bits) h fits e = auipc_writes word rd bits fits.0 fits.1 e
instruction_writes word (instr.Jal rd bits) h fits e = any_jal word rd bits fits.0 fits.1.0 fits.1.1 e
instruction_writes word (instr.Jalr rd rs1 bits) h fits e = any_jalr word rd rs1 bits fits.0 fits.1.0 fits.1.1 e
instruction_writes word (instr.Branch t rs1 rs2 bits) h fits e = branch_writes t word rs1 rs2 bits fits.0 fits.1.0 fits.1.1.0 fits.1.1.1 e
instruction_writes word (instr.Load k rd rs1 bits) h fits e = load_writes k word rd rs1 bits fits.0 fits.1.0 fits.1.1 e
instruction_writes word (instr.Store k rs1 rs2 bits) h fits e = store_writes k word rs2 rs1 bits fits.1.0 fits.0 fits.1.1 e
instruction_writes word (instr.WithImmediate op rd rs1 bits) h fits e = any_immediate op word rd rs1 bits fits.0 fits.1.0 fits.1.1 e
instruction_writes word (instr.Shift op rd rs1 bits) h fits e = shift_writes op word rd rs1 bits fits.0 fits.1.0 fits.1.1 e
instruction_writes word (instr.WithRegister op rd rs1 rs2) h fits e = register_writes op word rd rs1 rs2 fits.0 fits.1.0 fits.1.1 e
instruction_writes word (instr.Fence rd rs1 bits) h fits e = any_fence word h
instruction_writes word instr.Ecall h fits e = ecall_writes word e
instruction_writes word instr.Ebreak h fits e = ebreak_writes word e

-- the fields of a word are as wide
name_fits : (name : Name) (word : ℕ) → InstrFits (instr_of name word)
name_fits isa.Lui word = (omega arith, omega arith)
name_fits isa.Auipc word = (omega arith, omega arith)
name_fits isa.Jal word = (omega arith, (omega arith, omega arith))
name_fits isa.Jalr word = (omega arith, (omega arith, omega arith))
name_fits isa.Beq word = (omega arith, (omega arith, (omega arith, omega arith)))
name_fits isa.Bne word = (omega arith, (omega arith, (omega arith, omega arith)))
name_fits isa.Blt word = (omega arith, (omega arith, (omega arith, omega arith)))
name_fits isa.Bge word = (omega arith, (omega arith, (omega arith, omega arith)))
name_fits isa.Bltu word = (omega arith, (omega arith, (omega arith, omega arith)))
name_fits isa.Bgeu word = (omega arith, (omega arith, (omega arith, omega arith)))
name_fits isa.Lb word = (omega arith, (omega arith, omega arith))
name_fits isa.Lh word = (omega arith, (omega arith, omega arith))
name_fits isa.Lw word = (omega arith, (omega arith, omega arith))
name_fits isa.Lbu word = (omega arith, (omega arith, omega arith))
name_fits isa.Lhu word = (omega arith, (omega arith, omega arith))
name_fits isa.Sb word = (omega arith, (omega arith, omega arith))
name_fits isa.Sh word = (omega arith, (omega arith, omega arith))
name_fits isa.Sw word = (omega arith, (omega arith, omega arith))
name_fits isa.Addi word = (omega arith, (omega arith, omega arith))
name_fits isa.Slti word = (omega arith, (omega arith, omega arith))
name_fits isa.Sltiu word = (omega arith, (omega arith, omega arith))
name_fits isa.Xori word = (omega arith, (omega arith, omega arith))
name_fits isa.Ori word = (omega arith, (omega arith, omega arith))
name_fits isa.Andi word = (omega arith, (omega arith, omega arith))
name_fits isa.Slli word = (omega arith, (omega arith, omega arith))
name_fits isa.Srli word = (omega arith, (omega arith, omega arith))
name_fits isa.Srai word = (omega arith, (omega arith, omega arith))
name_fits isa.Add word = (omega arith, (omega arith, omega arith))
name_fits isa.Sub word = (omega arith, (omega arith, omega arith))
name_fits isa.Sll word = (omega arith, (omega arith, omega arith))
name_fits isa.Slt word = (omega arith, (omega arith, omega arith))
name_fits isa.Sltu word = (omega arith, (omega arith, omega arith))
name_fits isa.Xor word = (omega arith, (omega arith, omega arith))
name_fits isa.Srl word = (omega arith, (omega arith, omega arith))
name_fits isa.Sra word = (omega arith, (omega arith, omega arith))
name_fits isa.Or word = (omega arith, (omega arith, omega arith))
name_fits isa.And word = (omega arith, (omega arith, omega arith))
name_fits isa.Fence word = tt
name_fits isa.Ecall word = tt
name_fits isa.Ebreak word = tt

decoded_fits : (word : ℕ) (i : Instr) → decoded word ≡ Some i → InstrFits i
unfolding decoded
decoded_fits word i e = by_row (decode_of word) e
  where
    some_same : (a b : Instr) → Some a ≡ Some b → a ≡ b
    some_same a b e = cc

    by_row : (r : Option InstructionRow) → option_map (λ (r : InstructionRow). instr_of r.name word) r ≡ Some i → InstrFits i
    by_row None never = absurd (cc)
    by_row (Some r) e = subst InstrFits (some_same (instr_of r.name word) i e) (name_fits r.name word)

-- the statement for a word writes it
pub word-written : (word : ℕ) → word < 2 ^ 32 → Writes (statement_for word) word
word-written word h = by_found (decoded word) refl
  where
    by_found : (found : Option Instr) → decoded word ≡ found → Writes (decoded_statement word found) word
    by_found None e = word_writes word h
    by_found (Some i) e = instruction_writes word i h (decoded_fits word i e) (decoded-again word i h e)
