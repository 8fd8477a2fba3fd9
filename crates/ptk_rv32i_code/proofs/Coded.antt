-- A word is made of its fields, and its fields are those that it was made of.
use Rattle.std.proofs.Common.{◌≡◌, ℕ, ◌^◌, ◌<◌, arith}
use Rattle.ptk_words_model.specs.Instructions.{rd_of, rs1_of, rs2_of}
use Rattle.ptk_words_model.specs.Fields.{opcode_of, funct3_of, funct7_of}
use Rattle.ptk_rv32i_code.specs.Coding.{i_bits, s_bits, b_bits, u_bits, j_bits, r_coded, i_coded, s_coded, b_coded, u_coded, j_coded}

-- ---- a word from its fields

pub r_again : (word : ℕ) → word < 2 ^ 32 → r_coded (opcode_of word) (funct3_of word) (funct7_of word) (rd_of word) (rs1_of word) (rs2_of word) ≡ word
unfolding r_coded
r_again word h = omega arith

pub i_again : (word : ℕ) → word < 2 ^ 32 → i_coded (opcode_of word) (funct3_of word) (rd_of word) (rs1_of word) (i_bits word) ≡ word
unfolding i_coded
i_again word h = omega arith

pub s_again : (word : ℕ) → word < 2 ^ 32 → s_coded (opcode_of word) (funct3_of word) (rs1_of word) (rs2_of word) (s_bits word) ≡ word
unfolding s_coded
s_again word h = omega arith

pub u_again : (word : ℕ) → word < 2 ^ 32 → u_coded (opcode_of word) (rd_of word) (u_bits word) ≡ word
unfolding u_coded
u_again word h = omega arith

pub b_again : (word : ℕ) → word < 2 ^ 32 → b_coded (opcode_of word) (funct3_of word) (rs1_of word) (rs2_of word) (b_bits word) ≡ word
unfolding b_coded
b_again word h = omega arith

pub j_again : (word : ℕ) → word < 2 ^ 32 → j_coded (opcode_of word) (rd_of word) (j_bits word) ≡ word
unfolding j_coded
j_again word h = omega arith

pub ruleset uj_again = (u_again, j_again)
