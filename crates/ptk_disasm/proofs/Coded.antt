-- The instruction of a word has its word.
use Rattle.std.proofs.Common.{◌≡◌, ℕ, ◌+◌, ◌*◌, ◌^◌, ◌<◌, Bool, true, false, ◌&&◌, List, [], ◌∷◌, Option, Some, None, option_map, refl, sym, ap, ◌∙◌, arith, ◌==◌}
use Rattle.std.specs.Prelude.{⊤, find}
use Rattle.std.proofs.lemmas.Bool.Decides.{nat_tests}
use Rattle.std.proofs.lemmas.Bool.{and_parts}
use Rattle.ptk_words_model.specs.Instructions.{Format, Name, InstructionRow, rd_of, rs1_of, rs2_of}
use Rattle.ptk_words_model.specs.Fields.{Fixed, Opcode, Funct3, Funct7, Whole, Line, field_table, row_of, row_of_fixed, agrees_by, row_by, opcode_of, funct3_of, funct7_of, rest_of}
use Rattle.ptk_rv32i_code.specs.declared.instr.Instr.{Instr}
use Rattle.ptk_rv32i_code.specs.Coding.{i_bits, s_bits, b_bits, u_bits, j_bits, r_coded, i_coded, s_coded, b_coded, u_coded, j_coded, instr_of, decoded, encoded}
use Rattle.ptk_rv32i_code.proofs.Coded.{r_again, i_again, s_again, u_again, b_again, j_again}
use Rattle.ptk_rv32i_code.proofs.Decoded.{decoded_by}

same : (a b : ℕ) → (a == b) ≡ true → b ≡ a
same a b h = grind (arith, nat_tests)

r_word : (word op f3 f7 : ℕ) → word < 2 ^ 32 → (opcode_of word == op && (funct3_of word == f3 && funct7_of word == f7)) ≡ true → r_coded op f3 f7 (rd_of word) (rs1_of word) (rs2_of word) ≡ word
r_word word op f3 f7 h e =
    let one = and_parts (opcode_of word == op) (funct3_of word == f3 && funct7_of word == f7) e in
    let two = and_parts (funct3_of word == f3) (funct7_of word == f7) one.1 in
    ap (λ (x : ℕ). r_coded x f3 f7 (rd_of word) (rs1_of word) (rs2_of word)) (same (opcode_of word) op one.0)
    ∙ ap (λ (x : ℕ). r_coded (opcode_of word) x f7 (rd_of word) (rs1_of word) (rs2_of word)) (same (funct3_of word) f3 two.0)
    ∙ ap (λ (x : ℕ). r_coded (opcode_of word) (funct3_of word) x (rd_of word) (rs1_of word) (rs2_of word)) (same (funct7_of word) f7 two.1)
    ∙ r_again word h

two_fields : (coded : ℕ → ℕ → ℕ) (word op f3 : ℕ) → (opcode_of word == op && funct3_of word == f3) ≡ true → coded (opcode_of word) (funct3_of word) ≡ word → coded op f3 ≡ word
two_fields coded word op f3 e again =
    let one = and_parts (opcode_of word == op) (funct3_of word == f3) e in
    ap (λ (x : ℕ). coded x f3) (same (opcode_of word) op one.0) ∙ ap (coded (opcode_of word)) (same (funct3_of word) f3 one.1) ∙ again

i_word : (word op f3 : ℕ) → word < 2 ^ 32 → (opcode_of word == op && funct3_of word == f3) ≡ true → i_coded op f3 (rd_of word) (rs1_of word) (i_bits word) ≡ word
i_word word op f3 h e = two_fields (λ a b. i_coded a b (rd_of word) (rs1_of word) (i_bits word)) word op f3 e (i_again word h)

s_word : (word op f3 : ℕ) → word < 2 ^ 32 → (opcode_of word == op && funct3_of word == f3) ≡ true → s_coded op f3 (rs1_of word) (rs2_of word) (s_bits word) ≡ word
s_word word op f3 h e = two_fields (λ a b. s_coded a b (rs1_of word) (rs2_of word) (s_bits word)) word op f3 e (s_again word h)

b_word : (word op f3 : ℕ) → word < 2 ^ 32 → (opcode_of word == op && funct3_of word == f3) ≡ true → b_coded op f3 (rs1_of word) (rs2_of word) (b_bits word) ≡ word
b_word word op f3 h e = two_fields (λ a b. b_coded a b (rs1_of word) (rs2_of word) (b_bits word)) word op f3 e (b_again word h)

u_word : (word op : ℕ) → word < 2 ^ 32 → (opcode_of word == op) ≡ true → u_coded op (rd_of word) (u_bits word) ≡ word
u_word word op h e = ap (λ (x : ℕ). u_coded x (rd_of word) (u_bits word)) (same (opcode_of word) op e) ∙ u_again word h

j_word : (word op : ℕ) → word < 2 ^ 32 → (opcode_of word == op) ≡ true → j_coded op (rd_of word) (j_bits word) ≡ word
j_word word op h e = ap (λ (x : ℕ). j_coded x (rd_of word) (j_bits word)) (same (opcode_of word) op e) ∙ j_again word h

whole_word : (word op r n : ℕ) → word < 2 ^ 32 → (opcode_of word == op && rest_of word == r) ≡ true → op + r * 2 ^ 7 ≡ n → n ≡ word
whole_word word op r n h e k =
    let one = and_parts (opcode_of word == op) (rest_of word == r) e in
    let a : op ≡ opcode_of word = same (opcode_of word) op one.0 in
    let b : r ≡ rest_of word = same (rest_of word) r one.1 in
    omega (arith, a, b, k)

-- a word with the fields of a line has the word of its instruction
abbrev Again : ℕ → Line → Type 0
Again word l = agrees_by (opcode_of word) (funct3_of word) (funct7_of word) (rest_of word) l.fixed ≡ true → encoded (instr_of l.name word) ≡ word

-- it holds of each line
abbrev Each : (Line → Type 0) → List Line → Type 0
Each P [] = ⊤
Each P (l ∷ ls) = P l × Each P ls

all_again : (word : ℕ) → word < 2 ^ 32 → Each (Again word) field_table
all_again word h = (
  λ e. u_word word 55 h e,
  (
    λ e. u_word word 23 h e,
    (
      λ e. j_word word 111 h e,
      (
        λ e. i_word word 103 0 h e,
        (
          λ e. b_word word 99 0 h e,
          (
            λ e. b_word word 99 1 h e,
            (
              λ e. b_word word 99 4 h e,
              (
                λ e. b_word word 99 5 h e,
                (
                  λ e. b_word word 99 6 h e,
                  (
                    λ e. b_word word 99 7 h e,
                    (
                      λ e. i_word word 3 0 h e,
                      (
                        λ e. i_word word 3 1 h e,
                        (
                          λ e. i_word word 3 2 h e,
                          (
                            λ e. i_word word 3 4 h e,
                            (
                              λ e. i_word word 3 5 h e,
                              (
                                λ e. s_word word 35 0 h e,
                                (
                                  λ e. s_word word 35 1 h e,
                                  (
                                    λ e. s_word word 35 2 h e,
                                    (
                                      λ e. i_word word 19 0 h e,
                                      (
                                        λ e. i_word word 19 2 h e,
                                        (
                                          λ e. i_word word 19 3 h e,
                                          (
                                            λ e. i_word word 19 4 h e,
                                            (
                                              λ e. i_word word 19 6 h e,
                                              (
                                                λ e. i_word word 19 7 h e,
                                                (
                                                  λ e. r_word word 19 1 0 h e,
                                                  (
                                                    λ e. r_word word 19 5 0 h e,
                                                    (
                                                      λ e. r_word word 19 5 32 h e,
                                                      (
                                                        λ e. r_word word 51 0 0 h e,
                                                        (
                                                          λ e. r_word word 51 0 32 h e,
                                                          (
                                                            λ e. r_word word 51 1 0 h e,
                                                            (
                                                              λ e. r_word word 51 2 0 h e,
                                                              (
                                                                λ e. r_word word 51 3 0 h e,
                                                                (
                                                                  λ e. r_word word 51 4 0 h e,
                                                                  (
                                                                    λ e. r_word word 51 5 0 h e,
                                                                    (
                                                                      λ e. r_word word 51 5 32 h e,
                                                                      (
                                                                        λ e. r_word word 51 6 0 h e,
                                                                        (
                                                                          λ e. r_word word 51 7 0 h e,
                                                                          (
                                                                            λ e. i_word word 15 0 h e,
                                                                            (
                                                                              λ e. whole_word word 115 0 115 h e refl,
                                                                              (
                                                                                λ e. whole_word word 115 8192 1048691 h e refl,
                                                                                tt,
                                                                              ),
                                                                            ),
                                                                          ),
                                                                        ),
                                                                      ),
                                                                    ),
                                                                  ),
                                                                ),
                                                              ),
                                                            ),
                                                          ),
                                                        ),
                                                      ),
                                                    ),
                                                  ),
                                                ),
                                              ),
                                            ),
                                          ),
                                        ),
                                      ),
                                    ),
                                  ),
                                ),
                              ),
                            ),
                          ),
                        ),
                      ),
                    ),
                  ),
                ),
              ),
            ),
          ),
        ),
      ),
    ),
  ),
)

row_name : (fixed : Fixed) (format : Format) (name : Name) → (row_of_fixed fixed format name).name ≡ name
row_name (Opcode a) format name = refl
row_name (Funct3 a b) format name = refl
row_name (Funct7 a b c) format name = refl
row_name (Whole a b) format name = refl

found_again : (word : ℕ) (ls : List Line) (i : Instr) → Each (Again word) ls
    → option_map (λ (r : InstructionRow). instr_of r.name word) (option_map row_of (find (λ (l : Line). agrees_by (opcode_of word) (funct3_of word) (funct7_of word) (rest_of word) l.fixed) ls)) ≡ Some i
    → encoded i ≡ word
found_again word [] i all e = let never : ◌≡◌ {A = Option Instr} None (Some i) = e in absurd (cc)
found_again word (l ∷ ls) i all e = by_test (λ x. found_again word ls i all.1 x) (agrees_by (opcode_of word) (funct3_of word) (funct7_of word) (rest_of word) l.fixed) refl
  where
    by_test : (option_map (λ (r : InstructionRow). instr_of r.name word) (option_map row_of (find (λ (l : Line). agrees_by (opcode_of word) (funct3_of word) (funct7_of word) (rest_of word) l.fixed) ls)) ≡ Some i → encoded i ≡ word) → (b : Bool) → agrees_by (opcode_of word) (funct3_of word) (funct7_of word) (rest_of word) l.fixed ≡ b → encoded i ≡ word
    by_test later true t =
        let here : Some (instr_of ((row_of l).name) word) ≡ Some i = rw t at e in
        let is : instr_of ((row_of l).name) word ≡ i = cc in
        sym (ap encoded is) ∙ ap (λ (n : Name). encoded (instr_of n word)) (row_name l.fixed l.format l.name) ∙ all.0 t
    by_test later false t = later (rw t at e)

pub decoded-again : (word : ℕ) (i : Instr) → word < 2 ^ 32 → decoded word ≡ Some i → encoded i ≡ word
unfolding row_by
decoded-again word i h e = found_again word field_table i (all_again word h) (sym (decoded_by word) ∙ e)
