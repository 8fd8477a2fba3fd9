-- An instruction whose word is no ECALL makes no call.
use Rattle.std.proofs.Common.{◌≡◌, ℕ, ◌+◌, ◌-◌, ◌%◌, ◌^◌, ◌<◌, eq-eqb, Bool, true, false, not, ◌&&◌, List, [], ◌∷◌, length, refl, sym, ◌∙◌, ap}
use Rattle.std.specs.Prelude.{◌||◌, ◌==◌, Option, Some, None, IfSome, find, nat_lt, bit_and, cond, if◌then◌else◌}
use Rattle.std.specs.List.{list_all}
use Rattle.std.specs.Int.{Width, w8, w16, w32, byte_len, from_le_bytes, to_le_bytes}
use Rattle.std.proofs.Math.Nat.{mod-eq_of_lt}
use Rattle.std.proofs.lemmas.Bool.{eqb-true, false≢true, and_parts}
use Rattle.std.proofs.lemmas.Nat.{and_mask}
use Rattle.ptk_words.specs.Processor.{Processor, with_register}
use Rattle.ptk_words.specs.Words.{word_of, sign_extension, word_at, bytes_at, with_bytes}
use Rattle.ptk_words.specs.declared.TheConstants.{ECALL}
use Rattle.ptk_words.specs.declared.faults.FaultKind.TheVariants.{Fetch, Load, Store, Misaligned}
use Rattle.ptk_words_model.specs.Instructions.{Name, Jal, Jalr, Beq, Bne, Blt, Bge, Bltu, Bgeu, Lb, Lh, Lw, Lbu, Lhu, Sb, Sh, Sw, Ecall, InstructionRow, instruction_table, agrees, Execution, Effect, Done, Call, Break, Fault, with_next_pc, write_effect, jump_effect, branch_effect, address_of, load_effect, store_effect, effect, effect_of_word, can_fetch, decode_of, effect_at}
use Rattle.ptk_words_model.specs.Decision.{word_fetched}

-- the effect is that of an ECALL
abbrev pub calls : Effect → Bool
calls (Done cpu memory) = false
calls (Call cpu) = true
calls Break = false
calls (Fault kind) = false

either_not : (b : Bool) (x y : Effect) → calls x ≡ false → calls y ≡ false → calls (if b then x else y) ≡ false
either_not true x y h k = h
either_not false x y h k = k

-- ---- by name

jump_not : (x : Execution) (target : ℕ) (cpu : Processor) → calls (jump_effect x target cpu) ≡ false
jump_not x target cpu = either_not (target % 4 == 0) (Done (record cpu { pc = target }) x.memory) (Fault Misaligned) refl refl

branch_not : (x : Execution) (taken : Bool) → calls (branch_effect x taken) ≡ false
branch_not x true = jump_not x (word_of (x.cpu.pc + x.immediate)) x.cpu
branch_not x false = refl

access_not : (misaligned outside : Bool) (x y z : Effect) → calls x ≡ false → calls y ≡ false → calls z ≡ false → calls (if misaligned then x else if outside then y else z) ≡ false
access_not true outside x y z h k l = h
access_not false true x y z h k l = k
access_not false false x y z h k l = l

load_not : (x : Execution) (width : Width) (extended : ℕ → ℕ) → calls (load_effect x width extended) ≡ false
load_not x width extended =
    let loaded : Effect = write_effect x (extended (from_le_bytes width (bytes_at x.memory (address_of x) (byte_len width)))) in
    access_not (not (address_of x % byte_len width == 0)) (nat_lt (length x.memory) (address_of x + byte_len width)) (Fault Misaligned) (Fault Load) loaded refl refl refl

store_not : (x : Execution) (width : Width) → calls (store_effect x width) ≡ false
store_not x width =
    let stored : Effect = Done (with_next_pc x.cpu) (with_bytes x.memory (address_of x) (to_le_bytes width x.second)) in
    access_not (not (address_of x % byte_len width == 0)) (nat_lt (length x.memory) (address_of x + byte_len width)) (Fault Misaligned) (Fault Store) stored refl refl refl

abbrev is_ecall : Name → Bool
is_ecall Ecall = true
is_ecall _ = false

name_not : (name : Name) (x : Execution) → is_ecall name ≡ false → calls (effect name x) ≡ false
name_not Jal x e = jump_not x (word_of (x.cpu.pc + x.immediate)) (with_register x.cpu x.destination (word_of (x.cpu.pc + 4)))
name_not Jalr x e = jump_not x (address_of x - address_of x % 2) (with_register x.cpu x.destination (word_of (x.cpu.pc + 4)))
name_not Beq x e = branch_not x _
name_not Bne x e = branch_not x _
name_not Blt x e = branch_not x _
name_not Bge x e = branch_not x _
name_not Bltu x e = branch_not x _
name_not Bgeu x e = branch_not x _
name_not Lb x e = load_not x w8 (sign_extension 8)
name_not Lh x e = load_not x w16 (sign_extension 16)
name_not Lw x e = load_not x w32 (λ value. value)
name_not Lbu x e = load_not x w8 (λ value. value)
name_not Lhu x e = load_not x w16 (λ value. value)
name_not Sb x e = store_not x w8
name_not Sh x e = store_not x w16
name_not Sw x e = store_not x w32
name_not Ecall x e = absurd (false≢true (sym e))
name_not _ x e = refl

-- ---- by word

-- a row of ECALL has its word alone
abbrev is_exact : InstructionRow → Bool
is_exact r = not (is_ecall r.name) || (r.mask == 0xffffffff && r.pattern == ECALL)

abbrev IsFound : ℕ → InstructionRow → Type 0
IsFound word r = (is_exact r ≡ true) × (agrees word r ≡ true)

found_by : (word : ℕ) (r : InstructionRow) (rows : List InstructionRow) (b : Bool) → agrees word r ≡ b → is_exact r ≡ true → IfSome (find (agrees word) rows) (IsFound word) → IfSome (cond b (Some r) (find (agrees word) rows)) (IsFound word)
found_by word r rows true e exact rest = (exact, e)
found_by word r rows false e exact rest = rest

found : (word : ℕ) (rows : List InstructionRow) → list_all is_exact rows ≡ true → IfSome (find (agrees word) rows) (IsFound word)
found word [] exact = tt
found word (r ∷ rows) exact =
    let parts = and_parts (is_exact r) (list_all is_exact rows) exact in
    found_by word r rows (agrees word r) refl parts.0 (found word rows parts.1)

exact_by : (ecall : Bool) (mask pattern word : ℕ) → (not ecall || (mask == 0xffffffff && pattern == ECALL)) ≡ true → (bit_and word mask == pattern) ≡ true → word < 2 ^ 32 → (word == ECALL) ≡ false → ecall ≡ false
exact_by false mask pattern word exact agrees lt other = refl
exact_by true mask pattern word exact agrees lt other =
    let both = and_parts (mask == 0xffffffff) (pattern == ECALL) exact in
    let whole : word % 2 ^ 32 ≡ word = mod-eq_of_lt lt in
    let same : bit_and word mask ≡ pattern = eqb-true (bit_and word mask) pattern agrees in
    let is : word ≡ ECALL =
    sym whole ∙ (sym (and_mask word 32) ∙ (ap (bit_and word) (sym (eqb-true mask 0xffffffff both.0)) ∙ (same ∙ eqb-true pattern ECALL both.1)))
    in
    absurd (false≢true (sym other ∙ eq-eqb word ECALL is))

word_not_by : (cpu : Processor) (memory : List ℕ) (word : ℕ) (o : Option InstructionRow) → IfSome o (IsFound word) → word < 2 ^ 32 → (word == ECALL) ≡ false → calls (effect_of_word cpu memory word o) ≡ false
word_not_by cpu memory word None found lt other = refl
word_not_by cpu memory word (Some r) found lt other = name_not r.name _ (exact_by (is_ecall r.name) r.mask r.pattern word found.0 found.1 lt other)

word_not : (cpu : Processor) (memory : List ℕ) (word : ℕ) → word < 2 ^ 32 → (word == ECALL) ≡ false → calls (effect_of_word cpu memory word (decode_of word)) ≡ false
word_not cpu memory word lt other = word_not_by cpu memory word (decode_of word) (found word instruction_table refl) lt other

-- ---- at the pc

at_not : (aligned inside : Bool) (cpu : Processor) (memory : List ℕ) (word : ℕ) → (if aligned && inside then word else 0) < 2 ^ 32 → ((if aligned && inside then word else 0) == ECALL) ≡ false
    → calls (if not aligned then Fault Misaligned else (if inside then effect_of_word cpu memory word (decode_of word) else Fault Fetch)) ≡ false
at_not false inside cpu memory word lt other = refl
at_not true false cpu memory word lt other = refl
at_not true true cpu memory word lt other = word_not cpu memory word lt other

-- where the word at the pc is no ECALL, the instruction there makes no call
pub no_call_at : (cpu : Processor) (memory : List ℕ) → word_fetched memory cpu.pc < 2 ^ 32 → (word_fetched memory cpu.pc == ECALL) ≡ false → calls (effect_at cpu memory) ≡ false
no_call_at cpu memory lt other = at_not (cpu.pc % 4 == 0) (can_fetch memory cpu.pc) cpu memory (word_at memory cpu.pc) lt other
