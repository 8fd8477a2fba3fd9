-- An instruction leaves memory as long as it was.
use Rattle.std.proofs.Common.{◌≡◌, ℕ, ◌+◌, ◌-◌, ◌%◌, ◌≤◌, Bool, true, false, List, length, ◌∙◌, refl}
use Rattle.std.specs.Prelude.{Option, Some, None, not, nat_lt, ◌==◌, if◌then◌else◌}
use Rattle.std.specs.Int.{Width, w8, w16, w32, byte_len, to_le_bytes, from_le_bytes}
use Rattle.std.proofs.lemmas.Bool.{ltb-false}
use Rattle.ptk_words.specs.Words.{sign_extension, word_at, word_of, with_bytes, bytes_at}
use Rattle.ptk_words.specs.Processor.{Processor, with_register}
use Rattle.ptk_words.specs.declared.faults.FaultKind.TheVariants.{Fetch, Load, Store, Misaligned}
use Rattle.ptk_words.proofs.Lists.{length-with_bytes}
use Rattle.ptk_words_model.specs.Instructions.{Name, Jal, Jalr, Beq, Bne, Blt, Bge, Bltu, Bgeu, Lb, Lh, Lw, Lbu, Lhu, Sb, Sh, Sw, Ecall, Ebreak, InstructionRow, Execution, Effect, Done, Call, Break, Fault, with_next_pc, write_effect, jump_effect, branch_effect, address_of, load_effect, store_effect, effect, effect_of_word, can_fetch, decode_of, effect_at}

-- where the effect has a memory, it has this length (own)
abbrev pub HasLength : ℕ → Effect → Type 0
HasLength n (Done cpu memory) = length memory ≡ n
HasLength n (Call cpu) = Unit {0}
HasLength n Break = Unit {0}
HasLength n (Fault kind) = Unit {0}

-- of two effects, of which the second may use that the test fails
either_length : (n : ℕ) (b : Bool) (x y : Effect) → HasLength n x → (b ≡ false → HasLength n y) → HasLength n (if b then x else y)
either_length n true x y h k = h
either_length n false x y h k = k refl

-- ---- by kind of instruction

jump_length : (n : ℕ) (x : Execution) (target : ℕ) (cpu : Processor) → length x.memory ≡ n → HasLength n (jump_effect x target cpu)
jump_length n x target cpu h = either_length n (target % 4 == 0) (Done (record cpu { pc = target }) x.memory) (Fault Misaligned) h (λ e. tt)

branch_length : (n : ℕ) (x : Execution) (taken : Bool) → length x.memory ≡ n → HasLength n (branch_effect x taken)
branch_length n x taken h =
    either_length n taken (jump_effect x (word_of (x.cpu.pc + x.immediate)) x.cpu) (Done (with_next_pc x.cpu) x.memory) (jump_length n x (word_of (x.cpu.pc + x.immediate)) x.cpu h) (λ e. h)

load_length : (n : ℕ) (x : Execution) (width : Width) (extended : ℕ → ℕ) → length x.memory ≡ n → HasLength n (load_effect x width extended)
load_length n x width extended h =
    let loaded : Effect = write_effect x (extended (from_le_bytes width (bytes_at x.memory (address_of x) (byte_len width)))) in
    either_length n (not (address_of x % byte_len width == 0)) (Fault Misaligned) (if nat_lt (length x.memory) (address_of x + byte_len width) then Fault Load else loaded) tt
    (λ e. either_length n (nat_lt (length x.memory) (address_of x + byte_len width)) (Fault Load) loaded tt (λ f. h))

store_length : (n : ℕ) (x : Execution) (width : Width) → length (to_le_bytes width x.second) ≡ byte_len width → length x.memory ≡ n → HasLength n (store_effect x width)
store_length n x width bytes h =
    let stored : Effect = Done (with_next_pc x.cpu) (with_bytes x.memory (address_of x) (to_le_bytes width x.second)) in
    either_length n (not (address_of x % byte_len width == 0)) (Fault Misaligned) (if nat_lt (length x.memory) (address_of x + byte_len width) then Fault Store else stored) tt
    (λ e. either_length n (nat_lt (length x.memory) (address_of x + byte_len width)) (Fault Store) stored tt
    (λ f. let least : address_of x + byte_len width ≤ length x.memory = ltb-false (length x.memory) (address_of x + byte_len width) f in
    length-with_bytes x.memory (to_le_bytes width x.second) (address_of x) (rw bytes least) ∙ h))

-- ---- by name

name_length : (n : ℕ) (name : Name) (x : Execution) → length x.memory ≡ n → HasLength n (effect name x)
name_length n Jal x h = jump_length n x (word_of (x.cpu.pc + x.immediate)) (with_register x.cpu x.destination (word_of (x.cpu.pc + 4))) h
name_length n Jalr x h = jump_length n x (address_of x - address_of x % 2) (with_register x.cpu x.destination (word_of (x.cpu.pc + 4))) h
name_length n Beq x h = branch_length n x _ h
name_length n Bne x h = branch_length n x _ h
name_length n Blt x h = branch_length n x _ h
name_length n Bge x h = branch_length n x _ h
name_length n Bltu x h = branch_length n x _ h
name_length n Bgeu x h = branch_length n x _ h
name_length n Lb x h = load_length n x w8 (sign_extension 8) h
name_length n Lh x h = load_length n x w16 (sign_extension 16) h
name_length n Lw x h = load_length n x w32 (λ value. value) h
name_length n Lbu x h = load_length n x w8 (λ value. value) h
name_length n Lhu x h = load_length n x w16 (λ value. value) h
name_length n Sb x h = store_length n x w8 refl h
name_length n Sh x h = store_length n x w16 refl h
name_length n Sw x h = store_length n x w32 refl h
name_length n Ecall x h = tt
name_length n Ebreak x h = tt
name_length n _ x h = h

word_length : (n : ℕ) (cpu : Processor) (memory : List ℕ) (word : ℕ) (o : Option InstructionRow) → length memory ≡ n → HasLength n (effect_of_word cpu memory word o)
word_length n cpu memory word None h = tt
word_length n cpu memory word (Some r) h = name_length n r.name _ h

-- one instruction
pub effect_length : (n : ℕ) (cpu : Processor) (memory : List ℕ) → length memory ≡ n → HasLength n (effect_at cpu memory)
effect_length n cpu memory h =
    let word : ℕ = word_at memory cpu.pc in
    let fetched : Effect = effect_of_word cpu memory (word_at memory cpu.pc) (decode_of (word_at memory cpu.pc)) in
    either_length n (not (cpu.pc % 4 == 0)) (Fault Misaligned) (if can_fetch memory cpu.pc then fetched else Fault Fetch) tt
    (λ e. either_length n (can_fetch memory cpu.pc) fetched (Fault Fetch) (word_length n cpu memory word (decode_of word) h) (λ f. tt))
