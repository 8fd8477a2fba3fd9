-- What is known of registers and memory whose next step is plain.
use Rattle.std.proofs.Common.{◌≡◌, ℕ, ◌+◌, ◌%◌, ◌≤◌, ◌==◌, Bool, true, false, not, length, refl, subst, arith}
use Rattle.std.specs.Prelude.{if◌then◌else◌}
use Rattle.std.proofs.lemmas.Bool.{eqb-true, leb-true}
use Rattle.ptk_words.specs.Words.{word_at}
use Rattle.ptk_words.specs.declared.TheConstants.{ECALL, RETURN_GATE}
use Rattle.ptk_words.specs.declared.faults.FaultKind.TheVariants.{Fetch, Misaligned}
use Rattle.ptk_words_model.specs.Instructions.{Effect, Done, Call, Break, Fault, effect_at, effect_of_word, decode_of, can_fetch}
use Rattle.ptk_words_model.specs.PlainSteps.{Core, is_done, done_core, is_plain, plain_step}
use Rattle.ptk_words_model.specs.Decision.{word_fetched}
use Rattle.ptk_words_invariant.proofs.Effects.{HasLength, effect_length}

done_by : (c : Core) (e : Effect) → is_done e ≡ true → e ≡ Done (done_core c e).cpu (done_core c e).memory
done_by c (Done cpu memory) h = refl
done_by c (Call cpu) h = cc
done_by c Break h = cc
done_by c (Fault kind) h = cc

-- the effect is that of an instruction that was carried out
pub plain_done : (c : Core) → is_plain c ≡ true → effect_at c.cpu c.memory ≡ Done (plain_step c).cpu (plain_step c).memory
unfolding is_plain plain_step
plain_done c h = done_by c (effect_at c.cpu c.memory) h

-- ---- the word at the pc

-- the effect at a pc that is aligned, where a word can be fetched
abbrev Fetched : Bool → Bool → Effect → Type 0
Fetched aligned inside e = (aligned ≡ true) × (inside ≡ true) × (is_done e ≡ true)

fetched_by : (aligned inside : Bool) (e : Effect) → is_done (if not aligned then Fault Misaligned else (if inside then e else Fault Fetch)) ≡ true → Fetched aligned inside e
fetched_by true true e h = (refl, refl, h)
fetched_by true false e h = absurd (let no : ⊥ = cc in no)
fetched_by false inside e h = absurd (let no : ⊥ = cc in no)

fetched : (c : Core) → is_plain c ≡ true → Fetched (c.cpu.pc % 4 == 0) (can_fetch c.memory c.cpu.pc) (effect_of_word c.cpu c.memory (word_at c.memory c.cpu.pc) (decode_of (word_at c.memory c.cpu.pc)))
unfolding is_plain
fetched c h =
    fetched_by (c.cpu.pc % 4 == 0) (can_fetch c.memory c.cpu.pc) (effect_of_word c.cpu c.memory (word_at c.memory c.cpu.pc) (decode_of (word_at c.memory c.cpu.pc))) h

-- the word that is traced is the word at the pc
pub plain_word : (c : Core) → is_plain c ≡ true → word_fetched c.memory c.cpu.pc ≡ word_at c.memory c.cpu.pc
plain_word c h = let f = fetched c h in rw (f.0, f.1) refl

ecall_calls : (c : Core) (word : ℕ) → word ≡ ECALL → is_done (effect_of_word c.cpu c.memory word (decode_of word)) ≡ false
ecall_calls c word e = rw e refl

no_call_by : (c : Core) (word : ℕ) (b : Bool) → (word == ECALL) ≡ b → is_done (effect_of_word c.cpu c.memory word (decode_of word)) ≡ true → b ≡ false
no_call_by c word false e h = refl
no_call_by c word true e h = let calls = ecall_calls c word (eqb-true word ECALL e) in cc

-- the word is no ECALL
pub plain_no_call : (c : Core) → is_plain c ≡ true → (word_fetched c.memory c.cpu.pc == ECALL) ≡ false
plain_no_call c h =
    let f = fetched c h in
    rw (plain_word c h) (no_call_by c (word_at c.memory c.cpu.pc) (word_at c.memory c.cpu.pc == ECALL) refl f.2)

pub no_gate_by : (pc n : ℕ) (b : Bool) → (pc == RETURN_GATE) ≡ b → pc + 4 ≤ n → n ≤ RETURN_GATE → b ≡ false
no_gate_by pc n false e inside short = refl
no_gate_by pc n true e inside short = let at : pc ≡ RETURN_GATE = eqb-true pc RETURN_GATE e in absurd (omega arith)

-- the pc is not the return gate, where memory ends below it
pub plain_no_gate : (c : Core) → is_plain c ≡ true → length c.memory ≤ RETURN_GATE → (c.cpu.pc == RETURN_GATE) ≡ false
plain_no_gate c h short =
    let f = fetched c h in
    no_gate_by c.cpu.pc (length c.memory) (c.cpu.pc == RETURN_GATE) refl (leb-true (c.cpu.pc + 4) (length c.memory) f.1) short

-- ---- memory

-- memory is as long as it was
pub plain_length : (c : Core) → is_plain c ≡ true → length (plain_step c).memory ≡ length c.memory
plain_length c h = subst (HasLength (length c.memory)) (plain_done c h) (effect_length (length c.memory) c.cpu c.memory refl)
