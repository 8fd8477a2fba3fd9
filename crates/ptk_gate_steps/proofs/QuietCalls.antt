-- Where no quiet call is missed.
use Rattle.std.proofs.Common.{◌≡◌, ◌≢◌, ◌==◌, ℕ, ◌<◌, ◌≤◌, Bool, true, false, ◌&&◌, refl, sym, ap, ◌∙◌, arith}
use Rattle.std.proofs.lemmas.Bool.{eqb-true, ne_eqb}
use Rattle.std.proofs.lemmas.Bool.Decides.{nat_tests}
use Rattle.std.specs.Prelude.{Option, None, if◌then◌else◌, nat_le}
use Rattle.ptk_words.specs.Calls.{call_of}
use Rattle.ptk_words.specs.Processor.{register}
use Rattle.ptk_words.specs.Words.{word_at}
use Rattle.ptk_words.specs.declared.TheConstants.{A0, A7, ECALL}
use Rattle.ptk_words.specs.declared.threads.Thread.{Thread}
use Rattle.ptk_words_model.specs.State.{Mutex, Part}
use Rattle.ptk_words_model.specs.Mutex.{mutex_at}
use Rattle.ptk_words_model.specs.Calls.{is_pointer}
use Rattle.ptk_words_model.specs.Decision.{word_fetched}
use Rattle.ptk_gate_steps.specs.declared.replies.Next.{Next}
use Rattle.ptk_gate_steps.specs.declared.replies.Next.TheVariants as nexts
use Rattle.ptk_gate_steps.specs.NextSteps.{next_kind_of}
use Rattle.ptk_gate_steps.specs.QuietCalls.{is_quiet_call, is_quiet_with, mutex_pointed}

-- ---- the mutex of a pointer

-- the mutex of a word, where the pointer is one and the number fits
abbrev pointed_by : Bool → Bool → ℕ → Part → Option Mutex
pointed_by pointer fits word s = if pointer && fits then mutex_at s.locks word else None

-- no pointer
pub pointed_nowhere : (pointer : ℕ) (s : Part) → is_pointer s pointer 4 ≡ false → None ≡ mutex_pointed pointer s
pointed_nowhere pointer s e = sym (ap (λ (b : Bool). pointed_by b (nat_le (word_at s.memory pointer) 64) (word_at s.memory pointer) s) e)

none_by : (pointer : Bool) (s : Part) → None ≡ pointed_by pointer true 0 s
none_by true s = refl
none_by false s = refl

-- no mutex has the number 0
pub pointed_zero : (pointer : ℕ) (s : Part) → word_at s.memory pointer ≡ 0 → None ≡ mutex_pointed pointer s
pointed_zero pointer s e = none_by (is_pointer s pointer 4) s ∙ sym (ap (λ (w : ℕ). pointed_by (is_pointer s pointer 4) (nat_le w 64) w s) e)

far_by : (pointer : Bool) (word : ℕ) (s : Part) → None ≡ pointed_by pointer false word s
far_by true word s = refl
far_by false word s = refl

-- and none one above 64
pub pointed_far : (pointer : ℕ) (s : Part) → 64 < word_at s.memory pointer → None ≡ mutex_pointed pointer s
pointed_far pointer s far =
    let past : nat_le (word_at s.memory pointer) 64 ≡ false = grind (arith, nat_tests) in
    far_by (is_pointer s pointer 4) (word_at s.memory pointer) s ∙ sym (ap (λ (b : Bool). pointed_by (is_pointer s pointer 4) b (word_at s.memory pointer) s) past)

-- the mutex of a number
pub pointed_some : (pointer m : ℕ) (s : Part) → is_pointer s pointer 4 ≡ true → word_at s.memory pointer ≡ m → m ≤ 64 → mutex_at s.locks m ≡ mutex_pointed pointer s
pointed_some pointer m s is word few =
    let fits : nat_le m 64 ≡ true = grind (arith, nat_tests) in
    sym (ap (λ (b : Bool). pointed_by b (nat_le (word_at s.memory pointer) 64) (word_at s.memory pointer) s) is
    ∙ (ap (λ (w : ℕ). pointed_by true (nat_le w 64) w s) word
    ∙ ap (λ (b : Bool). pointed_by true b m s) fits))

pub ruleset pointings = (pointed_nowhere, pointed_zero, pointed_far, pointed_some)

-- ---- the next step

by_word : (word : ℕ) (quiet : Bool) (next : Next) → next ≡ (if word == ECALL then (if quiet then nexts.Quiet else nexts.Call) else nexts.Other) → word ≢ ECALL → next ≡ nexts.Other
by_word word quiet next is ne = is ∙ ap (λ (b : Bool). if b then (if quiet then nexts.Quiet else nexts.Call) else nexts.Other) (ne_eqb word ECALL ne)

-- a word that is no ECALL is no call
pub next_other : (t : ℕ) (thread : Thread) (s : Part) → word_fetched s.memory thread.cpu.pc ≢ ECALL → nexts.Other ≡ next_kind_of t thread s
next_other t thread s ne = sym (by_word (word_fetched s.memory thread.cpu.pc) (is_quiet_with (call_of (register thread.cpu A7)) t (register thread.cpu A0) s) (next_kind_of t thread s) refl ne)

-- an ECALL is a call
pub next_call : (t : ℕ) (thread : Thread) (s : Part) (quiet : Bool) → word_fetched s.memory thread.cpu.pc ≡ ECALL → quiet ≡ is_quiet_with (call_of (register thread.cpu A7)) t (register thread.cpu A0) s
    → (if quiet then nexts.Quiet else nexts.Call) ≡ next_kind_of t thread s
next_call t thread s quiet word is =
    ap (λ (b : Bool). if b then nexts.Quiet else nexts.Call) is
    ∙ sym (ap (λ (w : ℕ). if w == ECALL then (if is_quiet_with (call_of (register thread.cpu A7)) t (register thread.cpu A0) s then nexts.Quiet else nexts.Call) else nexts.Other) word)

pub ruleset next_steps = (next_other, next_call)

-- ---- what is known of the next step

call_by : (word quiet : Bool) → (if word then (if quiet then nexts.Quiet else nexts.Call) else nexts.Other) ≡ nexts.Call → (word ≡ true) × ((word && quiet) ≡ false)
call_by true true e = absurd (let no : ⊥ = cc in no)
call_by true false e = (refl, refl)
call_by false quiet e = absurd (let no : ⊥ = cc in no)

other_by : (word quiet : Bool) → (if word then (if quiet then nexts.Quiet else nexts.Call) else nexts.Other) ≡ nexts.Other → (word && quiet) ≡ false
other_by true true e = absurd (let no : ⊥ = cc in no)
other_by true false e = absurd (let no : ⊥ = cc in no)
other_by false quiet e = refl

-- another call is an ECALL that is not quiet
pub call_is : (t : ℕ) (thread : Thread) (s : Part) → next_kind_of t thread s ≡ nexts.Call → (word_fetched s.memory thread.cpu.pc ≡ ECALL) × (is_quiet_call t thread s ≡ false)
call_is t thread s e =
    let both = call_by (word_fetched s.memory thread.cpu.pc == ECALL) (is_quiet_with (call_of (register thread.cpu A7)) t (register thread.cpu A0) s) e in
    (eqb-true (word_fetched s.memory thread.cpu.pc) ECALL both.0, both.1)

-- what is no call is no quiet one
pub other_is : (t : ℕ) (thread : Thread) (s : Part) → next_kind_of t thread s ≡ nexts.Other → is_quiet_call t thread s ≡ false
other_is t thread s e = other_by (word_fetched s.memory thread.cpu.pc == ECALL) (is_quiet_with (call_of (register thread.cpu A7)) t (register thread.cpu A0) s) e
