-- A byte taken from the ring, if it has one.
use Rattle.std.proofs.Common.{◌≡◌, ℕ, List, [], ◌∷◌, drop, refl, ap}
use Rattle.std.specs.Prelude.{Some, None, slice_get}
use Rattle.ptk_words.specs.declared.threads.Wait.TheVariants.{InputWait}
use Rattle.ptk_words_model.specs.declared.Invocation.{Invocation}
use Rattle.ptk_words_model.specs.State.{Part, with_console}
use Rattle.ptk_words_model.specs.Console.{with_waiter}
use Rattle.ptk_words_model.specs.Calls.{success, blocked_in}
use Rattle.ptk_words_model.specs.ConsoleCalls.{take_input}

pub answer_byte : (ring : List ℕ) (byte : ℕ) (i : Invocation) (s : Part) → slice_get ring 0 ≡ Some byte
    → take_input ring i s ≡ success (byte ∷ []) i (with_console (λ console. record console { ring = drop 1 ring }) s)
answer_byte [] byte i s e = absurd (cc e)
answer_byte (x ∷ xs) byte i s e = let same : x ≡ byte = cc e in ap (λ b. success (b ∷ []) i (with_console (λ console. record console { ring = xs }) s)) same

pub answer_none : (ring : List ℕ) (i : Invocation) (s : Part) → slice_get ring 0 ≡ None
    → take_input ring i s ≡ blocked_in InputWait i (with_console (with_waiter i.caller) s)
answer_none [] i s e = refl
answer_none (x ∷ xs) i s e = absurd (cc e)

pub ring_none : (ring : List ℕ) → slice_get ring 0 ≡ None → drop 1 ring ≡ ring
ring_none [] e = refl
ring_none (x ∷ xs) e = absurd (cc e)

pub ruleset rings = (answer_byte, answer_none, ring_none)
