-- Bytes stored one after another.
use Rattle.std.proofs.Common.{arith, ◌≡◌, ℕ, ◌+◌, ◌≤◌, min, List, length, take, drop, ◌++◌, refl, sym, ◌∙◌, ap, length-append, length-take}
use Rattle.std.specs.Prelude.{◌*◌, ◌/◌, ◌%◌, ◌^◌}
use Rattle.std.specs.Int.{w32, w64, to_le_bytes}
use Rattle.std.proofs.lemmas.List.{take_at, drop_at, drop-drop, append_assoc}
use Rattle.ptk_words.specs.Words.{with_bytes, with_word}
use Rattle.ptk_words.proofs.Lists.{length-with_bytes}
use Rattle.ptk_words_model.specs.Time.{time_bytes}

-- they are as one row of bytes stored
pub stored_after : (memory first second : List ℕ) (a b : ℕ) → a + length first ≡ b → b ≤ length memory → with_bytes (with_bytes memory a first) b second ≡ with_bytes memory a (first ++ second)
stored_after memory first second a b e le =
    let front : List ℕ = take a memory ++ first in
    let rest : List ℕ = drop (a + length first) memory in
    let taken : length (take a memory) ≡ min a (length memory) = length-take a memory in
    let whole : length front ≡ length (take a memory) + length first = length-append (take a memory) first in
    let long : length front ≡ b = omega (arith, taken, whole, e, le) in
    let both : length (first ++ second) ≡ length first + length second = length-append first second in
    let until : a + length first + length second ≡ a + length (first ++ second) = omega (arith, both) in
    let left : drop (b + length second) (front ++ rest) ≡ drop (a + length (first ++ second)) memory =
    sym (drop-drop (length second) b (front ++ rest)) ∙ ap (λ xs. drop (length second) xs) (drop_at front rest b long)
    ∙ drop-drop (length second) (a + length first) memory ∙ ap (λ n. drop n memory) until in
    ap (λ xs. (xs ++ second) ++ drop (b + length second) (front ++ rest)) (take_at front rest b long)
    ∙ ap (λ xs. (front ++ second) ++ xs) left
    ∙ ap (λ xs. xs ++ drop (a + length (first ++ second)) memory) (append_assoc (take a memory) first second)

-- a number of 64 bits is its low word, and then its high word
pub words_apart : (n : ℕ) → to_le_bytes w64 n ≡ to_le_bytes w32 (n % 2 ^ 32) ++ to_le_bytes w32 (n / 2 ^ 32)
words_apart n =
    let a : n % 256 ≡ n % 2 ^ 32 % 256 = omega arith in
    let b : n / 256 ^ 1 % 256 ≡ n % 2 ^ 32 / 256 ^ 1 % 256 = omega arith in
    let c : n / 256 ^ 2 % 256 ≡ n % 2 ^ 32 / 256 ^ 2 % 256 = omega arith in
    let d : n / 256 ^ 3 % 256 ≡ n % 2 ^ 32 / 256 ^ 3 % 256 = omega arith in
    let e : n / 256 ^ 4 % 256 ≡ n / 2 ^ 32 % 256 = omega arith in
    let f : n / 256 ^ 5 % 256 ≡ n / 2 ^ 32 / 256 ^ 1 % 256 = omega arith in
    let g : n / 256 ^ 6 % 256 ≡ n / 2 ^ 32 / 256 ^ 2 % 256 = omega arith in
    let h : n / 256 ^ 7 % 256 ≡ n / 2 ^ 32 / 256 ^ 3 % 256 = omega arith in
    cc

-- the two words of the seconds, stored one after another
pub seconds_stored : (memory : List ℕ) (pointer seconds : ℕ) → pointer + 8 ≤ length memory
    → with_word (with_word memory pointer (seconds % 2 ^ 32)) (pointer + 4) (seconds / 2 ^ 32) ≡ with_bytes memory pointer (to_le_bytes w64 seconds)
seconds_stored memory pointer seconds le =
    stored_after memory (to_le_bytes w32 (seconds % 2 ^ 32)) (to_le_bytes w32 (seconds / 2 ^ 32)) pointer (pointer + 4) refl (omega (arith, le))
    ∙ ap (λ xs. with_bytes memory pointer xs) (sym (words_apart seconds))

-- the seconds and the nanoseconds of a tick, stored one after another
pub time_stored : (memory : List ℕ) (pointer tick : ℕ) → pointer + 12 ≤ length memory
    → with_word (with_bytes memory pointer (to_le_bytes w64 (tick / 1000000))) (pointer + 8) (tick % 1000000 * 1000) ≡ with_bytes memory pointer (time_bytes tick)
time_stored memory pointer tick le = stored_after memory (to_le_bytes w64 (tick / 1000000)) (to_le_bytes w32 (tick % 1000000 * 1000)) pointer (pointer + 8) refl (omega (arith, le))

-- memory stays as long
pub word_length : (memory : List ℕ) (pointer word : ℕ) → pointer + 4 ≤ length memory → length (with_word memory pointer word) ≡ length memory
word_length memory pointer word le = length-with_bytes memory (to_le_bytes w32 word) pointer le

pub seconds_length : (memory : List ℕ) (pointer seconds : ℕ) → pointer + 8 ≤ length memory → length (with_bytes memory pointer (to_le_bytes w64 seconds)) ≡ length memory
seconds_length memory pointer seconds le = length-with_bytes memory (to_le_bytes w64 seconds) pointer le

pub ruleset seconds_stores = (seconds_stored, word_length)

pub ruleset time_stores = (time_stored, seconds_length)
