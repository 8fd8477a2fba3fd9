-- Values written into registers in turn.
use Rattle.std.proofs.Common.{arith, ◌≡◌, ℕ, ◌+◌, ◌<◌, ◌≤◌, suc, List, drop, length, get_or, drop-cons}
use Rattle.std.proofs.lemmas.List.{drop_all}
use Rattle.ptk_words.specs.Processor.{Processor, with_register}
use Rattle.ptk_clock.specs.Schedule.{with_registers}

-- one more value
pub registers-more : (cpu whole : Processor) (first i v : ℕ) (values : List ℕ) → i < length values → v ≡ get_or values i v
    → with_registers cpu (first + i) (drop i values) ≡ whole → with_registers (with_register cpu (first + i) v) (first + (i + 1)) (drop (i + 1) values) ≡ whole
registers-more cpu whole first i v values lt is e =
    let next : first + (i + 1) ≡ suc (first + i) = omega arith in
    let one : i + 1 ≡ suc i = omega arith in
    rw (next, one) (rw (drop-cons values i v, ← is) at e)

pub registers-end : (cpu whole : Processor) (first i : ℕ) (values : List ℕ) → length values ≤ i → with_registers cpu (first + i) (drop i values) ≡ whole → cpu ≡ whole
registers-end cpu whole first i values le h = rw (drop_all i values le) at h

pub ruleset registers = (registers-more, registers-end)
