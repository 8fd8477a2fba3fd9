-- No input comes before its tick.
use Rattle.std.proofs.Common.{◌≡◌, ℕ, ◌≤◌, ◌<◌, List, [], ◌∷◌, refl, arith}
use Rattle.std.specs.Prelude.{IfSome, slice_get, take_while}
use Rattle.std.proofs.lemmas.Bool.{lt-leb}
use Rattle.ptk_words.specs.declared.sections.Arrival.{Arrival}
use Rattle.ptk_words_model.specs.State.{Console}
use Rattle.ptk_words_model.specs.Console.{is_due_at}
use Rattle.ptk_words_laws.specs.QuietLaws.{NoneComesBefore}

none_by : (stop k : ℕ) (coming : List Arrival) → IfSome (slice_get coming 0) (λ a. stop ≤ a.tick) → k < stop → take_while (is_due_at k) coming ≡ []
none_by stop k [] first lt = refl
none_by stop k (a ∷ coming) first lt = rw (lt-leb a.tick k (omega (arith, first, lt))) refl

pub none_before : (stop : ℕ) (console : Console) → NoneComesBefore stop console
none_before stop console first k lt = none_by stop k console.coming first lt
