-- What holds of lines without a fault.
use Rattle.std.specs.Prelude.{ℕ, ◌≡◌, ◌%◌, ◌≤◌, List}
use Rattle.ptk_asm_language.specs.Source.{lengths_after, labels_after, entry_of}

-- the text is whole words, and the entry is the offset of one of them, or the text's end
pub record IsWhole (before : List (List ℕ)) : Type 0 where
  pub text : (lengths_after before).text % 4 ≡ 0
  pub entry : entry_of (labels_after before) % 4 ≡ 0
  pub inside : entry_of (labels_after before) ≤ (lengths_after before).text
