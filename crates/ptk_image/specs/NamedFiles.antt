-- Files by name.
use Rattle.std.specs.Prelude.{ℕ, List, find, Option, option_map}
use Rattle.std.specs.Str.{bytes_eq}

-- a file: its name as a text, and its bytes
pub record NamedFile : Type 0 where
  pub name : List ℕ
  pub content : List ℕ

-- the bytes of the file of a name, None where no file has it
abbrev pub content_of : List NamedFile → List ℕ → Option (List ℕ)
content_of files name = option_map (λ file. file.content) (find (λ file. bytes_eq file.name name) files)
