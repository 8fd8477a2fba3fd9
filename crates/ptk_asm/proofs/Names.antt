-- Labels by their names.
use Rattle.std.proofs.Common.{◌≡◌, ℕ, Bool, true, false, List, ◌∷◌, Some, Option, refl, ap, ◌∙◌, if◌then◌else◌}
use Rattle.std.specs.Prelude.{codes}
use Rattle.std.specs.Str.{bytes_eq}
use Rattle.ptk_asm_language.specs.declared.place.Place.{Place}
use Rattle.ptk_asm_language.specs.Statements.{named}
use Rattle.ptk_asm_language.specs.Source.{entry_at, entry_of}

by_test : (b : Bool) (n q : List ℕ) (at : Place) (labels : List (List ℕ × Place)) → bytes_eq n q ≡ b → named ((n, at) ∷ labels) q ≡ (if b then Some at else named labels q)
by_test true n q at labels e = rw e refl
by_test false n q at labels e = rw e refl

-- the place of a name, with a label more
pub named-cons : (n q : List ℕ) (at : Place) (labels : List (List ℕ × Place)) → named ((n, at) ∷ labels) q ≡ (if bytes_eq n q then Some at else named labels q)
named-cons n q at labels = by_test (bytes_eq n q) n q at labels refl

entry_test : (b : Bool) (at : Place) (o : Option Place) → entry_at (if b then Some at else o) ≡ (if b then entry_at (Some at) else entry_at o)
entry_test true at o = refl
entry_test false at o = refl

-- the entry, with a label more
pub entry-cons : (n : List ℕ) (at : Place) (labels : List (List ℕ × Place)) → entry_of ((n, at) ∷ labels) ≡ (if bytes_eq n (codes "_start") then entry_at (Some at) else entry_of labels)
entry-cons n at labels = ap entry_at (named-cons n (codes "_start") at labels) ∙ entry_test (bytes_eq n (codes "_start")) at (named labels (codes "_start"))

-- what a label more changes
pub ruleset named_rules = (named-cons, entry-cons)
