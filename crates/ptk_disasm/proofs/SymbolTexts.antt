-- Names as texts.
use Rattle.std.proofs.Common.{◌≡◌, ℕ, List, Some, sym, ap, ◌∙◌}
use Rattle.std.specs.Prelude.{Bool, if◌then◌else◌, None}
use Rattle.std.specs.Str.{IsUtf8, is_utf8}
use Rattle.std.proofs.lemmas.Bool.{false_from_ne_true}
use Rattle.std.proofs.lemmas.Str.{IsUtf8-from_is_utf8, is_utf8-from_IsUtf8}
use Rattle.ptk_disasm.specs.Tables.{text_in}

-- a name is a text
pub text_found : (name text : List ℕ) → text ≡ name → IsUtf8 name → Some text ≡ text_in name
text_found name text same is = ap Some same ∙ sym (ap (λ (b : Bool). if b then Some name else None) (is_utf8-from_IsUtf8 name is))

-- or it is none
pub text_missing : (name : List ℕ) → ¬ (IsUtf8 name) → None ≡ text_in name
text_missing name other = sym (ap (λ (b : Bool). if b then Some name else None) (false_from_ne_true (is_utf8 name) (λ e. other (IsUtf8-from_is_utf8 name e))))
