-- The code's steps over a line and over a text.
use Rattle.std.specs.Prelude.{ℕ, suc, List, [], ◌∷◌, ◌==◌, if◌then◌else◌}
use Rattle.ptk_asm_language.specs.Tokens.{is_blank, is_run}

-- a line without the blanks at its front
abbrev pub after_blanks : List ℕ → List ℕ
after_blanks [] = []
after_blanks (c ∷ cs) = if is_blank c then after_blanks cs else c ∷ cs

-- how long the run at the front is
abbrev pub run_len : List ℕ → ℕ
run_len [] = 0
run_len (c ∷ cs) = if is_run c then suc (run_len cs) else 0

-- how long the first line is, with its LF
abbrev pub line_len : List ℕ → ℕ
line_len [] = 0
line_len (c ∷ cs) = if c == 10 then 1 else suc (line_len cs)
