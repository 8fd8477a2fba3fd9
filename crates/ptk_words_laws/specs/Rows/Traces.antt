-- The lines of traces.
use Rattle.std.specs.Prelude.{◌≡◌, [], ◌∷◌, length, take, drop, codes}
use Rattle.ptk_words_model.specs.Text.{trace_text}
use Rattle.ptk_words_laws.specs.Guests.{small, one_window, run, lines}
use Rattle.ptk_words_laws.specs.Rows.Runs.{hello_image, hello_at}

-- a trace of two entries keeps the last two steps (own)
abbrev pub ShortTrace : Type 0
ShortTrace =
    trace_text (run (one_window 20 20) (record small { trace = 2 }) hello_image 20).account.trace
    ≡ lines (codes "13 1 0x0000001c 0x00000513 0x00000000" ∷ codes "14 1 0x00000020 0x00000073 0x00000000" ∷ [])

-- a trace of sixteen entries keeps all nine steps (own)
pub record FullTrace : Type 0 where
  pub count : length (hello_at 20).account.trace ≡ 9
  pub second_and_third : trace_text (take 2 (drop 1 (hello_at 20).account.trace)) ≡ lines (codes "1 1 0x00000004 0x06800513 0x00000068" ∷ codes "2 1 0x00000008 0x00000073 0x00000000" ∷ [])
