-- Runs of one thread: their reports, the ticks of their steps, and what is lost at a window's end.
use Rattle.std.specs.Prelude.{◌≡◌, ℕ, List, [], ◌∷◌, ◌++◌, length, take, replicate, codes, Some}
use Rattle.ptk_words.specs.Names.{Ticks}
use Rattle.ptk_words_model.specs.Text.{report_text}
use Rattle.ptk_words_model.specs.State.{State}
use Rattle.ptk_words_laws.specs.Guests.{bytes_of_words, image_of_words, small, one_window, first_half, second_half, run, name, lines, step_ticks}

-- put h, put i, exit 0
abbrev pub hello_image : List ℕ
hello_image =
    image_of_words (0x00100893 ∷ 0x06800513 ∷ 0x00000073 ∷ 0x00100893 ∷ 0x06900513 ∷ 0x00000073 ∷ 0x00000893 ∷ 0x00000513 ∷ 0x00000073 ∷ []) []

-- the run of the image that puts hi, in a frame of one window, after n ticks
abbrev pub hello_at : Ticks → State
hello_at n = run (one_window 20 20) small hello_image n

-- the run of nine steps that puts hi, from the image's bytes to the report's (own)
pub record Hello : Type 0 where
  pub size : length hello_image ≡ 60
  pub head : take 24 hello_image ≡ 0x50 ∷ 0x54 ∷ 0x4b ∷ 0x49 ∷ bytes_of_words (1 ∷ 0 ∷ 0x24 ∷ 0 ∷ 0 ∷ [])
  pub steps : step_ticks (hello_at 20) ≡ 0 ∷ 1 ∷ 2 ∷ 6 ∷ 7 ∷ 8 ∷ 12 ∷ 13 ∷ 14 ∷ []
  pub report : report_text name (hello_at 20) ≡ lines (codes "partition p exit 0 steps 9 lost 0" ∷ codes "output 2" ∷ codes "hi" ∷ [])
  pub report_size : length (report_text name (hello_at 20)) ≡ 46

-- a step's effect stands at once, and the next step waits for its cost (own)
pub record CutRun : Type 0 where
  pub steps : (hello_at 3).account.steps ≡ 3
  pub output : (hello_at 3).part.console.output ≡ codes "h"
  pub next : (hello_at 3).account.next ≡ Some 6
  pub report : report_text name (hello_at 10) ≡ lines (codes "partition p running steps 6 lost 0" ∷ codes "output 2" ∷ codes "hi" ∷ [])

-- li a0, 104; 11 times nop; li a7, 1; ecall
abbrev pub late_put_image : List ℕ
late_put_image = image_of_words (0x06800513 ∷ (replicate 11 0x00000013 ++ 0x00100893 ∷ 0x00000073 ∷ [])) []

-- a put of 4 ticks does not begin where 3 are left of the window; it begins in the next (own)
pub record LatePut : Type 0 where
  pub before : report_text name (run (one_window 40 16) small late_put_image 40) ≡ lines (codes "partition p running steps 13 lost 3" ∷ codes "output 0" ∷ [] ∷ [])
  pub after : report_text name (run (one_window 40 16) small late_put_image 41) ≡ lines (codes "partition p running steps 14 lost 3" ∷ codes "output 1" ∷ codes "h" ∷ [])

-- 16 times nop; li a0, 1024 (a lone addi); li a7, 22; ecall
abbrev pub late_lock_image : List ℕ
late_lock_image = image_of_words (replicate 16 0x00000013 ++ 0x40000513 ∷ 0x01600893 ∷ 0x00000073 ∷ []) []

-- a lock of 8 ticks does not begin where 2 are left of the window (own)
pub record LockOverWindowEnd : Type 0 where
  pub before : report_text name (run first_half small late_lock_image 40) ≡ lines (codes "partition p running steps 18 lost 2" ∷ codes "output 0" ∷ [] ∷ [])
  pub after : report_text name (run first_half small late_lock_image 48) ≡ lines (codes "partition p running steps 19 lost 2" ∷ codes "output 0" ∷ [] ∷ [])

-- 14 times nop; li a0, 1024; li a7, 35; ecall; nop
abbrev pub broadcast_image : List ℕ
broadcast_image = image_of_words (replicate 14 0x00000013 ++ 0x40000513 ∷ 0x02300893 ∷ 0x00000073 ∷ 0x00000013 ∷ []) []

-- the dearest call fits a window of 16 ticks (own)
abbrev pub BroadcastNeedsSixteen : Type 0
BroadcastNeedsSixteen =
    step_ticks (run (one_window 16 16) small broadcast_image 33)
    ≡ 2 ∷ 3 ∷ 4 ∷ 5 ∷ 6 ∷ 7 ∷ 8 ∷ 9 ∷ 10 ∷ 11 ∷ 12 ∷ 13 ∷ 14 ∷ 15 ∷ 16 ∷ 32 ∷ []

-- li a0, 300; li t0, -16; jr t0
abbrev pub gate_image : List ℕ
gate_image = image_of_words (0x12c00513 ∷ 0xff000293 ∷ 0x00028067 ∷ []) []

-- a jump of main to the return gate exits with its low 8 bits of a0 (own)
pub record ReturnToGate : Type 0 where
  pub before : (run (one_window 20 20) small gate_image 3).account.steps ≡ 3
  pub after : report_text name (run (one_window 20 20) small gate_image 4) ≡ lines (codes "partition p exit 44 steps 4 lost 0" ∷ codes "output 0" ∷ [] ∷ [])

-- li t1, 0x00100073; sw t1, 12(zero); nop, which the store makes an ebreak
abbrev pub self_modifying_image : List ℕ
self_modifying_image = image_of_words (0x00100337 ∷ 0x07330313 ∷ 0x00602623 ∷ 0x00000013 ∷ []) []

-- a stored word is what is fetched next (RISC-V 2.7; own)
abbrev pub SelfModifying : Type 0
SelfModifying =
    report_text name (run (one_window 20 20) small self_modifying_image 20)
    ≡ lines (codes "partition p fault break pc 0x0000000c steps 4 lost 0" ∷ codes "output 0" ∷ [] ∷ [])

-- both halves of a frame run the same image, each in its own ticks (own)
pub record TwoHellos : Type 0 where
  pub first : report_text name (run first_half small hello_image 40) ≡ lines (codes "partition p exit 0 steps 9 lost 0" ∷ codes "output 2" ∷ codes "hi" ∷ [])
  pub second : report_text (codes "q") (run second_half small hello_image 40) ≡ lines (codes "partition q exit 0 steps 9 lost 0" ∷ codes "output 2" ∷ codes "hi" ∷ [])
  pub second_steps : step_ticks (run second_half small hello_image 40) ≡ 20 ∷ 21 ∷ 22 ∷ 26 ∷ 27 ∷ 28 ∷ 32 ∷ 33 ∷ 34 ∷ []
