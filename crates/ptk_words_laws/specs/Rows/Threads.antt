-- Runs of several threads: create and join, numbers, round robin and places in the line.
use Rattle.std.specs.Prelude.{◌≡◌, ℕ, false, List, [], ◌∷◌, codes, Some, option_map}
use Rattle.ptk_words.specs.Names.{Ticks}
use Rattle.ptk_words.specs.declared.faults.Status.TheVariants.{Active}
use Rattle.ptk_words.specs.declared.threads.Phase.TheVariants.{Ended}
use Rattle.ptk_words_model.specs.Text.{report_text}
use Rattle.ptk_words_model.specs.State.{State}
use Rattle.ptk_words_model.specs.Priority.{thread_at}
use Rattle.ptk_words_laws.specs.Guests.{image_of_words, small, one_window, first_half, run, name, lines, step_ticks, step_threads, register_of}

-- main creates t with argument 5, joins it and exits with its result; t returns its argument plus 2
abbrev pub create_join_image : List ℕ
create_join_image =
    image_of_words
    (0x000005b7 ∷ 0x03058593 ∷ 0x00000513 ∷ 0x00500613 ∷ 0x00a00893 ∷ 0x00000073
    ∷ 0x00058513 ∷ 0x00c00893 ∷ 0x00000073
    ∷ 0x00058513 ∷ 0x00000893 ∷ 0x00000073
    ∷ 0x00250513 ∷ 0x00008067 ∷ [])
    []

-- a joiner goes on after the other's return and end, with its result (pthread_join)
pub record CreateJoin : Type 0 where
  pub steps : step_ticks (run (one_window 100 100) small create_join_image 40) ≡ 0 ∷ 1 ∷ 2 ∷ 3 ∷ 4 ∷ 5 ∷ 17 ∷ 18 ∷ 19 ∷ 27 ∷ 28 ∷ 29 ∷ 33 ∷ 37 ∷ 38 ∷ 39 ∷ []
  pub report : report_text name (run (one_window 100 100) small create_join_image 40) ≡ lines (codes "partition p exit 7 steps 16 lost 0" ∷ codes "output 0" ∷ [] ∷ [])

-- main creates t and calls pthread_exit; t detaches main, creates a thread that returns, yields and jumps to itself
abbrev pub reused_image : List ℕ
reused_image =
    image_of_words
    (0x00000513 ∷ 0x000005b7 ∷ 0x02458593 ∷ 0x00000613 ∷ 0x00a00893 ∷ 0x00000073
    ∷ 0x00000513 ∷ 0x00b00893 ∷ 0x00000073
    ∷ 0x00100513 ∷ 0x00d00893 ∷ 0x00000073
    ∷ 0x00000513 ∷ 0x000005b7 ∷ 0x05858593 ∷ 0x00000613 ∷ 0x00a00893 ∷ 0x00000073
    ∷ 0x00058413 ∷ 0x00f00893 ∷ 0x00000073 ∷ 0x0000006f
    ∷ 0x00008067 ∷ [])
    []

-- the run in which number 1 is taken anew, after n ticks
abbrev pub reused_at : Ticks → State
reused_at n = run (one_window 400 400) small reused_image n

-- a thread that gets number 1 anew is not main: its return ends it alone (own)
pub record NumberOneReused : Type 0 where
  pub kept : option_map (λ thread. thread.phase) (thread_at (reused_at 31).part.locks 1) ≡ Some Ended
  pub number : register_of (reused_at 80).part 2 8 ≡ Some 1
  pub not_main : option_map (λ thread. thread.is_main) (thread_at (reused_at 80).part.locks 1) ≡ Some false
  pub ended : option_map (λ thread. thread.phase) (thread_at (reused_at 80).part.locks 1) ≡ Some Ended
  pub goes_on : (reused_at 80).part.status ≡ Active
  pub runs : (reused_at 80).part.running ≡ Some 2

-- main makes two SCHED_RR threads of its own priority that jump to themselves, and yields
abbrev pub round_robin_image : List ℕ
round_robin_image =
    image_of_words
    (0x02c00513 ∷ 0x02800593 ∷ 0x00a00893 ∷ 0x00000073
    ∷ 0x02c00513 ∷ 0x02800593 ∷ 0x00000073
    ∷ 0x00f00893 ∷ 0x00000073 ∷ 0xfddff06f
    ∷ 0x0000006f ∷ [])
    (0x00000000 ∷ 0x00000001 ∷ 0x00000002 ∷ 0x00000010 ∷ 0x00000000 ∷ [])

-- an interval of 5 counts the own ticks alone, over a window's end too (XSH 2.8.4, SCHED_RR; own)
pub record RoundRobinWindows : Type 0 where
  pub ticks : step_ticks (run first_half (record small { interval = 5 }) round_robin_image 87) ≡ 3 ∷ 15 ∷ 16 ∷ 40 ∷ 52 ∷ 53 ∷ 57 ∷ 58 ∷ 59 ∷ 80 ∷ 81 ∷ 82 ∷ 83 ∷ 84 ∷ 85 ∷ 86 ∷ []
  pub threads : step_threads (run first_half (record small { interval = 5 }) round_robin_image 87) ≡ 1 ∷ 1 ∷ 1 ∷ 1 ∷ 1 ∷ 1 ∷ 2 ∷ 2 ∷ 2 ∷ 2 ∷ 2 ∷ 3 ∷ 3 ∷ 3 ∷ 3 ∷ 3 ∷ []

-- main at 10 creates a thread of priority 8 and sets its own priority to 8 by setschedprio
abbrev pub fall_by_prio_image : List ℕ
fall_by_prio_image =
    image_of_words
    (0x00100513 ∷ 0x00a00593 ∷ 0x01200893 ∷ 0x00000073
    ∷ 0x00000537 ∷ 0x04050513 ∷ 0x000005b7 ∷ 0x03c58593 ∷ 0x00000613 ∷ 0x00a00893 ∷ 0x00000073
    ∷ 0x00100513 ∷ 0x00800593 ∷ 0x01200893 ∷ 0x00000073
    ∷ 0x0000006f ∷ [])
    (0x00000000 ∷ 0x00000001 ∷ 0x00000001 ∷ 0x00000008 ∷ 0x00000000 ∷ [])

-- main at 10 creates a thread of priority 8 and sets its own priority to 8 by setschedparam
abbrev pub fall_by_param_image : List ℕ
fall_by_param_image =
    image_of_words
    (0x00100513 ∷ 0x00a00593 ∷ 0x01200893 ∷ 0x00000073
    ∷ 0x00000537 ∷ 0x04450513 ∷ 0x000005b7 ∷ 0x04058593 ∷ 0x00000613 ∷ 0x00a00893 ∷ 0x00000073
    ∷ 0x00100513 ∷ 0x00100593 ∷ 0x00800613 ∷ 0x01000893 ∷ 0x00000073
    ∷ 0x0000006f ∷ [])
    (0x00000000 ∷ 0x00000001 ∷ 0x00000001 ∷ 0x00000008 ∷ 0x00000000 ∷ [])

-- a thread whose priority falls by setschedprio stays before its equals, by setschedparam it goes behind them (XSH 2.8.4)
pub record OwnPriorityFalls : Type 0 where
  pub by_prio : (run (one_window 400 400) small fall_by_prio_image 50).part.running ≡ Some 1
  pub line_by_prio : (run (one_window 400 400) small fall_by_prio_image 50).part.line ≡ 2 ∷ []
  pub by_param : (run (one_window 400 400) small fall_by_param_image 50).part.running ≡ Some 2
  pub line_by_param : (run (one_window 400 400) small fall_by_param_image 50).part.line ≡ 1 ∷ []
