-- Calls 0 to 2: the partition's exit and its console (own).
use Rattle.std.specs.Prelude.{◌%◌, List, [], ◌∷◌}
use Rattle.ptk_words.specs.Names.{Byte}
use Rattle.ptk_words.specs.declared.faults.Errno.TheVariants.{EAGAIN}
use Rattle.ptk_words.specs.declared.faults.Status.TheVariants.{Exited}
use Rattle.ptk_words.specs.declared.threads.Wait.TheVariants.{InputWait}
use Rattle.ptk_words_model.specs.State.{with_console}
use Rattle.ptk_words_model.specs.Console.{is_full, with_output, with_waiter}
use Rattle.ptk_words_model.specs.Steps.{Row, ◌passed_to◌ as ◌>>=◌, ◌>>◌, registers, state, refuse◌when◌, cancellation_point, change, succeed, succeed_with, block_in, halt}

-- the partition exits with the low 8 bits of the code (own)
abbrev pub exit_call : Row
exit_call = do
  i ← registers
  halt (Exited (i.a0 % 256))

-- a byte at the end of the output, which has a limit (own, EAGAIN)
abbrev pub console_put : Row
console_put = do
  i ← registers
  s ← state
  cancellation_point
  refuse EAGAIN when is_full i.limits.output s.console
  change (with_console (with_output (i.a0 % 256)))
  succeed

-- the first byte of the ring in a1, or the caller blocks as the last waiter (own)
abbrev pub take_input : List Byte → Row
take_input [] = do
  i ← registers
  change (with_console (with_waiter i.caller))
  block_in InputWait
take_input (byte ∷ ring) = do
  change (with_console (λ console. record console { ring = ring }))
  succeed_with byte

-- a byte of input
abbrev pub console_get : Row
console_get = do
  s ← state
  cancellation_point
  take_input s.console.ring
