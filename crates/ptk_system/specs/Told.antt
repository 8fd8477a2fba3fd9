-- What the getters show of a partition's state.
use Rattle.std.specs.Prelude.{ℕ, Bool, true, false, Option, Some, None, option_map, option_and_then, nat_lt, if◌then◌else◌}
use Rattle.ptk_words.specs.Processor.{Processor, register}
use Rattle.ptk_words.specs.declared.faults.Status.{Status}
use Rattle.ptk_words.specs.declared.faults.Status.TheVariants.{Active, Exited, Stopped, Refused}
use Rattle.ptk_words.specs.declared.threads.Thread.{Thread}
use Rattle.ptk_words_model.specs.State.{Part}
use Rattle.ptk_words_model.specs.Priority.{thread_at}
use Rattle.ptk_words_model.specs.Text.{has_runnable}
use Rattle.ptk_words.specs.Threads.{is_ended}
use Rattle.ptk_system.specs.declared.status.PartStatus.{PartStatus}
use Rattle.ptk_system.specs.declared.status.PartStatus.TheVariants as told

-- the registers of a thread that has not ended
abbrev pub live_cpu : Option Thread → Option Processor
live_cpu None = None
live_cpu (Some thread) = if is_ended thread.phase then None else Some thread.cpu

-- a register of a thread, if there is such a thread that has not ended, and such a register
abbrev pub register_in : ℕ → ℕ → Part → Option ℕ
register_in t i s = option_and_then (λ cpu. if nat_lt i 32 then Some (register cpu i) else None) (live_cpu (thread_at s.locks t))

-- the pc of a thread, if there is such a thread that has not ended
abbrev pub pc_in : ℕ → Part → Option ℕ
pc_in t s = option_map (λ cpu. cpu.pc) (live_cpu (thread_at s.locks t))

-- of a partition that is not halted: running where a thread is running or ready, else idle
abbrev pub activity_of : Bool → PartStatus
activity_of true = told.Running
activity_of false = told.Idle

-- the status that is shown, by the state's own and by whether a thread is running or ready
abbrev pub told_status : Status → Bool → PartStatus
told_status Active busy = activity_of busy
told_status (Exited code) busy = told.Exited code
told_status (Stopped cause pc) busy = told.Stopped cause pc
told_status (Refused fault) busy = told.Refused fault

-- whether a status is that of a halted partition: it exited, was stopped, or its image was refused
abbrev pub is_halted : PartStatus → Bool
is_halted told.Idle = false
is_halted told.Running = false
is_halted (told.Exited code) = true
is_halted (told.Stopped cause pc) = true
is_halted (told.Refused fault) = true

-- the status of a partition
abbrev pub status_in : Part → PartStatus
status_in s = told_status s.status (has_runnable s)
