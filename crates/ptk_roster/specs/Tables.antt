-- The stored priority that tells a thread's effective one.
use Rattle.std.specs.Prelude.{ℕ, Option, Some, None, if◌then◌else◌}
use Rattle.ptk_words.specs.Threads.{is_ended}
use Rattle.ptk_words.specs.declared.threads.Thread.{Thread}

-- the stored effective priority of a number, None where it names no thread or an ended one (pthread_mutexattr_getprotocol; own)
abbrev pub effective_at : ℕ → Option Thread → Option ℕ
effective_at priority None = None
effective_at priority (Some thread) = if is_ended thread.phase then None else Some priority
