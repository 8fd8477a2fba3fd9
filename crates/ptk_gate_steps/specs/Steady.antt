-- What stays of a partition whose running thread computes and makes quiet calls.
use Rattle.std.specs.Prelude.{◌≡◌, ℕ, Bool, true, ◌&&◌, length, nat_lt, Option, Some, option_map}
use Rattle.ptk_words.specs.Processor.{Processor}
use Rattle.ptk_words.specs.declared.sections.Entry.{Entry}
use Rattle.ptk_words.specs.declared.threads.Thread.{Thread}
use Rattle.ptk_words_model.specs.State.{Mutex, Part}
use Rattle.ptk_words_model.specs.Priority.{thread_at, effective_priority}
use Rattle.ptk_words_model.specs.Mutex.{mutex_at, waiters_of}
use Rattle.ptk_words_model.specs.MutexCalls.{is_locked}

-- the mutex has an owner, and threads wait for it (pthread_mutex_lock)
abbrev pub is_contended : Option Mutex → Bool
is_contended x = is_locked x && nat_lt 0 (length (waiters_of x))

-- the thread with these registers, and no tick of its interval used: what is left of it are its policy, its priority, its phase, its wait and its end
abbrev pub at_rest : Processor → Thread → Thread
at_rest cpu thread = record thread { cpu = cpu; used = 0 }

-- the same thread runs, each thread is and waits as before, with the same priorities, and so is each mutex that threads wait for; no byte of input was dropped (XSH 2.8.4; own)
pub record IsSteady (s after : Part) : Type 0 where
  pub status : after.status ≡ s.status
  pub dropped : after.console.dropped ≡ s.console.dropped
  pub running : after.running ≡ s.running
  pub threads : (t : ℕ) (cpu : Processor) → option_map (at_rest cpu) (thread_at after.locks t) ≡ option_map (at_rest cpu) (thread_at s.locks t)
  pub priorities : (t : ℕ) → effective_priority after.locks t ≡ effective_priority s.locks t
  pub mutexes : (m : ℕ) → is_contended (mutex_at s.locks m) ≡ true → mutex_at after.locks m ≡ mutex_at s.locks m

-- the last step was the running thread's
abbrev pub IsOfRunning : Part → Type 0
IsOfRunning s = (entry : Entry) → s.last ≡ Some entry → s.running ≡ Some entry.thread
