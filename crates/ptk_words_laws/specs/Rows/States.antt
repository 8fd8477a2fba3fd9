-- Built states: threads, mutexes, a partition that has them, and calls that threads make in it.
use Rattle.std.specs.Prelude.{ℕ, false, List, [], ◌++◌, replicate, Option, Some}
use Rattle.ptk_words.specs.Names.{ThreadNumber, Priority, Pointer, Word}
use Rattle.ptk_words.specs.declared.mutexes.MutexKind.TheVariants.{Normal, Recursive}
use Rattle.ptk_words.specs.declared.mutexes.Protocol.{Protocol}
use Rattle.ptk_words.specs.declared.mutexes.Protocol.TheVariants.{NoProtocol}
use Rattle.ptk_words.specs.declared.mutexes.Owner.TheVariants.{OwnedBy}
use Rattle.ptk_words.specs.declared.threads.Policy.TheVariants.{Fifo}
use Rattle.ptk_words.specs.declared.threads.Thread.{Thread}
use Rattle.ptk_words.specs.declared.threads.Wait.{Wait}
use Rattle.ptk_words_model.specs.State.{Mutex, Part, locks_of, with_locks}
use Rattle.ptk_words_model.specs.Mutex.{new_mutex}
use Rattle.ptk_words_model.specs.ThreadCreation.{start_cpu, new_thread}
use Rattle.ptk_words_model.specs.declared.Invocation.{Invocation}
use Rattle.ptk_words_model.specs.Run.{empty_part}
use Rattle.ptk_words_model.specs.MutexCalls.{mutex_lock}
use Rattle.ptk_words_laws.specs.Guests.{bytes_of_words, small}

-- ---- threads

-- a thread of this priority that waits for nothing
abbrev pub thread : Priority → Option Thread
thread priority = Some (new_thread (start_cpu 0 0 4096) Fifo priority)

-- a thread of this priority in this wait
abbrev pub waiting : Priority → Wait → Option Thread
waiting priority wait = Some (let th : Thread = new_thread (start_cpu 0 0 4096) Fifo priority in record th { wait = Some wait })

-- ---- mutexes

-- a NORMAL mutex that the thread owns once, with these waiters
abbrev pub owned : Protocol → ThreadNumber → List ThreadNumber → Option Mutex
owned protocol t waiters = Some (record (new_mutex Normal protocol false) { owner = OwnedBy t; count = 1; waiters = waiters })

-- a free NORMAL mutex
abbrev pub free : Protocol → Option Mutex
free protocol = Some (new_mutex Normal protocol false)

-- a RECURSIVE mutex that thread 1 counted so often
abbrev pub counted : ℕ → Option Mutex
counted count = Some (record (new_mutex Recursive NoProtocol false) { owner = OwnedBy 1; count = count })

-- ---- partitions

-- memory that begins with these words
abbrev pub memory_with : List Word → List ℕ
memory_with words = bytes_of_words words ++ replicate 64 0

-- a partition with these words in memory, these threads and mutexes, and thread 1 running
abbrev pub part_with : List Word → List (Option Thread) → List (Option Mutex) → Part
part_with words threads mutexes =
    let part : Part = with_locks (λ _. locks_of threads mutexes) (empty_part small []) in
    record part { memory = memory_with words; running = Some 1 }

-- the partition with this thread running and these in the line
abbrev pub placed : ThreadNumber → List ThreadNumber → Part → Part
placed t line s =
    let part : Part = with_locks (λ locks. record locks { line = line }) s in
    record part { running = Some t }

-- ---- calls

-- a call of a thread with these arguments, at tick 10
abbrev pub call_by : ThreadNumber → Word → Word → Word → Invocation
call_by t a0 a1 a2 = record { limits = small; tick = 10; caller = t; a0 = a0; a1 = a1; a2 = a2; a3 = 0; a4 = 0 }

-- a call of thread 1
abbrev pub call_with : Word → Word → Word → Invocation
call_with a0 a1 a2 = call_by 1 a0 a1 a2

-- the thread locks the mutex whose word stands at the pointer
abbrev pub after_lock_by : ThreadNumber → Pointer → Part → Part
after_lock_by t pointer s = (mutex_lock (call_by t pointer 0 0) s).part
