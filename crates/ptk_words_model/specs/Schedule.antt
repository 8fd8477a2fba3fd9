-- Places in the line, waking, the choice of the running thread and round-robin intervals (XSH 2.8.4).
use Rattle.std.specs.Prelude.{ℕ, suc, ◌+◌, Bool, true, false, ◌&&◌, List, [], ◌∷◌, ◌++◌, ◌==◌, nat_lt, nat_le, if◌then◌else◌, Option, Some, None}
use Rattle.ptk_words.specs.Names.{ThreadNumber, Ticks, Word}
use Rattle.ptk_words.specs.declared.TheConstants.{A0}
use Rattle.ptk_words.specs.Pools.{pool_changed, without, first_of_greatest}
use Rattle.ptk_words.specs.Processor.{Processor, with_register}
use Rattle.ptk_words.specs.declared.threads.Thread.{Thread}
use Rattle.ptk_words.specs.declared.threads.Policy.{Policy}
use Rattle.ptk_words.specs.declared.threads.Policy.TheVariants.{Fifo, RoundRobin}
use Rattle.ptk_words_model.specs.State.{Locks, Part, with_locks}
use Rattle.ptk_words_model.specs.Priority.{effective_priority}

-- ---- parts of the state

-- the thread of a number changed by f; a free number stays free
abbrev pub with_thread : ThreadNumber → (Thread → Thread) → Locks → Locks
with_thread t f locks = record locks { threads = pool_changed t f locks.threads }

-- the values in the registers from i on
abbrev pub with_registers : Processor → ℕ → List Word → Processor
with_registers cpu i [] = cpu
with_registers cpu i (value ∷ values) = with_registers (with_register cpu i value) (suc i) values

-- the thread with the values in a0, a1 and so on
abbrev pub with_reply : List Word → Thread → Thread
with_reply values thread = record thread { cpu = with_registers thread.cpu A0 values }

-- ---- places

-- the thread changed by f and put at the tail of the line (XSH 2.8.4)
abbrev pub at_tail_with : (Thread → Thread) → ThreadNumber → Locks → Locks
at_tail_with f t locks = record locks { threads = pool_changed t f locks.threads; line = locks.line ++ t ∷ [] }

-- a thread that has used no tick of its interval (XSH 2.8.4, SCHED_RR; own)
abbrev pub unused : Thread → Thread
unused thread = record thread { used = 0 }

-- the thread at the tail of the line, with no ticks used (XSH 2.8.4; own)
abbrev pub at_tail : ThreadNumber → Locks → Locks
at_tail t locks = at_tail_with unused t locks

-- the thread at the head of the line (XSH 2.8.4)
abbrev pub at_head : ThreadNumber → Locks → Locks
at_head t locks = record locks { line = t ∷ locks.line }

-- a thread that waits for nothing any more, with these values in a0 and so on, and no ticks used (XSH 2.8.4)
abbrev pub woken_with : List Word → Thread → Thread
woken_with values thread = record (with_reply values thread) { wait = None; used = 0 }

-- the blocked thread is ready, at the tail, with these values in a0 and so on (XSH 2.8.4)
abbrev pub after_wake : ThreadNumber → List Word → Locks → Locks
after_wake t values locks = at_tail_with (woken_with values) t locks

-- ---- the choice

-- the first thread of the line's greatest effective priority (XSH 2.8.4)
abbrev pub first_ready : Locks → Option ThreadNumber
first_ready locks = first_of_greatest (effective_priority locks) locks.line

-- the thread is out of the line and runs (XSH 2.8.4)
abbrev pub after_dispatch : ThreadNumber → Part → Part
after_dispatch t s = let next : Part = with_locks (λ locks. record locks { line = without t locks.line }) s in record next { running = Some t }

-- the running thread stays but for a greater effective priority, and then stands first in the line (XSH 2.8.4)
abbrev pub after_choice_between : Option ThreadNumber → Option ThreadNumber → Part → Part
after_choice_between running None s = s
after_choice_between None (Some t) s = after_dispatch t s
after_choice_between (Some r) (Some t) s =
    if nat_lt (effective_priority s.locks r) (effective_priority s.locks t)
    then after_dispatch t (with_locks (at_head r) s)
    else s

-- the state with the running thread chosen (XSH 2.8.4)
abbrev pub after_choice : Part → Part
after_choice s = after_choice_between s.running (first_ready s.locks) s

-- ---- round robin

-- SCHED_RR (XSH 2.8.4)
abbrev pub is_round_robin : Policy → Bool
is_round_robin Fifo = false
is_round_robin RoundRobin = true

-- the thread is the running one (XSH 2.8.4)
abbrev pub is_running : ThreadNumber → Option ThreadNumber → Bool
is_running t None = false
is_running t (Some r) = r == t

-- the running thread goes to the tail, and no thread runs (XSH 2.8.4)
abbrev pub after_turn_end : ThreadNumber → Part → Part
after_turn_end t s = let next : Part = with_locks (at_tail t) s in record next { running = None }

-- the partition in which the thread has used these ticks of its interval (XSH 2.8.4, SCHED_RR)
abbrev pub with_thread_used : ThreadNumber → Ticks → Part → Part
with_thread_used t used s = with_locks (with_thread t (λ thread. record thread { used = used })) s

-- a thread of SCHED_RR that is still running after a step has used its ticks; at the interval it goes to the tail (XSH 2.8.4, SCHED_RR; own)
abbrev pub after_interval : Ticks → Ticks → ThreadNumber → Option Thread → Part → Part
after_interval interval cost t None s = s
after_interval interval cost t (Some thread) s =
    if is_running t s.running && is_round_robin thread.policy
    then (if nat_le interval (thread.used + cost) then after_turn_end t s else with_thread_used t (thread.used + cost) s)
    else s
