-- Unwinding: cleanup handlers, key destructors and a thread's end (XSH 2.9.5.3; pthread_exit, pthread_key_create).
use Rattle.std.specs.Prelude.{◌%◌, Bool, false, not, List, [], ◌∷◌, if◌then◌else◌, Option, Some, None, unwrap_or}
use Rattle.std.specs.List.{list_any}
use Rattle.ptk_words.specs.Names.{Pointer, ThreadNumber, Word}
use Rattle.ptk_words.specs.declared.TheConstants.{A0, RA, RETURN_GATE}
use Rattle.ptk_words.specs.Pools.{numbered, pool_set}
use Rattle.ptk_words.specs.Processor.{Processor, register, with_register}
use Rattle.ptk_words.specs.declared.threads.Thread.{Thread}
use Rattle.ptk_words.specs.declared.threads.Cleanup.{Cleanup}
use Rattle.ptk_words.specs.Threads.{is_ended, is_taken}
use Rattle.ptk_words.specs.declared.threads.Phase.{Phase}
use Rattle.ptk_words.specs.declared.threads.Phase.TheVariants.{Normal, Unwinding, Ended}
use Rattle.ptk_words.specs.declared.faults.Status.TheVariants.{Exited}
use Rattle.ptk_words_model.specs.State.{Locks, Part, with_locks, with_cancellation, with_cleanups, with_keys, with_halt}
use Rattle.ptk_words_model.specs.Priority.{thread_at}
use Rattle.ptk_words_model.specs.Schedule.{with_thread, after_wake}
use Rattle.ptk_words_model.specs.Mutex.{after_owner_end}
use Rattle.ptk_words_model.specs.Keys.{DestructorCall, destructor_of, next_destructor, after_destructor_call, with_first_round, with_rounds}

-- ---- the beginning

-- the phase of a thread
abbrev pub phase_of : Option Thread → Phase
phase_of None = Ended
phase_of (Some thread) = thread.phase

-- cancellation is disabled and deferred, the result is the value, and the next step is at the return gate (pthread_exit, XSH 2.9.5.3)
abbrev pub after_unwinding_start : ThreadNumber → Word → Part → Part
after_unwinding_start t value s =
    with_locks (with_thread t (λ thread. record thread { cpu = record (thread.cpu) { pc = RETURN_GATE }; result = value; phase = Unwinding }))
    (with_keys (with_rounds t (with_first_round (phase_of (thread_at s.locks t))))
    (with_cancellation t (λ c. record c { is_enabled = false; is_asynchronous = false; is_marked = false }) s))

-- ---- the end

-- the thread's result goes to the thread that joins it (pthread_join)
abbrev pub after_join_by : Option ThreadNumber → Word → Locks → Locks
after_join_by None result locks = locks
after_join_by (Some u) result locks = after_wake u (0 ∷ result ∷ []) locks

-- the number is free (pthread_join)
abbrev pub without_thread : ThreadNumber → Locks → Locks
without_thread t locks = record locks { threads = pool_set locks.threads t None }

-- an ended thread keeps its number and result until it is joined or detached (pthread_exit, pthread_detach)
abbrev pub after_release : ThreadNumber → Option Thread → Locks → Locks
after_release t None locks = locks
after_release t (Some thread) locks =
    if is_taken thread
    then without_thread t (after_join_by thread.joiner thread.result locks)
    else with_thread t (λ th. record th { phase = Ended }) locks

-- a thread is in use and has not ended (pthread_exit)
abbrev pub is_alive : Option Thread → Bool
is_alive thread = not (is_ended (phase_of thread))

-- the last thread's end exits the partition with 0 (pthread_exit)
abbrev pub after_last_end : Part → Part
after_last_end s = if list_any is_alive s.threads then s else with_halt (Exited 0) s

-- the thread has ended: its robust mutexes go to their heirs and the others are nobody's, then its joiner is woken, its number free or kept (pthread_exit, pthread_mutexattr_setrobust; own)
abbrev pub after_end : ThreadNumber → Part → Part
after_end t s =
    let after : Part = with_locks (λ locks. after_release t (thread_at locks t) (after_owner_end t locks)) s in
    after_last_end (record after { running = None })

-- ---- the return gate

-- the registers at the call of a routine that returns to the gate (own)
abbrev pub cpu_at_call : Pointer → Word → Processor → Processor
cpu_at_call routine argument cpu = record (with_register (with_register cpu A0 argument) RA RETURN_GATE) { pc = routine }

-- the thread calls the routine
abbrev pub after_routine_call : ThreadNumber → Pointer → Word → Part → Part
after_routine_call t routine argument s = with_locks (with_thread t (λ thread. record thread { cpu = cpu_at_call routine argument thread.cpu })) s

-- the destructor that is due is called with the old value, which becomes 0; where none is due, the thread ends (pthread_key_create, pthread_exit)
abbrev pub after_destructor_or_end : ThreadNumber → Option DestructorCall → Part → Part
after_destructor_or_end t None s = after_end t s
after_destructor_or_end t (Some call) s =
    after_routine_call t (destructor_of s.keys call.key) call.argument (with_keys (after_destructor_call t call) s)

-- the next move of an unwinding thread: the handler pushed last, else the next destructor, else the end (XSH 2.9.5.3)
abbrev pub after_unwinding_move : ThreadNumber → List Cleanup → Part → Part
after_unwinding_move t (cleanup ∷ cleanups) s =
    after_routine_call t cleanup.routine cleanup.argument (with_cleanups t (λ _. cleanups) s)
after_unwinding_move t [] s = after_destructor_or_end t (next_destructor s.keys t) s

-- the handlers of a thread, the last pushed first (pthread_cleanup_push)
abbrev pub cleanups_of : Part → ThreadNumber → List Cleanup
cleanups_of s t = unwrap_or (numbered s.cleanups t) []

-- a return of main exits the partition with a0, of any other thread begins its unwinding with a0 (pthread_create)
abbrev pub after_return : ThreadNumber → Thread → Part → Part
after_return t thread s =
    if thread.is_main then with_halt (Exited (register thread.cpu A0 % 256)) s else after_unwinding_start t (register thread.cpu A0) s

-- a step at the return gate, by the thread's phase
abbrev pub after_gate_step : Phase → ThreadNumber → Thread → Part → Part
after_gate_step Normal t thread s = after_return t thread s
after_gate_step Unwinding t thread s = after_unwinding_move t (cleanups_of s t) s
after_gate_step Ended t thread s = s
