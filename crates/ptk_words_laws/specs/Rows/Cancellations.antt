-- Cancellation, cleanup handlers and destructors in built states, by the definitions of their calls.
use Rattle.std.specs.Prelude.{◌≡◌, ℕ, zero, suc, ◌*◌, Bool, true, false, List, [], ◌∷◌, ◌++◌, map, replicate, if◌then◌else◌, Option, Some, None, option_map}
use Rattle.ptk_words.specs.Names.{ThreadNumber, KeyNumber, Pointer, Word}
use Rattle.ptk_words.specs.Pools.{numbered}
use Rattle.ptk_words.specs.declared.TheConstants.{A0, A1}
use Rattle.ptk_words.specs.declared.mutexes.Protocol.TheVariants.{NoProtocol}
use Rattle.ptk_words.specs.declared.threads.Phase.TheVariants as phase
use Rattle.ptk_words.specs.declared.threads.Wait.TheVariants.{JoinWait}
use Rattle.ptk_words_model.specs.declared.Reply.TheVariants.{Done, Blocked, Unwinding}
use Rattle.ptk_words_model.specs.declared.Spent.TheVariants.{Step}
use Rattle.ptk_words_model.specs.declared.StepKind.TheVariants.{UnwindingStart}
use Rattle.ptk_words_model.specs.State.{Part, with_locks, with_cancellation}
use Rattle.ptk_words_model.specs.Priority.{thread_at}
use Rattle.ptk_words_model.specs.Schedule.{with_thread}
use Rattle.ptk_words_model.specs.Mutex.{mutex_at, wait_of}
use Rattle.ptk_words_model.specs.Condition.{condition_waiters}
use Rattle.ptk_words_model.specs.Unwinding.{phase_of, is_alive, cleanups_of, after_unwinding_move, after_end}
use Rattle.ptk_words_model.specs.Calls.{Answer}
use Rattle.ptk_words_model.specs.ThreadCalls.{pthread_exit, join}
use Rattle.ptk_words_model.specs.MutexCalls.{mutex_lock}
use Rattle.ptk_words_model.specs.ConditionCalls.{cond_wait, cond_timedwait, cond_signal}
use Rattle.ptk_words_model.specs.CancellationCalls.{cancel, setcancelstate, testcancel, cleanup_push}
use Rattle.ptk_words_model.specs.KeyCalls.{key_create, setspecific}
use Rattle.ptk_words_model.specs.Decision.{step_kind, after_decision, spent_by_decision}
use Rattle.ptk_words_model.specs.Run.{is_at}
use Rattle.ptk_words_laws.specs.Guests.{small, register_of}
use Rattle.ptk_words_laws.specs.Rows.States.{thread, waiting, owned, free, part_with, placed, call_by, call_with}

-- ---- cancellation

-- the result of a thread, None where there is no such thread
abbrev pub result_of : Part → ThreadNumber → Option Word
result_of s t = option_map (λ th. th.result) (thread_at s.locks t)

-- whether a request is pending for a thread
abbrev pub pending_of : Part → ThreadNumber → Option Bool
pending_of s t = option_map (λ c. c.is_pending) (numbered s.cancellations t)

-- 1 (at 5) runs, 2 (at 10) is ready, asynchronous, and cancelled by 1
abbrev pub asked : Part
asked =
    let ready : Part = part_with [] (thread 5 ∷ thread 10 ∷ []) [] in
    (cancel (call_with 2 0 0) (with_cancellation 2 (λ c. record c { is_asynchronous = true }) (with_locks (λ locks. record locks { line = 2 ∷ [] }) ready))).part

-- after the first step of 2
abbrev pub started : Part
started = after_decision small 20 20 asked

-- after the second
abbrev pub ended : Part
ended = after_decision small 24 16 started

-- a cancelled asynchronous thread without handlers and values ends in two steps (XSH 2.9.5.1; own)
pub record AsyncCancelReady : Type 0 where
  pub first : spent_by_decision small 20 20 asked ≡ Step 4
  pub second : spent_by_decision small 24 16 started ≡ Step 4
  pub phase : phase_of (thread_at ended.locks 2) ≡ phase.Ended
  pub joined : (join (call_with 2 0 0) ended).reply ≡ Done 0
  pub told : register_of (join (call_with 2 0 0) ended).part 1 A1 ≡ Some 0xffffffff

-- 2 joins 3 and is cancelled by 1
abbrev pub joiner_cancelled : Part
joiner_cancelled =
    (cancel (call_with 2 0 0)
    (with_locks (with_thread 3 (λ th. record th { joiner = Some 2; result = 9 }))
    (part_with [] (thread 5 ∷ waiting 5 (JoinWait 3) ∷ thread 5 ∷ []) []))).part

-- a cancelled joiner leaves its target joinable, and another is told its result (pthread_join)
pub record CancelledJoiner : Type 0 where
  pub woken : wait_of (thread_at joiner_cancelled.locks 2) ≡ None
  pub line : joiner_cancelled.line ≡ 2 ∷ []
  pub blocks : (join (call_with 3 0 0) joiner_cancelled).reply ≡ Blocked
  pub told : register_of (after_end 3 (join (call_with 3 0 0) joiner_cancelled).part) 1 A1 ≡ Some 9

-- 2 is in DISABLE and cancelled by 1
abbrev pub disabled : Part
disabled =
    (cancel (call_with 2 0 0) (with_cancellation 2 (λ c. record c { is_enabled = false }) (part_with [] (thread 5 ∷ thread 5 ∷ []) []))).part

-- 2 enables cancellation again
abbrev pub enabled : Answer
enabled = setcancelstate (call_by 2 0 0 0) disabled

-- a request stays pending in DISABLE, and acts at the next cancellation point after that (pthread_setcancelstate)
pub record DisableThenEnable : Type 0 where
  pub goes_on : (testcancel (call_by 2 0 0 0) disabled).reply ≡ Done 0
  pub old_state : register_of enabled.part 2 A1 ≡ Some 1
  pub begins : (testcancel (call_by 2 0 0 0) enabled.part).reply ≡ Unwinding
  pub result : result_of (testcancel (call_by 2 0 0 0) enabled.part).part 2 ≡ Some 0xffffffff

-- 1, for which a request is pending, calls a timed wait with a bad third pointer
abbrev pub bad_pointer : Answer
bad_pointer =
    cond_timedwait (call_with 0 4 4096) (with_cancellation 1 (λ c. record c { is_pending = true }) (part_with [] (thread 5 ∷ []) []))

-- pointers are tested before a pending request (own, EFAULT)
pub record BadPointerWithRequest : Type 0 where
  pub refused : bad_pointer.reply ≡ Done 14
  pub pending : pending_of bad_pointer.part 1 ≡ Some true

-- ---- a cancelled condition waiter

-- a thread locks the mutex whose word stands at 4, and waits with it on the condition variable whose word stands at 0
abbrev pub after_waiting : ThreadNumber → Part → Part
after_waiting t s = (cond_wait (call_by t 0 4 0) (mutex_lock (call_by t 4 0 0) s).part).part

-- 1 (at 20) runs; 2 (at 16), which has pushed a handler at 100 with argument 7, waits with mutex 1, and then 3 (at 16)
abbrev pub two_waiters : Part
two_waiters =
    let part : Part = part_with (0 ∷ 1 ∷ []) (thread 20 ∷ thread 16 ∷ thread 16 ∷ []) (free NoProtocol ∷ []) in
    placed 1 [] (after_waiting 3 (after_waiting 2 (cleanup_push (call_by 2 100 7 0) part).part))

-- 1 cancels 2
abbrev pub cancelled : Answer
cancelled = cancel (call_with 2 0 0) two_waiters

-- 1 signals the condition variable
abbrev pub signalled : Answer
signalled = cond_signal (call_with 0 0 0) cancelled.part

-- 1 joins 2, which takes a step
abbrev pub unwinding : Part
unwinding = after_decision small 20 20 (join (call_with 2 0 0) signalled.part).part

-- 2 takes a second step
abbrev pub handling : Part
handling = after_decision small 24 16 unwinding

-- a cancelled waiter has the mutex again, begins its unwinding with its next step and uses up no signal; its first handler runs with the mutex (pthread_cond_wait, XSH 2.9.5.2)
pub record CancelledWaiter : Type 0 where
  pub waiters : condition_waiters two_waiters.syncs 1 ≡ 2 ∷ 3 ∷ []
  pub done : cancelled.reply ≡ Done 0
  pub left : condition_waiters cancelled.part.syncs 1 ≡ 3 ∷ []
  pub owner : mutex_at cancelled.part.locks 1 ≡ owned NoProtocol 2 []
  pub woken : cancelled.part.line ≡ 2 ∷ []
  pub next_step : option_map (step_kind cancelled.part 2) (thread_at cancelled.part.locks 2) ≡ Some UnwindingStart
  pub signal_done : signalled.reply ≡ Done 0
  pub unblocked : condition_waiters signalled.part.syncs 1 ≡ []
  pub waits : mutex_at signalled.part.locks 1 ≡ owned NoProtocol 2 (3 ∷ [])
  pub begun : phase_of (thread_at unwinding.locks 2) ≡ phase.Unwinding
  pub handler : option_map (λ th. th.cpu.pc) (thread_at handling.locks 2) ≡ Some 100
  pub argument : register_of handling 2 A0 ≡ Some 7
  pub with_mutex : mutex_at handling.locks 1 ≡ owned NoProtocol 2 (3 ∷ [])

-- ---- handlers and destructors

-- the pc of thread 1, None where it has ended
abbrev pub routine_of : Part → Option Pointer
routine_of s = if is_alive (thread_at s.locks 1) then option_map (λ th. th.cpu.pc) (thread_at s.locks 1) else None

-- the state after thread 1's next move at the return gate
abbrev pub after_move_of_one : Part → Part
after_move_of_one s = after_unwinding_move 1 (cleanups_of s 1) s

-- the routines that this many moves of thread 1 call, where each routine does this
abbrev pub routines : (Part → Part) → ℕ → Part → List (Option Pointer)
routines does zero s = []
routines does (suc n) s = routine_of (after_move_of_one s) ∷ routines does n (does (after_move_of_one s))

-- the state after this many moves of thread 1, where each routine does this
abbrev pub after_routines : (Part → Part) → ℕ → Part → Part
after_routines does zero s = s
after_routines does (suc n) s = after_routines does n (does (after_move_of_one s))

-- thread 1, which runs, and another
abbrev pub two_threads : Part
two_threads = part_with [] (thread 5 ∷ thread 5 ∷ []) []

-- thread 1 has pushed this many handlers, at 4, 8 and so on
abbrev pub pushed : ℕ → Part
pushed zero = two_threads
pushed (suc n) = (cleanup_push (call_with (4 * suc n) 0 0) (pushed n)).part

-- there is room for sixteen handlers, and the last pushed runs first (pthread_cleanup_push; own, EAGAIN)
pub record SeventeenHandlers : Type 0 where
  pub sixteenth : (cleanup_push (call_with 64 0 0) (pushed 15)).reply ≡ Done 0
  pub seventeenth : (cleanup_push (call_with 68 0 0) (pushed 16)).reply ≡ Done 11
  pub called : routines (λ s. s) 17 (pthread_exit (call_with 0 0 0) (pushed 17)).part ≡ map (λ n. Some (4 * n)) (16 ∷ 15 ∷ 14 ∷ 13 ∷ 12 ∷ 11 ∷ 10 ∷ 9 ∷ 8 ∷ 7 ∷ 6 ∷ 5 ∷ 4 ∷ 3 ∷ 2 ∷ 1 ∷ []) ++ None ∷ []

-- thread 1 sets key k to 9
abbrev pub set_key : KeyNumber → Part → Part
set_key k s = (setspecific (call_with k 9 0) s).part

-- keys 1 and 2 with destructors at 100 and 200, both set by thread 1
abbrev pub two_keys : Part
two_keys = set_key 2 (set_key 1 (key_create (call_with 200 0 0) (key_create (call_with 100 0 0) two_threads).part).part)

-- thread 1 has set key 1, whose destructor stands at 100, and calls pthread_exit
abbrev pub one_key : Part
one_key = (pthread_exit (call_with 5 0 0) (set_key 1 (key_create (call_with 100 0 0) two_threads).part)).part

-- the rounds of destructors have a limit (PTHREAD_DESTRUCTOR_ITERATIONS)
abbrev pub DestructorLimit : Type 0
DestructorLimit = routines (set_key 1) 5 one_key ≡ replicate 4 (Some 100) ++ None ∷ []

-- the destructor at 200 sets key 1
abbrev pub sets_first : Part → Part
sets_first s = if is_at 200 (routine_of s) then set_key 1 s else s

-- a value that a destructor sets is destroyed in the next round (pthread_key_create)
abbrev pub DestructorRounds : Type 0
DestructorRounds = routines sets_first 4 (pthread_exit (call_with 0 0 0) two_keys).part ≡ Some 100 ∷ Some 200 ∷ Some 100 ∷ None ∷ []

-- the destructor sets its key again and calls pthread_exit with 7
abbrev pub exits_again : Part → Part
exits_again s = (pthread_exit (call_with 7 0 0) (set_key 1 s)).part

-- pthread_exit in a destructor begins no rounds anew (pthread_exit; own)
pub record ExitInDestructor : Type 0 where
  pub called : routines exits_again 4 one_key ≡ replicate 4 (Some 100)
  pub ended : routine_of (after_move_of_one (after_routines exits_again 4 one_key)) ≡ None
  pub result : result_of (after_move_of_one (after_routines exits_again 4 one_key)) 1 ≡ Some 7
