-- Each call leaves the state whole.
use Rattle.std.proofs.Common.{◌≡◌, ℕ, ◌%◌, Bool, true, false, not, List, [], ◌∷◌, refl, ◌∙◌, ap}
use Rattle.std.specs.Prelude.{Option, Some, None, unwrap_or, is_some, nat_lt, ◌==◌, if◌then◌else◌, option_map}
use Rattle.std.proofs.lemmas.Bool.{or_parts}
use Rattle.ptk_words.specs.Pools.{least_free}
use Rattle.ptk_words.specs.Processor.{Processor}
use Rattle.ptk_words.specs.declared.faults.Errno.TheVariants.{ESRCH, EAGAIN, EINVAL, EDEADLK, ENOTSUP}
use Rattle.ptk_words.specs.declared.faults.Status.TheVariants.{Exited}
use Rattle.ptk_words.specs.declared.sections.Limits.{Limits}
use Rattle.ptk_words.specs.declared.threads.Thread.{Thread}
use Rattle.ptk_words.specs.declared.threads.Wait.TheVariants.{JoinWait}
use Rattle.ptk_words.proofs.Options.{none_if_not_some}
use Rattle.ptk_words_model.specs.State.{Part, with_locks, with_console}
use Rattle.ptk_words_model.specs.Priority.{thread_at}
use Rattle.ptk_words_model.specs.Schedule.{with_thread, at_tail, at_head}
use Rattle.ptk_words_model.specs.Console.{is_full, with_output}
use Rattle.ptk_words_model.specs.Unwinding.{is_alive, without_thread}
use Rattle.ptk_words.specs.Threads.{is_ended, is_taken}
use Rattle.ptk_words_model.specs.declared.Invocation.{Invocation}
use Rattle.ptk_words_model.specs.declared.Creation.{Creation}
use Rattle.ptk_words_model.specs.declared.Scheduling.{Scheduling}
use Rattle.ptk_words_model.specs.declared.Scheduling.TheVariants.{Inherited, Explicit}
use Rattle.ptk_words_model.specs.Calls.{Answer, refusal, success, blocked_in, is_cancelled, cancellation_answer}
use Rattle.ptk_words_model.specs.ConsoleCalls.{exit_call, console_put, take_input, console_get}
use Rattle.ptk_words_model.specs.ThreadCalls.{create, pthread_exit, join, detach, self, after_placing, yield, after_placing_at_tail, setschedparam, getschedparam, after_priority_change, setschedprio}
use Rattle.ptk_words_model.specs.ThreadCreation.{policy_of, policy_number, is_priority, start_cpu, default_stack_top, creation_at, scheduled_thread, with_new_thread, created_thread}
use Rattle.ptk_words_model.specs.CallTable.{answer_of, answer_to}
use Rattle.ptk_words.specs.declared.calls.Call.{Call}
use Rattle.ptk_words.specs.declared.calls.Call.TheVariants as call
use Rattle.ptk_words.specs.Calls.{call_of}
use Rattle.ptk_words_sync_invariant.specs.Locks.{joiner_of}
use Rattle.ptk_words_invariant.specs.Well.{IsWell}
use Rattle.ptk_words_sync_invariant.proofs.Lined.{ready_alive}
use Rattle.ptk_words_invariant.proofs.MutexCalls.{well_mutex_init, well_mutex_destroy, well_mutex_lock, well_mutex_trylock, well_mutex_unlock, well_mutex_consistent}
use Rattle.ptk_words_invariant.proofs.TimeRows.{well_clock_gettime, well_clock_nanosleep, well_mutex_timedlock}
use Rattle.ptk_words_invariant.proofs.ConditionRows.{well_cond_init, well_cond_destroy, well_cond_wait, well_cond_timedwait, well_cond_signal, well_cond_broadcast}
use Rattle.ptk_words_invariant.proofs.CancellationRows.{well_cancel, well_setcancelstate, well_setcanceltype, well_testcancel, well_cleanup_push, well_cleanup_pop}
use Rattle.ptk_words_invariant.proofs.KeyRows.{well_key_create, well_key_delete, well_setspecific, well_getspecific}
use Rattle.ptk_words_invariant.proofs.Steps.{well_refusal, well_success, either_well, well_unless, well_given, well_valid, well_using, well_cancellation_answer, Keeps, well_no_call}
use Rattle.ptk_words_invariant.proofs.Threads.{well_policy, well_priority, well_detached}
use Rattle.ptk_words_invariant.proofs.Parts.{well_output, well_taken, well_halt}
use Rattle.ptk_words_invariant.proofs.Turns.{well_placing_tail, well_placing_head, well_placing_at_tail}
use Rattle.ptk_words_invariant.proofs.Waits.{well_input_wait, well_join_wait}
use Rattle.ptk_words_invariant.proofs.Unwindings.{well_unwinding_start}
use Rattle.ptk_words_invariant.proofs.Ends.{well_freed}
use Rattle.ptk_words_invariant.proofs.Starts.{IsNew, well_least_free}

-- ---- calls 0 to 2

pub well_exit_call : (i : Invocation) (s : Part) → s.running ≡ Some i.caller → IsWell i.limits s → IsWell i.limits (exit_call i s).part
well_exit_call i s runs well = well_halt i.limits (Exited (i.a0 % 256)) s well

pub well_console_put : (i : Invocation) (s : Part) → s.running ≡ Some i.caller → IsWell i.limits s → IsWell i.limits (console_put i s).part
well_console_put i s runs well =
    either_well i.limits (is_cancelled s i.caller) (cancellation_answer i s) (if is_full i.limits.output s.console then refusal EAGAIN i s else success [] i (with_console (with_output (i.a0 % 256)) s))
    (λ e. well_cancellation_answer i.limits i s runs well)
    (λ e. either_well i.limits (is_full i.limits.output s.console) (refusal EAGAIN i s) (success [] i (with_console (with_output (i.a0 % 256)) s))
    (λ f. well_refusal i.limits EAGAIN i s well)
    (λ f. well_success i.limits [] i (with_console (with_output (i.a0 % 256)) s) (well_output i.limits (i.a0 % 256) s f well)))

get_at : (ring : List ℕ) (i : Invocation) (s : Part) → s.console.ring ≡ ring → s.running ≡ Some i.caller → IsWell i.limits s → IsWell i.limits (take_input ring i s).part
get_at [] i s e runs well = well_input_wait i.limits i s runs well
get_at (byte ∷ ring) i s e runs well =
    well_success i.limits (byte ∷ []) i (with_console (λ console. record console { ring = ring }) s) (well_taken i.limits byte ring s e well)

pub well_console_get : (i : Invocation) (s : Part) → s.running ≡ Some i.caller → IsWell i.limits s → IsWell i.limits (console_get i s).part
well_console_get i s runs well =
    either_well i.limits (is_cancelled s i.caller) (cancellation_answer i s) (take_input s.console.ring i s)
    (λ e. well_cancellation_answer i.limits i s runs well) (λ e. get_at s.console.ring i s refl runs well)

-- ---- calls 10 and 11

detached_new : (thread : Thread) (detached : Bool) → IsNew thread → IsNew (record thread { is_detached = detached })
detached_new thread detached new = record { wait = new.wait; joiner = new.joiner; ended = new.ended; used = new.used }

scheduled_new : (scheduling : Scheduling) (cpu : Processor) (creator : Thread) → IsNew (scheduled_thread scheduling cpu creator)
scheduled_new Inherited cpu creator = record { wait = refl; joiner = refl; ended = refl; used = refl }
scheduled_new (Explicit policy priority) cpu creator = record { wait = refl; joiner = refl; ended = refl; used = refl }

pub created_new : (i : Invocation) (creation : Creation) (creator : Thread) (t : ℕ) → IsNew (created_thread i creation creator t)
created_new i creation creator t =
    let cpu : Processor = start_cpu i.a1 i.a2 (unwrap_or creation.stack_top (default_stack_top i.limits t)) in
    detached_new (scheduled_thread creation.scheduling cpu creator) creation.is_detached (scheduled_new creation.scheduling cpu creator)

pub well_create : (i : Invocation) (s : Part) → s.running ≡ Some i.caller → IsWell i.limits s → IsWell i.limits (create i s).part
well_create i s runs well =
    well_valid i.limits (creation_at s i.a0) _ i s well
    (λ creation _. well_given i.limits (least_free s.threads) EAGAIN _ i s well
    (λ t free. well_given i.limits (thread_at s.locks i.caller) ESRCH _ i s well
    (λ creator _. well_success i.limits (t ∷ []) i (with_new_thread i.limits t (created_thread i creation creator t) s)
    (well_least_free i.limits t (created_thread i creation creator t) s free (created_new i creation creator t) well))))

pub well_pthread_exit : (i : Invocation) (s : Part) → s.running ≡ Some i.caller → IsWell i.limits s → IsWell i.limits (pthread_exit i s).part
well_pthread_exit i s runs well = well_unwinding_start i.limits i.caller i.a0 s (ready_alive (thread_at s.locks i.caller) (well.running_ready i.caller runs)) well

-- ---- calls 12 and 13

untaken : (target : Thread) → is_taken target ≡ false → target.joiner ≡ None
untaken target e = none_if_not_some target.joiner (or_parts target.is_detached (is_some target.joiner) e).1

freed_at : (i : Invocation) (u : ℕ) (target : Thread) (s : Part) → thread_at s.locks u ≡ Some target → is_taken target ≡ false → is_ended target.phase ≡ true → IsWell i.limits s → IsWell i.limits (with_locks (without_thread u) s)
freed_at i u target s there taken ended well = well_freed i.limits u s (ap is_alive there ∙ ap not ended) (ap joiner_of there ∙ untaken target taken) well

pub well_join : (i : Invocation) (s : Part) → s.running ≡ Some i.caller → IsWell i.limits s → IsWell i.limits (join i s).part
well_join i s runs well =
    let waits : Part = with_locks (with_thread i.a0 (λ thread. record thread { joiner = Some i.caller })) s in
    let next : Thread → Answer = λ (target : Thread).
    if i.a0 == i.caller then refusal EDEADLK i s
    else if is_taken target then refusal EINVAL i s
    else if is_ended target.phase then success (target.result ∷ []) i (with_locks (without_thread i.a0) s)
    else blocked_in (JoinWait i.a0) i waits in
    either_well i.limits (is_cancelled s i.caller) (cancellation_answer i s) (unwrap_or (option_map next (thread_at s.locks i.a0)) (refusal ESRCH i s)) (λ e. well_cancellation_answer i.limits i s runs well)
    (λ e. well_using i.limits i.a0 i s next well (λ target there.
    either_well i.limits (i.a0 == i.caller) (refusal EDEADLK i s)
    (if is_taken target then refusal EINVAL i s else if is_ended target.phase then success (target.result ∷ []) i (with_locks (without_thread i.a0) s) else blocked_in (JoinWait i.a0) i waits)
    (λ own. well_refusal i.limits EDEADLK i s well)
    (λ own. either_well i.limits (is_taken target) (refusal EINVAL i s) (if is_ended target.phase then success (target.result ∷ []) i (with_locks (without_thread i.a0) s) else blocked_in (JoinWait i.a0) i waits)
    (λ taken. well_refusal i.limits EINVAL i s well)
    (λ taken. either_well i.limits (is_ended target.phase) (success (target.result ∷ []) i (with_locks (without_thread i.a0) s)) (blocked_in (JoinWait i.a0) i waits)
    (λ ended. well_success i.limits (target.result ∷ []) i (with_locks (without_thread i.a0) s) (freed_at i i.a0 target s there taken ended well))
    (λ ended. well_join_wait i.limits i i.a0 target s runs there (untaken target taken) well)))))

pub well_detach : (i : Invocation) (s : Part) → s.running ≡ Some i.caller → IsWell i.limits s → IsWell i.limits (detach i s).part
well_detach i s runs well =
    let detached : Part = with_locks (with_thread i.a0 (λ thread. record thread { is_detached = true })) s in
    well_using i.limits i.a0 i s (λ target. if is_taken target then refusal EINVAL i s else if is_ended target.phase then success [] i (with_locks (without_thread i.a0) s) else success [] i detached) well
    (λ target there. either_well i.limits (is_taken target) (refusal EINVAL i s) (if is_ended target.phase then success [] i (with_locks (without_thread i.a0) s) else success [] i detached)
    (λ taken. well_refusal i.limits EINVAL i s well)
    (λ taken. either_well i.limits (is_ended target.phase) (success [] i (with_locks (without_thread i.a0) s)) (success [] i detached)
    (λ ended. well_success i.limits [] i (with_locks (without_thread i.a0) s) (freed_at i i.a0 target s there taken ended well))
    (λ ended. well_success i.limits [] i detached (well_detached i.limits i.a0 s well))))

-- ---- calls 14 to 18

pub well_self : (i : Invocation) (s : Part) → s.running ≡ Some i.caller → IsWell i.limits s → IsWell i.limits (self i s).part
well_self i s runs well = well_success i.limits (i.caller ∷ []) i s well

pub well_yield : (i : Invocation) (s : Part) → s.running ≡ Some i.caller → IsWell i.limits s → IsWell i.limits (yield i s).part
well_yield i s runs well = well_success i.limits [] i (after_placing at_tail i.caller s) (well_placing_tail i.limits i.caller s well)

pub well_setschedparam : (i : Invocation) (s : Part) → s.running ≡ Some i.caller → IsWell i.limits s → IsWell i.limits (setschedparam i s).part
well_setschedparam i s runs well =
    well_given i.limits (thread_at s.locks i.a0) ESRCH _ i s well
    (λ _ _. well_given i.limits (policy_of i.a1) ENOTSUP _ i s well
    (λ policy _. well_unless i.limits EINVAL (is_priority i.a2) _ i s well
    (λ _. let set : Part = with_locks (with_thread i.a0 (λ thread. record thread { policy = policy; priority = i.a2; used = 0 })) s in
    well_success i.limits [] i (after_placing_at_tail i.a0 set) (well_placing_at_tail i.limits i.a0 set (well_policy i.limits i.a0 policy i.a2 s well)))))

pub well_getschedparam : (i : Invocation) (s : Part) → s.running ≡ Some i.caller → IsWell i.limits s → IsWell i.limits (getschedparam i s).part
well_getschedparam i s runs well =
    well_using i.limits i.a0 i s (λ target. success (policy_number target.policy ∷ target.priority ∷ []) i s) well
    (λ target there. well_success i.limits (policy_number target.policy ∷ target.priority ∷ []) i s well)

changed_at : (limits : Limits) (t : ℕ) (s : Part) (rose fell : Bool) → IsWell limits s → IsWell limits (if rose then after_placing_at_tail t s else if fell then after_placing at_head t s else s)
changed_at limits t s true fell well = well_placing_at_tail limits t s well
changed_at limits t s false true well = well_placing_head limits t s well
changed_at limits t s false false well = well

pub well_setschedprio : (i : Invocation) (s : Part) → s.running ≡ Some i.caller → IsWell i.limits s → IsWell i.limits (setschedprio i s).part
well_setschedprio i s runs well =
    well_given i.limits (thread_at s.locks i.a0) ESRCH _ i s well
    (λ target _. well_unless i.limits EINVAL (is_priority i.a1) _ i s well
    (λ _. let set : Part = with_locks (with_thread i.a0 (λ thread. record thread { priority = i.a1 })) s in
    well_success i.limits [] i (after_priority_change target.priority i.a1 i.a0 set)
    (changed_at i.limits i.a0 set (nat_lt target.priority i.a1) (nat_lt i.a1 target.priority) (well_priority i.limits i.a0 i.a1 s well))))

-- ---- the table

-- each call
pub well_answer : (known : Call) → Keeps (answer_of known)
well_answer call.Exit = well_exit_call
well_answer call.ConsolePut = well_console_put
well_answer call.ConsoleGet = well_console_get
well_answer call.ClockGettime = well_clock_gettime
well_answer call.ClockNanosleep = well_clock_nanosleep
well_answer call.PthreadCreate = well_create
well_answer call.PthreadExit = well_pthread_exit
well_answer call.PthreadJoin = well_join
well_answer call.PthreadDetach = well_detach
well_answer call.PthreadSelf = well_self
well_answer call.SchedYield = well_yield
well_answer call.PthreadSetschedparam = well_setschedparam
well_answer call.PthreadGetschedparam = well_getschedparam
well_answer call.PthreadSetschedprio = well_setschedprio
well_answer call.MutexInit = well_mutex_init
well_answer call.MutexDestroy = well_mutex_destroy
well_answer call.MutexLock = well_mutex_lock
well_answer call.MutexTrylock = well_mutex_trylock
well_answer call.MutexTimedlock = well_mutex_timedlock
well_answer call.MutexUnlock = well_mutex_unlock
well_answer call.MutexConsistent = well_mutex_consistent
well_answer call.CondInit = well_cond_init
well_answer call.CondDestroy = well_cond_destroy
well_answer call.CondWait = well_cond_wait
well_answer call.CondTimedwait = well_cond_timedwait
well_answer call.CondSignal = well_cond_signal
well_answer call.CondBroadcast = well_cond_broadcast
well_answer call.PthreadCancel = well_cancel
well_answer call.PthreadSetcancelstate = well_setcancelstate
well_answer call.PthreadSetcanceltype = well_setcanceltype
well_answer call.PthreadTestcancel = well_testcancel
well_answer call.CleanupPush = well_cleanup_push
well_answer call.CleanupPop = well_cleanup_pop
well_answer call.KeyCreate = well_key_create
well_answer call.KeyDelete = well_key_delete
well_answer call.PthreadSetspecific = well_setspecific
well_answer call.PthreadGetspecific = well_getspecific

-- a call, or none
pub well_answer_to : (known : Option Call) → Keeps (answer_to known)
well_answer_to None = well_no_call
well_answer_to (Some known) = well_answer known

-- the call of any number
pub well_call : (number : ℕ) (i : Invocation) (s : Part) → s.running ≡ Some i.caller → IsWell i.limits s → IsWell i.limits (answer_to (call_of number) i s).part
well_call number = well_answer_to (call_of number)
