-- Calls 16 and 18 of a thread in use, with words that name a policy and a priority.
use Rattle.std.proofs.Common.{◌≡◌, ℕ, Bool, true, false, refl}
use Rattle.std.specs.Prelude.{Option, Some, None, if◌then◌else◌}
use Rattle.ptk_words.specs.declared.faults.Errno.TheVariants.{ESRCH, EINVAL, ENOTSUP}
use Rattle.ptk_words.specs.declared.threads.Policy.{Policy}
use Rattle.ptk_words.specs.declared.threads.Thread.{Thread}
use Rattle.ptk_words_model.specs.declared.Invocation.{Invocation}
use Rattle.ptk_words_model.specs.declared.Runner.{Runner}
use Rattle.ptk_words_model.specs.State.{Part}
use Rattle.ptk_words_model.specs.Priority.{thread_at}
use Rattle.ptk_words_model.specs.Decision.{runner_at}
use Rattle.ptk_words_model.specs.Steps.{refuse◌unless◌, ◌or_refuse◌, change, change_thread, succeed}
use Rattle.ptk_words_model.specs.ThreadCalls.{after_placing_at_tail, setschedparam, after_priority_change, setschedprio}
use Rattle.ptk_words_model.specs.ThreadCreation.{policy_of, is_priority, priority_of}
use Rattle.ptk_threads.specs.Table.{with_priority}
use Rattle.ptk_gate_moves.specs.Moves.{with_scheduling}

scheduled : (o : Option Thread) (known : Option Policy) (is_known : Bool) (i : Invocation) (s : Part) (target : Runner) (policy : Policy) (priority : ℕ)
    → runner_at i.a0 o ≡ Some target → known ≡ Some policy → (if is_known then Some i.a2 else None) ≡ Some priority
    → (o or_refuse ESRCH) (λ _. (known or_refuse ENOTSUP) (λ policy. (refuse EINVAL unless is_known)
    (change_thread i.a0 (with_scheduling policy i.a2) (change (after_placing_at_tail i.a0) succeed)))) i s
    ≡ change_thread target.number (with_scheduling policy priority) (change (after_placing_at_tail target.number) succeed) i s
scheduled None known is_known i s target policy priority named e f = absurd (let no : ⊥ = cc in no)
scheduled (Some thread) None is_known i s target policy priority named e f = absurd (let no : ⊥ = cc in no)
scheduled (Some thread) (Some p) false i s target policy priority named e f = absurd (let no : ⊥ = cc in no)
scheduled (Some thread) (Some p) true i s target policy priority named e f =
    let target_is : target ≡ record { number = i.a0; thread = thread } = cc in
    let policy_is : policy ≡ p = cc in
    let priority_is : priority ≡ i.a2 = cc in
    rw (target_is, policy_is, priority_is) refl

-- call 16 of a thread in use
pub scheduled_is : (i : Invocation) (s : Part) (target : Runner) (policy : Policy) (priority : ℕ)
    → runner_at i.a0 (thread_at s.locks i.a0) ≡ Some target → policy_of i.a1 ≡ Some policy → priority_of i.a2 ≡ Some priority
    → setschedparam i s ≡ change_thread target.number (with_scheduling policy priority) (change (after_placing_at_tail target.number) succeed) i s
scheduled_is i s target policy priority named e f =
    scheduled (thread_at s.locks i.a0) (policy_of i.a1) (is_priority i.a2) i s target policy priority named e f

prioritized : (o : Option Thread) (is_known : Bool) (i : Invocation) (s : Part) (target : Runner) (priority : ℕ)
    → runner_at i.a0 o ≡ Some target → (if is_known then Some i.a1 else None) ≡ Some priority
    → (o or_refuse ESRCH) (λ target. (refuse EINVAL unless is_known)
    (change_thread i.a0 (with_priority i.a1) (change (after_priority_change target.priority i.a1 i.a0) succeed))) i s
    ≡ change_thread target.number (with_priority priority) (change (after_priority_change target.thread.priority priority target.number) succeed) i s
prioritized None is_known i s target priority named f = absurd (let no : ⊥ = cc in no)
prioritized (Some thread) false i s target priority named f = absurd (let no : ⊥ = cc in no)
prioritized (Some thread) true i s target priority named f =
    let target_is : target ≡ record { number = i.a0; thread = thread } = cc in
    let priority_is : priority ≡ i.a1 = cc in
    rw (target_is, priority_is) refl

-- call 18 of a thread in use
pub prioritized_is : (i : Invocation) (s : Part) (target : Runner) (priority : ℕ)
    → runner_at i.a0 (thread_at s.locks i.a0) ≡ Some target → priority_of i.a1 ≡ Some priority
    → setschedprio i s ≡ change_thread target.number (with_priority priority) (change (after_priority_change target.thread.priority priority target.number) succeed) i s
prioritized_is i s target priority named f = prioritized (thread_at s.locks i.a0) (is_priority i.a1) i s target priority named f
