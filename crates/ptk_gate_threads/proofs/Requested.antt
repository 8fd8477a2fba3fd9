-- Call 40 of a thread in use.
use Rattle.std.proofs.Common.{◌≡◌, ℕ, Bool, true, false, [], refl, ap}
use Rattle.std.specs.Prelude.{Option, Some, None, ◌&&◌, option_map, unwrap_or, if◌then◌else◌}
use Rattle.ptk_words.specs.Pools.{numbered}
use Rattle.ptk_words.specs.Threads.{is_ended, is_normal}
use Rattle.ptk_words.specs.declared.threads.Thread.{Thread}
use Rattle.ptk_words_model.specs.declared.Invocation.{Invocation}
use Rattle.ptk_words_model.specs.declared.Runner.{Runner}
use Rattle.ptk_words_model.specs.State.{Part}
use Rattle.ptk_words_model.specs.Priority.{thread_at}
use Rattle.ptk_words_model.specs.Mutex.{wait_of}
use Rattle.ptk_words_model.specs.Decision.{runner_at}
use Rattle.ptk_words_model.specs.Calls.{success}
use Rattle.ptk_words_model.specs.CancellationCalls.{cancel}
use Rattle.ptk_words_model.specs.Withdrawal.{after_cancelled_wait}
use Rattle.ptk_cancel.specs.KeptCancellations.{is_point_acting}
use Rattle.ptk_gate_threads.specs.Requests.{with_request, after_request}

-- ---- the thread named

pub runner_thread : (word : ℕ) (o : Option Thread) (r : Runner) → runner_at word o ≡ Some r → o ≡ Some r.thread
runner_thread word None r e = absurd (let no : ⊥ = cc in no)
runner_thread word (Some thread) r e = let is : r ≡ record { number = word; thread = thread } = cc in rw is refl

named_number : (word : ℕ) (o : Option Thread) (r : Runner) → runner_at word o ≡ Some r → r.number ≡ word
named_number word None r e = absurd (let no : ⊥ = cc in no)
named_number word (Some thread) r e = let is : r ≡ record { number = word; thread = thread } = cc in rw is refl

-- its wait is that of the thread of its number
pub target_waits : (word : ℕ) (r : Runner) (s : Part) → runner_at word (thread_at s.locks word) ≡ Some r → wait_of (thread_at s.locks r.number) ≡ r.thread.wait
target_waits word r s e = rw (named_number word (thread_at s.locks word) r e) (ap wait_of (runner_thread word (thread_at s.locks word) r e))

-- ---- the call

success_if : (b : Bool) (i : Invocation) (x y : Part) → (if b then success [] i x else success [] i y) ≡ success [] i (if b then x else y)
success_if true i x y = refl
success_if false i x y = refl

-- call 40 of a thread that has ended
pub ended_is : (i : Invocation) (s : Part) (target : Runner) → runner_at i.a0 (thread_at s.locks i.a0) ≡ Some target → is_ended target.thread.phase ≡ true → cancel i s ≡ success [] i s
ended_is i s target named ended = rw (runner_thread i.a0 (thread_at s.locks i.a0) target named, ended) refl

-- call 40 of a thread that has not
pub requested_is : (i : Invocation) (s : Part) (target : Runner) → runner_at i.a0 (thread_at s.locks i.a0) ≡ Some target → is_ended target.thread.phase ≡ false
    → cancel i s ≡ success [] i (after_request target.number target.thread.wait s)
unfolding after_request
requested_is i s target named alive =
    let acts : Bool = is_normal target.thread.phase && unwrap_or (option_map is_point_acting (numbered (with_request i.a0 s).cancellations i.a0)) false in
    rw (named_number i.a0 (thread_at s.locks i.a0) target named, runner_thread i.a0 (thread_at s.locks i.a0) target named, alive)
    (success_if acts i (after_cancelled_wait i.a0 target.thread.wait (with_request i.a0 s)) (with_request i.a0 s))

pub ruleset requested = (target_waits, ended_is, requested_is)
