-- Calls that threads are refused, in built states, with the order of their checks, and what small calls tell.
use Rattle.std.specs.Prelude.{◌≡◌, true, List, [], ◌∷◌, map, Option, Some, None}
use Rattle.ptk_words.specs.Names.{Pointer, Word}
use Rattle.ptk_words.specs.Calls.{call_of}
use Rattle.ptk_words.specs.declared.TheConstants.{A1, A2}
use Rattle.ptk_words.specs.declared.threads.Thread.{Thread}
use Rattle.ptk_words.specs.declared.threads.Wait.TheVariants.{JoinWait}
use Rattle.ptk_words_model.specs.declared.Reply.{Reply}
use Rattle.ptk_words_model.specs.declared.Reply.TheVariants.{Done, Unwinding}
use Rattle.ptk_words_model.specs.State.{Part, with_locks, with_cancellation}
use Rattle.ptk_words_model.specs.Schedule.{with_thread}
use Rattle.ptk_words_model.specs.Calls.{Answer, replied}
use Rattle.ptk_words_model.specs.ThreadCalls.{create, join, detach, self, setschedparam, getschedparam, setschedprio}
use Rattle.ptk_words_model.specs.CallTable.{answer_to}
use Rattle.ptk_words_laws.specs.Guests.{register_of}
use Rattle.ptk_words_laws.specs.Rows.States.{thread, waiting, part_with, call_by, call_with}

-- ---- create

-- thread 1 of these creates another with the attributes at the pointer; these words stand at 4, and 64 bytes follow them, so that memory has 88 bytes with five words
abbrev pub creation : List (Option Thread) → Pointer → List Word → Reply
creation threads pointer words = (create (call_with pointer 0 0) (part_with (0 ∷ words) threads [])).reply

-- a creation where number 2 is free
abbrev pub creation_at : Pointer → List Word → Reply
creation_at pointer words = creation (thread 5 ∷ None ∷ []) pointer words

-- a creation with these words as attributes: detach, inherit, policy, priority, stack top
abbrev pub creation_of : List Word → Reply
creation_of words = creation_at 4 words

-- a creation where no number is free
abbrev pub last_creation : Pointer → List Word → Reply
last_creation pointer words = creation (thread 5 ∷ []) pointer words

-- the pointer is tested first, then detach and inherit, then explicit policies and priorities, then the stack top, then the numbers; pointer 0 names no attributes (pthread_create; own, EFAULT, EINVAL, ENOTSUP, EAGAIN)
pub record CreateRefused : Type 0 where
  pub misaligned : last_creation 2 (2 ∷ 0 ∷ 0 ∷ 0 ∷ 0 ∷ []) ≡ Done 14
  pub outside : last_creation 72 (2 ∷ 0 ∷ 0 ∷ 0 ∷ 0 ∷ []) ≡ Done 14
  pub fitting : creation_at 68 (0 ∷ 0 ∷ 0 ∷ 0 ∷ 0 ∷ []) ≡ Done 0
  pub no_attributes : creation_at 0 (2 ∷ 2 ∷ 3 ∷ 33 ∷ 8 ∷ []) ≡ Done 0
  pub detach : creation_of (2 ∷ 0 ∷ 0 ∷ 0 ∷ 0 ∷ []) ≡ Done 22
  pub inherit : creation_of (0 ∷ 2 ∷ 0 ∷ 0 ∷ 0 ∷ []) ≡ Done 22
  pub detach_first : creation_of (2 ∷ 1 ∷ 3 ∷ 33 ∷ 8 ∷ []) ≡ Done 22
  pub policies : map (λ policy. creation_of (0 ∷ 1 ∷ policy ∷ 33 ∷ 8 ∷ [])) (0 ∷ 1 ∷ 2 ∷ 3 ∷ []) ≡ Done 95 ∷ Done 22 ∷ Done 22 ∷ Done 95 ∷ []
  pub priorities : map (λ priority. creation_of (0 ∷ 1 ∷ 1 ∷ priority ∷ 0 ∷ [])) (0 ∷ 1 ∷ 32 ∷ 33 ∷ []) ≡ Done 22 ∷ Done 0 ∷ Done 0 ∷ Done 22 ∷ []
  pub not_looked_at : creation_of (0 ∷ 0 ∷ 3 ∷ 33 ∷ 0 ∷ []) ≡ Done 0
  pub stack_tops : map (λ top. creation_of (0 ∷ 0 ∷ 0 ∷ 0 ∷ top ∷ [])) (8 ∷ 80 ∷ 96 ∷ []) ≡ Done 22 ∷ Done 0 ∷ Done 22 ∷ []
  -- two words more, and memory ends at 96
  pub stack_top_at_end : creation_of (0 ∷ 0 ∷ 0 ∷ 0 ∷ 96 ∷ 0 ∷ 0 ∷ []) ≡ Done 0
  pub stack_top_first : last_creation 4 (0 ∷ 0 ∷ 0 ∷ 0 ∷ 8 ∷ []) ≡ Done 22
  pub no_number : last_creation 4 (0 ∷ 0 ∷ 0 ∷ 0 ∷ 0 ∷ []) ≡ Done 11

-- ---- the other calls of threads

-- 1 runs, 2 is detached, 3 is joined by 4, and 5 is free
abbrev pub four_threads : Part
four_threads =
    with_locks (with_thread 2 (λ th. record th { is_detached = true }))
    (with_locks (with_thread 3 (λ th. record th { joiner = Some 4 }))
    (part_with [] (thread 5 ∷ thread 5 ∷ thread 5 ∷ waiting 5 (JoinWait 3) ∷ None ∷ []) []))

-- 1 and 2 are detached, 3 is joined by 4, and 5 is free
abbrev pub one_detached : Part
one_detached = with_locks (with_thread 1 (λ th. record th { is_detached = true })) four_threads

-- 1 has a pending request, 2 is detached, 3 is joined by 4, and 5 is free
abbrev pub one_asked : Part
one_asked = with_cancellation 1 (λ c. record c { is_pending = true }) four_threads

-- the replies to a call with each of these arguments
abbrev pub replies : (Word → Answer) → List Word → List Reply
replies answer_with arguments = map (λ argument. (answer_with argument).reply) arguments

-- at join a pending request acts first; ESRCH is tested before the rest, oneself before a detached thread, a policy before a priority; a refused call changes a0 alone (pthread_join, pthread_detach, pthread_setschedparam, pthread_getschedparam, pthread_setschedprio; own, ESRCH, EDEADLK, EINVAL, ENOTSUP)
pub record ThreadRefused : Type 0 where
  pub join_unknown : replies (λ t. join (call_with t 0 0) four_threads) (0 ∷ 5 ∷ 6 ∷ []) ≡ Done 3 ∷ Done 3 ∷ Done 3 ∷ []
  pub join_oneself : (join (call_with 1 0 0) four_threads).reply ≡ Done 35
  pub join_oneself_detached : (join (call_with 1 0 0) one_detached).reply ≡ Done 35
  pub join_taken : replies (λ t. join (call_with t 0 0) four_threads) (2 ∷ 3 ∷ []) ≡ Done 22 ∷ Done 22 ∷ []
  pub join_asked : (join (call_with 5 0 0) one_asked).reply ≡ Unwinding
  pub detach_unknown : (detach (call_with 5 0 0) four_threads).reply ≡ Done 3
  pub detach_taken : replies (λ t. detach (call_with t 0 0) four_threads) (2 ∷ 3 ∷ []) ≡ Done 22 ∷ Done 22 ∷ []
  pub param_unknown : (setschedparam (call_with 5 3 33) four_threads).reply ≡ Done 3
  pub param_policies : replies (λ policy. setschedparam (call_with 1 policy 33) four_threads) (0 ∷ 1 ∷ 2 ∷ 3 ∷ []) ≡ Done 95 ∷ Done 22 ∷ Done 22 ∷ Done 95 ∷ []
  pub param_priorities : replies (λ priority. setschedparam (call_with 1 1 priority) four_threads) (0 ∷ 1 ∷ 32 ∷ 33 ∷ []) ≡ Done 22 ∷ Done 0 ∷ Done 0 ∷ Done 22 ∷ []
  pub prio_unknown : (setschedprio (call_with 5 33 0) four_threads).reply ≡ Done 3
  pub prio_priorities : replies (λ priority. setschedprio (call_with 1 priority 0) four_threads) (0 ∷ 1 ∷ 32 ∷ 33 ∷ []) ≡ Done 22 ∷ Done 0 ∷ Done 0 ∷ Done 22 ∷ []
  pub get_unknown : (getschedparam (call_with 5 0 0) four_threads).reply ≡ Done 3
  pub only_a0 : (setschedparam (call_with 1 3 33) four_threads).part ≡ replied 1 (95 ∷ []) four_threads

-- ---- small calls

-- 1 has set its own policy to SCHED_RR and its priority to 7
abbrev pub rescheduled : Part
rescheduled = (setschedparam (call_with 1 2 7) four_threads).part

-- a thread's number, its policy and its assigned priority are told; a number that is no call is refused, and so are a request to an unknown thread, a pop of no handler and unknown keys (pthread_self, pthread_getschedparam; own, ENOSYS, ESRCH, EINVAL)
pub record SmallCalls : Type 0 where
  pub number : map (λ t. register_of (self (call_by t 0 0 0) four_threads).part t A1) (1 ∷ 2 ∷ []) ≡ Some 1 ∷ Some 2 ∷ []
  pub policy : register_of (getschedparam (call_with 1 0 0) four_threads).part 1 A1 ≡ Some 1
  pub priority : register_of (getschedparam (call_with 1 0 0) four_threads).part 1 A2 ≡ Some 5
  pub set_policy : register_of (getschedparam (call_with 1 0 0) rescheduled).part 1 A1 ≡ Some 2
  pub set_priority : register_of (getschedparam (call_with 1 0 0) rescheduled).part 1 A2 ≡ Some 7
  pub no_call : (answer_to (call_of 99) (call_with 1 0 0) four_threads).reply ≡ Done 38
  pub cancellation : map (λ number. (answer_to (call_of number) (call_with 0 0 0) four_threads).reply) (40 ∷ 41 ∷ 42 ∷ 43 ∷ 44 ∷ 45 ∷ []) ≡ Done 3 ∷ Done 0 ∷ Done 0 ∷ Done 0 ∷ Done 0 ∷ Done 22 ∷ []
  pub keys : map (λ number. (answer_to (call_of number) (call_with 0 0 0) four_threads).reply) (50 ∷ 51 ∷ 52 ∷ 53 ∷ []) ≡ Done 0 ∷ Done 22 ∷ Done 22 ∷ Done 0 ∷ []
