-- A call that does not act on others leaves each thread but its caller with the wait and the phase that it had.
use Rattle.std.proofs.Common.{◌≡◌, ◌≢◌, inl, inr, ℕ, Bool, true, false, List, [], ◌∷◌, ◌∙◌, refl, ap, sym, subst}
use Rattle.std.proofs.lemmas.Bool.{cases_eq}
use Rattle.std.specs.Prelude.{◌⊎◌, Option, Some, None, Result, Ok, Err, if◌then◌else◌, unwrap_or, option_map}
use Rattle.ptk_words.specs.Pools.{pool_changed, pool_get}
use Rattle.ptk_words.proofs.Pools.{changed_other, changed_own}
use Rattle.ptk_words.specs.declared.faults.Errno.{Errno}
use Rattle.ptk_words.specs.declared.calls.Call.{Call}
use Rattle.ptk_words.specs.declared.calls.Call.TheVariants as call
use Rattle.ptk_words.specs.declared.threads.Cleanup.{Cleanup}
use Rattle.ptk_words.specs.declared.threads.Phase.{Phase}
use Rattle.ptk_words.specs.declared.threads.Thread.{Thread}
use Rattle.ptk_words.specs.declared.threads.Wait.{Wait}
use Rattle.ptk_words_model.specs.declared.LockMove.{LockMove}
use Rattle.ptk_words_model.specs.declared.LockMove.TheVariants.{Takes, Recovers, Counts, Waits, Refuses}
use Rattle.ptk_words_model.specs.declared.Invocation.{Invocation}
use Rattle.ptk_words_model.specs.declared.Reply.{Reply}
use Rattle.ptk_words_model.specs.Mutex.{after_move}
use Rattle.ptk_words_model.specs.Schedule.{at_tail, at_head}
use Rattle.ptk_words_model.specs.State.{Locks, Part}
use Rattle.ptk_words_model.specs.Calls.{Answer, refusal, told}
use Rattle.ptk_words_model.specs.ConsoleCalls.{take_input}
use Rattle.ptk_words_model.specs.CancellationCalls.{cleanup_pop_answer}
use Rattle.ptk_words_model.specs.ThreadCalls.{after_placing, after_placing_at_tail, after_priority_change}
use Rattle.ptk_words_model.specs.Steps.{Row, valid, mutex_named, condition_named}
use Rattle.ptk_words_model.specs.CallTable.{answer_of}
use Rattle.ptk_words.specs.Calls.{call_of}
use Rattle.ptk_words.specs.Processor.{register}
use Rattle.ptk_words.specs.declared.TheConstants.{A7}
use Rattle.ptk_words_model.specs.Instructions.{Effect, Done, Call as EnvironmentCall, Break, Fault}
use Rattle.ptk_words_model.specs.CallTable.{answer_to}
use Rattle.ptk_words_model.specs.Decision.{after_effect, invocation, with_thread_cpu}
use Rattle.ptk_words.specs.declared.sections.Limits.{Limits}
use Rattle.ptk_words_laws.specs.Others.{CallsLeaveOthers, StepsLeaveOthers, acts_on_others, can_act_on_others, has_effect_on_others, standing}

-- how the thread of a number stands
abbrev Stood : Type 0
Stood = Option (Option Wait × Phase)

-- in the state of an answer the thread stands so
pub record Answered (t : ℕ) (stood : Stood) (a : Answer) : Type 0 where
  pub part : standing (pool_get a.part.threads t) ≡ stood

-- ---- threads that change

-- another thread was changed
pub other_kept : (k t : ℕ) (f : Thread → Thread) (threads : List (Option Thread)) (stood : Stood) → t ≢ k → standing (pool_get threads t) ≡ stood → standing (pool_get (pool_changed k f threads) t) ≡ stood
other_kept k t f threads stood differ h = ap standing (changed_other k t f threads differ) ∙ h

stood_mapped : (f : Thread → Thread) (o : Option Thread) → ((thread : Thread) → standing (Some (f thread)) ≡ standing (Some thread)) → standing (option_map f o) ≡ standing o
stood_mapped f None same = refl
stood_mapped f (Some thread) same = same thread

changed_either : (k t : ℕ) (f : Thread → Thread) (threads : List (Option Thread)) (stood : Stood) → ((thread : Thread) → standing (Some (f thread)) ≡ standing (Some thread)) → standing (pool_get threads t) ≡ stood
    → (t ≡ k) ⊎ (t ≢ k) → standing (pool_get (pool_changed k f threads) t) ≡ stood
changed_either k t f threads stood same h (inl own) =
    subst (λ (j : ℕ). standing (pool_get (pool_changed k f threads) j) ≡ stood) (sym own)
    (ap standing (changed_own k f threads) ∙ stood_mapped f (pool_get threads k) same ∙ subst (λ (j : ℕ). standing (pool_get threads j) ≡ stood) own h)
changed_either k t f threads stood same h (inr differ) = other_kept k t f threads stood differ h

-- a thread was changed, whichever it is, but neither its wait nor its phase
pub changed_kept : (k t : ℕ) (f : Thread → Thread) (threads : List (Option Thread)) (stood : Stood) → ((thread : Thread) → standing (Some (f thread)) ≡ standing (Some thread)) → standing (pool_get threads t) ≡ stood
    → standing (pool_get (pool_changed k f threads) t) ≡ stood
changed_kept k t f threads stood same h = changed_either k t f threads stood same h (cases_eq t k)

-- another thread made a move on a mutex
pub move_kept : (move : LockMove) (u t m : ℕ) (wait : Wait) (x : Locks) (stood : Stood) → t ≢ u → standing (pool_get x.threads t) ≡ stood → standing (pool_get (after_move move u m wait x).threads t) ≡ stood
move_kept Takes u t m wait x stood differ h = h
move_kept Recovers u t m wait x stood differ h = h
move_kept Counts u t m wait x stood differ h = h
move_kept Waits u t m wait x stood differ h = other_kept u t (λ thread. record thread { wait = Some wait }) x.threads stood differ h
move_kept (Refuses e) u t m wait x stood differ h = h

pub ruleset kept = (other_kept, changed_kept, move_kept)

-- ---- a call's steps

pub either : (t : ℕ) (stood : Stood) (b : Bool) (x y : Answer) → (b ≡ true → Answered t stood x) → (b ≡ false → Answered t stood y) → Answered t stood (if b then x else y)
either t stood true x y h k = h refl
either t stood false x y h k = k refl

pub given : {A : Type 0} (t : ℕ) (stood : Stood) (o : Option A) (f : A → Answer) (x : Answer) → Answered t stood x → ((a : A) → Answered t stood (f a)) → Answered t stood (unwrap_or (option_map f o) x)
given t stood None f x h k = h
given t stood (Some a) f x h k = k a

pub valid_given : {A : Type 0} (t : ℕ) (stood : Stood) (r : Result A Errno) (rest : A → Row) (i : Invocation) (s : Part) → ((e : Errno) → Answered t stood (refusal e i s)) → ((a : A) → Answered t stood (rest a i s)) → Answered t stood (valid r rest i s)
valid_given t stood (Ok a) rest i s h k = k a
valid_given t stood (Err e) rest i s h k = h e

pub replied : (t : ℕ) (stood : Stood) (s : Part) (r : Reply) → standing (pool_get s.threads t) ≡ stood → Answered t stood (record { part = s; reply = r })
replied t stood s r h = record { part = h }

pub told_kept : (t : ℕ) (stood : Stood) (o : Option ℕ) (i : Invocation) (s : Part) → t ≢ i.caller → standing (pool_get s.threads t) ≡ stood → Answered t stood (told o i s)
told_kept t stood None i s differ h = search (kept, replied) depth 8
told_kept t stood (Some word) i s differ h = search (kept, replied) depth 8

pub mutex_kept : (t : ℕ) (stood : Stood) (pointer : ℕ) (rest : ℕ → Row) (i : Invocation) (s : Part) → t ≢ i.caller → standing (pool_get s.threads t) ≡ stood → ((m : ℕ) (u : Part) → standing (pool_get u.threads t) ≡ stood → Answered t stood (rest m i u)) → Answered t stood (mutex_named pointer rest i s)
mutex_kept t stood pointer rest i s differ h k = search (either, given, replied, kept, k) depth 16

pub condition_kept : (t : ℕ) (stood : Stood) (pointer : ℕ) (rest : ℕ → Row) (i : Invocation) (s : Part) → t ≢ i.caller → standing (pool_get s.threads t) ≡ stood → ((c : ℕ) (u : Part) → standing (pool_get u.threads t) ≡ stood → Answered t stood (rest c i u)) → Answered t stood (condition_named pointer rest i s)
condition_kept t stood pointer rest i s differ h k = search (either, given, replied, kept, k) depth 16

-- ---- places

pub part_either : (t : ℕ) (stood : Stood) (b : Bool) (x y : Part) → standing (pool_get x.threads t) ≡ stood → standing (pool_get y.threads t) ≡ stood → standing (pool_get (if b then x else y).threads t) ≡ stood
part_either t stood true x y h k = h
part_either t stood false x y h k = k

pub tail_kept : (t u : ℕ) (stood : Stood) (s : Part) → standing (pool_get s.threads t) ≡ stood → standing (pool_get (after_placing at_tail u s).threads t) ≡ stood
tail_kept t u stood s h = search (kept, part_either) depth 8

pub head_kept : (t u : ℕ) (stood : Stood) (s : Part) → standing (pool_get s.threads t) ≡ stood → standing (pool_get (after_placing at_head u s).threads t) ≡ stood
head_kept t u stood s h = search (kept, part_either) depth 8

pub placing_kept : (t u : ℕ) (stood : Stood) (s : Part) → standing (pool_get s.threads t) ≡ stood → standing (pool_get (after_placing_at_tail u s).threads t) ≡ stood
placing_kept t u stood s h = search (tail_kept, part_either)

pub priority_kept : (t old new u : ℕ) (stood : Stood) (s : Part) → standing (pool_get s.threads t) ≡ stood → standing (pool_get (after_priority_change old new u s).threads t) ≡ stood
priority_kept t old new u stood s h = search (placing_kept, head_kept, part_either)

-- ---- the calls

pub ruleset rows = (mutex_kept, condition_kept, either, given, valid_given, replied, kept)

pub input_kept : (t : ℕ) (stood : Stood) (ring : List ℕ) (i : Invocation) (s : Part) → t ≢ i.caller → standing (pool_get s.threads t) ≡ stood → Answered t stood (take_input ring i s)
input_kept t stood [] i s differ h = search rows depth 16
input_kept t stood (byte ∷ ring) i s differ h = search rows depth 16

pub popped_kept : (t : ℕ) (stood : Stood) (cleanups : List Cleanup) (i : Invocation) (s : Part) → t ≢ i.caller → standing (pool_get s.threads t) ≡ stood → Answered t stood (cleanup_pop_answer cleanups i s)
popped_kept t stood [] i s differ h = search rows depth 16
popped_kept t stood (cleanup ∷ cleanups) i s differ h = search rows depth 16

pub ruleset moves = (input_kept, popped_kept, told_kept, tail_kept, placing_kept, priority_kept)

answer_kept : (known : Call) (i : Invocation) (t : ℕ) (stood : Stood) (s : Part) → t ≢ i.caller → acts_on_others known ≡ false → standing (pool_get s.threads t) ≡ stood → Answered t stood (answer_of known i s)
answer_kept call.Exit i t stood s differ alone h = absurd (cc alone)
answer_kept call.PthreadCreate i t stood s differ alone h = absurd (cc alone)
answer_kept call.PthreadExit i t stood s differ alone h = absurd (cc alone)
answer_kept call.PthreadJoin i t stood s differ alone h = absurd (cc alone)
answer_kept call.PthreadDetach i t stood s differ alone h = absurd (cc alone)
answer_kept call.PthreadCancel i t stood s differ alone h = absurd (cc alone)
answer_kept call.MutexUnlock i t stood s differ alone h = absurd (cc alone)
answer_kept call.CondWait i t stood s differ alone h = absurd (cc alone)
answer_kept call.CondTimedwait i t stood s differ alone h = absurd (cc alone)
answer_kept call.CondSignal i t stood s differ alone h = absurd (cc alone)
answer_kept call.CondBroadcast i t stood s differ alone h = absurd (cc alone)
answer_kept _ i t stood s differ alone h = search (moves, rows) depth 16

pub calls_leave_others : (part : Part) → CallsLeaveOthers part
calls_leave_others part = λ known i t differ alone. (answer_kept known i t (standing (pool_get part.threads t)) part differ alone refl).part

-- ---- steps

called_kept : (o : Option Call) (i : Invocation) (t : ℕ) (stood : Stood) (s : Part) → t ≢ i.caller → can_act_on_others o ≡ false → standing (pool_get s.threads t) ≡ stood → Answered t stood (answer_to o i s)
called_kept None i t stood s differ alone h = search rows depth 8
called_kept (Some known) i t stood s differ alone h = answer_kept known i t stood s differ alone h

pub effect_kept : (limits : Limits) (tick caller pc : ℕ) (effect : Effect) (t : ℕ) (s : Part) → t ≢ caller → has_effect_on_others effect ≡ false
    → standing (pool_get (after_effect limits tick caller pc effect s).threads t) ≡ standing (pool_get s.threads t)
effect_kept limits tick caller pc (Done cpu memory) t s differ alone = search kept depth 8
effect_kept limits tick caller pc (EnvironmentCall cpu) t s differ alone =
    let moved : standing (pool_get (with_thread_cpu caller cpu s).threads t) ≡ standing (pool_get s.threads t) = search kept depth 8 in
    (called_kept (call_of (register cpu A7)) (invocation limits tick caller cpu) t (standing (pool_get s.threads t)) (with_thread_cpu caller cpu s) differ alone moved).part
effect_kept limits tick caller pc Break t s differ alone = refl
effect_kept limits tick caller pc (Fault kind) t s differ alone = refl

pub steps_leave_others : (part : Part) → StepsLeaveOthers part
steps_leave_others part = λ limits tick caller pc effect t differ alone. effect_kept limits tick caller pc effect t part differ alone
