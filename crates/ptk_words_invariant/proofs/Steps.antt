-- What a call answers, and its steps, leave the state whole.
use Rattle.std.proofs.Common.{◌≡◌, ℕ, Bool, true, false, List, [], ◌∷◌, refl}
use Rattle.std.specs.Prelude.{Option, Some, None, if◌then◌else◌, Result, Ok, Err, unwrap_or, option_map}
use Rattle.ptk_words.specs.Faults.{errno_number}
use Rattle.ptk_words.specs.declared.TheConstants.{CANCELED}
use Rattle.ptk_words.specs.declared.faults.Errno.{Errno}
use Rattle.ptk_words.specs.declared.faults.Errno.TheVariants.{ESRCH, ENOSYS}
use Rattle.ptk_words.specs.declared.sections.Limits.{Limits}
use Rattle.ptk_words.specs.declared.threads.Thread.{Thread}
use Rattle.ptk_words_model.specs.State.{Part}
use Rattle.ptk_words_model.specs.Priority.{thread_at}
use Rattle.ptk_words_model.specs.declared.Invocation.{Invocation}
use Rattle.ptk_words_model.specs.Calls.{Answer, refusal, success, no_call, cancellation_answer}
use Rattle.ptk_words_model.specs.Steps.{Row, valid, refuse◌when◌, refuse◌unless◌, ◌or_refuse◌}
use Rattle.ptk_words_invariant.specs.Well.{IsWell}
use Rattle.ptk_words_sync_invariant.proofs.Lined.{ready_alive}
use Rattle.ptk_words_invariant.proofs.Threads.{well_replied}
use Rattle.ptk_words_invariant.proofs.Unwindings.{well_unwinding_start}

-- ---- answers

pub well_refusal : (limits : Limits) (e : Errno) (i : Invocation) (s : Part) → IsWell limits s → IsWell limits (refusal e i s).part
well_refusal limits e i s well = well_replied limits i.caller (errno_number e ∷ []) s well

pub well_success : (limits : Limits) (values : List ℕ) (i : Invocation) (s : Part) → IsWell limits s → IsWell limits (success values i s).part
well_success limits values i s well = well_replied limits i.caller (0 ∷ values) s well

pub either_well : (limits : Limits) (b : Bool) (x y : Answer) → (b ≡ true → IsWell limits x.part) → (b ≡ false → IsWell limits y.part) → IsWell limits (if b then x else y).part
either_well limits true x y h k = h refl
either_well limits false x y h k = k refl

-- ---- steps

-- a check passed, or the error; the rest is named by its answer, so that `_` can stand for it
pub well_when : (limits : Limits) (e : Errno) (b : Bool) (rest : Answer) (i : Invocation) (s : Part) → IsWell limits s → (b ≡ false → IsWell limits rest.part) → IsWell limits ((refuse e when b) (λ _ _. rest) i s).part
well_when limits e true rest i s well k = well_refusal limits e i s well
well_when limits e false rest i s well k = k refl

pub well_unless : (limits : Limits) (e : Errno) (b : Bool) (rest : Answer) (i : Invocation) (s : Part) → IsWell limits s → (b ≡ true → IsWell limits rest.part) → IsWell limits ((refuse e unless b) (λ _ _. rest) i s).part
well_unless limits e true rest i s well k = k refl
well_unless limits e false rest i s well k = well_refusal limits e i s well

-- a value that is there, or the error
pub well_given : {A : Type 0} (limits : Limits) (o : Option A) (e : Errno) (rest : A → Answer) (i : Invocation) (s : Part) → IsWell limits s → ((a : A) → o ≡ Some a → IsWell limits (rest a).part) → IsWell limits ((o or_refuse e) (λ a _ _. rest a) i s).part
well_given limits None e rest i s well each = well_refusal limits e i s well
well_given limits (Some a) e rest i s well each = each a refl

-- a value that is valid, or its error
pub well_valid : {A : Type 0} (limits : Limits) (o : Result A Errno) (rest : A → Row) (i : Invocation) (s : Part) → IsWell limits s → ((a : A) → o ≡ Ok a → IsWell limits (rest a i s).part) → IsWell limits (valid o rest i s).part
well_valid limits (Ok a) rest i s well each = each a refl
well_valid limits (Err e) rest i s well each = well_refusal limits e i s well

pub well_using : (limits : Limits) (t : ℕ) (i : Invocation) (s : Part) (next : Thread → Answer) → IsWell limits s → ((target : Thread) → thread_at s.locks t ≡ Some target → IsWell limits (next target).part) → IsWell limits (unwrap_or (option_map next (thread_at s.locks t)) (refusal ESRCH i s)).part
well_using limits t i s next well each = well_given limits (thread_at s.locks t) ESRCH next i s well each

pub well_cancellation_answer : (limits : Limits) (i : Invocation) (s : Part) → s.running ≡ Some i.caller → IsWell limits s → IsWell limits (cancellation_answer i s).part
well_cancellation_answer limits i s runs well = well_unwinding_start limits i.caller CANCELED s (ready_alive (thread_at s.locks i.caller) (well.running_ready i.caller runs)) well

-- ---- rows

-- the row leaves the state whole (own)
abbrev pub Keeps : Row → Type 0
Keeps row = (i : Invocation) (s : Part) → s.running ≡ Some i.caller → IsWell i.limits s → IsWell i.limits (row i s).part

pub well_no_call : Keeps no_call
well_no_call i s runs well = well_refusal i.limits ENOSYS i s well
