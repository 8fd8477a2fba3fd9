-- The threads of the line and the running one are ready, and none stands in two places.
use Rattle.std.proofs.Common.{◌≡◌, ℕ, true, false, not, List, [], ◌∷◌, ◌++◌, refl, sym, ◌∙◌, ap, inl, inr}
use Rattle.std.specs.Prelude.{◌≢◌, Option, Some, None, is_none}
use Rattle.std.proofs.lemmas.Bool.{false≢true, false_from_ne_true, and_parts}
use Rattle.ptk_words.specs.Pools.{pool_get, without, is_in}
use Rattle.ptk_words.specs.declared.threads.Thread.{Thread}
use Rattle.ptk_words.proofs.Lists.{in_head, in_push, out_head, out_push, without_own, in_without, distinct_head, distinct_push, distinct_without}
use Rattle.ptk_words_model.specs.Mutex.{wait_of}
use Rattle.ptk_words_model.specs.Unwinding.{is_alive}
use Rattle.ptk_words.specs.Threads.{is_ended}
use Rattle.ptk_words_sync_invariant.specs.Locks.{is_ready}
pub use Rattle.ptk_words_sync_invariant.specs.Locks.{AreLined}

-- all numbers but one have the same thread as before (own)
abbrev pub AreOthers : ℕ → List (Option Thread) → List (Option Thread) → Type 0
AreOthers t before after = (u : ℕ) → u ≢ t → pool_get after u ≡ pool_get before u

-- ---- what a ready thread is

none_since : {A : Type 0} (o : Option A) → is_none o ≡ true → o ≡ None
none_since None e = refl
none_since (Some a) e = absurd (false≢true e)

pub ready_waits : (o : Option Thread) → is_ready o ≡ true → wait_of o ≡ None
ready_waits None e = absurd (false≢true e)
ready_waits (Some thread) e = none_since thread.wait (and_parts (is_none thread.wait) (not (is_ended thread.phase)) e).0

pub ready_alive : (o : Option Thread) → is_ready o ≡ true → is_alive o ≡ true
ready_alive None e = absurd (false≢true e)
ready_alive (Some thread) e = (and_parts (is_none thread.wait) (not (is_ended thread.phase)) e).1

pub not_ready_out : (threads : List (Option Thread)) (line : List ℕ) (running : Option ℕ) (t : ℕ) → AreLined threads line running → is_ready (pool_get threads t) ≡ false → is_in t line ≡ false
not_ready_out threads line running t lined e = false_from_ne_true (is_in t line) (λ here. false≢true (sym e ∙ lined.line_ready t here))

pub not_ready_stopped : (threads : List (Option Thread)) (line : List ℕ) (running : Option ℕ) (t : ℕ) → AreLined threads line running → is_ready (pool_get threads t) ≡ false → running ≢ Some t
not_ready_stopped threads line running t lined e = λ runs. false≢true (sym e ∙ lined.running_ready t runs)

-- ---- no thread runs

pub lined_stopped : (threads : List (Option Thread)) (line : List ℕ) (running : Option ℕ) → AreLined threads line running → AreLined threads line None
lined_stopped threads line running lined = record {
  line_ready = lined.line_ready;
  line_distinct = lined.line_distinct;
  running_ready = λ t e. absurd (let no : ⊥ = cc in no);
  running_out = λ t e. absurd (let no : ⊥ = cc in no);
}

-- ---- the threads changed

pub lined_alike : (threads after : List (Option Thread)) (line : List ℕ) (running : Option ℕ) → ((u : ℕ) → is_ready (pool_get after u) ≡ is_ready (pool_get threads u)) → AreLined threads line running → AreLined after line running
lined_alike threads after line running same lined = record {
  line_ready = λ t e. same t ∙ lined.line_ready t e;
  line_distinct = lined.line_distinct;
  running_ready = λ t e. same t ∙ lined.running_ready t e;
  running_out = lined.running_out;
}

-- a thread that is nowhere changed
pub lined_others : (t : ℕ) (threads after : List (Option Thread)) (line : List ℕ) (running : Option ℕ) → AreOthers t threads after → is_in t line ≡ false → running ≢ Some t → AreLined threads line running → AreLined after line running
lined_others t threads after line running others out stops lined =
    let away : (u : ℕ) → is_in u line ≡ true → u ≢ t = λ u e same. false≢true (sym out ∙ ap (λ v. is_in v line) (sym same) ∙ e) in
    record {
      line_ready = λ u e. ap is_ready (others u (away u e)) ∙ lined.line_ready u e;
      line_distinct = lined.line_distinct;
      running_ready = λ u e. ap is_ready (others u (λ same. stops (e ∙ ap Some same))) ∙ lined.running_ready u e;
      running_out = lined.running_out;
    }

-- ---- the line changed

pub lined_push : (t : ℕ) (threads : List (Option Thread)) (line : List ℕ) (running : Option ℕ) → is_ready (pool_get threads t) ≡ true → is_in t line ≡ false → running ≢ Some t → AreLined threads line running → AreLined threads (line ++ t ∷ []) running
lined_push t threads line running ready out stops lined = record {
  line_ready = λ u e. elim (in_push t u line e) [
    | inl same ↦ ap (λ v. is_ready (pool_get threads v)) same ∙ ready
    | inr here ↦ lined.line_ready u here
  ];
  line_distinct = distinct_push t line lined.line_distinct out;
  running_ready = lined.running_ready;
  running_out = λ u e. out_push t u line (λ same. stops (e ∙ ap Some same)) (lined.running_out u e);
}

pub lined_head : (t : ℕ) (threads : List (Option Thread)) (line : List ℕ) (running : Option ℕ) → is_ready (pool_get threads t) ≡ true → is_in t line ≡ false → running ≢ Some t → AreLined threads line running → AreLined threads (t ∷ line) running
lined_head t threads line running ready out stops lined = record {
  line_ready = λ u e. elim (in_head t u line e) [
    | inl same ↦ ap (λ v. is_ready (pool_get threads v)) same ∙ ready
    | inr here ↦ lined.line_ready u here
  ];
  line_distinct = distinct_head t line lined.line_distinct out;
  running_ready = lined.running_ready;
  running_out = λ u e. out_head t u line (λ same. stops (e ∙ ap Some same)) (lined.running_out u e);
}

out_without : (t u : ℕ) (line : List ℕ) → is_in u line ≡ false → is_in u (without t line) ≡ false
out_without t u line out = false_from_ne_true (is_in u (without t line)) (λ e. false≢true (sym out ∙ (in_without t u line e).1))

pub lined_without : (t : ℕ) (threads : List (Option Thread)) (line : List ℕ) (running : Option ℕ) → AreLined threads line running → AreLined threads (without t line) running
lined_without t threads line running lined = record {
  line_ready = λ u e. lined.line_ready u (in_without t u line e).1;
  line_distinct = distinct_without t line lined.line_distinct;
  running_ready = lined.running_ready;
  running_out = λ u e. out_without t u line (lined.running_out u e);
}

-- a thread of the line runs
pub lined_dispatch : (t : ℕ) (threads : List (Option Thread)) (line : List ℕ) (running : Option ℕ) → is_in t line ≡ true → AreLined threads line running → AreLined threads (without t line) (Some t)
lined_dispatch t threads line running here lined = record {
  line_ready = λ u e. lined.line_ready u (in_without t u line e).1;
  line_distinct = distinct_without t line lined.line_distinct;
  running_ready = λ u e. let same : t ≡ u = cc in ap (λ v. is_ready (pool_get threads v)) (sym same) ∙ lined.line_ready t here;
  running_out = λ u e. let same : t ≡ u = cc in ap (λ v. is_in v (without t line)) (sym same) ∙ without_own t line;
}
