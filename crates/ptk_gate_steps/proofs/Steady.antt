-- Plain steps and quiet calls leave the threads and what they wait for.
use Rattle.std.proofs.Common.{◌≡◌, ◌∙◌, ℕ, zero, suc, ◌≤◌, true, refl, ap, arith}
use Rattle.std.specs.Prelude.{Option, Some, None, option_map, unwrap_or}
use Rattle.ptk_words.specs.Pools.{pool_get}
use Rattle.ptk_words.specs.Processor.{Processor}
use Rattle.ptk_words.specs.declared.sections.Entry.{Entry}
use Rattle.ptk_words.specs.declared.sections.Limits.{Limits}
use Rattle.ptk_words.specs.declared.threads.Thread.{Thread}
use Rattle.ptk_words_model.specs.PlainSteps.{Core, core}
use Rattle.ptk_words_model.specs.State.{Part}
use Rattle.ptk_words_model.specs.Mutex.{mutex_at}
use Rattle.ptk_words_sync_invariant.proofs.Threads.{changed_same}
use Rattle.ptk_words_laws.specs.Quiet.{computed, with_row, after_row}
use Rattle.ptk_words_laws.specs.Replies.{IsReply, Outcome, after_reply, reply_entry, with_outcome}
use Rattle.ptk_words_laws.proofs.QuietRows.{same_rank}
use Rattle.ptk_gate_steps.specs.Steady.{IsOfRunning, IsSteady, at_rest, is_contended}

pub steady_same : (s : Part) → IsSteady s s
steady_same s = record { status = refl; dropped = refl; running = refl; threads = λ t cpu. refl; priorities = λ t. refl; mutexes = λ m some. refl }

-- what stays and then stays has stayed
pub steady_on : (a b c : Part) → IsSteady a b → IsSteady b c → IsSteady a c
steady_on a b c first then = record {
  status = then.status ∙ first.status;
  dropped = then.dropped ∙ first.dropped;
  running = then.running ∙ first.running;
  threads = λ t cpu. then.threads t cpu ∙ first.threads t cpu;
  priorities = λ t. then.priorities t ∙ first.priorities t;
  mutexes = λ m some.
      let same = first.mutexes m some in
      then.mutexes m (ap is_contended same ∙ some) ∙ same;
}

computed_rest : (registers : Processor) (n : ℕ) (cpu : Processor) (o : Option Thread) → option_map (at_rest registers) (option_map (computed n cpu) o) ≡ option_map (at_rest registers) o
computed_rest registers n cpu None = refl
computed_rest registers n cpu (Some thread) = refl

with_row_steady : (t n : ℕ) (c : Core) (last : Option Entry) (s : Part) → IsSteady s (with_row t n c last s)
with_row_steady t n c last s = record {
  status = refl;
  dropped = refl;
  running = refl;
  threads = λ u cpu. changed_same (option_map (at_rest cpu)) t (computed n c.cpu) s.threads (computed_rest cpu n c.cpu (pool_get s.threads t)) u;
  priorities = λ u. ap (λ (rank : ℕ → ℕ). rank u) (same_rank t n c.cpu s.threads s.mutexes);
  mutexes = λ m some. refl;
}

-- plain steps in a row leave them
pub row_steady : (tick t n : ℕ) (thread : Thread) (s : Part) → IsSteady s (after_row tick t n thread s)
row_steady tick t n thread s = with_row_steady t n _ _ s

entry_thread : (a b : Entry) → Some a ≡ Some b → a.thread ≡ b.thread
entry_thread a b e = ap (λ (o : Option Entry). unwrap_or (option_map (λ (x : Entry). x.thread) o) a.thread) e

-- the last of them is the running thread's
pub row_last : (tick t n : ℕ) (thread : Thread) (s : Part) → s.running ≡ Some t → 1 ≤ n → IsOfRunning (after_row tick t n thread s)
row_last tick t zero thread s runs some = absurd (omega (arith, some))
row_last tick t (suc n) thread s runs some = λ entry e. runs ∙ ap Some (entry_thread _ entry e)

-- the outcome leaves each mutex that threads wait for as it is (pthread_mutex_lock, pthread_mutex_unlock)
abbrev pub KeepsContended : Outcome → Part → Type 0
KeepsContended o s = (m : ℕ) → is_contended (mutex_at s.locks m) ≡ true → mutex_at (with_outcome o s).locks m ≡ mutex_at s.locks m

-- a quiet call leaves them
pub reply_steady : (limits : Limits) (tick t ticks : ℕ) (thread : Thread) (after : Processor) (o : Outcome) (s : Part) → IsReply limits ticks t thread after o s → KeepsContended o s → IsSteady s (after_reply tick t ticks thread after o s)
reply_steady limits tick t ticks thread after o s is keeps =
    let outcome : IsSteady s (with_outcome o s) = record { status = refl; dropped = refl; running = refl; threads = λ u cpu. refl; priorities = is.priorities; mutexes = keeps } in
    steady_on s (with_outcome o s) (after_reply tick t ticks thread after o s) outcome
    (with_row_steady t ticks (core after s.memory) (Some (reply_entry tick t thread after)) (with_outcome o s))

pub reply_last : (tick t ticks : ℕ) (thread : Thread) (after : Processor) (o : Outcome) (s : Part) → s.running ≡ Some t → IsOfRunning (after_reply tick t ticks thread after o s)
reply_last tick t ticks thread after o s runs = λ entry e. runs ∙ ap Some (entry_thread (reply_entry tick t thread after) entry e)
