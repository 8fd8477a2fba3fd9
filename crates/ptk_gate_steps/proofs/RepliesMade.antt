-- What quiet calls leave: the registers and the ticks put, and the effect made.
use Rattle.std.proofs.Common.{◌≡◌, ℕ, ◌+◌, Bool, true, false, refl, sym, ap, ◌∙◌}
use Rattle.std.specs.Prelude.{Option, Some, if◌then◌else◌}
use Rattle.std.proofs.lemmas.Bool.{false≢true}
use Rattle.ptk_words.specs.Pools.{pool_changed, pool_get, pool_set}
use Rattle.ptk_words.specs.Processor.{Processor}
use Rattle.ptk_words.specs.declared.mutexes.Owner.TheVariants.{Free, OwnedBy}
use Rattle.ptk_words.specs.declared.sections.Limits.{Limits}
use Rattle.ptk_words.specs.declared.threads.Policy.{Policy}
use Rattle.ptk_words.specs.declared.threads.Policy.TheVariants.{Fifo, RoundRobin}
use Rattle.ptk_words.specs.declared.threads.Thread.{Thread}
use Rattle.ptk_words.proofs.Pools.{changed_other, changed_twice}
use Rattle.ptk_words_model.specs.State.{Mutex, Part, with_locks, with_console}
use Rattle.ptk_words_model.specs.Mutex.{mutex_at}
use Rattle.ptk_words_model.specs.Priority.{thread_at, effective_priority}
use Rattle.ptk_words_model.specs.Schedule.{with_thread, with_thread_used, is_round_robin}
use Rattle.ptk_words_model.specs.Console.{is_full, with_output}
use Rattle.ptk_words_model.specs.Decision.{with_thread_cpu}
use Rattle.ptk_words_laws.specs.Quiet.{computed}
use Rattle.ptk_words_laws.specs.Replies.{outcome_of, with_outcome}
use Rattle.ptk_words_laws.proofs.PlainDecisions.{with_registers_of}
use Rattle.ptk_words_laws.proofs.ReplyDecisions.{fifo_entry, robin_entry}
use Rattle.ptk_console.specs.ConsoleTable.{after_put}
use Rattle.ptk_gate_moves.proofs.PlainMutexes.{effective-plain}
use Rattle.ptk_gate_steps.specs.Steady.{is_contended}
use Rattle.ptk_gate_steps.specs.Replies.{QuietEffect, Keeps, Takes, Releases, Puts, Sets, IsPlainEffect, after_quiet_effect}
use Rattle.ptk_gate_steps.proofs.Steady.{KeepsContended}

-- ---- the registers and the ticks put

-- under SCHED_FIFO no tick is counted
pub left_fifo : (t n : ℕ) (cpu : Processor) (thread : Thread) (policy : Policy) (s : Part) → thread_at s.locks t ≡ Some thread → thread.policy ≡ policy → policy ≡ Fifo
    → with_thread_cpu t cpu s ≡ with_locks (with_thread t (computed n cpu)) s
left_fifo t n cpu thread policy s found same fifo =
    let not : is_round_robin thread.policy ≡ false = ap is_round_robin (same ∙ fifo) in
    ap (λ (o : Option Thread). with_locks (λ locks. record locks { threads = pool_set s.threads t o }) s) (fifo_entry n cpu thread (pool_get s.threads t) found not)

-- under SCHED_RR each is
pub left_robin : (t n used : ℕ) (cpu : Processor) (thread : Thread) (policy : Policy) (s : Part) → thread_at s.locks t ≡ Some thread → thread.policy ≡ policy → policy ≡ RoundRobin → used ≡ thread.used + n
    → with_thread_used t used (with_thread_cpu t cpu s) ≡ with_locks (with_thread t (computed n cpu)) s
left_robin t n used cpu thread policy s found same robin counted =
    let is : is_round_robin thread.policy ≡ true = ap is_round_robin (same ∙ robin) in
    ap (λ (u : ℕ). with_thread_used t u (with_thread_cpu t cpu s)) counted
    ∙ (ap (λ threads. with_locks (λ locks. record locks { threads = threads }) s) (changed_twice t (λ (v : Thread). record v { used = thread.used + n }) (with_registers_of cpu) s.threads)
    ∙ ap (λ (o : Option Thread). with_locks (λ locks. record locks { threads = pool_set s.threads t o }) s) (robin_entry n cpu thread (pool_get s.threads t) found is))

-- ---- the step made

-- the outcome of an effect changes no priority
pub effect_plain : (effect : QuietEffect) (t u : ℕ) (limits : Limits) (s : Part) → IsPlainEffect effect limits s → effective_priority (with_outcome (outcome_of (after_quiet_effect effect t s)) s).locks u ≡ effective_priority s.locks u
effect_plain Keeps t u limits s plain = refl
effect_plain (Takes m) t u limits s plain = ap (λ (rank : ℕ → ℕ). rank u) (effective-plain m (λ mutex. record mutex { owner = OwnedBy t; count = 1 }) s.threads s.mutexes (λ mutex. refl) plain.0)
effect_plain (Releases m) t u limits s plain = ap (λ (rank : ℕ → ℕ). rank u) (effective-plain m (λ mutex. record mutex { owner = Free; count = 0 }) s.threads s.mutexes (λ mutex. refl) plain.0)
effect_plain (Puts byte) t u limits s plain = refl
effect_plain (Sets k value) t u limits s plain = refl

-- a mutex that threads wait for is another than one that none waits for
contended_other : (k m : ℕ) (f : Mutex → Mutex) (s : Part) → is_contended (mutex_at s.locks m) ≡ false → is_contended (mutex_at s.locks k) ≡ true → pool_get (pool_changed m f s.mutexes) k ≡ mutex_at s.locks k
contended_other k m f s none some = changed_other m k f s.mutexes (λ same. false≢true (sym none ∙ (ap (λ (j : ℕ). is_contended (mutex_at s.locks j)) (sym same) ∙ some)))

-- the outcome of an effect leaves each mutex that threads wait for
pub effect_keeps : (effect : QuietEffect) (t : ℕ) (limits : Limits) (s : Part) → IsPlainEffect effect limits s → KeepsContended (outcome_of (after_quiet_effect effect t s)) s
effect_keeps Keeps t limits s plain = λ k some. refl
effect_keeps (Takes m) t limits s plain = λ k some. contended_other k m (λ mutex. record mutex { owner = OwnedBy t; count = 1 }) s plain.1 some
effect_keeps (Releases m) t limits s plain = λ k some. contended_other k m (λ mutex. record mutex { owner = Free; count = 0 }) s plain.1 some
effect_keeps (Puts byte) t limits s plain = λ k some. refl
effect_keeps (Sets k value) t limits s plain = λ j some. refl

-- a byte put where there is room
pub put_open : (limit byte : ℕ) (s : Part) → is_full limit s.console ≡ false → with_console (after_put limit byte) s ≡ with_console (with_output byte) s
put_open limit byte s room = ap (λ (b : Bool). with_console (λ console. if b then console else with_output byte console) s) room

pub ruleset leavings = (left_fifo, left_robin)
