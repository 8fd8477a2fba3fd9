-- One more plain step after a row of them.
use Rattle.std.proofs.Common.{◌≡◌, ℕ, suc, ◌+◌, true, false, List, refl, ◌∙◌, ap, arith}
use Rattle.std.specs.Prelude.{Option, Some, None, option_map}
use Rattle.ptk_words.specs.Pools.{pool_get, pool_set, pool_changed}
use Rattle.ptk_words.specs.Processor.{Processor}
use Rattle.ptk_words.specs.declared.sections.Entry.{Entry}
use Rattle.ptk_words.specs.declared.threads.Policy.{Policy}
use Rattle.ptk_words.specs.declared.threads.Policy.TheVariants.{Fifo, RoundRobin}
use Rattle.ptk_words.specs.declared.threads.Thread.{Thread}
use Rattle.ptk_words.proofs.Pools.{changed_twice}
use Rattle.ptk_words_model.specs.PlainSteps.{Core, plain_step, plain_steps, plain_entry}
use Rattle.ptk_words_model.specs.State.{Part, with_locks}
use Rattle.ptk_words_model.specs.Schedule.{is_round_robin}
use Rattle.ptk_words_laws.specs.Quiet.{used_after, computed, core_of, with_row, after_row}

-- ---- used ticks

used_more : (policy : Policy) (used n : ℕ) → used_after policy (used_after policy used n) 1 ≡ used_after policy used (suc n)
used_more Fifo used n = refl
used_more RoundRobin used n = omega arith

-- of SCHED_FIFO no tick is counted
pub used_fifo : (policy : Policy) (used n : ℕ) → is_round_robin policy ≡ false → used_after policy used n ≡ used
used_fifo Fifo used n e = refl
used_fifo RoundRobin used n e = cc

-- of SCHED_RR each tick is
pub used_robin : (policy : Policy) (used n : ℕ) → is_round_robin policy ≡ true → used_after policy used n ≡ used + n
used_robin Fifo used n e = cc
used_robin RoundRobin used n e = refl

-- ---- the thread

pub computed_more : (n : ℕ) (a b : Processor) (thread : Thread) → computed 1 b (computed n a thread) ≡ computed (suc n) b thread
computed_more n a b thread = ap (λ (used : ℕ). record thread { cpu = b; used = used }) (used_more thread.policy thread.used n)

entry_more : (n : ℕ) (a b : Processor) (o : Option Thread) → option_map (λ (thread : Thread). computed 1 b (computed n a thread)) o ≡ option_map (computed (suc n) b) o
entry_more n a b None = refl
entry_more n a b (Some thread) = ap Some (computed_more n a b thread)

threads_more : (t n : ℕ) (a b : Processor) (threads : List (Option Thread)) → pool_changed t (computed 1 b) (pool_changed t (computed n a) threads) ≡ pool_changed t (computed (suc n) b) threads
threads_more t n a b threads = changed_twice t (computed 1 b) (computed n a) threads ∙ ap (pool_set threads t) (entry_more n a b (pool_get threads t))

-- ---- the partition

-- a step after so many is one more
pub row_more : (t n : ℕ) (a b : Core) (before last : Option Entry) (s : Part) → with_row t 1 b last (with_row t n a before s) ≡ with_row t (suc n) b last s
row_more t n a b before last s =
    ap (λ (threads : List (Option Thread)). let after : Part = with_locks (λ locks. record locks { threads = threads }) (record s { memory = b.memory }) in record after { last = last })
    (threads_more t n a.cpu b.cpu s.threads)

-- a row of one step
pub row_one : (tick t : ℕ) (thread : Thread) (s : Part) → with_row t 1 (plain_step (core_of thread s)) (Some (plain_entry tick t (core_of thread s) (plain_step (core_of thread s)))) s ≡ after_row tick t 1 thread s
unfolding plain_steps
row_one tick t thread s =
    ap (λ (k : ℕ). with_row t 1 (plain_step (core_of thread s)) (Some (plain_entry k t (core_of thread s) (plain_step (core_of thread s)))) s) (let e : tick ≡ tick + 0 = omega arith in e)
