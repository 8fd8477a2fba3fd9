-- A row of no step changes nothing, and what is quiet up to a tick is so up to an earlier one.
use Rattle.std.proofs.Common.{◌≡◌, ◌∙◌, ℕ, zero, suc, ◌+◌, ◌≤◌, ◌<◌, List, [], ◌∷◌, refl, sym, ap, arith}
use Rattle.std.specs.Prelude.{Option, Some, option_map, slice_get}
use Rattle.std.specs.Option.{option_flatten}
use Rattle.std.proofs.Math.ListN.{set}
use Rattle.ptk_words.specs.Pools.{pool_get, pool_set, pool_changed}
use Rattle.ptk_words.specs.declared.sections.Limits.{Limits}
use Rattle.ptk_words.specs.declared.threads.Policy.{Policy}
use Rattle.ptk_words.specs.declared.threads.Policy.TheVariants.{Fifo, RoundRobin}
use Rattle.ptk_words.specs.declared.threads.Thread.{Thread}
use Rattle.ptk_words_model.specs.PlainSteps.{plain_steps}
use Rattle.ptk_words_model.specs.State.{Part, with_locks}
use Rattle.ptk_words_model.specs.Priority.{thread_at}
use Rattle.ptk_words_laws.specs.Quiet.{IsQuiet, used_after, computed, after_row}

-- ---- no step

used_none : (policy : Policy) (used : ℕ) → used_after policy used 0 ≡ used
used_none Fifo used = refl
used_none RoundRobin used = omega arith

entry_kept : (i : ℕ) (thread : Thread) (threads : List (Option Thread)) → option_flatten (slice_get threads i) ≡ Some thread → set threads i (Some thread) ≡ threads
entry_kept i thread [] e = refl
entry_kept zero thread (o ∷ threads) e = ap (λ (x : Option Thread). x ∷ threads) (sym e)
entry_kept (suc i) thread (o ∷ threads) e = ap (λ (rest : List (Option Thread)). o ∷ rest) (entry_kept i thread threads e)

number_kept : (t : ℕ) (thread : Thread) (threads : List (Option Thread)) → pool_get threads t ≡ Some thread → pool_set threads t (Some thread) ≡ threads
number_kept zero thread threads e = refl
number_kept (suc i) thread threads e = entry_kept i thread threads e

threads_kept : (t : ℕ) (thread : Thread) (threads : List (Option Thread)) → pool_get threads t ≡ Some thread → pool_changed t (computed 0 thread.cpu) threads ≡ threads
threads_kept t thread threads e =
    ap (λ (o : Option Thread). pool_set threads t (option_map (computed 0 thread.cpu) o)) e
    ∙ ap (λ (used : ℕ). pool_set threads t (Some (record thread { used = used }))) (used_none thread.policy thread.used)
    ∙ number_kept t thread threads e

-- no step leaves the partition as it is
pub row_none : (tick t : ℕ) (thread : Thread) (s : Part) → thread_at s.locks t ≡ Some thread → after_row tick t 0 thread s ≡ s
unfolding plain_steps
row_none tick t thread s e = ap (λ (threads : List (Option Thread)). with_locks (λ locks. record locks { threads = threads }) s) (threads_kept t thread s.threads e)

-- ---- an earlier tick

-- what is quiet up to a tick is quiet up to an earlier one
pub quiet_sooner : (limits : Limits) (tick stop k t : ℕ) (thread : Thread) (s : Part) → IsQuiet limits tick stop t thread s → k ≤ stop → IsQuiet limits tick k t thread s
quiet_sooner limits tick stop k t thread s quiet le = record {
  active = quiet.active;
  none_comes = λ j lt. quiet.none_comes j (omega (arith, lt, le));
  none_expires = λ j lt. quiet.none_expires j (omega (arith, lt, le));
  chosen = quiet.chosen;
  running = quiet.running;
  in_use = quiet.in_use;
  lives = quiet.lives;
  goes_on = quiet.goes_on;
  within = λ robin. let lt : thread.used + stop < limits.interval + tick = quiet.within robin in omega (arith, lt, le);
  gate = quiet.gate;
}
