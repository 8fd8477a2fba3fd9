-- What a whole state says of mutexes and of the running thread, as the moves on mutexes ask for it.
use Rattle.std.proofs.Common.{◌≡◌, ℕ}
use Rattle.std.specs.Prelude.{Some}
use Rattle.ptk_words.specs.declared.sections.Limits.{Limits}
use Rattle.ptk_words_model.specs.State.{Part}
use Rattle.ptk_words_model.specs.Priority.{thread_at}
use Rattle.ptk_words_sync_invariant.proofs.Lined.{ready_waits}
use Rattle.ptk_words_sync_invariant.proofs.Threads.{idle_awaits}
use Rattle.ptk_words_invariant.specs.Well.{IsWell}
use Rattle.ptk_gate_pools.specs.Tables.{MayWait}
use Rattle.ptk_gate_pools.proofs.NoWaiters.{runner_apart}
pub use Rattle.ptk_gate_pools.proofs.Synced.{locked_of}
use Rattle.ptk_gate_moves.proofs.Ready.{running_in_use}

-- the running thread may begin to wait for a mutex
pub may_wait : (limits : Limits) (s : Part) (t : ℕ) → IsWell limits s → s.running ≡ Some t → MayWait s.locks t
may_wait limits s t well runs = record {
  used = running_in_use limits s t well runs;
  out = well.running_out t runs;
  awake = idle_awaits (thread_at s.locks t) (ready_waits (thread_at s.locks t) (well.running_ready t runs));
}

pub ruleset locked = (locked_of, may_wait, runner_apart)
