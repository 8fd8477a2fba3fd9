-- Up to its stop a partition in which no thread runs or is ready is idle, and up to no later tick.
use Rattle.std.proofs.Common.{◌≡◌, ℕ, ◌≤◌, true, false, length, arith}
use Rattle.std.specs.Prelude.{None, nat_lt}
use Rattle.ptk_words.specs.declared.sections.Limits.{Limits}
use Rattle.ptk_words.proofs.Lists.{empty_from_length}
use Rattle.ptk_words_model.specs.State.{Part}
use Rattle.ptk_words.specs.Faults.{is_active}
use Rattle.ptk_words_invariant.specs.Well.{IsWell}
use Rattle.ptk_words_laws.specs.Idle.{IsIdle}
use Rattle.ptk_gate_steps.specs.QuietStops.{before_event}
use Rattle.ptk_gate_steps.proofs.QuietStops.{none_comes_before, none_expires_before, event_no_later}

-- a whole partition is idle up to its stop
pub idle_up : (limits : Limits) (stop : ℕ) (s : Part) → is_active s.status ≡ true → IsWell limits s → s.running ≡ None → nat_lt 0 (length s.line) ≡ false → IsIdle (before_event s stop) s
idle_up limits stop s active well runs ready =
    let n : ℕ = before_event s stop in
    let same : n ≤ n = omega arith in
    record {
      active = active;
      running = runs;
      line = empty_from_length s.line ready;
      none_comes = none_comes_before stop n s same;
      none_expires = none_expires_before stop n s same;
    }

-- and up to no later tick
pub idle_no_later : (stop k : ℕ) (s : Part) → IsIdle k s → k ≤ stop → k ≤ before_event s stop
idle_no_later stop k s idle le = event_no_later stop k s le idle.none_comes idle.none_expires
