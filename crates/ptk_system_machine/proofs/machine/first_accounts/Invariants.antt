use Rattle.std.proofs.Common.{◌≡◌, ℕ, ◌<◌, length}
use Rattle.std.specs.Prelude.{slice_index_or}
use Rattle.ptk_system_machine.specs.Whole.{first_account_of, no_account}
use Rattle.ptk_system_machine.proofs.machine.first_accounts.Given as goal

abbrev pub invariant-loop-i : goal.invariant-loop-i
invariant-loop-i l = record {
  count : length l.accounts.items ≡ l.i;
  each : (p : ℕ) → p < l.i → slice_index_or l.accounts.items p no_account ≡ first_account_of l.plan l.tables p;
}
