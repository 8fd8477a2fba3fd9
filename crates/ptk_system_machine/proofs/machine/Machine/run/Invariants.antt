use Rattle.std.proofs.Common.{◌≡◌, ℕ, ◌-◌, ◌<◌, ◌≤◌, length}
use Rattle.ptk_words_model.specs.Windows.{own_ticks}
use Rattle.ptk_words_laws.specs.Quiet.{after_ticks}
use Rattle.ptk_kernel.specs.Kept.{limits_at}
use Rattle.ptk_system_machine.specs.Whole.{state_at}
use Rattle.ptk_system_machine.proofs.machine.Machine.run.Given as goal

abbrev pub invariant-loop-i : goal.invariant-loop-i
invariant-loop-i l = record {
  parts : length l.self.accounts ≡ length l.fn.self.accounts;
  limits : l.self.kept.limits ≡ l.fn.self.kept.limits;
  done : (q : ℕ) → q < l.i → state_at q l.self ≡ after_ticks (own_ticks l.plan q) (limits_at q l.fn.self.kept) l.tick (l.to - l.tick) (state_at q l.fn.self);
  left : (q : ℕ) → l.i ≤ q → state_at q l.self ≡ state_at q l.fn.self;
}
