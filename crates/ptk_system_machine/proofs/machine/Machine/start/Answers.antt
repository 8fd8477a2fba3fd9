use Rattle.std.proofs.Common.{ℕ, ◌≡◌, ◌<◌, length, sym, ap, subst, ◌∙◌}
use Rattle.ptk_kernel.specs.Kept.{AreParts}
use Rattle.ptk_system_machine.specs.Accounts.{KeptAccount}
use Rattle.ptk_system_machine.proofs.machine.Machine.start.Goals as goal

pub invariant_of-result : goal.invariant_of-result
invariant_of-result c =
    let count : length c.args.limits.now ≡ length c.in_ok-accounts.accounts.items = sym c.in_ok-accounts.ensures.count in
    record {
      parts = subst (λ (n : ℕ). AreParts n c.args.tables) count c.requires.parts;
      limits = ap length c.requires.limits ∙ count;
      traces =
          λ p lt. ap (λ (account : KeptAccount). account.capacity)
          (c.in_ok-accounts.ensures.each p (subst (λ (n : ℕ). p < n) (sym count) lt));
    }
