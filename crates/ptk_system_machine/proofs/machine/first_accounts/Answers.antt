use Rattle.std.proofs.Common.{◌≡◌, ℕ, ◌+◌, ◌<◌, ◌≤◌, List, [], ◌∷◌, ◌++◌, length, get_or, ◌⊎◌, inl, inr, sym, ap, ◌∙◌, arith, rules}
use Rattle.std.proofs.lemmas.List.{get_or_append_left, get_or_push, length-append}
use Rattle.std.proofs.lemmas.Bool.{cases_lt}
use Rattle.ptk_system_machine.specs.Accounts.{KeptAccount}
use Rattle.ptk_system_machine.specs.Whole.{first_account_of, no_account}
use Rattle.ptk_system_machine.proofs.machine.first_accounts.Goals as goal

-- what holds of each account holds of each after one more was pushed
one_more : (f : ℕ → KeptAccount) (accounts new : List KeptAccount) (x : KeptAccount) (i : ℕ) → length accounts ≡ i → ((p : ℕ) → p < i → get_or accounts p no_account ≡ f p) → x ≡ f i → new ≡ accounts ++ x ∷ []
    → (p : ℕ) → p < i + 1 → get_or new p no_account ≡ f p
one_more f accounts new x i count each here pushed p lt = ap (λ (l : List KeptAccount). get_or l p no_account) pushed ∙ by (cases_lt p i)
  where
    by : (p < i) ⊎ (i ≤ p) → get_or (accounts ++ x ∷ []) p no_account ≡ f p
    by (inl before) = get_or_append_left accounts (x ∷ []) no_account p (omega (arith, before, count)) ∙ each p before
    by (inr past) =
        let last : p ≡ i = omega (arith, past, lt) in
        get_or_push accounts x no_account p (count ∙ sym last) ∙ (here ∙ ap f (sym last))

pub loop-i-preserved : goal.loop-i-preserved
loop-i-preserved c =
    let here : c.in_ok-new.field-0 ≡ first_account_of c.args.plan.now c.args.tables.now c.loop-i.i = search rules in
    record {
      count = ap length c.in_ok-push.ensures.items ∙ (length-append c.loop-i.accounts.items (c.in_ok-new.field-0 ∷ []) ∙ ap (λ (n : ℕ). n + 1) c.loop-i.invariant.count);
      each = one_more (first_account_of c.args.plan.now c.args.tables.now) c.loop-i.accounts.items c.push.new.self.items c.in_ok-new.field-0 c.loop-i.i c.loop-i.invariant.count c.loop-i.invariant.each here c.in_ok-push.ensures.items;
    }
