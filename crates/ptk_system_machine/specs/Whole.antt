-- The states of all partitions at once.
use Rattle.std.specs.Prelude.{◌≡◌, ℕ, ◌<◌, ◌≤◌, List, None, All, length, slice_index_or, slice_set}
use Rattle.ptk_words_model.specs.Windows.{WindowPlan, OwnTicks, own_ticks}
use Rattle.ptk_words_model.specs.State.{State}
use Rattle.ptk_words_model.specs.Run.{next_from}
use Rattle.ptk_words_laws.specs.Quiet.{after_ticks}
use Rattle.ptk_kernel.specs.Kept.{Kept, AreParts, limits_at, part_at, put_part}
use Rattle.ptk_system_machine.specs.Accounts.{KeptAccount, first_account}

-- the tables, and each partition's account
pub record Whole : Type 0 where
  pub kept : Kept
  pub accounts : List KeptAccount

-- the account past the last partition
abbrev pub no_account : KeptAccount
no_account = record { account = first_account None; capacity = 0 }

-- the account of a partition
abbrev pub account_at : ℕ → Whole → KeptAccount
account_at p whole = slice_index_or whole.accounts p no_account

-- the state of a partition
abbrev pub state_at : ℕ → Whole → State
state_at p whole = record { part = part_at p whole.kept; account = (account_at p whole).account }

-- the states with this as the partition's; every other partition's stays
abbrev pub put_state : ℕ → State → Whole → Whole
put_state p state whole =
    record {
      kept = put_part p state.part whole.kept;
      accounts = slice_set whole.accounts p (record (account_at p whole) { account = state.account });
    }

-- the states after n ticks of one partition, from this one on; every other partition's stays
abbrev pub gone_on : OwnTicks → ℕ → ℕ → ℕ → Whole → Whole
gone_on ticks p tick n whole = put_state p (after_ticks ticks (limits_at p whole.kept) tick n (state_at p whole)) whole

-- every partition has an entry in each list, and its trace keeps what its section says
pub record IsWhole (kept : Kept) (accounts : List KeptAccount) : Type 0 where
  pub parts : AreParts (length accounts) kept
  pub limits : length kept.limits ≡ length accounts
  pub traces : (p : ℕ) → p < length accounts → (slice_index_or accounts p no_account).capacity ≡ (limits_at p kept).trace

-- the plan's windows are those of this many partitions, in a frame of a configuration's range
pub record AreWindowsOf (parts : ℕ) (plan : WindowPlan) : Type 0 where
  pub frame : plan.frame ≤ 1000000
  pub known : All (λ stage. All (λ w. w.partition < parts) stage.windows) plan.stages

-- a partition's account before its first decision
abbrev pub first_account_of : WindowPlan → Kept → ℕ → KeptAccount
first_account_of plan kept p =
    record {
      account = first_account (next_from (own_ticks plan p) (part_at p kept).status 0);
      capacity = (limits_at p kept).trace;
    }
