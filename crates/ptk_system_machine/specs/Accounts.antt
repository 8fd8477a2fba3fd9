-- What the system keeps of a partition beside its part of the tables.
use Rattle.std.specs.Prelude.{◌≡◌, ◌≤◌, ℕ, ◌+◌, ◌*◌, [], ◌++◌, true, Option, IsSome, option_to_list}
use Rattle.ptk_words.specs.declared.sections.Entry.{Entry}
use Rattle.ptk_words_model.specs.declared.Spent.{Spent}
use Rattle.ptk_words_model.specs.declared.Spent.TheVariants.{Step, Idle, Lost}
use Rattle.ptk_words_model.specs.State.{Account, State}
use Rattle.ptk_words_model.specs.Run.{last_of}
use Rattle.ptk_words.specs.Faults.{is_active}
use Rattle.ptk_system_machine.specs.declared.account.Account.TheInside.{Inside}

-- an account, and how many steps its trace keeps
pub record KeptAccount : Type 0 where
  pub account : Account
  pub capacity : ℕ

-- an account as it is kept, with how many steps its trace keeps
abbrev pub kept_account_of : Inside → KeptAccount
kept_account_of a =
    record {
      account = record { next = a.next; steps = a.steps; lost = a.lost; trace = a.trace.entries };
      capacity = a.trace.capacity;
    }

-- the account before the first decision, which is at this tick
abbrev pub first_account : Option ℕ → Account
first_account next = record { next = next; steps = 0; lost = 0; trace = [] }

-- the ticks that a decision with this room takes up
abbrev pub duration_of : ℕ → Spent → ℕ
duration_of room Idle = 1
duration_of room Lost = room
duration_of room (Step cost) = cost

-- the account after a decision with this room that spent this: the next decision, and of a step its entry in the trace
abbrev pub spent_account : Option ℕ → ℕ → ℕ → Spent → Option Entry → Account → Account
spent_account next capacity room Idle last account = record account { next = next }
spent_account next capacity room Lost last account = record account { next = next; lost = account.lost + room }
spent_account next capacity room (Step cost) last account =
    record account { next = next; steps = account.steps + 1; trace = last_of capacity (account.trace ++ option_to_list last) }

-- n ticks are behind the state: it has made at most n steps, has lost at most a frame's ticks for each tick, and is not halted where a decision is to come (own)
pub record IsBehind (n : ℕ) (state : State) : Type 0 where
  pub steps : state.account.steps ≤ n
  pub lost : state.account.lost ≤ 1000000 * n
  pub active : IsSome state.account.next → is_active state.part.status ≡ true
