-- A partition that only computes, and what plain steps in a row do to it.
use Rattle.std.specs.Prelude.{◌≡◌, ℕ, zero, suc, ◌+◌, ◌≤◌, ◌<◌, Bool, true, false, List, [], ◌++◌, length, Option, Some, None, not, nat_lt}
use Rattle.ptk_words.specs.Names.{Priority, ThreadNumber, Tick, Ticks}
use Rattle.ptk_words.specs.declared.TheConstants.{RETURN_GATE}
use Rattle.ptk_words.specs.Processor.{Processor}
use Rattle.ptk_words.specs.Threads.{is_ended}
use Rattle.ptk_words.specs.declared.faults.Status.{Status}
use Rattle.ptk_words.specs.declared.sections.Entry.{Entry}
use Rattle.ptk_words.specs.declared.sections.Limits.{Limits}
use Rattle.ptk_words.specs.declared.threads.Policy.{Policy}
use Rattle.ptk_words.specs.declared.threads.Policy.TheVariants.{Fifo, RoundRobin}
use Rattle.ptk_words.specs.declared.threads.Thread.{Thread}
use Rattle.ptk_words_model.specs.PlainSteps.{Core, core, is_plain, plain_steps, entry_after, plain_entries}
use Rattle.ptk_words_model.specs.Windows.{OwnTicks}
use Rattle.ptk_words_model.specs.State.{Part, Account, State, with_locks}
use Rattle.ptk_words_model.specs.Priority.{thread_at, effective_priority}
use Rattle.ptk_words_model.specs.Schedule.{with_thread, first_ready, is_round_robin}
use Rattle.ptk_words_model.specs.Withdrawal.{due}
use Rattle.ptk_words_model.specs.Console.{arriving}
use Rattle.ptk_words_model.specs.Decision.{is_to_unwind}
use Rattle.ptk_words_model.specs.Run.{after_tick, last_of, next_from}
use Rattle.ptk_words.specs.Faults.{is_active}

-- ---- a quiet partition

-- the running thread stays before this first one of the line (XSH 2.8.4)
abbrev pub stays_before : (ThreadNumber → Priority) → ThreadNumber → Option ThreadNumber → Bool
stays_before rank t None = true
stays_before rank t (Some u) = not (nat_lt (rank t) (rank u))

-- at the tick the thread runs, goes on and begins no unwinding; up to the tick stop no input comes, no deadline is due and no round-robin interval ends; no word can be fetched at the return gate (own)
pub record IsQuiet (limits : Limits) (tick stop t : ℕ) (thread : Thread) (s : Part) : Type 0 where
  pub active : is_active s.status ≡ true
  pub none_comes : (k : ℕ) → k < stop → arriving k s.console ≡ []
  pub none_expires : (k : ℕ) → k < stop → due k s ≡ []
  pub chosen : stays_before (effective_priority s.locks) t (first_ready s.locks) ≡ true
  pub running : s.running ≡ Some t
  pub in_use : thread_at s.locks t ≡ Some thread
  pub lives : is_ended thread.phase ≡ false
  pub goes_on : is_to_unwind s t thread ≡ false
  pub within : is_round_robin thread.policy ≡ true → thread.used + stop < limits.interval + tick
  pub gate : length s.memory ≤ RETURN_GATE

-- the registers of a thread of the partition, and its memory
abbrev pub core_of : Thread → Part → Core
core_of thread s = core thread.cpu s.memory

-- the next n steps of these registers and this memory are plain (own)
abbrev pub ArePlain : ℕ → Core → Type 0
ArePlain n c = (k : ℕ) → k < n → is_plain (plain_steps k c) ≡ true

-- ---- a row of plain steps

-- the ticks of its interval that a thread has used after n plain steps (XSH 2.8.4, SCHED_RR)
abbrev pub used_after : Policy → Ticks → ℕ → Ticks
used_after Fifo used n = used
used_after RoundRobin used n = used + n

-- the thread with these registers after n plain steps
abbrev pub computed : ℕ → Processor → Thread → Thread
computed n cpu thread = record thread { cpu = cpu; used = used_after thread.policy thread.used n }

-- the partition after n plain steps of the thread, which left these registers, this memory and this last step
abbrev pub with_row : ThreadNumber → ℕ → Core → Option Entry → Part → Part
with_row t n c last s =
    let after : Part = with_locks (with_thread t (computed n c.cpu)) (record s { memory = c.memory }) in
    record after { last = last }

-- the last step after n plain ones, the first of them at the tick
abbrev pub last_after : Tick → ThreadNumber → ℕ → Core → Option Entry → Option Entry
last_after tick t zero c last = last
last_after tick t (suc n) c last = Some (entry_after tick t n c)

-- the partition after n plain steps of the thread, the first of them at the tick
abbrev pub after_row : Tick → ThreadNumber → ℕ → Thread → Part → Part
after_row tick t n thread s = with_row t n (plain_steps n (core_of thread s)) (last_after tick t n (core_of thread s) s.last) s

-- the thread after n plain steps of it
abbrev pub thread_after : ℕ → Thread → Part → Thread
thread_after n thread s = let c : Core = plain_steps n (core_of thread s) in computed n c.cpu thread

-- the account after n plain steps with these entries, the first of them at the tick: each was counted as a decision
abbrev pub counted_row : OwnTicks → Limits → Tick → ℕ → List Entry → Status → Account → Account
counted_row ticks limits tick n entries status account =
    record account {
      next = next_from ticks status (tick + n);
      steps = account.steps + n;
      trace = last_of limits.trace (account.trace ++ entries);
    }

-- the state after n plain steps of the thread, the first of them at the tick
abbrev pub row_state : OwnTicks → Limits → Tick → ThreadNumber → ℕ → Thread → State → State
row_state ticks limits tick t n thread s =
    record {
      part = after_row tick t n thread s.part;
      account = counted_row ticks limits tick n (plain_entries tick t n (core_of thread s.part)) s.part.status s.account;
    }

-- ---- ticks in a row

-- the state after n ticks from this one on (own)
unfoldable pub after_ticks : OwnTicks → Limits → Tick → ℕ → State → State
after_ticks ticks limits tick zero s = s
after_ticks ticks limits tick (suc n) s = after_tick ticks limits (tick + n) (after_ticks ticks limits tick n s)

-- each tick from the first one on that is below the last lies in a window of the partition (own)
pub record AreOwn (ticks : OwnTicks) (from to : ℕ) : Type 0 where
  pub end : (k : ℕ) → from ≤ k → k < to → (end : ℕ) × (ticks.end_at k ≡ Some end) × (k < end)
  pub next : (k : ℕ) → from ≤ k → k < to → ticks.next_of k ≡ Some k
