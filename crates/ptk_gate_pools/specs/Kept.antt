-- The tables of all partitions, by component, and of them one partition's part.
use Rattle.std.specs.Prelude.{◌≡◌, ℕ, ◌<◌, ◌≤◌, true, List, [], length, slice_index_or, slice_set, Option, None, IsSome}
use Rattle.ptk_words.specs.Pools.{pool_get, is_in}
use Rattle.ptk_words.specs.declared.faults.Status.{Status}
use Rattle.ptk_words.specs.declared.faults.Status.TheVariants.{Active}
use Rattle.ptk_words.specs.declared.sections.Entry.{Entry}
use Rattle.ptk_words.specs.declared.sections.Limits.{Limits}
use Rattle.ptk_words.specs.declared.threads.Cleanup.{Cleanup}
use Rattle.ptk_words.specs.declared.threads.Thread.{Thread}
use Rattle.ptk_words.specs.Parts.{part_of}
use Rattle.ptk_words_model.specs.declared.Cancellation.{Cancellation}
use Rattle.ptk_words_model.specs.declared.Rounds.{Rounds}
use Rattle.ptk_words_model.specs.State.{Mutex, Condition, Console, Part}
use Rattle.ptk_words_model.specs.Priority.{effective_priorities}
use Rattle.ptk_words_invariant.specs.Well.{IsWell}
use Rattle.ptk_gate_memory.specs.Rosters.{AreQueuesIn}
use Rattle.ptk_console.specs.ConsoleTable.{fresh_console, no_limits}
pub use Rattle.ptk_threads.specs.Timed.{deadlines_in}
pub use Rattle.ptk_gate_memory.specs.Sections.{per_section}
pub use Rattle.ptk_gate_memory.specs.AllDecoded.{IsOfWords}

-- each component as a list with an entry for each partition
pub record Kept : Type 0 where
  pub memory : List (List ℕ)
  pub threads : List (List (Option Thread))
  pub lines : List (List ℕ)
  pub mutexes : List (List (Option Mutex))
  pub conditions : List (List (Option Condition))
  pub running : List (Option ℕ)
  pub cancellations : List (List Cancellation)
  pub cleanups : List (List (List Cleanup))
  pub destructors : List (List (Option ℕ))
  pub values : List (List (List ℕ))
  pub rounds : List (List Rounds)
  pub consoles : List Console
  pub statuses : List Status
  pub lasts : List (Option Entry)
  pub limits : List Limits

-- the numbers of a partition's section
abbrev pub limits_at : ℕ → Kept → Limits
limits_at p kept = slice_index_or kept.limits p no_limits

-- one partition's part of the tables
abbrev pub part_at : ℕ → Kept → Part
part_at p kept =
    record {
      memory = part_of kept.memory p;
      syncs = record {
        locks = record { threads = part_of kept.threads p; line = part_of kept.lines p; mutexes = part_of kept.mutexes p };
        conditions = part_of kept.conditions p;
      };
      running = slice_index_or kept.running p None;
      cancellations = part_of kept.cancellations p;
      cleanups = part_of kept.cleanups p;
      keys = record {
        destructors = part_of kept.destructors p;
        values = part_of kept.values p;
        rounds = part_of kept.rounds p;
      };
      console = slice_index_or kept.consoles p (fresh_console []);
      status = slice_index_or kept.statuses p Active;
      last = slice_index_or kept.lasts p None;
    }

-- the tables with this as the partition's part; every other partition's part stays
abbrev pub put_part : ℕ → Part → Kept → Kept
put_part p s kept =
    record {
      memory = slice_set kept.memory p s.memory;
      threads = slice_set kept.threads p s.threads;
      lines = slice_set kept.lines p s.line;
      mutexes = slice_set kept.mutexes p s.mutexes;
      conditions = slice_set kept.conditions p s.conditions;
      running = slice_set kept.running p s.running;
      cancellations = slice_set kept.cancellations p s.cancellations;
      cleanups = slice_set kept.cleanups p s.cleanups;
      destructors = slice_set kept.destructors p s.keys.destructors;
      values = slice_set kept.values p s.keys.values;
      rounds = slice_set kept.rounds p s.keys.rounds;
      consoles = slice_set kept.consoles p s.console;
      statuses = slice_set kept.statuses p s.status;
      lasts = slice_set kept.lasts p s.last;
      limits = kept.limits;
    }

-- each of n partitions has an entry in every component
pub record AreParts (n : ℕ) (kept : Kept) : Type 0 where
  pub few : n ≤ 8
  pub memory : length kept.memory ≡ n
  pub threads : length kept.threads ≡ n
  pub lines : length kept.lines ≡ n
  pub mutexes : length kept.mutexes ≡ n
  pub conditions : length kept.conditions ≡ n
  pub running : length kept.running ≡ n
  pub cancellations : length kept.cancellations ≡ n
  pub cleanups : length kept.cleanups ≡ n
  pub destructors : length kept.destructors ≡ n
  pub values : length kept.values ≡ n
  pub rounds : length kept.rounds ≡ n
  pub consoles : length kept.consoles ≡ n
  pub statuses : length kept.statuses ≡ n
  pub lasts : length kept.lasts ≡ n

-- every partition's part is whole
pub record AreWell (kept : Kept) : Type 0 where
  pub parts : AreParts (length kept.limits) kept
  pub wells : (p : ℕ) → p < length kept.limits → IsWell (limits_at p kept) (part_at p kept)

-- these numbers are of threads in use
abbrev pub AreInUse : List (Option Thread) → List ℕ → Type 0
AreInUse threads ts = (t : ℕ) → is_in t ts ≡ true → IsSome (pool_get threads t)

-- each stored priority is the effective one, for every partition (pthread_mutexattr_getprotocol)
pub record AreStored (stored : List (List ℕ)) (threads : List (List (Option Thread))) (mutexes : List (List (Option Mutex))) : Type 0 where
  pub each : (p : ℕ) → part_of stored p ≡ effective_priorities (part_of threads p) (part_of mutexes p)

-- each partition's queues are the threads of its line of each stored priority, in the line's order, and the waiters of its mutexes and condition variables (XSH 2.8.4)
abbrev pub AreQueued : List (List ℕ) → List (List (List ℕ)) → Kept → Type 0
AreQueued stored queues kept = (p : ℕ) → AreQueuesIn (part_of stored p) (part_at p kept).line (part_at p kept).mutexes (part_at p kept).conditions (part_of queues p)
