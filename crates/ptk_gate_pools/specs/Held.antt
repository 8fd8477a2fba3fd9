-- One partition's part, which is in hand, and the tables without it.
use Rattle.std.specs.Prelude.{ℕ, [], None}
use Rattle.ptk_words.specs.declared.faults.Status.TheVariants.{Active}
use Rattle.ptk_words.specs.declared.sections.Limits.{Limits}
use Rattle.ptk_words_model.specs.State.{Part}
use Rattle.ptk_console.specs.ConsoleTable.{fresh_console}
use Rattle.ptk_gate_pools.specs.Kept.{Kept, part_at, put_part, limits_at}

-- a part that has nothing (own)
abbrev pub no_part : Part
no_part =
    record {
      memory = [];
      syncs = record { locks = record { threads = []; line = []; mutexes = [] }; conditions = [] };
      running = None;
      cancellations = [];
      cleanups = [];
      keys = record { destructors = []; values = []; rounds = [] };
      console = fresh_console [];
      status = Active;
      last = None;
    }

-- the partition in hand, its part, and the tables without it: every other partition's part, and the sections' numbers (own)
pub record Held : Type 0 where
  pub hand : ℕ
  pub here : Part
  pub elsewhere : Kept

-- the tables with this partition in hand
abbrev pub held : ℕ → Kept → Held
held p kept = record { hand = p; here = part_at p kept; elsewhere = put_part p no_part kept }

-- the tables, whatever is in hand
abbrev pub all_of : Held → Kept
all_of pools = put_part pools.hand pools.here pools.elsewhere

-- the numbers of the section of the partition in hand
abbrev pub limits_here : Held → Limits
limits_here pools = limits_at pools.hand pools.elsewhere

-- what is read of one partition: the numbers of its section, and its part (own)
pub record Seen : Type 0 where
  pub limits : Limits
  pub part : Part

-- this partition of the tables
abbrev pub seen : ℕ → Kept → Seen
seen p kept = record { limits = limits_at p kept; part = part_at p kept }
