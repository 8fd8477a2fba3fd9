-- What the pools have inside, as the tables of all partitions, and what holds of it.
use Rattle.std.specs.Prelude.{◌≡◌, ◌<◌, ◌≤◌, length}
use Rattle.ptk_gate_pools.specs.declared.pools.Pools.TheInside.{Inside}
use Rattle.ptk_gate_pools.specs.Kept.{Kept, AreStored}

-- the tables
abbrev pub kept_of : Inside → Kept
kept_of a =
    record {
      memory = a.memories;
      threads = a.roster.table.threads;
      lines = a.roster.lines;
      mutexes = a.roster.mutexes;
      conditions = a.roster.conditions;
      running = a.running.items;
      cancellations = a.cancellations.cancellations;
      cleanups = a.cancellations.cleanups;
      destructors = a.keys.destructors;
      values = a.keys.values;
      rounds = a.keys.rounds;
      consoles = a.consoles.consoles;
      statuses = a.statuses.items;
      lasts = a.lasts.items;
      limits = a.limits.items;
    }

-- every pool has an entry for each of at most 8 partitions, the consoles have the sections' numbers, and the stored priorities are the effective ones
pub record ArePooled (a : Inside) : Type 0 where
  pub few : length a.limits.items ≤ 8
  pub memory : length a.memories ≡ length a.limits.items
  pub threads : length a.roster.table.threads ≡ length a.limits.items
  pub priorities : length a.roster.table.stored ≡ length a.limits.items
  pub lines : length a.roster.lines ≡ length a.limits.items
  pub mutexes : length a.roster.mutexes ≡ length a.limits.items
  pub conditions : length a.roster.conditions ≡ length a.limits.items
  pub running : length a.running.items ≡ length a.limits.items
  pub cancellations : length a.cancellations.cancellations ≡ length a.limits.items
  pub cleanups : length a.cancellations.cleanups ≡ length a.limits.items
  pub destructors : length a.keys.destructors ≡ length a.limits.items
  pub values : length a.keys.values ≡ length a.limits.items
  pub rounds : length a.keys.rounds ≡ length a.limits.items
  pub consoles : length a.consoles.consoles ≡ length a.limits.items
  pub sections : a.consoles.limits ≡ a.limits.items
  pub statuses : length a.statuses.items ≡ length a.limits.items
  pub lasts : length a.lasts.items ≡ length a.limits.items
  pub stored : AreStored a.roster.table.stored a.roster.table.threads a.roster.mutexes
  pub in_hand : a.hand < length a.limits.items
