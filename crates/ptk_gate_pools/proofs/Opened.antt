-- What the invariant of the pools says of the tables.
use Rattle.std.proofs.Common.{◌≡◌, ℕ, length, ◌∙◌, ap, sym}
use Rattle.ptk_gate_pools.specs.Kept.{AreParts}
use Rattle.ptk_gate_pools.specs.Held.{Held, Seen, held, all_of, seen}
use Rattle.ptk_gate_pools.specs.declared.pools.Pools.TheInside.{Inside}
use Rattle.ptk_gate_pools.specs.Pooled.{kept_of, ArePooled}
use Rattle.ptk_gate_pools.proofs.Hands.{all-held}

-- every component has an entry for each partition
pub parts_of : (a : Inside) → ArePooled a → AreParts (length a.limits.items) (kept_of a)
parts_of a i = record {
  few = i.few;
  memory = i.memory;
  threads = i.threads;
  lines = i.lines;
  mutexes = i.mutexes;
  conditions = i.conditions;
  running = i.running;
  cancellations = i.cancellations;
  cleanups = i.cleanups;
  destructors = i.destructors;
  values = i.values;
  rounds = i.rounds;
  consoles = i.consoles;
  statuses = i.statuses;
  lasts = i.lasts;
}

-- what is looked at is read from what the pools have inside
pub looked : (p : ℕ) (a : Inside) (pools : Held) (look : Seen) → held a.hand (kept_of a) ≡ pools → seen p (all_of pools) ≡ look → seen p (kept_of a) ≡ look
looked p a pools look inside e = ap (seen p) (sym (all-held a.hand (kept_of a))) ∙ ap (λ (h : Held). seen p (all_of h)) inside ∙ e

-- the tables are what the pools have inside
pub whole : (a : Inside) (pools : Held) → held a.hand (kept_of a) ≡ pools → kept_of a ≡ all_of pools
whole a pools inside = sym (all-held a.hand (kept_of a)) ∙ ap all_of inside
