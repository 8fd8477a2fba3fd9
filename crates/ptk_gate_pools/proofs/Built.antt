-- Lists made for each section.
use Rattle.std.proofs.Common.{◌≡◌, ℕ, ◌≤◌, zero, suc, List, length, [], ◌∷◌, refl, sym}
use Rattle.std.specs.Prelude.{Option, None}
use Rattle.std.proofs.lemmas.List.{length-map, length-replicate}
use Rattle.ptk_words.specs.declared.sections.Limits.{Limits}
use Rattle.ptk_words.specs.Parts.{part_of}
use Rattle.ptk_words_model.specs.State.{Console, Mutex}
use Rattle.ptk_words_model.specs.Priority.{effective_priorities}
use Rattle.ptk_threads.specs.Table.{ThreadTable}
use Rattle.ptk_cond.proofs.Ready.{effective_blank}
use Rattle.ptk_gate_pools.specs.Blank.{blank}
use Rattle.ptk_gate_pools.specs.Kept.{AreParts, AreStored, per_section}

blank_row : (limits : List Limits) (p : ℕ) → part_of (per_section (λ l. l.threads) 0 limits) p ≡ effective_priorities (part_of (per_section (λ l. l.threads) None limits) p) (part_of (per_section (λ l. l.mutexes) None limits) p)
blank_row [] p = refl
blank_row (l ∷ ls) zero = sym (effective_blank l.threads l.mutexes)
blank_row (l ∷ ls) (suc p) = blank_row ls p

-- free numbers have priority 0
pub stored_blank : (limits : List Limits) → AreStored (per_section (λ l. l.threads) 0 limits) (per_section (λ l. l.threads) None limits) (per_section (λ l. l.mutexes) None limits)
stored_blank limits = record { each = λ p. blank_row limits p }

-- so with the tables that were made
pub stored_made : (table : ThreadTable) (mutexes : List (List (Option Mutex))) (limits : List Limits) → mutexes ≡ per_section (λ l. l.mutexes) None limits
    → table ≡ record { threads = per_section (λ l. l.threads) None limits; stored = per_section (λ l. l.threads) 0 limits; queues = [] } → AreStored table.stored table.threads mutexes
stored_made table mutexes limits e f = rw (e, f) (stored_blank limits)

-- every component of the pools before any image has an entry for each section
pub parts_blank : (limits : List Limits) (consoles : List Console) → length limits ≤ 8 → length consoles ≡ length limits → AreParts (length limits) (blank limits consoles)
parts_blank limits consoles few same = record {
  few = few;
  memory = length-map limits _;
  threads = length-map limits _;
  lines = length-replicate (length limits) _;
  mutexes = length-map limits _;
  conditions = length-map limits _;
  running = length-replicate (length limits) _;
  cancellations = length-map limits _;
  cleanups = length-map limits _;
  destructors = length-map limits _;
  values = length-map limits _;
  rounds = length-map limits _;
  consoles = same;
  statuses = length-replicate (length limits) _;
  lasts = length-replicate (length limits) _;
}

pub ruleset built = (stored_made, length-map, length-replicate)
