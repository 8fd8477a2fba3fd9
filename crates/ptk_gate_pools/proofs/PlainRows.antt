-- Plain steps of a thread in a row: what they leave of the pools, and that stored priorities stay the effective ones.
use Rattle.std.proofs.Common.{arith, ◌≡◌, ℕ, ◌<◌, List, length, get_or, refl, sym, ◌∙◌, ap, subst}
use Rattle.std.specs.Prelude.{Option, Some, None, IsSome, slice_set, slice_index_or}
use Rattle.std.specs.Vec.{with_item}
use Rattle.std.proofs.lemmas.List.{length-set, set-get_or, get_or_default}
use Rattle.ptk_words.specs.Processor.{Processor}
use Rattle.ptk_words.specs.declared.sections.Entry.{Entry}
use Rattle.ptk_words.specs.declared.threads.Thread.{Thread}
use Rattle.ptk_words.specs.Parts.{part_of}
use Rattle.ptk_words_model.specs.PlainSteps.{core, plain_steps}
use Rattle.ptk_gate_memory.specs.Quiet.{computed, last_after, after_row}
use Rattle.ptk_threads.specs.Table.{ThreadTable, with_changed}
use Rattle.ptk_gate_memory.specs.Rosters.{Rostered}
use Rattle.ptk_cond.proofs.Moved.{wakes}
use Rattle.ptk_gate_pools.specs.Kept.{Kept, AreStored, part_at, put_part}
use Rattle.ptk_gate_pools.specs.Pooled.{kept_of, ArePooled}
use Rattle.ptk_gate_pools.specs.declared.pools.Pools.TheInside.{Inside}
use Rattle.ptk_gate_pools.proofs.Stored.{stored_changed}

-- ---- a number in use

-- there is a thread
pub in_use : {A : Type 0} (x : Option A) → IsSome x → (a : A) × (x ≡ Some a)
in_use None e = absurd (cc e)
in_use (Some a) e = (a, refl)

-- ---- the tables after a row

-- what a row left of the memories, of the slot table, and of the last step
pub record IsRow (p t tick n : ℕ) (thread : Thread) (a : Inside) (memories : List (List ℕ)) (roster : Rostered) (last : Option Entry) : Type 0 where
  pub within : p < length a.limits.items
  pub pooled : ArePooled a
  pub of_memory : memories ≡ slice_set a.memories p (plain_steps n (core thread.cpu (part_of a.memories p))).memory
  pub of_table : roster.table ≡ with_changed p t (computed n (plain_steps n (core thread.cpu (part_of a.memories p))).cpu) a.roster.table
  pub of_lines : roster.lines ≡ a.roster.lines
  pub of_mutexes : roster.mutexes ≡ a.roster.mutexes
  pub of_conditions : roster.conditions ≡ a.roster.conditions
  pub of_last : last ≡ last_after tick t n (core thread.cpu (part_of a.memories p)) (slice_index_or a.lasts.items p None)

-- what the row's clauses say of the slot table, the memories and the last step makes a row
pub row_is : (p i t tick n : ℕ) (thread : Thread) (a : Inside) (kept : Kept) (memories : List (List ℕ)) (roster : Rostered) (old last : Option Entry) → kept_of a ≡ kept → ArePooled a → p < length kept.limits
    → memories ≡ slice_set a.memories p (plain_steps n (core thread.cpu (part_of a.memories p))).memory
    → roster.table ≡ with_changed p t (computed n (plain_steps n (core thread.cpu (part_of a.memories p))).cpu) a.roster.table → roster.lines ≡ a.roster.lines → roster.mutexes ≡ a.roster.mutexes → roster.conditions ≡ a.roster.conditions
    → last ≡ last_after tick t n (core thread.cpu (part_of a.memories p)) old → i ≡ p → old ≡ get_or a.lasts.items i old
    → IsRow p t tick n thread a memories roster last
row_is p i t tick n thread a kept memories roster old last view pooled lt moved changed lines mutexes conditions noted place before =
    let within : p < length a.limits.items = subst (λ (k : Kept). p < length k.limits) (sym view) lt in
    let in_lasts : p < length a.lasts.items = omega (arith, within, pooled.lasts) in
    let older : old ≡ slice_index_or a.lasts.items p None = before ∙ ap (λ (j : ℕ). get_or a.lasts.items j old) place ∙ get_or_default a.lasts.items p old None in_lasts in
    record {
      within = within;
      pooled = pooled;
      of_memory = moved;
      of_table = changed;
      of_lines = lines;
      of_mutexes = mutexes;
      of_conditions = conditions;
      of_last = noted ∙ ap (last_after tick t n (core thread.cpu (part_of a.memories p))) older;
    }

-- the pools with these in place of the memories, the slot table and what was lent
abbrev pub with_loans : ℕ → ℕ → Inside → List (List ℕ) → Rostered → Option Entry → Inside
with_loans p i a memories roster last =
    record a {
      memories = memories;
      roster = roster;
      lasts = with_item a.lasts i last;
    }

-- a row leaves pools: plain steps change no effective priority
pub row_pooled : (p i t tick n : ℕ) (thread : Thread) (a : Inside) (memories : List (List ℕ)) (roster : Rostered) (last : Option Entry) → IsRow p t tick n thread a memories roster last → ArePooled (with_loans p i a memories roster last)
row_pooled p i t tick n thread a memories roster last row =
    let old = row.pooled in
    let cpu : Processor = (plain_steps n (core thread.cpu (part_of a.memories p))).cpu in
    record {
      few = old.few;
      memory = ap length row.of_memory ∙ length-set a.memories p _ ∙ old.memory;
      threads = ap (λ (z : ThreadTable). length z.threads) row.of_table ∙ length-set a.roster.table.threads p _ ∙ old.threads;
      priorities = ap (λ (z : ThreadTable). length z.stored) row.of_table ∙ old.priorities;
      lines = ap length row.of_lines ∙ old.lines;
      mutexes = ap length row.of_mutexes ∙ old.mutexes;
      conditions = ap length row.of_conditions ∙ old.conditions;
      running = old.running;
      cancellations = old.cancellations;
      cleanups = old.cleanups;
      destructors = old.destructors;
      values = old.values;
      rounds = old.rounds;
      consoles = old.consoles;
      sections = old.sections;
      statuses = old.statuses;
      lasts = length-set a.lasts.items i last ∙ old.lasts;
      stored = subst (AreStored roster.table.stored roster.table.threads) (sym row.of_mutexes) (stored_changed p t (computed n cpu) a.roster.table roster.table a.roster.mutexes row.of_table (λ thread. refl) (λ thread. refl) old.stored);
      in_hand = old.in_hand;
    }

-- a row is the model's
pub row_put : (p i t tick n : ℕ) (thread : Thread) (a : Inside) (memories : List (List ℕ)) (roster : Rostered) (last : Option Entry) → i ≡ p → IsRow p t tick n thread a memories roster last
    → kept_of (with_loans p i a memories roster last) ≡ put_part p (after_row tick t n thread (part_at p (kept_of a))) (kept_of a)
row_put p i t tick n thread a memories roster last e row = rw (e, row.of_table, row.of_lines, row.of_mutexes, row.of_conditions, row.of_memory, row.of_last) (simp set-get_or)

-- ---- a thread's table after a row

pub ruleset at_thread = (wakes)
