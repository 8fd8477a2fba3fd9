-- The pools with other threads, line, mutexes and condition variables of one partition: they are pools again, and the model's.
use Rattle.std.proofs.Common.{arith, ◌≡◌, ℕ, ◌<◌, List, length, sym, ◌∙◌, ap, subst}
use Rattle.std.specs.Prelude.{false, Option, None, is_some, option_and_then}
use Rattle.std.proofs.Math.ListN.{set}
use Rattle.std.proofs.lemmas.List.{length-set, set-get_or}
use Rattle.ptk_words.specs.Threads.{mutex_of_wait}
use Rattle.ptk_words.specs.declared.threads.Thread.{Thread}
use Rattle.ptk_words.specs.declared.threads.Wait.{Wait}
use Rattle.ptk_words_model.specs.State.{Condition, Locks, Mutex, Part, Syncs, with_locks, with_syncs}
use Rattle.ptk_words_model.specs.Schedule.{with_thread}
use Rattle.ptk_words_model.specs.Priority.{effective_priorities}
use Rattle.ptk_words.specs.Parts.{part_of}
use Rattle.ptk_words.proofs.Cuts.{set_part-same}
use Rattle.ptk_threads.specs.Table.{ThreadTable, thread_in, with_changed, with_slot, with_left}
use Rattle.ptk_gate_memory.specs.Rosters.{Rostered}
use Rattle.ptk_cond.specs.LockRosters.{with_priorities}
use Rattle.ptk_cond.specs.LockTables.{put_locks}
use Rattle.ptk_cond.specs.Sound.{put_syncs}
use Rattle.ptk_cond.specs.Mutexes.{Mutexes}
use Rattle.ptk_cond.proofs.Sound.{as_syncs, with_locks_of}
use Rattle.ptk_gate_pools.specs.declared.pools.Pools.TheInside.{Inside}
use Rattle.ptk_gate_pools.specs.Held.{held}
use Rattle.ptk_gate_pools.proofs.Hands.{held-put}
use Rattle.ptk_gate_pools.proofs.Opened.{parts_of}
use Rattle.ptk_gate_pools.specs.Kept.{Kept, AreStored, part_at, put_part}
use Rattle.ptk_gate_pools.specs.Pooled.{kept_of, ArePooled}
use Rattle.ptk_gate_pools.proofs.Stored.{left_long, stored_changed, stored_wait, refreshed_slot, refreshed_changed, refreshed_left}
use Rattle.ptk_gate_pools.proofs.Locking.{stored_moved}

-- the pools with these in place of their own
abbrev pub with_tables : Inside → Rostered → Mutexes → Inside
with_tables a roster mutexes = record a { roster = roster; mutexes = mutexes }

-- they are pools again
pub tables_pooled : (p : ℕ) (syncs : Syncs) (a : Inside) (roster : Rostered) (mutexes : Mutexes)
    → p < length a.limits.items → roster ≡ put_syncs p syncs a.roster → ArePooled a → ArePooled (with_tables a roster mutexes)
tables_pooled p syncs a roster mutexes within put old =
    record {
      few = old.few;
      memory = old.memory;
      threads = ap (λ (r : Rostered). length r.table.threads) put ∙ length-set a.roster.table.threads p syncs.threads ∙ old.threads;
      priorities = ap (λ (r : Rostered). length r.table.stored) put ∙ length-set a.roster.table.stored p _ ∙ old.priorities;
      lines = ap (λ (r : Rostered). length r.lines) put ∙ length-set a.roster.lines p syncs.line ∙ old.lines;
      mutexes = ap (λ (r : Rostered). length r.mutexes) put ∙ length-set a.roster.mutexes p syncs.mutexes ∙ old.mutexes;
      conditions = ap (λ (r : Rostered). length r.conditions) put ∙ length-set a.roster.conditions p syncs.conditions ∙ old.conditions;
      running = old.running;
      cancellations = old.cancellations;
      cleanups = old.cleanups;
      destructors = old.destructors;
      values = old.values;
      rounds = old.rounds;
      consoles = old.consoles;
      sections = old.sections;
      statuses = old.statuses;
      lasts = old.lasts;
      stored = stored_moved p (length a.limits.items) syncs.locks a.roster.table roster.table a.roster.mutexes roster.mutexes (ap (λ (r : Rostered). r.table) put) (ap (λ (r : Rostered). r.mutexes) put) within old.threads old.priorities old.mutexes old.stored;
      in_hand = old.in_hand;
    }

-- and the model's
pub tables_put : (p : ℕ) (syncs : Syncs) (a : Inside) (roster : Rostered) (mutexes : Mutexes)
    → roster ≡ put_syncs p syncs a.roster → kept_of (with_tables a roster mutexes) ≡ put_part p (with_syncs (λ _. syncs) (part_at p (kept_of a))) (kept_of a)
tables_put p syncs a roster mutexes put = ap (λ (r : Rostered). kept_of (with_tables a r mutexes)) put ∙ (simp set-get_or)

-- so of the part in hand
pub tables_held : (p : ℕ) (syncs : Syncs) (a : Inside) (roster : Rostered) (mutexes : Mutexes)
    → roster ≡ put_syncs p syncs a.roster → ArePooled a → p < length a.limits.items → held p (kept_of (with_tables a roster mutexes)) ≡ record (held p (kept_of a)) { here = with_syncs (λ _. syncs) (part_at p (kept_of a)) }
tables_held p syncs a roster mutexes put pooled lt =
    ap (held p) (tables_put p syncs a roster mutexes put) ∙ held-put (length a.limits.items) p (with_syncs (λ _. syncs) (part_at p (kept_of a))) (kept_of a) (parts_of a pooled) lt

-- ---- the locks of one partition

pub locks_pooled : (p : ℕ) (locks : Locks) (a : Inside) (roster : Rostered) (mutexes : Mutexes) → p < length a.limits.items → roster ≡ put_locks p locks a.roster → ArePooled a → ArePooled (with_tables a roster mutexes)
locks_pooled p locks a roster mutexes lt put old = tables_pooled p (with_locks_of p a.roster locks) a roster mutexes lt (as_syncs p a.roster roster locks put) old

pub locks_held : (p : ℕ) (locks : Locks) (a : Inside) (roster : Rostered) (mutexes : Mutexes) → roster ≡ put_locks p locks a.roster → ArePooled a → p < length a.limits.items
    → held p (kept_of (with_tables a roster mutexes)) ≡ record (held p (kept_of a)) { here = with_locks (λ _. locks) (part_at p (kept_of a)) }
locks_held p locks a roster mutexes put pooled lt = tables_held p (with_locks_of p a.roster locks) a roster mutexes (as_syncs p a.roster roster locks put) pooled lt

-- ---- one list of one partition

-- the pools whose tables have this part of the partition have it in hand
pub part_held : (p : ℕ) (s : Part) (a : Inside) (kept : Kept) → kept ≡ put_part p s (kept_of a) → ArePooled a → p < length a.limits.items → held p kept ≡ record (held p (kept_of a)) { here = s }
part_held p s a kept e pooled lt = ap (held p) e ∙ held-put (length a.limits.items) p s (kept_of a) (parts_of a pooled) lt

-- of the threads and of the line
pub rows_held : (p : ℕ) (row : List (Option Thread)) (line : List ℕ) (a : Inside) (roster : Rostered) (mutexes : Mutexes) → roster.table.threads ≡ set a.roster.table.threads p row → roster.lines ≡ set a.roster.lines p line → roster.mutexes ≡ a.roster.mutexes → roster.conditions ≡ a.roster.conditions
    → ArePooled a → p < length a.limits.items → held p (kept_of (with_tables a roster mutexes)) ≡ record (held p (kept_of a)) { here = with_locks (λ locks. record locks { threads = row; line = line }) (part_at p (kept_of a)) }
rows_held p row line a roster mutexes threads lines pool conditions pooled lt =
    part_held p (with_locks (λ locks. record locks { threads = row; line = line }) (part_at p (kept_of a))) a (kept_of (with_tables a roster mutexes))
    ((λ i. record (kept_of a) { threads = threads i; lines = lines i; mutexes = pool i; conditions = conditions i }) ∙ (simp set-get_or)) pooled lt

-- of the mutexes
pub mutexes_held : (p : ℕ) (row : List (Option Mutex)) (a : Inside) (roster : Rostered) (mutexes : Mutexes) → roster ≡ record a.roster { mutexes = set a.roster.mutexes p row }
    → ArePooled a → p < length a.limits.items → held p (kept_of (with_tables a roster mutexes)) ≡ record (held p (kept_of a)) { here = with_locks (λ locks. record locks { mutexes = row }) (part_at p (kept_of a)) }
mutexes_held p row a roster mutexes e pooled lt =
    part_held p (with_locks (λ locks. record locks { mutexes = row }) (part_at p (kept_of a))) a (kept_of (with_tables a roster mutexes))
    (ap (λ (r : Rostered). kept_of (with_tables a r mutexes)) e ∙ (simp set-get_or)) pooled lt

-- of the condition variables
pub conditions_held : (p : ℕ) (row : List (Option Condition)) (a : Inside) (roster : Rostered) → roster ≡ record a.roster { conditions = set a.roster.conditions p row }
    → ArePooled a → p < length a.limits.items → held p (kept_of (record a { roster = roster })) ≡ record (held p (kept_of a)) { here = with_syncs (λ syncs. record syncs { conditions = row }) (part_at p (kept_of a)) }
conditions_held p row a roster e pooled lt =
    part_held p (with_syncs (λ syncs. record syncs { conditions = row }) (part_at p (kept_of a))) a (kept_of (record a { roster = roster }))
    (ap (λ (r : Rostered). kept_of (record a { roster = r })) e ∙ (simp set-get_or)) pooled lt

-- pools with other mutexes are pools again
pub mutexes_pooled : (p : ℕ) (row : List (Option Mutex)) (a : Inside) (roster : Rostered) (kept : Mutexes) → roster ≡ record a.roster { mutexes = set a.roster.mutexes p row } → AreStored a.roster.table.stored a.roster.table.threads (set a.roster.mutexes p row)
    → ArePooled a → ArePooled (with_tables a roster kept)
mutexes_pooled p row a roster kept e stored old = rw e (record {
  few = old.few;
  memory = old.memory;
  threads = old.threads;
  priorities = old.priorities;
  lines = old.lines;
  mutexes = length-set a.roster.mutexes p row ∙ old.mutexes;
  conditions = old.conditions;
  running = old.running;
  cancellations = old.cancellations;
  cleanups = old.cleanups;
  destructors = old.destructors;
  values = old.values;
  rounds = old.rounds;
  consoles = old.consoles;
  sections = old.sections;
  statuses = old.statuses;
  lasts = old.lasts;
  stored = stored;
  in_hand = old.in_hand;
})

-- so with other condition variables
pub conditions_pooled : (p : ℕ) (row : List (Option Condition)) (a : Inside) (roster : Rostered) → roster ≡ record a.roster { conditions = set a.roster.conditions p row } → ArePooled a → ArePooled (record a { roster = roster })
conditions_pooled p row a roster e old = rw e (record {
  few = old.few;
  memory = old.memory;
  threads = old.threads;
  priorities = old.priorities;
  lines = old.lines;
  mutexes = old.mutexes;
  conditions = length-set a.roster.conditions p row ∙ old.conditions;
  running = old.running;
  cancellations = old.cancellations;
  cleanups = old.cleanups;
  destructors = old.destructors;
  values = old.values;
  rounds = old.rounds;
  consoles = old.consoles;
  sections = old.sections;
  statuses = old.statuses;
  lasts = old.lasts;
  stored = old.stored;
  in_hand = old.in_hand;
})

-- ---- threads alone

-- pools with other threads are pools again
pub threads_pooled : (a : Inside) (roster : Rostered) (kept : Mutexes) → length roster.table.threads ≡ length a.roster.table.threads → length roster.table.stored ≡ length a.roster.table.stored
    → length roster.lines ≡ length a.roster.lines → roster.mutexes ≡ a.roster.mutexes → roster.conditions ≡ a.roster.conditions → AreStored roster.table.stored roster.table.threads a.roster.mutexes → ArePooled a → ArePooled (record a { roster = roster; mutexes = kept })
threads_pooled a roster kept threads priorities lines mutexes conditions stored old = record {
  few = old.few;
  memory = old.memory;
  threads = threads ∙ old.threads;
  priorities = priorities ∙ old.priorities;
  lines = lines ∙ old.lines;
  mutexes = ap length mutexes ∙ old.mutexes;
  conditions = ap length conditions ∙ old.conditions;
  running = old.running;
  cancellations = old.cancellations;
  cleanups = old.cleanups;
  destructors = old.destructors;
  values = old.values;
  rounds = old.rounds;
  consoles = old.consoles;
  sections = old.sections;
  statuses = old.statuses;
  lasts = old.lasts;
  stored = subst (AreStored roster.table.stored roster.table.threads) (sym mutexes) stored;
  in_hand = old.in_hand;
}

-- the priorities of a partition are made again (own)
abbrev again_table : ℕ → ThreadTable → List (List (Option Mutex)) → ThreadTable
again_table p table mutexes = record table { stored = set table.stored p (effective_priorities (part_of table.threads p) (part_of mutexes p)) }

abbrev pub again : ℕ → Rostered → Rostered
again p mid = with_priorities p (effective_priorities (part_of mid.table.threads p) (part_of mid.mutexes p)) mid

-- of a roster with other threads alone
record IsOfThreads (a mid : Rostered) : Type 0 where
  lines : length mid.lines ≡ length a.lines
  mutexes : mid.mutexes ≡ a.mutexes
  conditions : mid.conditions ≡ a.conditions

again_pooled : (p : ℕ) (a : Inside) (mid new : Rostered) (kept : Mutexes) → new ≡ again p mid → IsOfThreads a.roster mid → length mid.table.threads ≡ length a.roster.table.threads → length mid.table.stored ≡ length a.roster.table.stored
    → (new.table ≡ again_table p mid.table a.roster.mutexes → AreStored new.table.stored new.table.threads a.roster.mutexes) → ArePooled a → ArePooled (record a { roster = new; mutexes = kept })
again_pooled p a mid new kept e same threads priorities stored old =
    let table : new.table ≡ again_table p mid.table a.roster.mutexes = ap (λ (r : Rostered). r.table) e ∙ ap (again_table p mid.table) same.mutexes in
    threads_pooled a new kept (ap (λ (r : Rostered). length r.table.threads) e ∙ threads) (ap (λ (r : Rostered). length r.table.stored) e ∙ length-set mid.table.stored p _ ∙ priorities)
    (ap (λ (r : Rostered). length r.lines) e ∙ same.lines) (ap (λ (r : Rostered). r.mutexes) e ∙ same.mutexes) (ap (λ (r : Rostered). r.conditions) e ∙ same.conditions) (stored table) old

-- with these threads and this line of a partition
pub again_rows : (p : ℕ) (row : List (Option Thread)) (line : List ℕ) (a : Inside) (mid new : Rostered) (kept : Mutexes) → mid.table.threads ≡ set a.roster.table.threads p row → mid.lines ≡ set a.roster.lines p line → mid.mutexes ≡ a.roster.mutexes → mid.conditions ≡ a.roster.conditions → new ≡ again p mid
    → ArePooled a → p < length a.limits.items → held p (kept_of (with_tables a new kept)) ≡ record (held p (kept_of a)) { here = with_locks (λ locks. record locks { threads = row; line = line }) (part_at p (kept_of a)) }
again_rows p row line a mid new kept threads lines mutexes conditions made pooled lt =
    rows_held p row line a new kept (ap (λ (r : Rostered). r.table.threads) made ∙ threads) (ap (λ (r : Rostered). r.lines) made ∙ lines) (ap (λ (r : Rostered). r.mutexes) made ∙ mutexes) (ap (λ (r : Rostered). r.conditions) made ∙ conditions) pooled lt

-- with these threads alone
pub again_held : (p : ℕ) (row : List (Option Thread)) (a : Inside) (mid new : Rostered) (kept : Mutexes) → mid.table.threads ≡ set a.roster.table.threads p row → mid.lines ≡ a.roster.lines → mid.mutexes ≡ a.roster.mutexes → mid.conditions ≡ a.roster.conditions → new ≡ again p mid
    → ArePooled a → p < length a.limits.items → held p (kept_of (with_tables a new kept)) ≡ record (held p (kept_of a)) { here = with_locks (λ locks. record locks { threads = row }) (part_at p (kept_of a)) }
again_held p row a mid new kept threads lines mutexes conditions made pooled lt =
    again_rows p row (part_of a.roster.lines p) a mid new kept threads (lines ∙ sym (set_part-same a.roster.lines p)) mutexes conditions made pooled lt

-- a thread has left what f leaves
pub left_pooled : (p k : ℕ) (f : Thread → Option Thread) (a : Inside) (mid new : Rostered) (kept : Mutexes) → p < length a.limits.items → mid.table ≡ with_left p k f a.roster.table → mid.lines ≡ a.roster.lines → mid.mutexes ≡ a.roster.mutexes → mid.conditions ≡ a.roster.conditions → new ≡ again p mid → ArePooled a
    → ArePooled (record a { roster = new; mutexes = kept })
left_pooled p k f a mid new kept lt e lines mutexes conditions made old =
    let within : p < length a.roster.table.stored = omega (arith, lt, old.priorities) in
    let rest : Option Thread = option_and_then f (thread_in a.roster.table p k) in
    again_pooled p a mid new kept made (record { lines = ap length lines; mutexes = mutexes; conditions = conditions }) (ap (λ (t : ThreadTable). length t.threads) e ∙ length-set a.roster.table.threads p _)
    (ap (λ (t : ThreadTable). length t.stored) e ∙ left_long p k rest a.roster.table.stored) (λ table. refreshed_left p k f a.roster.table mid.table new.table a.roster.mutexes e table within old.stored) old

-- an entry was written
pub slot_pooled : (p k priority : ℕ) (slot : Option Thread) (a : Inside) (mid new : Rostered) (kept : Mutexes) → p < length a.limits.items → mid.table ≡ with_slot p k slot priority a.roster.table → mid.lines ≡ a.roster.lines → mid.mutexes ≡ a.roster.mutexes → mid.conditions ≡ a.roster.conditions → new ≡ again p mid → ArePooled a
    → ArePooled (record a { roster = new; mutexes = kept })
slot_pooled p k priority slot a mid new kept lt e lines mutexes conditions made old =
    let within : p < length a.roster.table.stored = omega (arith, lt, old.priorities) in
    again_pooled p a mid new kept made (record { lines = ap length lines; mutexes = mutexes; conditions = conditions }) (ap (λ (t : ThreadTable). length t.threads) e ∙ length-set a.roster.table.threads p _)
    (ap (λ (t : ThreadTable). length t.stored) e ∙ length-set a.roster.table.stored p _) (λ table. refreshed_slot p k priority slot a.roster.table mid.table new.table a.roster.mutexes e table within old.stored) old

-- a thread was changed, its wait too, and the lines are these
abbrev changed : ℕ → ℕ → (Thread → Thread) → List (List ℕ) → Rostered → Rostered
changed p k f lines a = record a { table = with_changed p k f a.table; lines = lines }

pub wait_pooled : (p k : ℕ) (f : Thread → Thread) (lines : List (List ℕ)) (a : Inside) (mid new : Rostered) (kept : Mutexes) → p < length a.limits.items → length lines ≡ length a.roster.lines → mid ≡ changed p k f lines a.roster → new ≡ again p mid → ArePooled a
    → ArePooled (record a { roster = new; mutexes = kept })
wait_pooled p k f lines a mid new kept lt many e made old =
    let within : p < length a.roster.table.stored = omega (arith, lt, old.priorities) in
    again_pooled p a mid new kept made (record { lines = ap (λ (r : Rostered). length r.lines) e ∙ many; mutexes = ap (λ (r : Rostered). r.mutexes) e; conditions = ap (λ (r : Rostered). r.conditions) e })
    (ap (λ (r : Rostered). length r.table.threads) e ∙ length-set a.roster.table.threads p _) (ap (λ (r : Rostered). length r.table.stored) e)
    (λ table. refreshed_changed p k f a.roster.table mid.table new.table a.roster.mutexes (ap (λ (r : Rostered). r.table) e) table within old.stored) old

-- a thread was changed that keeps its assigned priority and the mutex that it waits for
pub changed_pooled : (p k : ℕ) (f : Thread → Thread) (a : Inside) (new : Rostered) → new ≡ changed p k f a.roster.lines a.roster → ((thread : Thread) → (f thread).priority ≡ thread.priority) → ((thread : Thread) → mutex_of_wait (f thread).wait ≡ mutex_of_wait thread.wait)
    → ArePooled a → ArePooled (record a { roster = new })
changed_pooled p k f a new e priority wait old =
    threads_pooled a new a.mutexes (ap (λ (r : Rostered). length r.table.threads) e ∙ length-set a.roster.table.threads p _) (ap (λ (r : Rostered). length r.table.stored) e)
    (ap (λ (r : Rostered). length r.lines) e) (ap (λ (r : Rostered). r.mutexes) e) (ap (λ (r : Rostered). r.conditions) e)
    (stored_changed p k f a.roster.table new.table a.roster.mutexes (ap (λ (r : Rostered). r.table) e) priority wait old.stored) old

pub changed_held : (p k : ℕ) (f : Thread → Thread) (a : Inside) (new : Rostered) → new ≡ changed p k f a.roster.lines a.roster → ArePooled a → p < length a.limits.items
    → held p (kept_of (record a { roster = new })) ≡ record (held p (kept_of a)) { here = with_locks (with_thread k f) (part_at p (kept_of a)) }
changed_held p k f a new e pooled lt =
    part_held p (with_locks (with_thread k f) (part_at p (kept_of a))) a (kept_of (record a { roster = new })) (ap (λ (r : Rostered). kept_of (record a { roster = r })) e ∙ (simp set-get_or)) pooled lt

-- a thread that waits for no mutex was changed and then waits for none, and the lines are these
pub kept_pooled : (p k : ℕ) (f : Thread → Thread) (lines : List (List ℕ)) (old : Option Wait) (a : Inside) (new : Rostered) (kept : Mutexes) → length lines ≡ length a.roster.lines → new ≡ changed p k f lines a.roster
    → ((thread : Thread) → (f thread).priority ≡ thread.priority) → ((thread : Thread) → mutex_of_wait (f thread).wait ≡ None) → old ≡ option_and_then (λ (thread : Thread). thread.wait) (thread_in a.roster.table p k) → is_some (mutex_of_wait old) ≡ false
    → ArePooled a → ArePooled (record a { roster = new; mutexes = kept })
kept_pooled p k f lines was a new kept many e priority wait is before old =
    threads_pooled a new kept (ap (λ (r : Rostered). length r.table.threads) e ∙ length-set a.roster.table.threads p _) (ap (λ (r : Rostered). length r.table.stored) e)
    (ap (λ (r : Rostered). length r.lines) e ∙ many) (ap (λ (r : Rostered). r.mutexes) e) (ap (λ (r : Rostered). r.conditions) e)
    (stored_wait p k f was a.roster.table new.table a.roster.mutexes (ap (λ (r : Rostered). r.table) e) priority wait is before old.stored) old
