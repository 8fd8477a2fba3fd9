-- Kept deadlines stay those of the threads' waits where threads change.
use Rattle.std.proofs.Common.{◌≡◌, ℕ, zero, suc, List, [], ◌∷◌, map, refl, sym, ◌∙◌, ap, replicate, All, ◌≤◌}
use Rattle.std.specs.Prelude.{Option, Some, None, IsSome, IfSome, option_map, slice_get, slice_set}
use Rattle.std.specs.Option.{option_flatten}
use Rattle.std.proofs.Math.ListN.{set}
use Rattle.std.proofs.lemmas.List.{map-set, set-get_or}
use Rattle.ptk_words.specs.Pools.{pool_get, pool_set, pool_changed}
use Rattle.ptk_words.specs.declared.threads.Thread.{Thread}
use Rattle.ptk_words.specs.Threads.{deadline_of_wait}
use Rattle.ptk_words.proofs.Pools.{length-pool_set}
use Rattle.ptk_words.specs.Parts.{part_of, filled}
use Rattle.ptk_words.proofs.Entries.{own_row}
use Rattle.ptk_clock.specs.State.{locks_of}
use Rattle.ptk_clock.specs.Mutex.{wait_of}
use Rattle.ptk_clock.proofs.WaitDeadlines.{deadline_at, deadlines-kept, changed_deadline}
use Rattle.ptk_threads.specs.declared.change.DeadlineChange.{DeadlineChange}
use Rattle.ptk_threads.specs.declared.change.DeadlineChange.TheVariants.{Stays, Becomes}
use Rattle.ptk_threads.specs.Table.{IsTable, replaced_by}
use Rattle.ptk_threads.specs.Timed.{AreTimed, IsKept, TellsDeadline, deadlines_in, with_deadline}
use Rattle.ptk_threads.proofs.Slots.{table_threads, table_filled}

-- ---- one partition's deadlines

row_of : (threads : List (List (Option Thread))) (p : ℕ) → part_of (map deadlines_in threads) p ≡ deadlines_in (part_of threads p)
row_of [] p = refl
row_of (row ∷ threads) zero = refl
row_of (row ∷ threads) (suc p) = row_of threads p

-- a partition's kept deadlines
pub timed_row : (p : ℕ) (deadlines : List (List (Option ℕ))) (threads : List (List (Option Thread))) → AreTimed deadlines threads → part_of deadlines p ≡ deadlines_in (part_of threads p)
timed_row p deadlines threads timed = ap (λ (rows : List (List (Option ℕ))). part_of rows p) timed.all ∙ row_of threads p

-- a partition's threads are these, and its deadlines those of their waits
timed_put : (p : ℕ) (row : List (Option Thread)) (kept : List (Option ℕ)) (deadlines : List (List (Option ℕ))) (threads : List (List (Option Thread))) → kept ≡ deadlines_in row → AreTimed deadlines threads
    → AreTimed (set deadlines p kept) (set threads p row)
timed_put p row kept deadlines threads e timed = record {
  all = ap (set deadlines p) e ∙ ap (λ (rows : List (List (Option ℕ))). set rows p (deadlines_in row)) timed.all ∙ sym (map-set deadlines_in threads p row);
}

-- a partition's threads are these, whose waits have the same deadlines
timed_same : (p : ℕ) (row : List (Option Thread)) (deadlines : List (List (Option ℕ))) (threads : List (List (Option Thread))) → deadlines_in row ≡ deadlines_in (part_of threads p) → AreTimed deadlines threads → AreTimed deadlines (set threads p row)
timed_same p row deadlines threads e timed = record {
  all = sym (set-get_or deadlines p []) ∙ (timed_put p row (part_of deadlines p) deadlines threads (timed_row p deadlines threads timed ∙ sym e) timed).all;
}

-- ---- a thread changed whose wait stays, or its deadline

timed_kept : (p k : ℕ) (f : Thread → Thread) (deadlines : List (List (Option ℕ))) (threads : List (List (Option Thread))) → wait_of (option_map f (pool_get (part_of threads p) k)) ≡ wait_of (pool_get (part_of threads p) k)
    → AreTimed deadlines threads → AreTimed deadlines (set threads p (pool_changed k f (part_of threads p)))
timed_kept p k f deadlines threads same timed =
    timed_same p (pool_changed k f (part_of threads p)) deadlines threads (deadlines-kept k f (locks_of (part_of threads p) []) same) timed

waits_kept : (f : Thread → Thread) (x : Option Thread) → ((thread : Thread) → (f thread).wait ≡ thread.wait) → wait_of (option_map f x) ≡ wait_of x
waits_kept f None keeps = refl
waits_kept f (Some thread) keeps = keeps thread

waits_made : (made : Thread) (x : Option Thread) → IfSome x (λ thread. made.wait ≡ thread.wait) → wait_of (option_map (replaced_by made) x) ≡ wait_of x
waits_made made None h = refl
waits_made made (Some thread) h = h

-- ---- a number whose deadline is made that of its wait

follow_at : (i : ℕ) (x : Option Thread) (row : List (Option Thread)) → slice_set (deadlines_in row) i (deadline_at (option_flatten (slice_get (slice_set row i x) i))) ≡ deadlines_in (slice_set row i x)
follow_at i x [] = refl
follow_at zero x (y ∷ row) = refl
follow_at (suc i) x (y ∷ row) = ap (λ (rest : List (Option ℕ)). deadline_at y ∷ rest) (follow_at i x row)

follow : (k : ℕ) (x : Option Thread) (row : List (Option Thread)) → pool_set (deadlines_in row) k (deadline_at (pool_get (pool_set row k x) k)) ≡ deadlines_in (pool_set row k x)
follow zero x row = refl
follow (suc i) x row = follow_at i x row

-- a number becomes this, and its deadline is that of its wait
timed_read : (p k : ℕ) (x : Option Thread) (deadlines after : List (List (Option ℕ))) (threads new : List (List (Option Thread))) → new ≡ set threads p (pool_set (part_of threads p) k x)
    → after ≡ set deadlines p (pool_set (part_of deadlines p) k (deadline_at (pool_get (part_of new p) k))) → AreTimed deadlines threads → AreTimed after new
timed_read p k x deadlines after threads new e f timed =
    let row : List (Option Thread) = part_of threads p in
    let read : pool_get (part_of new p) k ≡ pool_get (pool_set row k x) k = ap (λ (rows : List (List (Option Thread))). pool_get (part_of rows p) k) e ∙ ap (λ (own : List (Option Thread)). pool_get own k) (own_row threads p k x) in
    record {
      all = f ∙ ap (λ (o : Option Thread). set deadlines p (pool_set (part_of deadlines p) k (deadline_at o))) read
          ∙ ap (λ (kept : List (Option ℕ)). set deadlines p (pool_set kept k (deadline_at (pool_get (pool_set row k x) k)))) (timed_row p deadlines threads timed)
          ∙ ap (set deadlines p) (follow k x row) ∙ (timed_put p (pool_set row k x) (deadlines_in (pool_set row k x)) deadlines threads refl timed).all ∙ ap (map deadlines_in) (sym e);
    }

-- ---- what always holds

table_set : (p k : ℕ) (x : Option Thread) (threads : List (List (Option Thread))) (stored : List (List ℕ)) → IsTable threads stored → IsTable (set threads p (pool_set (part_of threads p) k x)) stored
table_set p k x threads stored table = table_threads threads stored p (pool_set (part_of threads p) k x) table (length-pool_set (part_of threads p) k x)

-- an entry was written, and its deadline is that of its wait
pub kept_put : (p k : ℕ) (x : Option Thread) (threads new : List (List (Option Thread))) (stored : List (List ℕ)) (deadlines after : List (List (Option ℕ))) → new ≡ set threads p (pool_set (part_of threads p) k x)
    → after ≡ set deadlines p (pool_set (part_of deadlines p) k (deadline_at (pool_get (part_of new p) k))) → IsKept threads stored deadlines → IsKept new stored after
kept_put p k x threads new stored deadlines after e f kept = record {
  table = rw e (table_set p k x threads stored kept.table);
  timed = timed_read p k x deadlines after threads new e f kept.timed;
}

waits_for : (f : Thread → Thread) (deadline : Option ℕ) (slot : Option Thread) → IsSome slot → ((thread : Thread) → deadline_of_wait (f thread).wait ≡ deadline) → deadline_at (option_map f slot) ≡ deadline
waits_for f deadline None used waits = absurd (cc)
waits_for f deadline (Some thread) used waits = waits thread

-- a thread was changed, and its deadline is that of its wait
kept_set : (p k : ℕ) (f : Thread → Thread) (deadline : Option ℕ) (threads new : List (List (Option Thread))) (stored : List (List ℕ)) (deadlines after : List (List (Option ℕ))) → new ≡ set threads p (pool_changed k f (part_of threads p))
    → after ≡ set deadlines p (pool_set (part_of deadlines p) k deadline) → deadline_at (option_map f (pool_get (part_of threads p) k)) ≡ deadline → IsKept threads stored deadlines → IsKept new stored after
kept_set p k f deadline threads new stored deadlines after e g own kept =
    let row : List (Option Thread) = part_of threads p in
    let made : pool_set (part_of deadlines p) k deadline ≡ deadlines_in (pool_changed k f row) =
    ap (λ (ds : List (Option ℕ)). pool_set ds k deadline) (timed_row p deadlines threads kept.timed) ∙ sym (changed_deadline k f deadline row own) in
    rw (e, g) (record {
      table = table_set p k (option_map f (pool_get row k)) threads stored kept.table;
      timed = timed_put p (pool_changed k f row) (pool_set (part_of deadlines p) k deadline) deadlines threads made kept.timed;
    })

-- a thread was changed, and its wait stays
kept_stays : (p k : ℕ) (f : Thread → Thread) (threads new : List (List (Option Thread))) (stored : List (List ℕ)) (deadlines : List (List (Option ℕ))) → new ≡ set threads p (pool_changed k f (part_of threads p))
    → ((thread : Thread) → (f thread).wait ≡ thread.wait) → IsKept threads stored deadlines → IsKept new stored deadlines
kept_stays p k f threads new stored deadlines e keeps kept = rw e (record {
  table = table_set p k (option_map f (pool_get (part_of threads p) k)) threads stored kept.table;
  timed = timed_kept p k f deadlines threads (waits_kept f (pool_get (part_of threads p) k) keeps) kept.timed;
})

-- a thread in use was changed, and the deadline that is kept for it followed
pub kept_changed : (change : DeadlineChange) (p k : ℕ) (f : Thread → Thread) (threads new : List (List (Option Thread))) (stored : List (List ℕ)) (deadlines after : List (List (Option ℕ))) → TellsDeadline change f → new ≡ set threads p (pool_changed k f (part_of threads p))
    → after ≡ with_deadline p k change deadlines → IsSome (pool_get (part_of threads p) k) → IsKept threads stored deadlines → IsKept new stored after
kept_changed Stays p k f threads new stored deadlines after tells e g used kept = rw g (kept_stays p k f threads new stored deadlines e tells kept)
kept_changed (Becomes deadline) p k f threads new stored deadlines after tells e g used kept =
    kept_set p k f deadline threads new stored deadlines after e g (waits_for f deadline (pool_get (part_of threads p) k) used tells) kept

-- work was done on a thread, which left its wait
pub kept_work : (p k : ℕ) (made : Thread) (threads new : List (List (Option Thread))) (stored : List (List ℕ)) (deadlines : List (List (Option ℕ))) → new ≡ set threads p (pool_changed k (replaced_by made) (part_of threads p))
    → IfSome (pool_get (part_of threads p) k) (λ thread. made.wait ≡ thread.wait) → IsKept threads stored deadlines → IsKept new stored deadlines
kept_work p k made threads new stored deadlines e same kept = rw e (record {
  table = table_set p k (option_map (replaced_by made) (pool_get (part_of threads p) k)) threads stored kept.table;
  timed = timed_kept p k (replaced_by made) deadlines threads (waits_made made (pool_get (part_of threads p) k) same) kept.timed;
})

pub if_some : {A : Type 0} (x : Option A) (P Q : A → Type 0) → ((a : A) → P a → Q a) → IfSome x P → IfSome x Q
if_some None P Q f h = h
if_some (Some a) P Q f h = f a h

-- ---- a table of free slots

free_row : (n : ℕ) (without : Option ℕ) (slot : Option Thread) → without ≡ deadline_at slot → replicate n without ≡ deadlines_in (replicate n slot)
free_row zero without slot e = refl
free_row (suc n) without slot e = ap (λ (d : Option ℕ). d ∷ replicate n without) e ∙ ap (λ (rest : List (Option ℕ)). deadline_at slot ∷ rest) (free_row n without slot e)

free_rows : (counts : List ℕ) (without : Option ℕ) (slot : Option Thread) → without ≡ deadline_at slot → map (filled without) counts ≡ map deadlines_in (map (filled slot) counts)
free_rows [] without slot e = refl
free_rows (n ∷ ns) without slot e =
    ap (λ (row : List (Option ℕ)). row ∷ map (filled without) ns) (free_row n without slot e) ∙ ap (λ (rest : List (List (Option ℕ))). deadlines_in (replicate n slot) ∷ rest) (free_rows ns without slot e)

-- no free number has a deadline
pub kept_filled : (threads : List (List (Option Thread))) (stored : List (List ℕ)) (deadlines : List (List (Option ℕ))) (slot : Option Thread) (without : Option ℕ) (n : ℕ) (counts : List ℕ) → without ≡ deadline_at slot → All (λ count. count ≤ 32) counts
    → threads ≡ map (filled slot) counts → stored ≡ map (filled n) counts → deadlines ≡ map (filled without) counts → IsKept threads stored deadlines
kept_filled threads stored deadlines slot without n counts free small e f g = record {
  table = table_filled threads stored slot n counts small e f;
  timed = record { all = g ∙ free_rows counts without slot free ∙ ap (map deadlines_in) (sym e) };
}
