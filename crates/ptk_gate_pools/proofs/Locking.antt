-- What the moves on mutexes need of the pools, and that they leave stored priorities the effective ones.
use Rattle.std.proofs.Common.{arith, ◌≡◌, ◌≢◌, ℕ, ◌<◌, List, length, sym, ◌∙◌, ap, ◌⊎◌, inl, inr, subst}
use Rattle.std.specs.Prelude.{Option}
use Rattle.std.proofs.Math.ListN.{set}
use Rattle.std.proofs.lemmas.Bool.{cases_eq}
use Rattle.ptk_words.specs.declared.threads.Thread.{Thread}
use Rattle.ptk_words.specs.Parts.{part_of}
use Rattle.ptk_words_model.specs.State.{Mutex, Locks}
use Rattle.ptk_words_model.specs.Priority.{effective_priorities}
use Rattle.ptk_threads.specs.Table.{ThreadTable}
use Rattle.ptk_threads.proofs.Pools.{part_of-set, part_of-set_other}
use Rattle.ptk_cond.specs.LockTables.{locks_by, with_threads, AreLocked, AreReadyBy}
use Rattle.ptk_gate_pools.specs.Kept.{AreStored}

-- each table has the partition, mutexes are used as they should be, and stored priorities are the effective ones
pub ready_is : (p n : ℕ) (table : ThreadTable) (lines : List (List ℕ)) (mutexes : List (List (Option Mutex))) → p < n → length table.threads ≡ n → length table.stored ≡ n → length lines ≡ n → length mutexes ≡ n
    → AreStored table.stored table.threads mutexes → AreLocked (locks_by p table lines mutexes) → AreReadyBy p table lines mutexes
ready_is p n table lines mutexes lt threads stored line pool are locked = record {
  part = record { of_threads = omega arith; of_stored = omega arith; of_lines = omega arith; of_mutexes = omega arith };
  locked = locked;
  stored = are.each p;
}

moved_row : (p q : ℕ) (locks : Locks) (table : ThreadTable) (mutexes : List (List (Option Mutex))) → p < length table.threads → p < length table.stored → p < length mutexes → AreStored table.stored table.threads mutexes
    → (q ≡ p) ⊎ (q ≢ p) → part_of (set table.stored p (effective_priorities locks.threads locks.mutexes)) q ≡ effective_priorities (part_of (set table.threads p locks.threads) q) (part_of (set mutexes p locks.mutexes) q)
moved_row p q locks table mutexes in_threads in_stored in_mutexes are (inl e) =
    subst (λ (i : ℕ). part_of (set table.stored p (effective_priorities locks.threads locks.mutexes)) i ≡ effective_priorities (part_of (set table.threads p locks.threads) i) (part_of (set mutexes p locks.mutexes) i)) (sym e)
    (part_of-set table.stored p (effective_priorities locks.threads locks.mutexes) in_stored
    ∙ ap (λ (row : List (Option Thread)). effective_priorities row locks.mutexes) (sym (part_of-set table.threads p locks.threads in_threads))
    ∙ ap (effective_priorities (part_of (set table.threads p locks.threads) p)) (sym (part_of-set mutexes p locks.mutexes in_mutexes)))
moved_row p q locks table mutexes in_threads in_stored in_mutexes are (inr ne) =
    part_of-set_other table.stored p q (effective_priorities locks.threads locks.mutexes) ne ∙ are.each q
    ∙ ap (λ (row : List (Option Thread)). effective_priorities row (part_of mutexes q)) (sym (part_of-set_other table.threads p q locks.threads ne))
    ∙ ap (effective_priorities (part_of (set table.threads p locks.threads) q)) (sym (part_of-set_other mutexes p q locks.mutexes ne))

-- one partition's threads and mutexes are these, with the effective priorities stored
pub stored_moved : (p n : ℕ) (locks : Locks) (table new : ThreadTable) (mutexes others : List (List (Option Mutex))) → new ≡ with_threads p locks table → others ≡ set mutexes p locks.mutexes
    → p < n → length table.threads ≡ n → length table.stored ≡ n → length mutexes ≡ n → AreStored table.stored table.threads mutexes → AreStored new.stored new.threads others
stored_moved p n locks table new mutexes others e f lt threads stored pool are =
    rw (e, f) (record { each = λ q. moved_row p q locks table mutexes (omega arith) (omega arith) (omega arith) are (cases_eq q p) })

pub ruleset moved = (ready_is, stored_moved)
