-- What the calls need of the tables, and what the tables are after a move of one partition.
use Rattle.std.proofs.Common.{◌≡◌, ℕ, ◌-◌, List, refl, sym, ◌∙◌, ap, false}
use Rattle.std.specs.Prelude.{IsSome, Option, Some, None, option_map, option_and_then, option_to_list}
use Rattle.std.proofs.lemmas.List.{length-set, set-set, set-get_or}
use Rattle.ptk_words.specs.Pools.{pool_get, pool_set, first_of_greatest}
use Rattle.ptk_words.proofs.Pools.{changed_own, changed_twice}
use Rattle.ptk_words_model.specs.State.{Mutex, Locks}
use Rattle.ptk_words_model.specs.Priority.{effective_priority}
use Rattle.ptk_words_model.specs.Mutex.{waiters_of, soundness_of, free_move, move_reply, kept_reply, handed, heir, owns, after_mutex_end}
use Rattle.ptk_words.specs.Parts.{part_of}
use Rattle.ptk_threads.specs.Table.{ThreadTable, stored_of}
use Rattle.ptk_threads.proofs.Pools.{part_of-set}
use Rattle.ptk_roster.specs.declared.slot.Change.TheVariants.{Mark}
use Rattle.ptk_roster.specs.Changes.{mutex_changed}
use Rattle.ptk_words.specs.declared.threads.Thread.{Thread}
use Rattle.ptk_words.specs.declared.mutexes.Soundness.TheVariants.{Inconsistent}
use Rattle.ptk_words_model.specs.declared.LockMove.{LockMove}
use Rattle.ptk_words_model.specs.declared.LockMove.TheVariants.{Recovers}
use Rattle.ptk_words_model.specs.Schedule.{woken_with}
use Rattle.ptk_threads.specs.LinkChanges.{few_of}
use Rattle.ptk_threads.specs.declared.thread_list.Members.{Members}
use Rattle.ptk_threads.specs.declared.thread_list.Members.TheVariants.{NoMember, OnlyMember}
use Rattle.ptk_words.proofs.Cuts.{set_part-same}
use Rattle.ptk_mutex.specs.Tables.{with_threads, MayGet, locks_by, HasPartBy, AreReadyBy}
use Rattle.ptk_mutex.proofs.Locked.{none_first, only_first, stored_heir, heir_may_get}

-- the tables have the partition
pub has_part : (p : ℕ) (table : ThreadTable) (lines : List (List ℕ)) (mutexes : List (List (Option Mutex))) → AreReadyBy p table lines mutexes → HasPartBy p table lines mutexes
has_part p table lines mutexes ready = ready.part

-- ---- a thread woken

handed_entry : (made : LockMove) (x : Option Thread) → option_map (woken_with (option_to_list (move_reply made (kept_reply (option_and_then (λ (thread : Thread). thread.wait) x))))) x ≡ option_map (handed made) x
handed_entry made None = refl
handed_entry made (Some thread) = refl

-- a waiter that leaves is told what its wait kept
pub handed-is : (t : ℕ) (made : LockMove) (row : List (Option Thread)) → pool_set row t (option_map (woken_with (option_to_list (move_reply made (kept_reply (option_and_then (λ (thread : Thread). thread.wait) (pool_get row t)))))) (pool_get row t)) ≡ pool_set row t (option_map (handed made) (pool_get row t))
handed-is t made row = ap (pool_set row t) (handed_entry made (pool_get row t))

-- ---- the choice

-- the first waiter of the greatest stored priority is the heir
pub choice-is : (p m : ℕ) (o : Option ℕ) (table : ThreadTable) (lines : List (List ℕ)) (mutexes : List (List (Option Mutex))) → AreReadyBy p table lines mutexes → o ≡ first_of_greatest (stored_of (part_of table.stored p)) (waiters_of (pool_get (part_of mutexes p) m)) → o ≡ heir m (locks_by p table lines mutexes)
choice-is p m o table lines mutexes ready e = e ∙ stored_heir m (locks_by p table lines mutexes) (part_of table.stored p) ready.locked ready.stored

-- and may get the mutex
pub choice_may : (p m : ℕ) (o : Option ℕ) (table : ThreadTable) (lines : List (List ℕ)) (mutexes : List (List (Option Mutex))) → AreReadyBy p table lines mutexes → o ≡ first_of_greatest (stored_of (part_of table.stored p)) (waiters_of (pool_get (part_of mutexes p) m)) → MayGet o (locks_by p table lines mutexes) m
choice_may p m o table lines mutexes ready e = heir_may_get m (locks_by p table lines mutexes) o ready.locked (choice-is p m o table lines mutexes ready e)

-- without waiters there is no heir
pub nobody-is : (p m : ℕ) (few : Members) (table : ThreadTable) (lines : List (List ℕ)) (mutexes : List (List (Option Mutex))) → few ≡ few_of (waiters_of (pool_get (part_of mutexes p) m)) → few ≡ NoMember → None ≡ heir m (locks_by p table lines mutexes)
nobody-is p m few table lines mutexes e none = none_first (effective_priority (locks_by p table lines mutexes)) (waiters_of (pool_get (part_of mutexes p) m)) (sym e ∙ none)

-- the only waiter is the heir
pub sole-is : (p m t : ℕ) (few : Members) (table : ThreadTable) (lines : List (List ℕ)) (mutexes : List (List (Option Mutex))) → few ≡ few_of (waiters_of (pool_get (part_of mutexes p) m)) → few ≡ OnlyMember t → Some t ≡ heir m (locks_by p table lines mutexes)
sole-is p m t few table lines mutexes e some = only_first (effective_priority (locks_by p table lines mutexes)) (waiters_of (pool_get (part_of mutexes p) m)) t (sym e ∙ some)

-- and may get the mutex
pub sole_may : (p m t : ℕ) (few : Members) (table : ThreadTable) (lines : List (List ℕ)) (mutexes : List (List (Option Mutex))) → AreReadyBy p table lines mutexes → few ≡ few_of (waiters_of (pool_get (part_of mutexes p) m)) → few ≡ OnlyMember t → MayGet (Some t) (locks_by p table lines mutexes) m
sole_may p m t few table lines mutexes ready e some = heir_may_get m (locks_by p table lines mutexes) (Some t) ready.locked (sole-is p m t few table lines mutexes e some)

pub ruleset choices = (choice-is, choice_may, nobody-is, sole-is, sole_may, has_part)

-- ---- the end of an owner

pub end-other : (t m : ℕ) (x : Option Mutex) (locks : Locks) → owns t x ≡ false → after_mutex_end t x m locks ≡ locks
end-other t m None locks e = refl
end-other t m (Some x) locks e = rw e refl

-- a mutex that a dead owner left is taken with notice
pub left_recovers : (x : Option Mutex) → IsSome x → Recovers ≡ free_move (soundness_of (option_map (mutex_changed (Mark Inconsistent)) x))
left_recovers None used = let no : ⊥ = cc in absurd no
left_recovers (Some x) used = refl

-- nothing moved
pub stays : (p : ℕ) (table : ThreadTable) (lines : List (List ℕ)) (mutexes : List (List (Option Mutex))) → AreReadyBy p table lines mutexes → with_threads p (locks_by p table lines mutexes) table ≡ table
stays p table lines mutexes ready = rw (← ready.stored, set_part-same, set_part-same) refl

pub ruleset ends = (end-other, stays, set_part-same)

pub ruleset wakes = (handed-is, changed_own, changed_twice, part_of-set, set-set, set-get_or, length-set)
