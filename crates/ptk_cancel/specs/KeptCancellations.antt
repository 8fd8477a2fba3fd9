-- What the threads of all partitions keep of cancellation, with their cleanup handlers, and of it one thread's.
use Rattle.std.specs.Prelude.{◌≡◌, ℕ, Bool, false, ◌&&◌, ◌||◌, List, [], length, map, replicate, slice_set, Option, Some, None, unwrap_or}
use Rattle.ptk_words.specs.Names.{ThreadNumber}
use Rattle.ptk_words.specs.Pools.{numbered, pool_update}
use Rattle.ptk_words.specs.declared.sections.Limits.{Limits}
use Rattle.ptk_words.specs.declared.threads.Cleanup.{Cleanup}
use Rattle.ptk_words.specs.Parts.{part_of}
use Rattle.ptk_words_model.specs.declared.Cancellation.{Cancellation}
use Rattle.ptk_words_model.specs.State.{Part}
use Rattle.ptk_words_model.specs.Keys.{next_destructor}
use Rattle.ptk_words_model.specs.ThreadCreation.{new_cancellation}
use Rattle.ptk_words_model.specs.Unwinding.{after_routine_call, after_destructor_or_end}

-- ---- by partition

-- each partition's records of cancellation and cleanup handlers, by thread; of the handlers the last pushed is first
pub record KeptCancellations : Type 0 where
  pub cancellations : List (List Cancellation)
  pub cleanups : List (List (List Cleanup))

-- what a thread keeps of cancellation, a new thread's past the last number (XSH 2.9.5.1)
abbrev pub cancellation_at : ℕ → ThreadNumber → KeptCancellations → Cancellation
cancellation_at p t kept = unwrap_or (numbered (part_of kept.cancellations p) t) new_cancellation

-- the cleanup handlers of a thread, none past the last number (pthread_cleanup_push)
abbrev pub cleanups_at : ℕ → ThreadNumber → KeptCancellations → List Cleanup
cleanups_at p t kept = unwrap_or (numbered (part_of kept.cleanups p) t) []

-- what one thread keeps of cancellation changed by f
abbrev pub with_cancellation_at : ℕ → ThreadNumber → (Cancellation → Cancellation) → KeptCancellations → KeptCancellations
with_cancellation_at p t f kept = record kept { cancellations = slice_set kept.cancellations p (pool_update (part_of kept.cancellations p) t f) }

-- the cleanup handlers of one thread changed by f
abbrev pub with_cleanups_at : ℕ → ThreadNumber → (List Cleanup → List Cleanup) → KeptCancellations → KeptCancellations
with_cleanups_at p t f kept = record kept { cleanups = slice_set kept.cleanups p (pool_update (part_of kept.cleanups p) t f) }

-- every thread ENABLE and DEFERRED, nothing pending, no handler (pthread_setcancelstate)
abbrev pub fresh_cancellations : List Limits → KeptCancellations
fresh_cancellations limits =
    record {
      cancellations = map (λ l. replicate l.threads new_cancellation) limits;
      cleanups = map (λ l. replicate l.threads []) limits;
    }

-- ---- one thread

-- a pending request is acted on at a cancellation point (XSH 2.9.5.2)
abbrev pub is_point_acting : Cancellation → Bool
is_point_acting c = c.is_enabled && c.is_pending

-- the next step begins the unwinding: marked, or a pending request with ENABLE and ASYNCHRONOUS (XSH 2.9.5.1; own)
abbrev pub is_acting : Cancellation → Bool
is_acting c = c.is_marked || (c.is_pending && c.is_enabled && c.is_asynchronous)

-- an unwinding begins: DISABLE and DEFERRED, the mark taken, a request stays pending (XSH 2.9.5.3)
abbrev pub disabled : Cancellation → Cancellation
disabled c = record c { is_enabled = false; is_asynchronous = false; is_marked = false }

-- the next move of an unwinding thread: the handler that was taken off is called, the others stay; without one the next destructor is called, or the thread ends (XSH 2.9.5.3)
abbrev pub after_next_unwind : ThreadNumber → Option Cleanup → List (List Cleanup) → Part → Part
after_next_unwind t (Some cleanup) left s = after_routine_call t cleanup.routine cleanup.argument (record s { cleanups = left })
after_next_unwind t None left s = after_destructor_or_end t (next_destructor s.keys t) s

-- ---- what the crate keeps

-- both components have an entry for each partition (own)
abbrev pub AreKept : List (List Cancellation) → List (List (List Cleanup)) → Type 0
AreKept cancellations cleanups = length cleanups ≡ length cancellations
