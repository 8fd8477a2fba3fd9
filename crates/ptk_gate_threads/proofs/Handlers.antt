-- The next move of an unwinding thread: with a handler left, and without one.
use Rattle.std.proofs.Common.{◌≡◌, ℕ, List, [], ◌∷◌, refl, sym, ◌∙◌, ap, subst}
use Rattle.std.specs.Prelude.{Option, Some, None, option_map, unwrap_or, slice_get, drop}
use Rattle.ptk_words.specs.Pools.{numbered, pool_set}
use Rattle.ptk_words.specs.declared.sections.Limits.{Limits}
use Rattle.ptk_words.specs.declared.threads.Cleanup.{Cleanup}
use Rattle.ptk_words.proofs.Lists.{empty_from_no_first}
use Rattle.ptk_words_model.specs.State.{Part, with_cleanups}
use Rattle.ptk_words_model.specs.Keys.{next_destructor}
use Rattle.ptk_words_model.specs.Unwinding.{cleanups_of, after_routine_call, after_destructor_or_end, after_unwinding_move}
use Rattle.ptk_words_invariant.specs.Well.{IsWell}
use Rattle.ptk_words_invariant.proofs.Unwindings.{none_taken}

-- ---- with a handler left

-- the handlers without the first are the others
drop_first : (t : ℕ) (cleanups : List (List Cleanup)) (o : Option (List Cleanup)) (first : Cleanup) (others : List Cleanup) → unwrap_or o [] ≡ first ∷ others
    → unwrap_or (option_map (λ own. pool_set cleanups t (drop 1 own)) o) cleanups ≡ unwrap_or (option_map (λ own. pool_set cleanups t others) o) cleanups
drop_first t cleanups None first others e = refl
drop_first t cleanups (Some own) first others e = ap (λ (own : List Cleanup). pool_set cleanups t (drop 1 own)) e

called_at : (t : ℕ) (own : List Cleanup) (cleanup : Cleanup) (s : Part) → cleanups_of s t ≡ own → slice_get own 0 ≡ Some cleanup
    → after_routine_call t cleanup.routine cleanup.argument (with_cleanups t (drop 1) s) ≡ after_unwinding_move t own s
called_at t [] cleanup s e first = absurd (let no : ⊥ = cc in no)
called_at t (found ∷ others) cleanup s e first =
    let same : found ≡ cleanup = cc in
    rw (← same) (ap (λ (cleanups : List (List Cleanup)). after_routine_call t found.routine found.argument (record s { cleanups = cleanups })) (drop_first t s.cleanups (numbered s.cleanups t) found others e))

-- the handler that is taken off is called
pub handler_called : (t : ℕ) (cleanup : Cleanup) (s : Part) → slice_get (cleanups_of s t) 0 ≡ Some cleanup
    → after_routine_call t cleanup.routine cleanup.argument (with_cleanups t (drop 1) s) ≡ after_unwinding_move t (cleanups_of s t) s
handler_called t cleanup s first = called_at t (cleanups_of s t) cleanup s refl first

-- ---- without one

-- where none is taken off, a whole state stays whole
pub none_well : (limits : Limits) (t : ℕ) (s : Part) → slice_get (cleanups_of s t) 0 ≡ None → IsWell limits s → IsWell limits (with_cleanups t (drop 1) s)
none_well limits t s none well = subst (IsWell limits) (sym (none_taken t s none)) well

-- and the next destructor is called, or the thread ends
pub none_called : (t : ℕ) (s : Part) → slice_get (cleanups_of s t) 0 ≡ None
    → after_destructor_or_end t (next_destructor s.keys t) (with_cleanups t (drop 1) s) ≡ after_unwinding_move t (cleanups_of s t) s
none_called t s none =
    ap (after_destructor_or_end t (next_destructor s.keys t)) (none_taken t s none)
    ∙ ap (λ (cleanups : List Cleanup). after_unwinding_move t cleanups s) (sym (empty_from_no_first (cleanups_of s t) none))

pub ruleset unwound = (handler_called, none_called)
