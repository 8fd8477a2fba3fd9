-- A mutex as its slot keeps it, and its waiters, which the slot does not keep.
use Rattle.std.specs.Prelude.{Bool, false, ◌≡◌, ℕ, List, [], Option, Some, None, option_map, refl}
use Rattle.ptk_words_model.specs.State.{Mutex}
use Rattle.ptk_roster.specs.declared.slot.MutexState.{MutexState}

-- the mutex of this state and these waiters (own)
abbrev pub mutex_with : List ℕ → MutexState → Mutex
mutex_with waiters state =
    record {
      kind = state.kind;
      protocol = state.protocol;
      is_robust = state.is_robust;
      soundness = state.soundness;
      owner = state.owner;
      count = state.count;
      waiters = waiters;
    }

-- what a mutex is, but for its waiters (own)
abbrev pub state_of : Mutex → MutexState
state_of m =
    record {
      kind = m.kind;
      protocol = m.protocol;
      is_robust = m.is_robust;
      soundness = m.soundness;
      owner = m.owner;
      count = m.count;
    }

-- the state of a mutex made of a state is that state
pub state_of-bare : (state : Option MutexState) → option_map state_of (option_map (mutex_with []) state) ≡ state
state_of-bare None = refl
state_of-bare (Some state) = refl

-- the mutex with these waiters in place of its own (own)
abbrev pub with_waiters : List ℕ → Option Mutex → Option Mutex
with_waiters waiters None = None
with_waiters waiters (Some m) = Some (record m { waiters = waiters })

-- the mutex without its waiters (own)
abbrev pub bare : Option Mutex → Option Mutex
bare x = with_waiters [] x

-- the mutex is robust (pthread_mutexattr_setrobust)
abbrev pub is_robust_at : Option Mutex → Bool
is_robust_at None = false
is_robust_at (Some m) = m.is_robust
