-- Priorities raised: of one thread, along a chain, and by the ceilings of PROTECT mutexes.
use Rattle.std.specs.Prelude.{ℕ, zero, suc, List, map, fold, max, length, nat_le, Option, Some, None, option_map, unwrap_or, slice_index, slice_set, if◌then◌else◌}
use Rattle.ptk_words.specs.Names.{ThreadNumber, Priority}
use Rattle.ptk_words.specs.Pools.{numbers_to}
use Rattle.ptk_words.specs.declared.mutexes.Protocol.{Protocol}
use Rattle.ptk_words.specs.declared.mutexes.Protocol.TheVariants.{NoProtocol, Inherit, Protect}
use Rattle.ptk_words.specs.declared.mutexes.Owner.{Owner}
use Rattle.ptk_words.specs.declared.mutexes.Owner.TheVariants.{Free, Abandoned, OwnedBy}
use Rattle.ptk_words_model.specs.State.{Mutex}
use Rattle.ptk_words_model.specs.Priority.{ceiling_for}
use Rattle.ptk_threads.specs.Table.{stored_of}

-- number t has at least this priority (pthread_mutexattr_getprotocol)
abbrev pub raised : ℕ → ℕ → List ℕ → List ℕ
raised priority zero stored = stored
raised priority (suc i) stored = slice_set stored i (max (slice_index stored i) priority)

-- u and the numbers that at most this many steps of its chain lead to have at least this priority, up to the first that had it before (pthread_mutexattr_getprotocol)
abbrev pub risen : (ℕ → Option ℕ) → ℕ → ℕ → ℕ → List ℕ → List ℕ
risen next priority zero u stored = raised priority u stored
risen next priority (suc fuel) u stored =
    if nat_le priority (stored_of stored u)
    then stored
    else unwrap_or (option_map (λ v. risen next priority fuel v (raised priority u stored)) (next u)) (raised priority u stored)

-- the owner of a PROTECT mutex, where it is a thread, and the ceiling that it has (pthread_mutexattr_getprotocol)
abbrev pub protected : Protocol → Owner → Option (ThreadNumber × Priority)
protected NoProtocol owner = None
protected Inherit owner = None
protected (Protect ceiling) Free = None
protected (Protect ceiling) Abandoned = None
protected (Protect ceiling) (OwnedBy u) = Some (u, ceiling)

-- the owner of a PROTECT mutex of the pool, where it is a thread, and the ceiling that it has (pthread_mutexattr_getprotocol)
abbrev pub protected_at : Option Mutex → Option (ThreadNumber × Priority)
protected_at None = None
protected_at (Some m) = protected m.protocol m.owner

-- each thread has at least the ceilings of the PROTECT mutexes that it owns (pthread_mutexattr_getprotocol)
abbrev pub with_ceilings : List (Option Mutex) → List Priority → List Priority
with_ceilings mutexes stored = map (λ t. fold (λ most m. max most (ceiling_for t m)) (stored_of stored t) mutexes) (numbers_to (length stored))
