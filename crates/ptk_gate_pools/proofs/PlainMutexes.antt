-- A mutex that is neither INHERIT nor PROTECT has another owner: no priority changes, so stored priorities stay the effective ones.
use Rattle.std.proofs.Common.{◌≡◌, ℕ, List, map, refl, sym, ◌∙◌, ap}
use Rattle.std.specs.Prelude.{false, Option, option_map}
use Rattle.std.proofs.Math.ListN.{set}
use Rattle.ptk_words.specs.Pools.{pool_get, pool_changed, numbers_of}
use Rattle.ptk_words.specs.declared.mutexes.Owner.TheVariants.{Free, OwnedBy}
use Rattle.ptk_words.specs.declared.threads.Thread.{Thread}
use Rattle.ptk_words.specs.Parts.{part_of}
use Rattle.ptk_words_model.specs.State.{Mutex, locks_of}
use Rattle.ptk_words_model.specs.Priority.{effective_of}
use Rattle.ptk_words_model.specs.Mutex.{after_take, after_free}
use Rattle.ptk_words_sync_invariant.proofs.MutexPlaces.{effective-set}
use Rattle.ptk_roster.specs.Plain.{is_raising_at}
use Rattle.ptk_roster.proofs.Plain.{plain_inherits, plain_ceiling, plain_kept}
use Rattle.ptk_gate_pools.specs.Kept.{AreStored}
use Rattle.ptk_gate_pools.proofs.Vacant.{stored_put}

-- what keeps the protocol of such a mutex changes no priority (pthread_mutexattr_getprotocol)
pub effective-plain : (m : ℕ) (f : Mutex → Mutex) (threads : List (Option Thread)) (mutexes : List (Option Mutex)) → ((mutex : Mutex) → (f mutex).protocol ≡ mutex.protocol) → is_raising_at (pool_get mutexes m) ≡ false
    → effective_of threads (pool_changed m f mutexes) ≡ effective_of threads mutexes
effective-plain m f threads mutexes same plain =
    let old : Option Mutex = pool_get mutexes m in
    let new : Option Mutex = option_map f old in
    let kept : is_raising_at new ≡ false = plain_kept f old same plain in
    effective-set m new threads mutexes (plain_inherits new kept ∙ sym (plain_inherits old plain)) (λ u. plain_ceiling u new kept ∙ sym (plain_ceiling u old plain))

stored_plain : (p m : ℕ) (f : Mutex → Mutex) (stored : List (List ℕ)) (threads : List (List (Option Thread))) (mutexes new : List (List (Option Mutex))) → ((mutex : Mutex) → (f mutex).protocol ≡ mutex.protocol)
    → is_raising_at (pool_get (part_of mutexes p) m) ≡ false → new ≡ set mutexes p (pool_changed m f (part_of mutexes p)) → AreStored stored threads mutexes → AreStored stored threads new
stored_plain p m f stored threads mutexes new same plain e are =
    stored_put p m (option_map f (pool_get (part_of mutexes p) m)) stored threads mutexes new
    (ap (λ (rank : ℕ → ℕ). map rank (numbers_of (part_of threads p))) (effective-plain m f (part_of threads p) (part_of mutexes p) same plain)) e are

-- a thread takes it
pub stored_taken : (p t m : ℕ) (stored : List (List ℕ)) (threads : List (List (Option Thread))) (mutexes new : List (List (Option Mutex))) → is_raising_at (pool_get (part_of mutexes p) m) ≡ false
    → new ≡ set mutexes p (after_take t m (locks_of (part_of threads p) (part_of mutexes p))).mutexes → AreStored stored threads mutexes → AreStored stored threads new
stored_taken p t m stored threads mutexes new plain e are = stored_plain p m (λ mutex. record mutex { owner = OwnedBy t; count = 1 }) stored threads mutexes new (λ mutex. refl) plain e are

-- or it is free
pub stored_freed : (p m : ℕ) (stored : List (List ℕ)) (threads : List (List (Option Thread))) (mutexes new : List (List (Option Mutex))) → is_raising_at (pool_get (part_of mutexes p) m) ≡ false
    → new ≡ set mutexes p (after_free m (locks_of (part_of threads p) (part_of mutexes p))).mutexes → AreStored stored threads mutexes → AreStored stored threads new
stored_freed p m stored threads mutexes new plain e are = stored_plain p m (λ mutex. record mutex { owner = Free; count = 0 }) stored threads mutexes new (λ mutex. refl) plain e are

pub ruleset plain = (stored_taken, stored_freed)
