-- A change that leaves each thread's held priority and whom its wait raises keeps every effective priority.
use Rattle.std.proofs.Common.{◌≡◌, ℕ, false, List, length, map, fold, max, refl, sym, ◌∙◌, ap}
use Rattle.std.specs.Prelude.{Option, Some, None, option_map, option_and_then, if◌then◌else◌}
use Rattle.ptk_words.specs.Pools.{pool_get, pool_changed, numbers_to, numbers_of}
use Rattle.ptk_words.specs.Threads.{mutex_of_wait}
use Rattle.ptk_words.specs.declared.threads.Thread.{Thread}
use Rattle.ptk_words.proofs.Pools.{length-changed}
use Rattle.ptk_words_model.specs.State.{Mutex}
use Rattle.ptk_words_model.specs.Chain.{greatest_leading}
use Rattle.ptk_words_model.specs.Priority.{awaited, is_owner, ceiling_of, ceiling_for, inheritor, inheritor_of, held_of, next_in_chain, effective_priorities}
use Rattle.ptk_words_sync_invariant.proofs.MutexPlaces.{effective-set}
use Rattle.ptk_words_sync_invariant.proofs.Raising.{level_of}
use Rattle.ptk_words_sync_invariant.proofs.Threads.{changed_same}
use Rattle.ptk_roster.specs.declared.slot.Change.{Change}
use Rattle.ptk_roster.specs.declared.slot.Change.TheVariants.{Take, CountUp, CountDown, Release, Abandon, Mark}
use Rattle.ptk_roster.specs.Changes.{mutex_changed}
use Rattle.ptk_roster.specs.Plain.{is_raising_at}
use Rattle.ptk_roster.specs.Raising.{PlainRaisesNobody, PlainWaitRaisesNobody, SameOwnerRaisesAlike}
use Rattle.ptk_roster.proofs.Plain.{plain_inherits, plain_ceiling, plain_kept}

-- ---- a mutex changed

-- where whom it makes inherit stays, and the ceiling that it gives each thread
pub effective_mutex : (m : ℕ) (f : Mutex → Mutex) (threads : List (Option Thread)) (mutexes : List (Option Mutex)) → inheritor_of (option_map f (pool_get mutexes m)) ≡ inheritor_of (pool_get mutexes m)
    → ((u : ℕ) → ceiling_for u (option_map f (pool_get mutexes m)) ≡ ceiling_for u (pool_get mutexes m)) → effective_priorities threads (pool_changed m f mutexes) ≡ effective_priorities threads mutexes
effective_mutex m f threads mutexes inherits ceilings = ap (λ (rank : ℕ → ℕ). map rank (numbers_of threads)) (effective-set m (option_map f (pool_get mutexes m)) threads mutexes inherits ceilings)

pub plain_raises_nobody : (threads : List (Option Thread)) (mutexes : List (Option Mutex)) → PlainRaisesNobody threads mutexes
plain_raises_nobody threads mutexes m f same plain =
    let old : Option Mutex = pool_get mutexes m in
    let kept : is_raising_at (option_map f old) ≡ false = plain_kept f old same plain in
    effective_mutex m f threads mutexes (plain_inherits (option_map f old) kept ∙ sym (plain_inherits old plain)) (λ u. plain_ceiling u (option_map f old) kept ∙ sym (plain_ceiling u old plain))

owned_inheritor : (f : Mutex → Mutex) (x : Option Mutex) → ((mutex : Mutex) → (f mutex).protocol ≡ mutex.protocol) → ((mutex : Mutex) → (f mutex).owner ≡ mutex.owner) → inheritor_of (option_map f x) ≡ inheritor_of x
owned_inheritor f None protocol owner = refl
owned_inheritor f (Some mutex) protocol owner = λ i. inheritor (protocol mutex i) (owner mutex i)

owned_ceiling : (u : ℕ) (f : Mutex → Mutex) (x : Option Mutex) → ((mutex : Mutex) → (f mutex).protocol ≡ mutex.protocol) → ((mutex : Mutex) → (f mutex).owner ≡ mutex.owner) → ceiling_for u (option_map f x) ≡ ceiling_for u x
owned_ceiling u f None protocol owner = refl
owned_ceiling u f (Some mutex) protocol owner = λ i. if is_owner u (owner mutex i) then ceiling_of (protocol mutex i) else 0

pub same_owner_raises_alike : (threads : List (Option Thread)) (mutexes : List (Option Mutex)) → SameOwnerRaisesAlike threads mutexes
same_owner_raises_alike threads mutexes m f protocol owner = effective_mutex m f threads mutexes (owned_inheritor f (pool_get mutexes m) protocol owner) (λ u. owned_ceiling u f (pool_get mutexes m) protocol owner)

-- no change of a mutex is one of its protocol
pub keeps_protocol : (change : Change) (mutex : Mutex) → (mutex_changed change mutex).protocol ≡ mutex.protocol
keeps_protocol (Take t) mutex = refl
keeps_protocol CountUp mutex = refl
keeps_protocol CountDown mutex = refl
keeps_protocol Release mutex = refl
keeps_protocol Abandon mutex = refl
keeps_protocol (Mark soundness) mutex = refl

-- ---- a thread changed

-- whom the wait of a thread raises
abbrev led_by : List (Option Mutex) → Option Thread → Option ℕ
led_by mutexes x = option_and_then (λ m. inheritor_of (pool_get mutexes m)) (awaited x)

level_kept : (f : Thread → Thread) (x : Option Thread) → ((thread : Thread) → (f thread).priority ≡ thread.priority) → level_of (option_map f x) ≡ level_of x
level_kept f None same = refl
level_kept f (Some thread) same = same thread

awake_leads : (mutexes : List (Option Mutex)) (f : Thread → Thread) (x : Option Thread) → ((thread : Thread) → (f thread).wait ≡ None) → led_by mutexes (option_map f x) ≡ None
awake_leads mutexes f None awake = refl
awake_leads mutexes f (Some thread) awake = ap (λ wait. option_and_then (λ m. inheritor_of (pool_get mutexes m)) (mutex_of_wait wait)) (awake thread)

waiter_leads : (m : ℕ) (mutexes : List (Option Mutex)) (x : Option Thread) → awaited x ≡ Some m → is_raising_at (pool_get mutexes m) ≡ false → led_by mutexes x ≡ None
waiter_leads m mutexes x waits plain = ap (option_and_then (λ n. inheritor_of (pool_get mutexes n))) waits ∙ plain_inherits (pool_get mutexes m) plain

-- where its assigned priority stays, and whom its wait raises
thread_keeps : (t : ℕ) (f : Thread → Thread) (threads : List (Option Thread)) (mutexes : List (Option Mutex)) → level_of (option_map f (pool_get threads t)) ≡ level_of (pool_get threads t) → led_by mutexes (option_map f (pool_get threads t)) ≡ led_by mutexes (pool_get threads t)
    → effective_priorities (pool_changed t f threads) mutexes ≡ effective_priorities threads mutexes
thread_keeps t f threads mutexes level leads =
    let after : List (Option Thread) = pool_changed t f threads in
    let long : length after ≡ length threads = length-changed t f threads in
    let levels : (u : ℕ) → level_of (pool_get after u) ≡ level_of (pool_get threads u) = changed_same level_of t f threads level in
    let next : next_in_chain after mutexes ≡ next_in_chain threads mutexes = λ i u. changed_same (led_by mutexes) t f threads leads u i in
    let held : held_of after mutexes ≡ held_of threads mutexes = λ i u. fold (λ most m. max most (ceiling_for u m)) (levels u i) mutexes in
    λ i. map (greatest_leading (long i) (next i) (held i)) (numbers_to (long i))

pub plain_wait_raises_nobody : (threads : List (Option Thread)) (mutexes : List (Option Mutex)) → PlainWaitRaisesNobody threads mutexes
plain_wait_raises_nobody threads mutexes m t f level awake waits plain =
    let x : Option Thread = pool_get threads t in
    thread_keeps t f threads mutexes (level_kept f x level) (awake_leads mutexes f x awake ∙ sym (waiter_leads m mutexes x waits plain))
