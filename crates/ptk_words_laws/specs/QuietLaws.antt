-- What is true of a partition that only computes.
use Rattle.std.specs.Prelude.{◌≡◌, ℕ, ◌+◌, ◌≤◌, ◌<◌, List, [], true, Option, Some, None, IfSome, slice_get}
use Rattle.ptk_words.specs.declared.sections.Arrival.{Arrival}
use Rattle.ptk_words.specs.declared.sections.Limits.{Limits}
use Rattle.ptk_words.specs.declared.threads.Thread.{Thread}
use Rattle.ptk_words_model.specs.PlainSteps.{is_plain}
use Rattle.ptk_words_model.specs.Windows.{OwnTicks, WindowPlan, own_ticks, IsPlan}
use Rattle.ptk_words_model.specs.State.{Console, Part, State}
use Rattle.ptk_words_model.specs.Console.{arriving}
use Rattle.ptk_words_model.specs.Run.{decided, alone}
use Rattle.ptk_words_model.specs.Priority.{effective_priorities}
use Rattle.ptk_words_invariant.specs.Well.{IsWell}
use Rattle.ptk_words_laws.specs.Quiet.{IsQuiet, ArePlain, AreOwn, core_of, after_row, thread_after, row_state, after_ticks}

-- of a quiet state with a plain step next the decision is that step, whatever the room (own)
abbrev pub PlainIsDecided : OwnTicks → Limits → ℕ → ℕ → ℕ → ℕ → Thread → State → Type 0
PlainIsDecided ticks limits tick stop room t thread s =
    IsQuiet limits tick stop t thread s.part → tick < stop → 1 ≤ room → is_plain (core_of thread s.part) ≡ true
    → decided ticks limits tick room s ≡ row_state ticks limits tick t 1 thread s

-- plain steps leave a quiet state quiet (own)
abbrev pub RowStaysQuiet : Limits → ℕ → ℕ → ℕ → ℕ → Thread → Part → Type 0
RowStaysQuiet limits tick stop t n thread s =
    IsQuiet limits tick stop t thread s → 1 ≤ n → tick + n ≤ stop → ArePlain n (core_of thread s)
    → IsQuiet limits (tick + n) stop t (thread_after n thread s) (after_row tick t n thread s)

-- plain steps change no effective priority, whatever mutexes are held (XSH 2.8.4; pthread_mutexattr_getprotocol)
abbrev pub RowKeepsPriorities : ℕ → ℕ → ℕ → Thread → Part → Type 0
RowKeepsPriorities tick t n thread s =
    let after : Part = after_row tick t n thread s in
    effective_priorities after.threads after.mutexes ≡ effective_priorities s.threads s.mutexes

-- plain steps leave a whole state whole (own)
abbrev pub RowKeepsWell : Limits → ℕ → ℕ → ℕ → ℕ → Thread → Part → Type 0
RowKeepsWell limits tick stop t n thread s =
    IsQuiet limits tick stop t thread s → 1 ≤ n → tick + n ≤ stop → ArePlain n (core_of thread s) → IsWell limits s → IsWell limits (after_row tick t n thread s)

-- plain steps in a row are as many ticks, where the first one is the next decision's and each is the partition's own (own)
abbrev pub RowIsTicks : OwnTicks → Limits → ℕ → ℕ → ℕ → ℕ → Thread → State → Type 0
RowIsTicks ticks limits tick stop t n thread s =
    IsQuiet limits tick stop t thread s.part → s.account.next ≡ Some tick → AreOwn ticks tick stop → 1 ≤ n → tick + n ≤ stop → ArePlain n (core_of thread s.part)
    → after_ticks ticks limits tick n s ≡ row_state ticks limits tick t n thread s

-- where the first input still to come has the tick stop or a later one, none comes before (own)
abbrev pub NoneComesBefore : ℕ → Console → Type 0
NoneComesBefore stop console = IfSome (slice_get console.coming 0) (λ a. stop ≤ a.tick) → (k : ℕ) → k < stop → arriving k console ≡ []

-- n + m ticks are n ticks and then m more (own)
abbrev pub RowsJoin : OwnTicks → Limits → ℕ → ℕ → ℕ → State → Type 0
RowsJoin ticks limits tick n m s = after_ticks ticks limits tick (n + m) s ≡ after_ticks ticks limits (tick + n) m (after_ticks ticks limits tick n s)

-- ticks that are not the partition's own leave its state (own)
abbrev pub OthersStay : OwnTicks → Limits → ℕ → ℕ → State → Type 0
OthersStay ticks limits tick n s = ((k : ℕ) → tick ≤ k → k < tick + n → ticks.end_at k ≡ None) → after_ticks ticks limits tick n s ≡ s

-- the partition alone goes on by ticks in a row (own)
abbrev pub AloneGoesOn : OwnTicks → Limits → Option (List ℕ) → List Arrival → ℕ → ℕ → Type 0
AloneGoesOn ticks limits image input m n = alone ticks limits image input (m + n) ≡ after_ticks ticks limits m n (alone ticks limits image input m)

-- in a window of the partition each tick up to its end is the partition's own (own)
abbrev pub WindowIsOwn : WindowPlan → ℕ → ℕ → ℕ → Type 0
WindowIsOwn plan p tick end = IsPlan plan → (own_ticks plan p).end_at tick ≡ Some end → AreOwn (own_ticks plan p) tick end
