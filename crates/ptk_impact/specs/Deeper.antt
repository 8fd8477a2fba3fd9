-- Two runs of a partition alone whose limits differ in the trace's length alone.
use Rattle.std.specs.Prelude.{◌≡◌, ℕ, ◌≤◌, List, [], Option}
use Rattle.ptk_words.specs.Names.{Byte}
use Rattle.ptk_words.specs.declared.sections.Arrival.{Arrival}
use Rattle.ptk_words.specs.declared.sections.Limits.{Limits}
use Rattle.ptk_words_model.specs.Windows.{OwnTicks}
use Rattle.ptk_words_model.specs.State.{State}
use Rattle.ptk_words_model.specs.Run.{alone, last_of}

-- the limits with a trace of this length (own)
abbrev pub with_trace_limit : ℕ → Limits → Limits
with_trace_limit kept limits = record limits { trace = kept }

-- the state without the entries that its trace keeps (own)
abbrev pub but_trace : State → State
but_trace s = record s { account = record (s.account) { trace = [] } }

-- after every number of ticks the two states differ in the kept entries alone (own)
abbrev pub TraceIsAllThatDiffers : Type 0
TraceIsAllThatDiffers =
    (ticks : OwnTicks) (limits : Limits) (image : Option (List Byte)) (input : List Arrival) (kept n : ℕ)
    → but_trace (alone ticks (with_trace_limit kept limits) image input n) ≡ but_trace (alone ticks limits image input n)

-- the shorter trace has the last entries of the longer one (own)
abbrev pub ShorterTraceIsTail : Type 0
ShorterTraceIsTail =
    (ticks : OwnTicks) (limits : Limits) (image : Option (List Byte)) (input : List Arrival) (kept n : ℕ) → kept ≤ limits.trace
    → (alone ticks (with_trace_limit kept limits) image input n).account.trace ≡ last_of kept (alone ticks limits image input n).account.trace
