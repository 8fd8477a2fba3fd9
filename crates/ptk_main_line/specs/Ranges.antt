-- The ranges of the numbers of a request.
use Rattle.std.specs.Prelude.{◌≤◌, ◌<◌, ℕ, Option, IfSome}
use Rattle.ptk_main_line.specs.declared.line.TheConstants.{MOST_STEPS, MOST_THREADS, MOST_TICKS}
use Rattle.ptk_main_line.specs.declared.requests.Request.{Request}
use Rattle.ptk_main_line.specs.declared.requests.Request.TheVariants.{Run, Trace, Timeline, Asm, Check, Disasm, Impact, Explain, Stats}
use Rattle.ptk_main_line.specs.declared.requests.RunTo.{RunTo}
use Rattle.ptk_main_line.specs.declared.requests.TraceOptions.{TraceOptions}

-- a run goes to no tick after the last (own)
abbrev pub IsRun : RunTo → Type 0
IsRun run = run.ticks ≤ MOST_TICKS

-- a thread's number, or none (own)
abbrev pub IsThread : Option ℕ → Type 0
IsThread thread = IfSome thread (λ n. (0 < n) × (n ≤ MOST_THREADS))

-- a number of steps that a trace may keep, or none (own)
abbrev pub AreSteps : Option ℕ → Type 0
AreSteps steps = IfSome steps (λ k. k ≤ MOST_STEPS)

-- the trace is of a run, and its thread and its number of steps can be (own)
abbrev pub IsTraceInRange : TraceOptions → Type 0
IsTraceInRange o = IsRun o.run × IsThread o.thread × AreSteps o.last

-- the numbers of a request are within their ranges (own)
abbrev pub IsInRange : Request → Type 0
IsInRange (Run o) = IsRun o.run
IsInRange (Trace o) = IsTraceInRange o
IsInRange (Timeline o) = IsRun o.run
IsInRange (Asm o) = Unit {0}
IsInRange (Check o) = Unit {0}
IsInRange (Disasm o) = Unit {0}
IsInRange (Impact o) = Unit {0}
IsInRange (Explain o) = IsRun o.run
IsInRange (Stats o) = IsRun o.run
