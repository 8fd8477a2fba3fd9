-- The answer of the running thread's call.
use Rattle.std.specs.Prelude.{Option, Some, None}
use Rattle.ptk_words.specs.Calls.{call_of}
use Rattle.ptk_words.specs.Names.{ThreadNumber, Tick}
use Rattle.ptk_words.specs.Processor.{Processor, register}
use Rattle.ptk_words.specs.declared.TheConstants.{A7}
use Rattle.ptk_words.specs.declared.sections.Limits.{Limits}
use Rattle.ptk_words_model.specs.declared.Reply.TheVariants.{Blocked}
use Rattle.ptk_words_model.specs.declared.Runner.{Runner}
use Rattle.ptk_words_model.specs.State.{Part}
use Rattle.ptk_words_model.specs.Calls.{Answer, answer}
use Rattle.ptk_words_model.specs.CallTable.{answer_to}
use Rattle.ptk_words_model.specs.Decision.{invocation, runner_of}

-- the answer of the call that these registers of a thread state (RISC-V 2.8)
abbrev pub registers_answer : Limits → Tick → ThreadNumber → Processor → Part → Answer
registers_answer limits tick t cpu s = answer_to (call_of (register cpu A7)) (invocation limits tick t cpu) s

-- the answer of the call that the thread's registers state; with no thread nothing is called
abbrev pub runner_answer : Option Runner → Limits → Tick → Part → Answer
runner_answer None limits tick s = answer Blocked s
runner_answer (Some r) limits tick s = registers_answer limits tick r.number r.thread.cpu s

-- the answer of the call that the running thread's registers state
abbrev pub call_answer : Limits → Tick → Part → Answer
call_answer limits tick s = runner_answer (runner_of s) limits tick s
