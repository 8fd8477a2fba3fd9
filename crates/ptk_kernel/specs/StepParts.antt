-- The parts of a whole step, by name.
use Rattle.std.specs.Prelude.{ℕ, Some}
use Rattle.ptk_words.specs.declared.sections.Limits.{Limits}
use Rattle.ptk_words_model.specs.declared.Runner.{Runner}
use Rattle.ptk_words_model.specs.declared.StepKind.{StepKind}
use Rattle.ptk_words_model.specs.State.{Part}
use Rattle.ptk_words_model.specs.Priority.{thread_at}
use Rattle.ptk_words_model.specs.Decision.{after_step}
use Rattle.ptk_gate.specs.NextStep.{NextStep}
use Rattle.ptk_gate.specs.NextSteps.{a0_kept, next_step_of}

-- the last step is this one, and the thread is as it is now
abbrev pub noted : ℕ → NextStep → Part → Part
noted tick next s =
    record s {
      last = Some (record {
        tick = tick;
        thread = next.thread;
        pc = next.pc;
        word = next.word;
        a0 = a0_kept next.a0 (thread_at s.locks next.thread);
      });
    }

-- the step with its place in the trace
abbrev pub stepped : Limits → ℕ → Runner → StepKind → Part → Part
stepped limits tick r kind s = noted tick (next_step_of s r) (after_step limits tick r kind s)
