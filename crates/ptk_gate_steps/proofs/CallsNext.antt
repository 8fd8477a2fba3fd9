-- A quiet partition whose running thread's word is an ECALL has a call next.
use Rattle.std.proofs.Common.{◌≡◌, ℕ, refl}
use Rattle.ptk_words.specs.declared.TheConstants.{ECALL}
use Rattle.ptk_words.specs.declared.sections.Limits.{Limits}
use Rattle.ptk_words.specs.declared.threads.Thread.{Thread}
use Rattle.ptk_words_model.specs.State.{Part}
use Rattle.ptk_words_model.specs.Decision.{word_fetched}
use Rattle.ptk_words_laws.specs.Quiet.{IsQuiet}
use Rattle.ptk_words_laws.proofs.PlainDecisions.{quiet_runner}
use Rattle.ptk_words_laws.proofs.ReplyDecisions.{no_gate}
use Rattle.ptk_gate_steps.specs.NextSteps.{IsCallNext}

pub call_next : (limits : Limits) (tick stop t : ℕ) (thread : Thread) (s : Part) → IsQuiet limits tick stop t thread s → word_fetched s.memory thread.cpu.pc ≡ ECALL → IsCallNext t s
call_next limits tick stop t thread s quiet word =
    (thread, quiet_runner limits tick stop t thread s quiet, rw (quiet.goes_on, no_gate thread.cpu s.memory word quiet.gate, word) refl)
