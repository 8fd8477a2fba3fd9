-- A change of one thread.
use Rattle.std.specs.Prelude.{List}
use Rattle.ptk_words.specs.Names.{Word}
use Rattle.ptk_words.specs.declared.threads.Thread.{Thread}
use Rattle.ptk_clock.specs.Schedule.{unused, with_reply}
use Rattle.ptk_threads.specs.declared.change.ThreadField.{ThreadField}
use Rattle.ptk_threads.specs.declared.change.ThreadField.TheVariants.{Address, Registers, Policy, AssignedPriority, Used, Phase, Joiner, Result, Wait}
use Rattle.ptk_threads.specs.Table.{with_cpu, with_policy, with_priority, with_used, with_phase, with_joiner, with_result, with_wait}
use Rattle.ptk_threads.specs.Registers.{with_pc}

-- the thread with that field set
abbrev pub with_field : ThreadField → Thread → Thread
with_field (Address pc) = with_pc pc
with_field (Registers cpu) = with_cpu cpu
with_field (Policy policy) = with_policy policy
with_field (AssignedPriority priority) = with_priority priority
with_field (Used used) = with_used used
with_field (Phase phase) = with_phase phase
with_field (Joiner joiner) = with_joiner joiner
with_field (Result result) = with_result result
with_field (Wait wait) = with_wait wait

-- the thread with these values in a0 and so on, which has used no tick of its interval (XSH 2.8.4, SCHED_RR)
abbrev pub renewed_with : List Word → Thread → Thread
renewed_with values thread = unused (with_reply values thread)
