-- That states stay whole.
use Rattle.std.specs.Prelude.{◌≡◌, ℕ, ◌≤◌, true, List, Option, Some}
use Rattle.ptk_words.specs.declared.sections.Arrival.{Arrival}
use Rattle.ptk_words.specs.declared.sections.Limits.{Limits}
use Rattle.ptk_words_model.specs.Windows.{OwnTicks}
use Rattle.ptk_words_model.specs.State.{Part}
use Rattle.ptk_words_model.specs.declared.Invocation.{Invocation}
use Rattle.ptk_words.specs.Calls.{call_of}
use Rattle.ptk_words_model.specs.CallTable.{answer_to}
use Rattle.ptk_words_model.specs.Decision.{after_decision}
use Rattle.ptk_words_model.specs.Run.{start_part, alone}
use Rattle.ptk_words.specs.Faults.{is_active}
use Rattle.ptk_words_invariant.specs.Well.{IsWell}

-- a partition with room for a thread and an interval starts whole, whatever its image and input
abbrev pub StartIsWell : Limits → Option (List ℕ) → List Arrival → Type 0
StartIsWell limits image input = 1 ≤ limits.threads → 1 ≤ limits.interval → IsWell limits (start_part limits image input)

-- a call of the running thread leaves a whole state whole
abbrev pub CallsKeepWell : Part → Type 0
CallsKeepWell s = (number : ℕ) (i : Invocation) → s.running ≡ Some i.caller → IsWell i.limits s → IsWell i.limits (answer_to (call_of number) i s).part

-- a decision of a partition that has not halted leaves a whole state whole
abbrev pub DecisionsKeepWell : Limits → Part → Type 0
DecisionsKeepWell limits s = (tick room : ℕ) → is_active s.status ≡ true → IsWell limits s → IsWell limits (after_decision limits tick room s)

-- the state is whole after every number of ticks
abbrev pub StaysWell : OwnTicks → Limits → Option (List ℕ) → List Arrival → Type 0
StaysWell ticks limits image input = 1 ≤ limits.threads → 1 ≤ limits.interval → (n : ℕ) → IsWell limits (alone ticks limits image input n).part
