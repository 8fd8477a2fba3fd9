-- What partitions that boot sees alike, or alike but for the trace's length, have in common after every number of ticks.
use Rattle.std.proofs.Common.{◌≡◌, ℕ, ◌<◌, ◌≤◌, List, length, Option, ◌⊎◌, inl, inr, refl, sym, ap, ◌∙◌, arith}
use Rattle.std.proofs.lemmas.Bool.{cases_lt}
use Rattle.std.proofs.lemmas.List.{get_or_past}
use Rattle.ptk_words.specs.declared.TheConstants.{LAST_TICK}
use Rattle.ptk_words.specs.declared.sections.Arrival.{Arrival}
use Rattle.ptk_words.specs.declared.sections.Limits.{Limits}
use Rattle.ptk_words_model.specs.Windows.{OwnTicks, own_ticks}
use Rattle.ptk_words_model.specs.Run.{alone}
use Rattle.ptk_words_model.specs.Text.{report_text}
use Rattle.ptk_config.specs.Sections.{Section}
use Rattle.ptk_config.specs.Configuration.{Configuration, IsConfiguration}
use Rattle.ptk_system.specs.Laws.{SameView}
use Rattle.ptk_system.specs.Missing.{image_in}
use Rattle.ptk_system.specs.World.{World, alone_in, no_section, no_state, section_at, state_of}
use Rattle.ptk_system.proofs.Keeping.{state_alone, states_counted}
use Rattle.ptk_system.proofs.NextTicks.{same_next}
use Rattle.ptk_system.proofs.Runs.{is_plan}
use Rattle.ptk_system.proofs.Views.{same_state, same_report}
use Rattle.ptk_impact.specs.Deeper.{TraceIsAllThatDiffers, with_trace_limit, but_trace}
use Rattle.ptk_impact.specs.declared.impact.Impact.{Impact}
use Rattle.ptk_impact.specs.declared.impact.Impact.TheVariants.{Unchanged, UnchangedButForTrace, Changed}
use Rattle.ptk_impact.specs.declared.subject.Subject.{Subject}
use Rattle.ptk_impact.specs.Impact.{IsImpact, RunsAreAlike}
use Rattle.ptk_impact.specs.Views.{DeeperTraceIsSameRun, SameViewIsSameRun, SeenAlikeButTrace, section_of, world_after}

pub same_run : SameViewIsSameRun
same_run old new is_old is_new same n early =
    let then : SameView (world_after n old) old.partition (world_after n new) new.partition =
    record { ends = same.ends; limits = same.limits; image = same.image; input = same.input } in (
      same_state (world_after n old) (world_after n new) old.partition new.partition is_old is_new refl refl then refl,
      λ name. same_report (world_after n old) (world_after n new) old.partition new.partition is_old is_new refl refl then refl name,
    )

module _ (law : TraceIsAllThatDiffers) (old new : Subject) (is_old : IsConfiguration old.config.now) (is_new : IsConfiguration new.config.now) (same : SeenAlikeButTrace old new) where
  same_ticks : own_ticks old.config.now.plan old.partition ≡ own_ticks new.config.now.plan new.partition
  same_ticks = λ i. record {
    end_at = λ t. same.ends t i;
    next_of = λ t. same_next old.config.now.plan new.config.now.plan old.partition new.partition t
        (is_plan old.config.now is_old) (is_plan new.config.now is_new) same.ends i;
  }

  -- the old partition is the new one with a trace of the old one's length
  as_other : (n : ℕ) → alone_in old.config.now old.files.now old.partition n
      ≡ alone (own_ticks new.config.now.plan new.partition) (with_trace_limit (section_of old).limits.trace (section_of new).limits)
      (image_in new.files.now (section_of new).image) (section_of new).input n
  as_other n =
      let other : Limits = with_trace_limit (section_of old).limits.trace (section_of new).limits in
      ap (λ (ticks : OwnTicks). alone ticks (section_of old).limits (image_in old.files.now (section_of old).image) (section_of old).input n) same_ticks
      ∙ (ap (λ (limits : Limits). alone (own_ticks new.config.now.plan new.partition) limits (image_in old.files.now (section_of old).image) (section_of old).input n) same.limits
      ∙ (ap (λ (image : Option (List ℕ)). alone (own_ticks new.config.now.plan new.partition) other image (section_of old).input n) same.image
      ∙ ap (λ (input : List Arrival). alone (own_ticks new.config.now.plan new.partition) other (image_in new.files.now (section_of new).image) input n) same.input))

  alone_but : (n : ℕ) → but_trace (alone_in old.config.now old.files.now old.partition n) ≡ but_trace (alone_in new.config.now new.files.now new.partition n)
  alone_but n =
      ap but_trace (as_other n)
      ∙ law (own_ticks new.config.now.plan new.partition) (section_of new).limits
      (image_in new.files.now (section_of new).image) (section_of new).input (section_of old).limits.trace n

  -- a number past the sections has no memory
  memory_same : (section_of old).limits.memory ≡ (section_of new).limits.memory
  memory_same = ap (λ (l : Limits). l.memory) same.limits

  some_memory : (config : Configuration) (r : ℕ) → IsConfiguration config → r < length config.sections → 4096 ≤ (section_at config r).limits.memory
  some_memory config r is within = (is.ranges.limits r no_section within).memory_from

  no_memory : (config : Configuration) (r : ℕ) → length config.sections ≤ r → (section_at config r).limits.memory ≡ 0
  no_memory config r past = ap (λ (s : Section). s.limits.memory) (get_or_past config.sections r no_section past)

  past_state : (world : World) (r : ℕ) → length world.states ≡ length world.config.sections → length world.config.sections ≤ r → state_of world r ≡ no_state
  past_state world r count past = get_or_past world.states r no_state (omega (arith, count, past))

  states_but : (n : ℕ) → but_trace (state_of (world_after n old) old.partition) ≡ but_trace (state_of (world_after n new) new.partition)
  states_but n = by (cases_lt old.partition (length old.config.now.sections)) (cases_lt new.partition (length new.config.now.sections))
    where
      by : (old.partition < length old.config.now.sections) ⊎ (length old.config.now.sections ≤ old.partition)
          → (new.partition < length new.config.now.sections) ⊎ (length new.config.now.sections ≤ new.partition)
          → but_trace (state_of (world_after n old) old.partition) ≡ but_trace (state_of (world_after n new) new.partition)
      by (inl in_old) (inl in_new) =
          ap but_trace (state_alone (world_after n old) old.partition refl in_old)
          ∙ (alone_but n ∙ sym (ap but_trace (state_alone (world_after n new) new.partition refl in_new)))
      by (inl in_old) (inr past_new) =
          absurd (omega (arith, some_memory old.config.now old.partition is_old in_old, no_memory new.config.now new.partition past_new, memory_same))
      by (inr past_old) (inl in_new) =
          absurd (omega (arith, some_memory new.config.now new.partition is_new in_new, no_memory old.config.now old.partition past_old, memory_same))
      by (inr past_old) (inr past_new) =
          ap but_trace (past_state (world_after n old) old.partition (states_counted (world_after n old) refl) past_old
          ∙ sym (past_state (world_after n new) new.partition (states_counted (world_after n new) refl) past_new))

pub deeper_run : TraceIsAllThatDiffers → DeeperTraceIsSameRun
deeper_run law old new is_old is_new same n early =
    let states = states_but law old new is_old is_new same n in (
      states,
      -- the text of a state reads no entry of its trace
      λ name. ap (λ (text : List ℕ). report_text text (but_trace (state_of (world_after n old) old.partition))) name ∙ ap (report_text (section_of new).name) states,
    )

-- an answer holds of runs where it holds of what boot sees
pub runs_alike : SameViewIsSameRun → DeeperTraceIsSameRun → (old new : Subject) → IsConfiguration old.config.now → IsConfiguration new.config.now
    → (impact : Impact) → IsImpact old new impact → (n : ℕ) → n ≤ LAST_TICK → RunsAreAlike old new n impact
runs_alike same deeper old new is_old is_new Unchanged is n early = same old new is_old is_new is n early
runs_alike same deeper old new is_old is_new (UnchangedButForTrace trace) is n early = deeper old new is_old is_new is.0 n early
runs_alike same deeper old new is_old is_new (Changed changes) is n early = tt
