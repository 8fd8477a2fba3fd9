-- What two systems have in common, and what steps share.
use Rattle.std.proofs.Common.{◌≡◌, ℕ, ◌-◌, ◌<◌, ◌≤◌, List, length, Option, Some, None, ◌⊎◌, inl, inr, sym, ap, subst, ◌∙◌, arith}
use Rattle.std.specs.Prelude.{nat_lt}
use Rattle.std.proofs.lemmas.Bool.{cases_lt, cond_both, ltb-false}
use Rattle.std.proofs.lemmas.List.{get_or_past}
use Rattle.ptk_words.specs.declared.sections.Arrival.{Arrival}
use Rattle.ptk_words.specs.declared.sections.Limits.{Limits}
use Rattle.ptk_words_model.specs.Windows.{OwnTicks, own_ticks}
use Rattle.ptk_words_model.proofs.OwnLaws.{window_whole}
use Rattle.ptk_words_model.specs.declared.Runner.{Runner}
use Rattle.ptk_words_model.specs.declared.Spent.TheVariants.{Step}
use Rattle.ptk_words_model.specs.State.{Part}
use Rattle.ptk_words_model.specs.Decision.{Decision, ready_at, runner_of, spent_in_turn, step_cost, step_kind}
use Rattle.ptk_words_model.specs.Run.{alone}
use Rattle.ptk_words_model.specs.Text.{report_text}
use Rattle.ptk_config.specs.Sections.{Section}
use Rattle.ptk_config.specs.Configuration.{Configuration, IsConfiguration}
use Rattle.ptk_system.specs.Laws.{SameView, StepStaysInWindow}
use Rattle.ptk_system.specs.Missing.{image_in}
use Rattle.ptk_system.specs.Shown.{part_report}
use Rattle.ptk_system.specs.World.{World, alone_in, no_section, no_state, section_at, state_of, world_at}
use Rattle.ptk_system.proofs.Keeping.{state_alone, states_counted}
use Rattle.ptk_system.proofs.NextTicks.{same_next}
use Rattle.ptk_system.proofs.Runs.{is_plan}

same_ticks : (a b : World) (p q : ℕ) → IsConfiguration a.config → IsConfiguration b.config → SameView a p b q → own_ticks a.config.plan p ≡ own_ticks b.config.plan q
same_ticks a b p q is_a is_b same =
    λ i. record {
      end_at = λ t. same.ends t i;
      next_of = λ t. same_next a.config.plan b.config.plan p q t (is_plan a.config is_a) (is_plan b.config is_b) same.ends i;
    }

same_alone : (a b : World) (p q : ℕ) → IsConfiguration a.config → IsConfiguration b.config → SameView a p b q → a.tick ≡ b.tick → alone_in a.config a.files p a.tick ≡ alone_in b.config b.files q b.tick
same_alone a b p q is_a is_b same tick =
    ap (λ (ticks : OwnTicks). alone ticks (section_at a.config p).limits (image_in a.files (section_at a.config p).image) (section_at a.config p).input a.tick) (same_ticks a b p q is_a is_b same)
    ∙ (ap (λ (limits : Limits). alone (own_ticks b.config.plan q) limits (image_in a.files (section_at a.config p).image) (section_at a.config p).input a.tick) same.limits
    ∙ (ap (λ (image : Option (List ℕ)). alone (own_ticks b.config.plan q) (section_at b.config q).limits image (section_at a.config p).input a.tick) same.image
    ∙ (ap (λ (input : List Arrival). alone (own_ticks b.config.plan q) (section_at b.config q).limits (image_in b.files (section_at b.config q).image) input a.tick) same.input
    ∙ ap (alone (own_ticks b.config.plan q) (section_at b.config q).limits (image_in b.files (section_at b.config q).image) (section_at b.config q).input) tick)))

-- a number past the sections has no memory, so it is not told what a partition is
past_by_memory : (a b : Configuration) (p q : ℕ) → IsConfiguration a → p < length a.sections → length b.sections ≤ q → (section_at a p).limits ≡ (section_at b q).limits → ⊥
past_by_memory a b p q is within past same =
    let some : 4096 ≤ (section_at a p).limits.memory = (is.ranges.limits p no_section within).memory_from in
    let none : (section_at b q).limits.memory ≡ 0 = ap (λ (s : Section). s.limits.memory) (get_or_past b.sections q no_section past) in
    let memory : (section_at a p).limits.memory ≡ (section_at b q).limits.memory = ap (λ (l : Limits). l.memory) same in
    omega (arith, some, none, memory)

past_states : (world : World) (p : ℕ) → length world.states ≡ length world.config.sections → length world.config.sections ≤ p → state_of world p ≡ no_state
past_states world p count past = get_or_past world.states p no_state (omega (arith, count, past))

-- a partition that is told the same is in the same state, since each system keeps of it what it is alone
pub same_state : (a b : World) (p q : ℕ) → IsConfiguration a.config → IsConfiguration b.config → a ≡ world_at a.config a.files a.tick → b ≡ world_at b.config b.files b.tick
    → SameView a p b q → a.tick ≡ b.tick → state_of a p ≡ state_of b q
same_state a b p q is_a is_b alone_a alone_b same tick = by (cases_lt p (length a.config.sections)) (cases_lt q (length b.config.sections))
  where
    by : (p < length a.config.sections) ⊎ (length a.config.sections ≤ p) → (q < length b.config.sections) ⊎ (length b.config.sections ≤ q) → state_of a p ≡ state_of b q
    by (inl in_a) (inl in_b) = state_alone a p alone_a in_a ∙ (same_alone a b p q is_a is_b same tick ∙ sym (state_alone b q alone_b in_b))
    by (inl in_a) (inr past_b) = absurd (past_by_memory a.config b.config p q is_a in_a past_b same.limits)
    by (inr past_a) (inl in_b) = absurd (past_by_memory b.config a.config q p is_b in_b past_a (sym same.limits))
    by (inr past_a) (inr past_b) = past_states a p (states_counted a alone_a) past_a ∙ sym (past_states b q (states_counted b alone_b) past_b)

-- a partition that is told the same writes the same part of the report
pub same_report : (a b : World) (p q : ℕ) → IsConfiguration a.config → IsConfiguration b.config → a ≡ world_at a.config a.files a.tick → b ≡ world_at b.config b.files b.tick
    → SameView a p b q → a.tick ≡ b.tick → (section_at a.config p).name ≡ (section_at b.config q).name → part_report a p ≡ part_report b q
same_report a b p q is_a is_b alone_a alone_b same tick name =
    ap (λ (n : List ℕ). report_text n (state_of a p)) name ∙ ap (report_text (section_at b.config q).name) (same_state a b p q is_a is_b alone_a alone_b same tick)

turn_fits : (limits : Limits) (tick room : ℕ) (r : Option Runner) (s : Part) (cost : ℕ) → spent_in_turn limits tick room r s ≡ Step cost → cost ≤ room
turn_fits limits tick room None s cost = λ h. absurd cc
turn_fits limits tick room (Some r) s cost =
    let paid : ℕ = step_cost (step_kind s r.number r.thread) in
    cond_both (nat_lt room paid) _ _ (λ (d : Decision). d.spent ≡ Step cost → cost ≤ room) (λ e h. absurd cc)
    (λ e h. let same : paid ≡ cost = cc in subst (λ (c : ℕ). c ≤ room) same (ltb-false room paid e))

-- the ticks of a step are in its window
pub step_stays : StepStaysInWindow
step_stays plan p tick end cost limits s is ends spent k from below =
    let fits : cost ≤ end - tick = turn_fits limits tick (end - tick) (runner_of (ready_at limits tick s)) (ready_at limits tick s) cost spent in
    let whole = window_whole plan p tick end is ends in
    let later : tick < end = whole.0 in
    let within : k < end = omega arith in
    whole.2 k from within

pub ruleset views = (same_state, same_report)
