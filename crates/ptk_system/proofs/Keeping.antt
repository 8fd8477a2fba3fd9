-- The states that a system has, from those of the machine.
use Rattle.std.proofs.Common.{◌≡◌, ℕ, zero, suc, ◌<◌, List, [], ◌∷◌, ◌++◌, length, get_or, refl, sym, ap, subst, ◌∙◌, arith, inl, inr}
use Rattle.std.proofs.lemmas.Bool.{cases_order}
use Rattle.std.proofs.lemmas.List.{length-append, get_or_append_left, get_or_at}
use Rattle.ptk_words_model.specs.State.{State}
use Rattle.ptk_config.specs.Configuration.{Configuration}
use Rattle.ptk_image.specs.NamedFiles.{NamedFile}
use Rattle.ptk_system_machine.specs.Whole.{Whole, state_at}
use Rattle.ptk_system.specs.World.{IsRun, World, alone_in, alone_states, no_state, state_of, states_in, states_to, world_at, world_of, at_tick}

-- ---- lists of states

pub length-states_to : (state : ℕ → State) (n : ℕ) → length (states_to state n) ≡ n
length-states_to state zero = refl
length-states_to state (suc n) = omega (arith, length-append (states_to state n) (state n ∷ []), length-states_to state n)

pub get_or-states_to : (state : ℕ → State) (n p : ℕ) → p < n → get_or (states_to state n) p no_state ≡ state p
get_or-states_to state zero p lt = absurd (omega arith)
get_or-states_to state (suc n) p lt = elim (cases_order p n) [
  | inl last ↦ subst (λ (q : ℕ). get_or (states_to state (suc n)) q no_state ≡ state q) (sym last) (get_or_at (states_to state n) (state n) [] no_state n (length-states_to state n))
  | inr order ↦ elim order [
    | inl before ↦ get_or_append_left (states_to state n) (state n ∷ []) no_state p (omega (arith, length-states_to state n, before)) ∙ get_or-states_to state n p before
    | inr after ↦ absurd (omega (arith, lt, after))
  ]
]

pub states_to-same : (a b : ℕ → State) (n : ℕ) → ((p : ℕ) → p < n → a p ≡ b p) → states_to a n ≡ states_to b n
states_to-same a b zero same = refl
states_to-same a b (suc n) same =
    ap (λ (xs : List State). xs ++ a n ∷ []) (states_to-same a b n (λ p lt. same p (omega (arith, lt))))
    ∙ ap (λ (x : State). states_to b n ++ x ∷ []) (same n (omega arith))

-- ---- of a system

-- where the state of each partition is what it is alone, the list of them is
pub states_alone : (config : Configuration) (files : List NamedFile) (whole : Whole) (tick : ℕ) → length whole.accounts ≡ length config.sections
    → ((p : ℕ) → p < length config.sections → state_at p whole ≡ alone_in config files p tick) → states_in whole ≡ alone_states config files tick
states_alone config files whole tick count each =
    ap (states_to (λ p. state_at p whole)) count ∙ states_to-same (λ p. state_at p whole) (λ p. alone_in config files p tick) (length config.sections) each

-- what a partition is in a system of such states
pub alone_at : (config : Configuration) (files : List NamedFile) (tick p : ℕ) → p < length config.sections → state_of (world_at config files tick) p ≡ alone_in config files p tick
alone_at config files tick p lt = get_or-states_to (λ q. alone_in config files q tick) (length config.sections) p lt

-- of a system that is a run
pub run_told : (config : Configuration) (files : List NamedFile) (whole : Whole) (tick : ℕ) → IsRun config files whole tick → world_of config files whole tick ≡ world_at config files tick
run_told config files whole tick run = λ i. record { config = config; files = files; tick = tick; states = run.states i }

-- each partition's state is what it is alone
pub alone_told : (config : Configuration) (files : List NamedFile) (whole : Whole) (tick : ℕ) (world : World) → IsRun config files whole tick → world_of config files whole tick ≡ world
    → world ≡ world_at world.config world.files world.tick
alone_told config files whole tick world run view =
    sym view ∙ (run_told config files whole tick run ∙ ap (λ (w : World). world_at w.config w.files w.tick) view)

pub states_counted : (world : World) → world ≡ world_at world.config world.files world.tick → length world.states ≡ length world.config.sections
states_counted world alone =
    ap (λ (w : World). length w.states) alone ∙ length-states_to (λ p. alone_in world.config world.files p world.tick) (length world.config.sections)

pub state_alone : (world : World) (p : ℕ) → world ≡ world_at world.config world.files world.tick → p < length world.config.sections
    → state_of world p ≡ alone_in world.config world.files p world.tick
state_alone world p alone lt = ap (λ (w : World). state_of w p) alone ∙ alone_at world.config world.files world.tick p lt

-- a partition's state is that of the tables and its account
pub state_kept : (config : Configuration) (files : List NamedFile) (whole : Whole) (tick : ℕ) (world : World) → IsRun config files whole tick → world_of config files whole tick ≡ world
    → (p : ℕ) → p < length world.config.sections → state_at p whole ≡ state_of world p
state_kept config files whole tick world run view p lt =
    let within : p < length config.sections = subst (λ (w : World). p < length w.config.sections) (sym view) lt in
    let counted : p < length whole.accounts = subst (λ (n : ℕ). p < n) (sym run.parts) within in
    sym (get_or-states_to (λ q. state_at q whole) (length whole.accounts) p counted) ∙ ap (λ (w : World). state_of w p) view

-- ---- one system at two ticks

-- what is at a tick of what is at a tick of the first is at that tick of the first
pub at_again : (first now later : World) (n : ℕ) → now ≡ at_tick now.tick first → later ≡ at_tick n now → later ≡ at_tick later.tick first
at_again first now later n is goes =
    let same : later ≡ at_tick n first = goes ∙ ap (at_tick n) is in
    same ∙ ap (λ (k : ℕ). at_tick k first) (sym (ap (λ (w : World). w.tick) same))
