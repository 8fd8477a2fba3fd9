-- The stage in force in a frame, and its windows.
use Rattle.std.proofs.Common.{◌≡◌, ℕ, suc, ◌*◌, ◌/◌, ◌<◌, ◌≤◌, leb, cond, List, [], ◌∷◌, get_or, fold, Any, All, AllPairs, refl, sym, ap, subst, ◌∙◌, inl, inr, ◌⊎◌, arith}
use Rattle.std.proofs.lemmas.Bool.{cases_lt, cond-true, cond-false, le-leb, lt-leb}
use Rattle.std.proofs.lemmas.List.Elements.{All-nil, All-cons, All-head, All-tail}
use Rattle.std.proofs.lemmas.Nat.{le-div, div-add-mod'}
use Rattle.std.proofs.Math.Nat.{mul-le-mul_right}
use Rattle.ptk_words_model.specs.declared.window.Window.{Window}
use Rattle.ptk_words_model.specs.Windows.{Stage, WindowPlan, windows_in_frame, IsTable, IsPlan, IsInForce}
use Rattle.ptk_words_model.proofs.Lists.{Any-here, Any-there, Any-nil, Any-cases, Any-all}

pub AllPairs-head : {X : Type 0} (R : X → X → Type 0) (x : X) (xs : List X) → AllPairs R (x ∷ xs) → All (R x) xs
AllPairs-head R x xs pairs k d below = pairs 0 (suc k) d (omega arith) (omega (arith, below))

pub AllPairs-tail : {X : Type 0} (R : X → X → Type 0) (x : X) (xs : List X) → AllPairs R (x ∷ xs) → AllPairs R xs
AllPairs-tail R x xs pairs i j d before below = pairs (suc i) (suc j) d (omega (arith, before)) (omega (arith, below))

-- the windows after a stage
abbrev begin : ℕ → List Window → Stage → List Window
begin number windows stage = cond (leb stage.from number) stage.windows windows

none_begun : (stages : List Stage) (number : ℕ) (windows : List Window) → All (λ s. number < s.from) stages → fold (begin number) windows stages ≡ windows
none_begun [] number windows later = refl
none_begun (s ∷ stages) number windows later =
    ap (λ (ws : List Window). fold (begin number) ws stages) (cond-false (leb s.from number) s.windows windows (lt-leb s.from number (All-head (λ t. number < t.from) s stages later)))
    ∙ none_begun stages number windows (All-tail (λ t. number < t.from) s stages later)

abbrev pub Rises : List Stage → Type 0
Rises = AllPairs (λ s u. s.from < u.from)

latest_is : (stages : List Stage) (number : ℕ) (stage : Stage) (windows : List Window) → Rises stages → Any (λ s. s ≡ stage) stages → stage.from ≤ number
    → All (λ s. s.from ≤ number → s.from ≤ stage.from) stages → fold (begin number) windows stages ≡ stage.windows
latest_is [] number stage windows rises listed begun latest = absurd (Any-nil (λ s. s ≡ stage) listed)
latest_is (s ∷ stages) number stage windows rises listed begun latest =
    elim (Any-cases (λ u. u ≡ stage) s stages listed) [
      | inl here ↦
          let later : All (λ u. number < u.from) stages = λ k d below.
          let above = AllPairs-head (λ t u. t.from < u.from) s stages rises k d below in
          let most = All-tail (λ u. u.from ≤ number → u.from ≤ stage.from) s stages latest k d below in
          let same : s.from ≡ stage.from = ap (λ (u : Stage). u.from) here in
          elim (cases_lt number (get_or stages k d).from) [
            | inl above_it ↦ above_it
            | inr begun_too ↦ absurd (omega (arith, above, most begun_too, same))
          ] in
          none_begun stages number (begin number windows s) later
          ∙ (cond-true (leb s.from number) s.windows windows (le-leb s.from number (subst (λ (u : Stage). u.from ≤ number) (sym here) begun))
          ∙ ap (λ (u : Stage). u.windows) here)
      | inr there ↦
          latest_is stages number stage (begin number windows s) (AllPairs-tail (λ t u. t.from < u.from) s stages rises) there begun
          (All-tail (λ u. u.from ≤ number → u.from ≤ stage.from) s stages latest)
    ]

pub in_force : (stages : List Stage) (number : ℕ) (stage : Stage) → Rises stages → IsInForce stages number stage → windows_in_frame stages number ≡ stage.windows
in_force stages number stage rises is = latest_is stages number stage [] rises is.listed is.begun is.latest

-- there is one, unless all begin later
some_in_force : (stages : List Stage) (number : ℕ) → All (λ s. number < s.from) stages ⊎ ((stage : Stage) × IsInForce stages number stage)
some_in_force [] number = inl (All-nil (λ s. number < s.from))
some_in_force (s ∷ stages) number =
    elim (cases_lt number s.from) [
      | inl later ↦ elim (some_in_force stages number) [
        | inl none ↦ inl (All-cons (λ t. number < t.from) s stages later none)
        | inr some ↦ inr (
          some.0,
          record {
            listed = Any-there (λ t. t ≡ some.0) s stages some.1.listed;
            begun = some.1.begun;
            latest = All-cons (λ t. t.from ≤ number → t.from ≤ some.0.from) s stages (λ begun. absurd (omega (arith, later, begun))) some.1.latest;
          },
        )
      ]
      | inr begun ↦ elim (some_in_force stages number) [
        | inl none ↦ inr (
          s,
          record {
            listed = Any-here (λ t. t ≡ s) s stages refl;
            begun = begun;
            latest = All-cons (λ t. t.from ≤ number → t.from ≤ s.from) s stages (λ _. omega arith) (λ k d below too. absurd (omega (arith, none k d below, too)));
          },
        )
        | inr some ↦ elim (cases_lt some.0.from s.from) [
          | inl before ↦ inr (
            s,
            record {
              listed = Any-here (λ t. t ≡ s) s stages refl;
              begun = begun;
              latest = All-cons (λ t. t.from ≤ number → t.from ≤ s.from) s stages (λ _. omega arith) (λ k d below too. omega (arith, some.1.latest k d below too, before));
            },
          )
          | inr after ↦ inr (
            some.0,
            record {
              listed = Any-there (λ t. t ≡ some.0) s stages some.1.listed;
              begun = some.1.begun;
              latest = All-cons (λ t. t.from ≤ number → t.from ≤ some.0.from) s stages (λ _. after) some.1.latest;
            },
          )
        ]
      ]
    ]

pub one_in_force : (plan : WindowPlan) (number : ℕ) → IsPlan plan → (stage : Stage) × IsInForce plan.stages number stage
one_in_force plan number is =
    elim (some_in_force plan.stages number) [
      | inl none ↦
          let first = Any-all (λ s. s.from ≡ 0) (λ s. number < s.from) plan.stages none is.begins in
          absurd (omega (arith, first.4.0, first.4.1))
      | inr some ↦ some
    ]

-- the windows of each frame are a table
pub table_in : (plan : WindowPlan) (number : ℕ) → IsPlan plan → IsTable plan.frame (windows_in_frame plan.stages number)
table_in plan number is =
    let one = one_in_force plan number is in
    let table = Any-all (λ s. s ≡ one.0) (λ s. IsTable plan.frame s.windows) plan.stages is.tables one.1.listed in
    subst (IsTable plan.frame) (sym (in_force plan.stages number one.0 is.rising one.1)) (subst (λ (s : Stage). IsTable plan.frame s.windows) table.4.0 table.4.1)

-- a stage in force in a frame is in force in every earlier one from its beginning on
pub in_force_back : (stages : List Stage) (number before : ℕ) (stage : Stage) → IsInForce stages number stage → stage.from ≤ before → before ≤ number → IsInForce stages before stage
in_force_back stages number before stage is from to =
    record {
      listed = is.listed;
      begun = from;
      latest = λ k d below begun. is.latest k d below (omega (arith, begun, to));
    }

-- frames of ticks
pub tick_from : (frame tick from : ℕ) → from ≤ tick / frame → from * frame ≤ tick
tick_from frame tick from le = omega (arith, div-add-mod' tick frame, mul-le-mul_right frame le)

pub from_tick : (frame tick from : ℕ) → 0 < frame → from * frame ≤ tick → from ≤ tick / frame
from_tick frame tick from positive le = le-div from tick frame positive le

pub number_order : (frame tick k : ℕ) → 0 < frame → tick ≤ k → tick / frame ≤ k / frame
number_order frame tick k positive le =
    from_tick frame k (tick / frame) positive (omega (arith, div-add-mod' tick frame, le))
