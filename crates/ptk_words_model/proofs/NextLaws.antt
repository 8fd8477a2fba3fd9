-- The laws of the first own tick.
use Rattle.std.proofs.Common.{◌≡◌, ℕ, ◌+◌, ◌*◌, ◌/◌, ◌%◌, ◌<◌, ◌≤◌, max, true, List, [], filter, Option, Some, None, is_some, Any, All, MatchOption, refl, sym, subst, inl, inr, arith}
use Rattle.std.specs.List.{flat_map}
use Rattle.std.proofs.lemmas.Bool.{cases_order}
use Rattle.std.proofs.lemmas.Option.{MatchOption-at_none, MatchOption-at_some}
use Rattle.std.proofs.Math.Nat.{mul-le-mul_right}
use Rattle.ptk_words_model.specs.declared.window.Window.{Window}
use Rattle.ptk_words_model.specs.Windows.{Stage, WindowPlan, Holds, end_of, windows_at, firsts_of, IsOwn, IsFirstOwn, IsOwnUntil, IsTable, IsPlan, IsInForce, windows_of, first_from, own_ticks}
use Rattle.ptk_words_model.proofs.Lists.{MatchOption-weaker, Any-nil, Any-weaker, Any-all, Any-filter, Any-filtered, Any-map, Any-mapped, Any-flat, Any-flattened, reduce-min}
use Rattle.ptk_words_model.proofs.Places.{Fits, first_holds, first_not_before, first_least, first_near}
use Rattle.ptk_words_model.proofs.InForce.{in_force, in_force_back, one_in_force, tick_from, from_tick, number_order}
use Rattle.ptk_words_model.proofs.OwnLaws.{all_fit, Any-of, Any-among, only_one, no_one, own_from, end_none, end_of_window}

-- the test of an own tick
own_true : (plan : WindowPlan) (p tick : ℕ) → IsOwn plan p tick → is_some (end_of plan p tick) ≡ true
own_true plan p tick own = by (end_of plan p tick) (end_of_window plan p tick)
  where
    by : (o : Option ℕ) → MatchOption o (¬ IsOwn plan p tick) (IsOwnUntil plan p tick) → is_some o ≡ true
    by None other = absurd (other own)
    by (Some end) until = refl

true_own : (plan : WindowPlan) (p tick : ℕ) → is_some (end_of plan p tick) ≡ true → IsOwn plan p tick
true_own plan p tick test = by (end_of plan p tick) (end_of_window plan p tick) test
  where
    by : (o : Option ℕ) → MatchOption o (¬ IsOwn plan p tick) (IsOwnUntil plan p tick) → is_some o ≡ true → IsOwn plan p tick
    by None other h = absurd cc
    by (Some end) until h = own_from plan p tick end until

-- ---- the first ticks of the partition's windows, those that are its own
abbrev found : WindowPlan → ℕ → ℕ → List ℕ
found plan p tick = filter (λ n. is_some (end_of plan p n)) (flat_map (firsts_of plan p tick) plan.stages)

-- from where a stage's windows are looked up
abbrev begin_of : WindowPlan → ℕ → Stage → ℕ
begin_of plan tick stage = max tick (stage.from * plan.frame)

-- n is the first tick of some window of the partition in some stage
abbrev IsSome : WindowPlan → ℕ → ℕ → ℕ → Type 0
IsSome plan p tick n = Any (λ stage. Any (λ w. first_from plan.frame (begin_of plan tick stage) w ≡ n) (windows_of p stage.windows)) plan.stages

some_found : (plan : WindowPlan) (p tick n : ℕ) → IsSome plan p tick n → IsOwn plan p n → Any (λ k. k ≡ n) (found plan p tick)
some_found plan p tick n some own =
    Any-filter (λ k. is_some (end_of plan p k)) (λ k. k ≡ n) (flat_map (firsts_of plan p tick) plan.stages)
    (Any-weaker (λ k. k ≡ n) (λ k. (is_some (end_of plan p k) ≡ true) × (k ≡ n)) (λ k same. (subst (λ (m : ℕ). is_some (end_of plan p m) ≡ true) (sym same) (own_true plan p n own), same)) (flat_map (firsts_of plan p tick) plan.stages)
    (Any-flat (firsts_of plan p tick) (λ k. k ≡ n) plan.stages
    (Any-weaker (λ stage. Any (λ w. first_from plan.frame (begin_of plan tick stage) w ≡ n) (windows_of p stage.windows)) (λ stage. Any (λ k. k ≡ n) (firsts_of plan p tick stage))
    (λ stage h. Any-map (first_from plan.frame (begin_of plan tick stage)) (λ k. k ≡ n) (windows_of p stage.windows) h) plan.stages some)))

found_some : (plan : WindowPlan) (p tick n : ℕ) → Any (λ k. k ≡ n) (found plan p tick) → IsSome plan p tick n × IsOwn plan p n
found_some plan p tick n h =
    let kept = Any-filtered (λ k. is_some (end_of plan p k)) (λ k. k ≡ n) (flat_map (firsts_of plan p tick) plan.stages) h in
    let flat = Any-flattened (firsts_of plan p tick) (λ k. k ≡ n) plan.stages
    (Any-weaker (λ k. (is_some (end_of plan p k) ≡ true) × (k ≡ n)) (λ k. k ≡ n) (λ k both. both.1) (flat_map (firsts_of plan p tick) plan.stages) kept) in (
      Any-weaker (λ stage. Any (λ k. k ≡ n) (firsts_of plan p tick stage)) (λ stage. Any (λ w. first_from plan.frame (begin_of plan tick stage) w ≡ n) (windows_of p stage.windows))
          (λ stage one. Any-mapped (first_from plan.frame (begin_of plan tick stage)) (λ k. k ≡ n) (windows_of p stage.windows) one) plan.stages flat,
      true_own plan p n (subst (λ (m : ℕ). is_some (end_of plan p m) ≡ true) kept.4.1 kept.4.0),
    )

-- each own tick from the tick on has one of them before it or at it
some_before : (plan : WindowPlan) (p tick k : ℕ) → IsPlan plan → tick ≤ k → IsOwn plan p k → (n : ℕ) × (n ≤ k) × Any (λ m. m ≡ n) (found plan p tick)
some_before plan p tick k is from own =
    let one = one_in_force plan (k / plan.frame) is in
    let stage = one.0 in
    let here : windows_at plan k ≡ stage.windows = in_force plan.stages (k / plan.frame) stage is.rising one.1 in
    let listed = Any-all (λ s. s ≡ stage) (λ s. IsTable plan.frame s.windows) plan.stages is.tables one.1.listed in
    let table : IsTable plan.frame stage.windows = subst (λ (s : Stage). IsTable plan.frame s.windows) listed.4.0 listed.4.1 in
    let windows = Any-all (λ w. (w.partition ≡ p) × Holds w (k % plan.frame)) (Fits plan.frame) stage.windows (all_fit plan.frame stage.windows table)
    (subst (λ (ws : List Window). Any (λ w. (w.partition ≡ p) × Holds w (k % plan.frame)) ws) here own) in
    let w = windows.1 in
    let m = begin_of plan tick stage in
    let n = first_from plan.frame m w in
    let begun : stage.from * plan.frame ≤ k = tick_from plan.frame k stage.from one.1.begun in
    let low : m ≤ n = first_not_before plan.frame m w is.frame in
    let high : n ≤ k = first_least plan.frame m k w is.frame windows.4.1 (omega (arith, from, begun)) windows.4.0.1 in
    let back : IsInForce plan.stages (n / plan.frame) stage = in_force_back plan.stages (k / plan.frame) (n / plan.frame) stage one.1
    (from_tick plan.frame n stage.from is.frame (omega (arith, low))) (number_order plan.frame n k is.frame high) in
    let there : windows_at plan n ≡ stage.windows = in_force plan.stages (n / plan.frame) stage is.rising back in
    let own_n : IsOwn plan p n = subst (λ (ws : List Window). Any (λ v. (v.partition ≡ p) × Holds v (n % plan.frame)) ws) (sym there)
    (windows.0, w, windows.2, windows.3, (windows.4.0.0, first_holds plan.frame m w is.frame windows.4.1)) in
    let some : IsSome plan p tick n = Any-weaker (λ s. s ≡ stage) (λ s. Any (λ v. first_from plan.frame (begin_of plan tick s) v ≡ n) (windows_of p s.windows))
    (λ s same. subst (λ (u : Stage). Any (λ v. first_from plan.frame (begin_of plan tick u) v ≡ n) (windows_of p u.windows)) (sym same)
    (Any-of p stage.windows (λ v. first_from plan.frame m v ≡ n) (windows.0, w, windows.2, windows.3, (windows.4.0.0, refl)))) plan.stages one.1.listed in
    (n, high, some_found plan p tick n some own_n)

none_from : (plan : WindowPlan) (p tick : ℕ) → IsPlan plan → found plan p tick ≡ [] → (n : ℕ) → tick ≤ n → ¬ IsOwn plan p n
none_from plan p tick is none n from own =
    let one = some_before plan p tick n is from own in
    Any-nil (λ m. m ≡ one.0) (subst (λ (ns : List ℕ). Any (λ m. m ≡ one.0) ns) none one.2)

least_first : (plan : WindowPlan) (p tick n : ℕ) → IsPlan plan → Any (λ k. k ≡ n) (found plan p tick) → All (λ k. n ≤ k) (found plan p tick) → IsFirstOwn plan p tick n
least_first plan p tick n is reached least =
    let some = found_some plan p tick n reached in
    let stage = some.0.1 in
    let window = some.0.4 in
    record {
      own = some.1;
      not_before = omega (arith, first_not_before plan.frame (begin_of plan tick stage) window.1 is.frame, window.4);
      least = λ k from below own.
          let one = some_before plan p tick k is from own in
          let more = Any-all (λ m. m ≡ one.0) (λ m. n ≤ m) (found plan p tick) least one.2 in
          omega (arith, one.1, more.4.0, more.4.1, below);
    }

pub next_first : (plan : WindowPlan) (p tick : ℕ) → IsPlan plan → MatchOption ((own_ticks plan p).next_of tick) ((n : ℕ) → tick ≤ n → ¬ IsOwn plan p n) (IsFirstOwn plan p tick)
next_first plan p tick is =
    MatchOption-weaker (found plan p tick ≡ []) ((n : ℕ) → tick ≤ n → ¬ IsOwn plan p n) (λ n. Any (λ k. k ≡ n) (found plan p tick) × All (λ k. n ≤ k) (found plan p tick)) (IsFirstOwn plan p tick)
    (none_from plan p tick is) (λ n h. least_first plan p tick n is h.0 h.1) ((own_ticks plan p).next_of tick) (reduce-min (found plan p tick))

pub first_same : (plan : WindowPlan) (p tick m n : ℕ) → IsFirstOwn plan p tick m → IsFirstOwn plan p tick n → m ≡ n
first_same plan p tick m n one other =
    elim (cases_order m n) [
      | inl same ↦ same
      | inr (inl below) ↦ absurd (other.least m one.not_before below one.own)
      | inr (inr above) ↦ absurd (one.least n other.not_before above other.own)
    ]

pub next_one : (plan : WindowPlan) (p tick n : ℕ) → IsPlan plan → IsFirstOwn plan p tick n → (own_ticks plan p).next_of tick ≡ Some n
next_one plan p tick n is first =
    only_one ((k : ℕ) → tick ≤ k → ¬ IsOwn plan p k) (IsFirstOwn plan p tick) n (λ none. none n first.not_before first.own) (λ m other. first_same plan p tick m n other first)
    ((own_ticks plan p).next_of tick) (next_first plan p tick is)

pub next_none : (plan : WindowPlan) (p tick : ℕ) → IsPlan plan → ((k : ℕ) → tick ≤ k → ¬ IsOwn plan p k) → (own_ticks plan p).next_of tick ≡ None
next_none plan p tick is none =
    no_one ((k : ℕ) → tick ≤ k → ¬ IsOwn plan p k) (IsFirstOwn plan p tick) (λ n first. none n first.not_before first.own) ((own_ticks plan p).next_of tick) (next_first plan p tick is)

-- it is some window's of some stage
near_by : (plan : WindowPlan) (p tick last n : ℕ) → IsPlan plan → All (λ stage. stage.from ≤ last) plan.stages → IsSome plan p tick n → n < max tick (last * plan.frame) + plan.frame
near_by plan p tick last n is most some =
    let both = Any-all (λ stage. Any (λ w. first_from plan.frame (begin_of plan tick stage) w ≡ n) (windows_of p stage.windows)) (λ stage. (stage.from ≤ last) × IsTable plan.frame stage.windows) plan.stages
    (λ k d below. (most k d below, is.tables k d below)) some in
    let stage = both.1 in
    let window = Any-all (λ w. (w.partition ≡ p) × (first_from plan.frame (begin_of plan tick stage) w ≡ n)) (Fits plan.frame) stage.windows (all_fit plan.frame stage.windows both.4.1.1)
    (Any-among p stage.windows (λ w. first_from plan.frame (begin_of plan tick stage) w ≡ n) both.4.0) in
    let near = first_near plan.frame (begin_of plan tick stage) window.1 is.frame window.4.1 in
    let order : stage.from * plan.frame ≤ last * plan.frame = mul-le-mul_right plan.frame both.4.1.0 in
    omega (arith, near, order, window.4.0.1)

pub next_near : (plan : WindowPlan) (p tick last n : ℕ) → IsPlan plan → All (λ stage. stage.from ≤ last) plan.stages → (own_ticks plan p).next_of tick ≡ Some n → n < max tick (last * plan.frame) + plan.frame
next_near plan p tick last n is most next =
    let reached = MatchOption-at_some (found plan p tick ≡ []) (λ m. Any (λ k. k ≡ m) (found plan p tick) × All (λ k. m ≤ k) (found plan p tick)) n next (reduce-min (found plan p tick)) in
    near_by plan p tick last n is most (found_some plan p tick n reached.0).0

-- where no own tick comes there is none
pub quiet_for_ever : (plan : WindowPlan) (p tick : ℕ) → IsPlan plan → (own_ticks plan p).next_of tick ≡ None → (k : ℕ) → tick ≤ k → (own_ticks plan p).end_at k ≡ None
quiet_for_ever plan p tick is none k from =
    end_none plan p k (MatchOption-at_none ((n : ℕ) → tick ≤ n → ¬ IsOwn plan p n) (IsFirstOwn plan p tick) none (next_first plan p tick is) k from)
