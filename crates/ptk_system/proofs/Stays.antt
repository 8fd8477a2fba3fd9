-- What stays of a partition up to its next decision, and while it has nothing to do.
use Rattle.std.proofs.Common.{◌≡◌, ℕ, zero, suc, ◌+◌, ◌-◌, ◌<◌, ◌≤◌, Bool, true, false, length, Option, Some, None, ◌⊎◌, inl, inr, if◌then◌else◌, refl, sym, ap, subst, ◌∙◌, add-one, arith}
use Rattle.std.specs.Prelude.{IsSome}
use Rattle.std.proofs.lemmas.Bool.{cases_lt}
use Rattle.ptk_words.specs.Ranges.{IsWithinLimits}
use Rattle.ptk_words.specs.declared.sections.Limits.{Limits}
use Rattle.ptk_words_model.specs.Windows.{OwnTicks, WindowPlan, IsPlan, own_ticks}
use Rattle.ptk_words_model.specs.State.{Part, State}
use Rattle.ptk_words_model.specs.Decision.{Decision}
use Rattle.ptk_words_model.specs.Run.{accounted, after_tick_until, decided, is_at, next_from}
use Rattle.ptk_words.specs.Faults.{is_active}
use Rattle.ptk_words_invariant.specs.Well.{IsWell}
use Rattle.ptk_words_invariant.proofs.Runs.{sound_alone}
use Rattle.ptk_words_laws.specs.Quiet.{after_ticks}
use Rattle.ptk_words_laws.specs.Idle.{IsIdle, waiting_from}
use Rattle.ptk_words_laws.proofs.IdleTicks.{idle_decided}
use Rattle.ptk_config.specs.Configuration.{IsConfiguration}
use Rattle.ptk_system_machine.specs.Accounts.{IsBehind}
use Rattle.ptk_system_machine.proofs.Ticks.{in_window, not_due, still_on}
use Rattle.ptk_system.specs.Missing.{image_in}
use Rattle.ptk_system.specs.World.{World, alone_in, at_tick, but_next, no_section, section_at, state_of, world_at}
use Rattle.ptk_system.proofs.Bounds.{alone_behind}
use Rattle.ptk_system.proofs.Keeping.{alone_at, state_alone}
use Rattle.ptk_system.proofs.Latest.{IsOwnFrom, first_own, idle_later, next_is_own, unseen_idle}
use Rattle.ptk_system.proofs.Runs.{alone_to, is_plan}

-- ---- ticks over which a partition has nothing to do

-- an idle decision leaves all but the tick of the next one
idle_leaves : (plan : WindowPlan) (p : ℕ) (limits : Limits) (stop tick room : ℕ) (s : State) → IsIdle stop s.part → tick < stop → 1 ≤ room
    → but_next (decided (own_ticks plan p) limits tick room s) ≡ but_next s
idle_leaves plan p limits stop tick room s idle lt le =
    let seen : Decision → State = λ d. but_next (record { part = d.part; account = accounted (own_ticks plan p) limits tick room d.part d.spent s.account }) in
    ap seen (idle_decided limits tick stop room s.part idle lt le)

-- one tick more of a partition that has nothing to do
idle_more : (plan : WindowPlan) (p : ℕ) (limits : Limits) (stop tick : ℕ) (s before : State) → IsPlan plan → plan.frame ≤ 1000000 → IsIdle stop s.part → tick < stop → but_next before ≡ but_next s
    → (o : Option ℕ) → (own_ticks plan p).end_at tick ≡ o → but_next (after_tick_until o (own_ticks plan p) limits tick before) ≡ but_next s
idle_more plan p limits stop tick s before is near idle lt same None own = same
idle_more plan p limits stop tick s before is near idle lt same (Some end) own = at (is_at tick before.account.next)
  where
    room : ℕ
    room = end - tick

    at : (b : Bool) → but_next (if b then decided (own_ticks plan p) limits tick room before else before) ≡ but_next s
    at false = same
    at true =
        let here : IsIdle stop before.part = subst (IsIdle stop) (sym (ap (λ (x : State). x.part) same)) idle in
        idle_leaves plan p limits stop tick room before here lt (omega (arith, (in_window plan p tick end is near own).before)) ∙ same

-- ticks up to which a partition has nothing to do leave all but the tick of its next decision
pub idle_stays : (plan : WindowPlan) (p : ℕ) (limits : Limits) (stop tick n : ℕ) (s : State) → IsPlan plan → plan.frame ≤ 1000000 → IsIdle stop s.part → tick + n ≤ stop
    → but_next (after_ticks (own_ticks plan p) limits tick n s) ≡ but_next s
unfolding after_ticks
idle_stays plan p limits stop tick zero s is near idle le = refl
idle_stays plan p limits stop tick (suc n) s is near idle le =
    idle_more plan p limits stop (tick + n) s (after_ticks (own_ticks plan p) limits tick n s) is near idle (omega (arith, le))
    (idle_stays plan p limits stop tick n s is near idle (omega (arith, le))) ((own_ticks plan p).end_at (tick + n)) refl

-- ---- of a system

-- a partition's state at a later tick, from the one that the system has
pub state_later : (world : World) (p k : ℕ) → world ≡ world_at world.config world.files world.tick → p < length world.config.sections → world.tick ≤ k
    → state_of (at_tick k world) p ≡ after_ticks (own_ticks world.config.plan p) (section_at world.config p).limits world.tick (k - world.tick) (state_of world p)
state_later world p k alone lt from =
    alone_at world.config world.files k p lt
    ∙ (alone_to world.config world.files p world.tick k from
    ∙ ap (after_ticks (own_ticks world.config.plan p) (section_at world.config p).limits world.tick (k - world.tick)) (sym (state_alone world p alone lt)))

-- up to a tick to which the partition has nothing to do
pub stays_idle : (world : World) (p k until : ℕ) (part : Part) → IsConfiguration world.config → world ≡ world_at world.config world.files world.tick → p < length world.config.sections
    → part ≡ (state_of world p).part → IsIdle until part → world.tick ≤ k → k ≤ until
    → but_next (state_of (at_tick k world) p) ≡ but_next (state_of world p)
stays_idle world p k until part is alone lt at idle from le =
    let own : IsIdle until (state_of world p).part = subst (IsIdle until) at idle in
    let within : world.tick + (k - world.tick) ≤ until = omega (arith, from, le) in
    ap but_next (state_later world p k alone lt from)
    ∙ idle_stays world.config.plan p (section_at world.config p).limits until world.tick (k - world.tick) (state_of world p) (is_plan world.config is) is.frame_to own within

-- up to the next decision
pub stays_next : (world : World) (p k : ℕ) → world ≡ world_at world.config world.files world.tick → p < length world.config.sections
    → ((j : ℕ) → (state_of world p).account.next ≡ Some j → k ≤ j) → world.tick ≤ k → but_next (state_of (at_tick k world) p) ≡ but_next (state_of world p)
stays_next world p k alone lt later from =
    let next : Option ℕ = (state_of world p).account.next in
    ap but_next (state_later world p k alone lt from
    ∙ still_on (own_ticks world.config.plan p) (section_at world.config p).limits world.tick (k - world.tick) (state_of world p)
    (λ j le below. not_due next world.tick k j (λ i e at. later i e) le (omega (arith, below, from))))

-- ---- the next decision of a system's partition

next_here : (world : World) (p k : ℕ) → IsConfiguration world.config → world ≡ world_at world.config world.files world.tick → p < length world.config.sections
    → (state_of world p).account.next ≡ Some k → IsOwnFrom world.config.plan p world.tick k
next_here world p k is alone lt at =
    next_is_own world.config.plan p (section_at world.config p).limits (image_in world.files (section_at world.config p).image) (section_at world.config p).input world.tick k (is_plan world.config is)
    (sym (ap (λ (s : State). s.account.next) (state_alone world p alone lt)) ∙ at)

pub well_here : (world : World) (p : ℕ) → IsConfiguration world.config → world ≡ world_at world.config world.files world.tick → p < length world.config.sections
    → IsWell (section_at world.config p).limits (state_of world p).part
well_here world p is alone lt =
    let limits : IsWithinLimits (section_at world.config p).limits = is.ranges.limits p no_section lt in
    subst (λ (s : State). IsWell (section_at world.config p).limits s.part) (sym (state_alone world p alone lt))
    (sound_alone (own_ticks world.config.plan p) (section_at world.config p).limits (image_in world.files (section_at world.config p).image) (section_at world.config p).input world.tick limits.threads_from limits.interval_from).well

active_here : (world : World) (p k : ℕ) → IsConfiguration world.config → world ≡ world_at world.config world.files world.tick → p < length world.config.sections
    → (state_of world p).account.next ≡ Some k → is_active (state_of world p).part.status ≡ true
active_here world p k is alone lt at =
    let behind : IsBehind world.tick (state_of world p) =
    subst (IsBehind world.tick) (sym (state_alone world p alone lt))
    (alone_behind world.config.plan p (section_at world.config p).limits (image_in world.files (section_at world.config p).image) (section_at world.config p).input world.tick (is_plan world.config is) is.frame_to) in
    behind.active (subst IsSome (sym at) refl)

-- a partition's state after one tick more
one_later : (world : World) (p n : ℕ) (s : State) → p < length world.config.sections → state_of (at_tick n world) p ≡ s
    → state_of (at_tick (n + 1) world) p ≡ after_tick_until ((own_ticks world.config.plan p).end_at n) (own_ticks world.config.plan p) (section_at world.config p).limits n s
one_later world p n s lt at =
    alone_at world.config world.files (n + 1) p lt
    ∙ (ap (alone_in world.config world.files p) (add-one n)
    ∙ ap (after_tick_until ((own_ticks world.config.plan p).end_at n) (own_ticks world.config.plan p) (section_at world.config p).limits n) (sym (alone_at world.config world.files n p lt) ∙ at))

-- ---- the latest tick up to which a partition stays

-- where nothing changes with its next decision, it has nothing to do up to the tick behind that
pub next_unseen : (world : World) (p n k : ℕ) → IsConfiguration world.config → world ≡ world_at world.config world.files world.tick → p < length world.config.sections
    → (state_of world p).account.next ≡ Some n → n < k
    → ((j : ℕ) → world.tick ≤ j → j ≤ k → but_next (state_of (at_tick j world) p) ≡ but_next (state_of world p)) → IsIdle (n + 1) (state_of world p).part
next_unseen world p n k is alone lt at before unchanged =
    let own : IsOwnFrom world.config.plan p world.tick n = next_here world p n is alone lt at in
    let reached : state_of (at_tick n world) p ≡ state_of world p =
    state_later world p n alone lt own.from
    ∙ still_on (own_ticks world.config.plan p) (section_at world.config p).limits world.tick (n - world.tick) (state_of world p)
    (λ j from below. not_due (state_of world p).account.next world.tick n j (λ i e le. let same : i ≡ n = cc in omega (arith, same)) from (omega (arith, below, own.from))) in
    unseen_idle world.config.plan p (section_at world.config p).limits n (state_of world p) (is_plan world.config is) (well_here world p is alone lt) (active_here world p n is alone lt at) at own.own
    (sym (ap but_next (one_later world p n (state_of world p) lt reached)) ∙ unchanged (n + 1) (omega (arith, own.from)) (omega (arith, before)))

-- a partition that has nothing to do, at ticks that are not its own behind those
jump_to : (world : World) (p n until k : ℕ) → IsConfiguration world.config → world ≡ world_at world.config world.files world.tick → p < length world.config.sections
    → (state_of world p).account.next ≡ Some n → IsIdle until (state_of world p).part → n < until → until ≤ k
    → ((j : ℕ) → until ≤ j → j < k → (own_ticks world.config.plan p).end_at j ≡ None) → state_of (at_tick k world) p ≡ waiting_from (own_ticks world.config.plan p) until (state_of world p)
jump_to world p n until k is alone lt at idle before later none =
    let own : IsOwnFrom world.config.plan p world.tick n = next_here world p n is alone lt at in
    state_later world p k alone lt (omega (arith, own.from, before, later))
    ∙ idle_later world.config.plan p (section_at world.config p).limits world.tick n until k (state_of world p) (is_plan world.config is) idle at own.own own.from (omega (arith, before)) later none

-- up to its first own tick behind those
pub stays_jump : (world : World) (p n until k : ℕ) (part : Part) → IsConfiguration world.config → world ≡ world_at world.config world.files world.tick → p < length world.config.sections
    → (state_of world p).account.next ≡ Some n → part ≡ (state_of world p).part → IsIdle until part → n < until
    → ((j : ℕ) → until ≤ j → j < k → (own_ticks world.config.plan p).end_at j ≡ None) → world.tick ≤ k → but_next (state_of (at_tick k world) p) ≡ but_next (state_of world p)
stays_jump world p n until k part is alone lt at kept idle before none from = by (cases_lt k until)
  where
    by : (k < until) ⊎ (until ≤ k) → but_next (state_of (at_tick k world) p) ≡ but_next (state_of world p)
    by (inl sooner) = stays_idle world p k until part is alone lt kept idle from (omega (arith, sooner))
    by (inr later) = ap but_next (jump_to world p n until k is alone lt at (subst (IsIdle until) kept idle) before later none)

-- where nothing changes with the decision at that tick, it has nothing to do up to the tick behind it
pub jump_unseen : (world : World) (p n until r k : ℕ) (part : Part) → IsConfiguration world.config → world ≡ world_at world.config world.files world.tick → p < length world.config.sections
    → (state_of world p).account.next ≡ Some n → part ≡ (state_of world p).part → IsIdle until part → n < until → until ≤ r
    → ((j : ℕ) → until ≤ j → j < r → (own_ticks world.config.plan p).end_at j ≡ None) → (own_ticks world.config.plan p).next_of until ≡ Some r → r < k
    → ((j : ℕ) → world.tick ≤ j → j ≤ k → but_next (state_of (at_tick j world) p) ≡ but_next (state_of world p)) → IsIdle (r + 1) (state_of world p).part
jump_unseen world p n until r k part is alone lt at kept idle before later none next below unchanged =
    let ticks : OwnTicks = own_ticks world.config.plan p in
    let own : IsOwnFrom world.config.plan p world.tick n = next_here world p n is alone lt at in
    let here : IsIdle until (state_of world p).part = subst (IsIdle until) kept idle in
    let reached : state_of (at_tick r world) p ≡ waiting_from (own_ticks world.config.plan p) until (state_of world p) = jump_to world p n until r is alone lt at here before later none in
    let due : next_from (own_ticks world.config.plan p) (state_of world p).part.status until ≡ Some r =
    ap (λ (b : Bool). if b then (own_ticks world.config.plan p).next_of until else None) here.active ∙ next in
    let at_own : IsOwnFrom world.config.plan p until r = first_own world.config.plan p until r (state_of world p).part.status (is_plan world.config is) due in
    unseen_idle world.config.plan p (section_at world.config p).limits r (waiting_from (own_ticks world.config.plan p) until (state_of world p)) (is_plan world.config is) (well_here world p is alone lt) here.active due at_own.own
    (sym (ap but_next (one_later world p r (waiting_from (own_ticks world.config.plan p) until (state_of world p)) lt reached)) ∙ unchanged (r + 1) (omega (arith, own.from, before, later)) (omega (arith, below)))
