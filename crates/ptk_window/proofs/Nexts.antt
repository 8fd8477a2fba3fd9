-- A partition's next window, and the turn that it gives.
use Rattle.std.proofs.Common.{◌≡◌, ℕ, suc, ◌+◌, ◌-◌, ◌*◌, ◌%◌, ◌<◌, ◌≤◌, max, Bool, true, false, List, length, get_or, None, All, Contains, MatchBool, refl, sym, ap, subst, ◌∙◌, inl, inr, arith, suc-mul}
use Rattle.std.proofs.lemmas.Bool.{cases_order, cases_lt}
use Rattle.std.proofs.lemmas.Nat.{mod_below, div-add-mod', mod-mul-add}
use Rattle.std.proofs.lemmas.List.{get_or_default}
use Rattle.std.proofs.lemmas.List.Sorted.{All-permutation}
use Rattle.std.proofs.Math.Nat.{mul-le-mul_left, mul-le-mul_right}
use Rattle.ptk_words_model.specs.declared.window.Window.{Window}
use Rattle.ptk_words_model.specs.Windows.{Holds, end_from, IsOwn, IsFirstOwn, IsOwnUntil, own_ticks, windows_at}
use Rattle.ptk_words_model.proofs.Remainders.{mod_here, mod_next}
use Rattle.ptk_words_model.proofs.OwnLaws.{end_one, until_near}
use Rattle.ptk_words_model.proofs.NextLaws.{next_one, next_none, next_near}
use Rattle.ptk_window.specs.declared.near.Near.{Near}
use Rattle.ptk_window.specs.declared.near.Turn.{Turn}
use Rattle.ptk_window.specs.declared.table.Table.{Table}
use Rattle.ptk_window.specs.Order.{AreGrouped, IsFirst, IsFirstAfter}
use Rattle.ptk_window.specs.Stages.{ArePlanned, HasTick, plan_of, from_at, groups_at}
use Rattle.ptk_window.specs.Near.{IsNextFrom, IsTurnAt}
use Rattle.ptk_window.specs.Turn.{IsTurn, IsShort}
use Rattle.ptk_window.proofs.Searches.{starts_order}
use Rattle.ptk_window.proofs.StageLaws.{table_at, groups_is, ordered_at, from_low, from_rises, aligned_room, some_has, frame_has, own_groups, groups_own}

-- ---- frames begin at multiples
pub frame_start_aligned : (frame tick : ℕ) → 0 < frame → (tick - tick % frame) % frame ≡ 0
frame_start_aligned frame tick positive =
    let place = mod_here frame tick (tick - tick % frame) positive (omega arith) (omega arith) in
    omega (arith, place)

pub next_frame_aligned : (frame start : ℕ) → 0 < frame → start % frame ≡ 0 → (start + frame) % frame ≡ 0
next_frame_aligned frame start positive aligned =
    let place = mod_next frame start (start + frame) positive (omega arith) (omega arith) in
    omega (arith, place)

-- a place in the frame that begins there
pub place_in : (frame start k : ℕ) → 0 < frame → start % frame ≡ 0 → start ≤ k → k < start + frame → k % frame ≡ k - start
place_in frame start k positive aligned from to =
    let place = mod_here frame start k positive (omega arith) (omega arith) in
    omega (arith, place)

number_aligned : (frame number : ℕ) → 0 < frame → number * frame % frame ≡ 0
number_aligned frame number positive = subst (λ (n : ℕ). n % frame ≡ 0) (omega arith) (mod-mul-add number frame 0 positive)

pub latest_aligned : (frame from number : ℕ) → 0 < frame → from % frame ≡ 0 → max from (number * frame) % frame ≡ 0
latest_aligned frame from number positive aligned =
    elim (cases_lt from (number * frame)) [
      | inl before ↦ subst (λ (n : ℕ). n % frame ≡ 0) {x = number * frame} (omega (arith, before)) (number_aligned frame number positive)
      | inr after ↦ subst (λ (n : ℕ). n % frame ≡ 0) {x = from} (omega (arith, after)) aligned
    ]

-- where the last of the partition's windows has ended, all have
pub all_ended : (ws : List Window) (p tick start i : ℕ) → AreGrouped ws → i < length ws → ((d : Window) → (get_or ws i d).partition ≡ p) → ((d : Window) → start + ((get_or ws i d).start + (get_or ws i d).length) ≤ tick)
    → ((d : Window) → i + 1 < length ws → ¬ ((get_or ws (i + 1) d).partition ≡ p)) → All (λ w. w.partition ≡ p → start + (w.start + w.length) ≤ tick) ws
all_ended ws p tick start i grouped within own ended last k d below of_p =
    elim (cases_order k i) [
      | inl it ↦ subst (λ (n : ℕ). start + ((get_or ws n d).start + (get_or ws n d).length) ≤ tick) (sym it) (ended d)
      | inr (inl earlier) ↦
          let ends = (grouped k i d earlier within).1 (of_p ∙ sym (own d)) in
          omega (arith, ends, ended d)
      | inr (inr later) ↦
          let low = (grouped i (i + 1) d (omega arith) (omega arith)).0 in
          elim (cases_order (i + 1) k) [
            | inl it ↦ absurd (last d (omega arith) (subst (λ (n : ℕ). (get_or ws n d).partition ≡ p) (sym it) of_p))
            | inr (inl far) ↦
                let high = (grouped (i + 1) k d far below).0 in
                absurd (last d (omega arith) (omega (arith, low, high, own d, of_p)))
            | inr (inr near) ↦ absurd (omega arith)
          ]
    ]

-- none of the partition's windows ends after the place
abbrev pub NoneFrom : ℕ → ℕ → List Window → Type 0
NoneFrom p place = All (λ w. w.partition ≡ p → w.start + w.length ≤ place)

module _ (frame : ℕ) (tables : List Table) (are : ArePlanned frame tables) where
  -- ---- the windows of a stage
  pub grouped_at : (i : ℕ) → i < length tables → AreGrouped (groups_at tables i)
  grouped_at i below =
      let at = table_at tables i below in
      subst AreGrouped (sym (groups_is tables i at.0 below at.1)) (ordered_at frame tables are i at.0 below at.1).grouped

  pub fit_at : (i : ℕ) → i < length tables → All (λ w. (16 ≤ w.length) × (w.start + w.length ≤ frame)) (groups_at tables i)
  fit_at i below =
      let at = table_at tables i below in
      let ordered = ordered_at frame tables are i at.0 below at.1 in
      subst (λ (ws : List Window). All (λ w. (16 ≤ w.length) × (w.start + w.length ≤ frame)) ws) (sym (groups_is tables i at.0 below at.1))
      (All-permutation (λ w. (16 ≤ w.length) × (w.start + w.length ≤ frame)) at.0.windows.items at.0.by_partition.items ordered.groups (λ k d under. (ordered.table.long k d under, ordered.table.within k d under)))

  pub fits : (i k : ℕ) (w : Window) → i < length tables → k < length (groups_at tables i) → get_or (groups_at tables i) k w ≡ w → (16 ≤ w.length) × (w.start + w.length ≤ frame)
  fits i k w below under is = subst (λ (v : Window). (16 ≤ v.length) × (v.start + v.length ≤ frame)) is (fit_at i below k w under)

  pub short : frame ≤ 1000000
  short =
      let one = some_has frame tables are 0 in
      let at = table_at tables one.0 one.1.within in
      let same : at.0.frame ≡ frame = subst (λ (t : Table). t.frame ≡ frame) at.1 (are.frames one.0 at.0 one.1.within) in
      omega (arith, at.0.short, same)

  -- the stage after one has the next frame, where that has begun with it
  pub next_has : (i start next : ℕ) → HasTick frame tables i start → start % frame ≡ 0 → next ≡ start + frame → i + 1 < length tables → from_at tables (i + 1) * frame ≤ next → HasTick frame tables (i + 1) next
  next_has i start next has aligned is more begun =
      record {
        within = more;
        begun = begun;
        next = λ further.
            let room = aligned_room frame start (from_at tables (i + 1)) aligned (has.next more) in
            let step = mul-le-mul_right {m = suc (from_at tables (i + 1))} {n = from_at tables ((i + 1) + 1)} frame (from_rises frame tables are (i + 1) ((i + 1) + 1) (omega arith) further) in
            omega (arith, room, step, suc-mul (from_at tables (i + 1)) frame, is, are.plan.frame);
      }

  -- ---- the next window
  -- the tick lies in the window
  pub inside : (p tick : ℕ) (near : Near) (w : Window) → near.frame ≡ frame → tick ≤ 144115188075855872 → HasTick frame tables near.stage near.frame_start → near.place < length (groups_at tables near.stage) → get_or (groups_at tables near.stage) near.place w ≡ w → w.partition ≡ p
      → near.frame_start + w.start ≤ tick → tick < near.frame_start + (w.start + w.length) → IsNextFrom frame tables p tick near
  inside p tick near w of_frame time has below is same begun after =
      let ws = groups_at tables near.stage in
      record {
        of_frame = of_frame;
        has = has;
        room = omega (arith, begun, time);
        window = w;
        within = below;
        is = is;
        own = same;
        after = after;
        before = λ k d under of_p.
            let is_d : get_or ws near.place d ≡ w = get_or_default ws near.place d w below ∙ is in
            let ends = (grouped_at near.stage has.within k near.place d under below).1 (of_p ∙ sym (ap (λ (v : Window). v.partition) is_d ∙ same)) in
            let past : (get_or ws k d).start + (get_or ws k d).length ≤ w.start = subst (λ (v : Window). (get_or ws k d).start + (get_or ws k d).length ≤ v.start) is_d ends in
            omega (arith, past, begun);
        earlier = λ k from to own. omega (arith, begun, from, to);
      }

  -- the window stands after one that has ended
  pub following : (p tick : ℕ) (near : Near) (i : ℕ) (w : Window) → near.frame ≡ frame → tick ≤ 144115188075855872 → HasTick frame tables near.stage near.frame_start → near.frame_start ≤ tick
      → near.place ≡ i + 1 → near.place < length (groups_at tables near.stage) → get_or (groups_at tables near.stage) near.place w ≡ w → w.partition ≡ p → tick < near.frame_start + (w.start + w.length)
      → ((d : Window) → (get_or (groups_at tables near.stage) i d).partition ≡ p)
      → ((d : Window) → near.frame_start + ((get_or (groups_at tables near.stage) i d).start + (get_or (groups_at tables near.stage) i d).length) ≤ tick)
      → IsNextFrom frame tables p tick near
  following p tick near i w of_frame time has begun place below is same after own ended =
      let ws = groups_at tables near.stage in
      record {
        of_frame = of_frame;
        has = has;
        room = omega (arith, begun, time);
        window = w;
        within = below;
        is = is;
        own = same;
        after = after;
        before = λ k d under of_p.
            elim (cases_order k i) [
              | inl it ↦ subst (λ (n : ℕ). near.frame_start + ((get_or ws n d).start + (get_or ws n d).length) ≤ tick) (sym it) (ended d)
              | inr (inl earlier) ↦
                  let ends = (grouped_at near.stage has.within k i d earlier (omega (arith, place, below))).1 (of_p ∙ sym (own d)) in
                  omega (arith, ends, ended d)
              | inr (inr later) ↦ absurd (omega (arith, later, place, under))
            ];
        earlier = λ k from to own_k. omega (arith, begun, from, to);
      }

  -- none of the partition's ticks comes from the tick on in a frame whose windows of it ended by then
  none_in : (p tick start i k : ℕ) → HasTick frame tables i start → start % frame ≡ 0 → All (λ w. w.partition ≡ p → start + (w.start + w.length) ≤ tick) (groups_at tables i)
      → tick ≤ k → start ≤ k → k < start + frame → ¬ IsOwn (plan_of frame tables) p k
  none_in p tick start i k has aligned ended from low high own =
      let held = own_groups frame tables are i p k (frame_has frame tables are i start k has aligned low high) own in
      let place = place_in frame start k are.plan.frame aligned low high in
      let past = subst (λ (w : Window). w.partition ≡ p → start + (w.start + w.length) ≤ tick) held.3 (ended held.0 held.1 held.2) held.4.0 in
      omega (arith, past, held.4.1.1, place, from, low)

  -- the first window of the next frame, where all in this one ended
  pub anew : (p tick start i : ℕ) (near : Near) (w : Window) → near.frame ≡ frame → tick ≤ 144115188075855872 → start ≤ tick → start % frame ≡ 0 → HasTick frame tables i start
      → All (λ v. v.partition ≡ p → start + (v.start + v.length) ≤ tick) (groups_at tables i) → near.frame_start ≡ start + frame → HasTick frame tables near.stage near.frame_start
      → IsFirst (groups_at tables near.stage) p near.place → get_or (groups_at tables near.stage) near.place w ≡ w → tick < near.frame_start + (w.start + w.length) → IsNextFrom frame tables p tick near
  anew p tick start i near w of_frame time begun aligned has ended starts has_next first is after =
      record {
        of_frame = of_frame;
        has = has_next;
        room = omega (arith, starts, begun, time, short);
        window = w;
        within = first.within;
        is = is;
        own = subst (λ (v : Window). v.partition ≡ p) is (first.own w);
        after = after;
        before = λ k d under of_p. absurd (first.first k d under of_p);
        earlier = λ k from to. none_in p tick start i k has aligned ended from (omega (arith, begun, from)) (omega (arith, starts, to));
      }

  -- the first window that ends after the tick in its frame
  pub found : (p tick : ℕ) (near : Near) → near.frame ≡ frame → tick ≤ 144115188075855872 → near.frame_start ≡ tick - tick % frame → HasTick frame tables near.stage tick
      → IsFirstAfter (groups_at tables near.stage) p (tick % frame) near.place → IsNextFrom frame tables p tick near
  found p tick near of_frame time starts has first =
      let positive = are.plan.frame in
      let below = mod_below tick frame positive in
      let aligned : near.frame_start % frame ≡ 0 = subst (λ (n : ℕ). n % frame ≡ 0) (sym starts) (frame_start_aligned frame tick positive) in
      let split : near.frame_start + tick % frame ≡ tick = omega (arith, starts, mod_le tick frame) in
      record {
        of_frame = of_frame;
        has = has_start near.stage tick near.frame_start has aligned (omega (arith, split)) (omega (arith, split, below));
        room = omega (arith, split, time);
        window = first.window;
        within = first.within;
        is = first.is;
        own = first.own;
        after = omega (arith, split, first.after);
        before = λ k d under of_p. omega (arith, split, first.before k d under of_p);
        earlier = λ k from to own. omega (arith, split, from, to);
      }
    where
      mod_le : (n m : ℕ) → n % m ≤ n
      mod_le n m = omega (arith, div-add-mod' n m)

      has_start : (i t start : ℕ) → HasTick frame tables i t → start % frame ≡ 0 → start ≤ t → t < start + frame → HasTick frame tables i start
      has_start i t start has aligned low high =
          record {
            within = has.within;
            begun = elim (cases_lt start (from_at tables i * frame)) [
              | inl before ↦ absurd (omega (arith, aligned_room frame start (from_at tables i) aligned before, has.begun, high))
              | inr begun ↦ begun
            ];
            next = λ more. omega (arith, has.next more, low);
          }

  -- ---- frames from a later one on
  abbrev NoneBefore : ℕ → ℕ → ℕ → Type 0
  NoneBefore p from stage = (j k : ℕ) → j < stage → from ≤ k → HasTick frame tables j k → ¬ IsOwn (plan_of frame tables) p k

  pub none_yet : (p from stage : ℕ) → stage < length tables → from_at tables stage * frame ≤ from → NoneBefore p from stage
  none_yet p from stage below begun j k before later has own =
      let next = has.next (omega (arith, before, below)) in
      let low = from_low frame tables are (j + 1) stage (omega (arith, before)) below in
      omega (arith, next, low, begun, later)

  pub none_still : (p from stage : ℕ) → NoneBefore p from stage → ((k : ℕ) → from ≤ k → HasTick frame tables stage k → ¬ IsOwn (plan_of frame tables) p k) → NoneBefore p from (stage + 1)
  none_still p from stage none here j k before later has =
      elim (cases_order j stage) [
        | inl it ↦ here k later (subst (λ (n : ℕ). HasTick frame tables n k) it has)
        | inr (inl earlier) ↦ none j k earlier later has
        | inr (inr after) ↦ absurd (omega (arith, before, after))
      ]

  pub none_ever : (p from stage : ℕ) → length tables ≤ stage → NoneBefore p from stage → (k : ℕ) → from ≤ k → ¬ IsOwn (plan_of frame tables) p k
  none_ever p from stage last none k later =
      let one = some_has frame tables are k in
      none one.0 k (omega (arith, one.1.within, last)) later one.1

  -- a stage without a window of the partition
  pub none_here : (p stage k : ℕ) → All (λ w. w.partition ≡ p → w.start + w.length ≤ 0) (groups_at tables stage) → HasTick frame tables stage k → ¬ IsOwn (plan_of frame tables) p k
  none_here p stage k empty has own =
      let held = own_groups frame tables are stage p k has own in
      let past = subst (λ (w : Window). w.partition ≡ p → w.start + w.length ≤ 0) held.3 (empty held.0 held.1 held.2) held.4.0 in
      omega (arith, past, held.4.1.1)

  -- the partition's first window in the frame at which the look-up came to the stage
  pub later_found : (p from : ℕ) (near : Near) → near.frame ≡ frame → from ≤ 288230376151711744 → from_at tables near.stage ≤ 68719476736 → near.frame_start ≡ max from (from_at tables near.stage * frame) → HasTick frame tables near.stage near.frame_start
      → NoneBefore p from near.stage → IsFirstAfter (groups_at tables near.stage) p 0 near.place → IsNextFrom frame tables p from near
  later_found p from near of_frame time early starts has none first =
      record {
        of_frame = of_frame;
        has = has;
        room = omega (arith, starts, time, mul-le-mul_right frame early, mul-le-mul_left 68719476736 short);
        window = first.window;
        within = first.within;
        is = first.is;
        own = first.own;
        after = omega (arith, starts, first.after);
        before = λ k d under of_p.
            let low = first.before k d under of_p in
            let long = (fit_at near.stage has.within k d (omega (arith, under, first.within))).0 in
            absurd (omega (arith, low, long));
        earlier = λ k low high own.
            let one = some_has frame tables are k in
            elim (cases_lt one.0 near.stage) [
              | inl before ↦ none one.0 k before low one.1 own
              | inr after ↦
                  let begun = from_low frame tables are near.stage one.0 after one.1.within in
                  omega (arith, begun, one.1.begun, low, high, starts)
            ];
      }

  -- from an earlier tick on, where no tick between is the partition's
  pub from_earlier : (p tick from : ℕ) (near : Near) → tick ≤ from → from ≤ near.frame_start → ((k : ℕ) → tick ≤ k → k < from → ¬ IsOwn (plan_of frame tables) p k) → IsNextFrom frame tables p from near → IsNextFrom frame tables p tick near
  from_earlier p tick from near low starts none is =
      record {
        of_frame = is.of_frame;
        has = is.has;
        room = is.room;
        window = is.window;
        within = is.within;
        is = is.is;
        own = is.own;
        after = omega (arith, low, is.after);
        before = λ k d under of_p.
            let long = (fit_at near.stage is.has.within k d (omega (arith, under, is.within))).0 in
            absurd (omega (arith, is.before k d under of_p, long, starts));
        earlier = λ k from_tick to.
            elim (cases_lt k from) [
              | inl before ↦ none k from_tick before
              | inr after ↦ is.earlier k after to
            ];
      }

  -- the rest of the tick's frame has none of the partition's, where its windows there ended
  pub none_rest : (p tick i k : ℕ) → HasTick frame tables i tick → All (λ w. w.partition ≡ p → w.start + w.length ≤ tick % frame) (groups_at tables i) → tick ≤ k → k < tick - tick % frame + frame → ¬ IsOwn (plan_of frame tables) p k
  none_rest p tick i k has ended from to own =
      let positive = are.plan.frame in
      let place = mod_here frame tick k positive (omega (arith, from)) to in
      let aligned = frame_start_aligned frame tick positive in
      let has_k : HasTick frame tables i k = record {
        within = has.within;
        begun = omega (arith, has.begun, from);
        next = λ more.
            let low = has.next more in
            omega (arith, aligned_room frame (tick - tick % frame) (from_at tables (i + 1)) aligned (omega (arith, low)), to);
      } in
      let held = own_groups frame tables are i p k has_k own in
      let past = subst (λ (w : Window). w.partition ≡ p → w.start + w.length ≤ tick % frame) held.3 (ended held.0 held.1 held.2) held.4.0 in
      omega (arith, past, held.4.1.1, place, from)

  -- what a look-up in the later frames says of the tick
  pub from_later : (p tick from : ℕ) (near : Near) (b : Bool) → tick ≤ from → ((k : ℕ) → tick ≤ k → k < from → ¬ IsOwn (plan_of frame tables) p k) → (b ≡ true → from ≤ near.frame_start)
      → MatchBool b (IsNextFrom frame tables p from near) ((k : ℕ) → from ≤ k → ¬ IsOwn (plan_of frame tables) p k) → MatchBool b (IsNextFrom frame tables p tick near) ((k : ℕ) → tick ≤ k → ¬ IsOwn (plan_of frame tables) p k)
  from_later p tick from near true low none starts is = from_earlier p tick from near low (starts refl) none is
  from_later p tick from near false low none starts is = λ k from_tick.
      elim (cases_lt k from) [
        | inl before ↦ none k from_tick before
        | inr after ↦ is k after
      ]

  -- ---- the turn
  -- the window that near is at gives the first own tick, and the end of the window that holds that
  module _ (p tick : ℕ) (near : Near) (next_is : IsNextFrom frame tables p tick near) where
    abbrev start : ℕ
    start = max tick (near.frame_start + next_is.window.start)

    aligned : near.frame_start % frame ≡ 0
    aligned = subst (λ (n : ℕ). near.frame_start % n ≡ 0) next_is.of_frame near.aligned

    window_fits : (16 ≤ next_is.window.length) × (next_is.window.start + next_is.window.length ≤ frame)
    window_fits = fits near.stage near.place next_is.window next_is.has.within next_is.within next_is.is

    start_within : (start < near.frame_start + (next_is.window.start + next_is.window.length)) × (start < near.frame_start + frame)
    start_within = (omega (arith, next_is.after, window_fits.0), omega (arith, next_is.after, window_fits.0, window_fits.1))

    start_place : start % frame ≡ start - near.frame_start
    start_place = place_in frame near.frame_start start are.plan.frame aligned (omega arith) start_within.1

    start_holds : Holds next_is.window (start % frame)
    start_holds = (omega (arith, start_place), omega (arith, start_place, start_within.0))

    has_start : HasTick frame tables near.stage start
    has_start = frame_has frame tables are near.stage near.frame_start start next_is.has aligned (omega arith) start_within.1

    given : Contains (windows_at (plan_of frame tables) start) next_is.window
    given = groups_own frame tables are near.stage start next_is.window has_start (near.place, next_is.within, next_is.is)

    turn_first : IsFirstOwn (plan_of frame tables) p tick start
    turn_first =
        record {
          own = (given.0, next_is.window, given.1, given.2, (next_is.own, start_holds));
          not_before = omega arith;
          least = λ k from below own.
              elim (cases_lt k near.frame_start) [
                | inl before ↦ next_is.earlier k from before own
                | inr after ↦
                    let high : k < near.frame_start + frame = omega (arith, below, start_within.1) in
                    let held = own_groups frame tables are near.stage p k (frame_has frame tables are near.stage near.frame_start k next_is.has aligned after high) own in
                    let place = place_in frame near.frame_start k are.plan.frame aligned after high in
                    elim (cases_lt held.0 near.place) [
                      | inl earlier ↦
                          let past = subst (λ (w : Window). near.frame_start + (w.start + w.length) ≤ tick) held.3 (next_is.before held.0 held.1 earlier (ap (λ (w : Window). w.partition) held.3 ∙ held.4.0)) in
                          omega (arith, past, held.4.1.1, place, from)
                      | inr later ↦
                          let order = starts_order (groups_at tables near.stage) near.place held.0 next_is.window held.1 (grouped_at near.stage next_is.has.within) later held.2 next_is.is
                          (ap (λ (w : Window). w.partition) held.3 ∙ (held.4.0 ∙ sym next_is.own)) in
                          let low : next_is.window.start ≤ held.1.start = subst (λ (w : Window). next_is.window.start ≤ w.start) held.3 order in
                          omega (arith, low, held.4.1.0, place, from, below)
                    ]
              ];
        }

    turn_until : IsOwnUntil (plan_of frame tables) p start (near.frame_start + (next_is.window.start + next_is.window.length))
    turn_until =
        let end : near.frame_start + (next_is.window.start + next_is.window.length) ≡ end_from frame start next_is.window = omega (arith, start_place) in
        (given.0, next_is.window, given.1, given.2, (next_is.own, start_holds, end))

    -- for the start and the end as the code has them
    pub turn_is : (turn : Turn) → IsTurnAt tables tick near turn → IsFirstOwn (plan_of frame tables) p tick turn.start × IsOwnUntil (plan_of frame tables) p turn.start turn.end
    turn_is turn at =
        let w = next_is.window in
        let start_is : turn.start ≡ start = subst (λ (v : Window). turn.start ≡ max tick (near.frame_start + v.start)) next_is.is (at.start w) in
        let end_is : turn.end ≡ near.frame_start + (w.start + w.length) = subst (λ (v : Window). turn.end ≡ near.frame_start + (v.start + v.length)) next_is.is (at.end w) in (
          subst (IsFirstOwn (plan_of frame tables) p tick) (sym start_is) turn_first,
          subst (λ (s : ℕ). IsOwnUntil (plan_of frame tables) p s turn.end) (sym start_is) (subst (IsOwnUntil (plan_of frame tables) p start) (sym end_is) turn_until),
        )

    pub IsTurn-at : (turn : Turn) → IsTurnAt tables tick near turn → IsTurn (plan_of frame tables) p tick turn
    IsTurn-at turn at =
        let both = turn_is turn at in
        (next_one (plan_of frame tables) p tick turn.start are.plan both.0, end_one (plan_of frame tables) p turn.start turn.end are.plan both.1)

    pub IsShort-at : (turn : Turn) → IsTurnAt tables tick near turn → IsShort (plan_of frame tables) tick turn
    IsShort-at turn at =
        let both = turn_is turn at in
        let order = until_near (plan_of frame tables) p turn.start turn.end are.plan both.1 in
        ((both.0.not_before, λ last most. next_near (plan_of frame tables) p tick last turn.start are.plan most (next_one (plan_of frame tables) p tick turn.start are.plan both.0)), order.0, order.1)

    pub turn_room : (d : Window) → near.frame_start + ((get_or (groups_at tables near.stage) near.place d).start + (get_or (groups_at tables near.stage) near.place d).length) < 18446744073709551616
    turn_room d = omega (arith, (fit_at near.stage next_is.has.within near.place d next_is.within).1, next_is.room, short)

  pub no_turn : (p tick : ℕ) → ((k : ℕ) → tick ≤ k → ¬ IsOwn (plan_of frame tables) p k) → (own_ticks (plan_of frame tables) p).next_of tick ≡ None
  no_turn p tick none = next_none (plan_of frame tables) p tick are.plan none
