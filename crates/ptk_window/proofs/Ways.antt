-- A partition's way: at which window it is, and that one's end.
use Rattle.std.proofs.Common.{◌≡◌, ℕ, ◌+◌, ◌*◌, ◌<◌, List, length, ap, sym, subst, ◌∙◌}
use Rattle.std.proofs.lemmas.List.{get_or_default}
use Rattle.std.specs.Prelude.{Option, None, Some, IfSome, MatchOption, option_map}
use Rattle.ptk_words_model.specs.declared.window.Window.{Window}
use Rattle.ptk_window.specs.declared.near.Near.{Near}
use Rattle.ptk_window.specs.declared.near.Turn.{Turn}
use Rattle.ptk_window.specs.declared.table.Table.{Table}
use Rattle.ptk_window.specs.declared.walk.Stay.{Stay}
use Rattle.ptk_window.specs.Order.{IsFirst}
use Rattle.ptk_window.specs.Stages.{ArePlanned, from_at, groups_at, plan_of}
use Rattle.ptk_window.specs.Near.{IsEndAt, IsNextFrom}
use Rattle.ptk_window.specs.Turn.{IsTurn, IsShort}
use Rattle.ptk_window.specs.Walks.{Way, IsHere, way_of, end_here, no_window}

-- at the window that a look-up found, with what is kept of its stage
pub here : (frame : ℕ) (tables : List Table) (p tick : ℕ) (near : Near) (stay : Stay) → IsNextFrom frame tables p tick near → IsFirst (groups_at tables near.stage) p stay.first
    → (near.stage + 1 < length tables → stay.end ≡ from_at tables (near.stage + 1) * frame) → IsHere frame tables p near stay
here frame tables p tick near stay is first ends =
    record {
      of_frame = is.of_frame;
      has = is.has;
      room = is.room;
      within = is.within;
      own = λ d. ap (λ (w : Window). w.partition) (get_or_default (groups_at tables near.stage) near.place d is.window is.within ∙ is.is) ∙ is.own;
      first = first;
      ends = ends;
    }

-- the window here ends at its end, by whatever window stands for none
pub ends_at : (tables : List Table) (near : Near) (tick : ℕ) → near.place < length (groups_at tables near.stage) → end_here tables near ≡ tick → (d : Window) → IsEndAt tables near d tick
ends_at tables near tick within is d =
    ap (λ (w : Window). near.frame_start + (w.start + w.length)) (get_or_default (groups_at tables near.stage) near.place d no_window within) ∙ is

-- the end of a way that is known
pub known_end : (stay : Option Stay) (one : Stay) (end tick : ℕ) (at : Option ℕ) → stay ≡ Some one → option_map (λ s. end) stay ≡ at → IfSome at (λ e. e ≡ tick) → end ≡ tick
known_end stay one end tick at some is holds =
    let known : at ≡ Some end = sym is ∙ ap (option_map (λ (s : Stay). end)) some in
    subst (λ (e : Option ℕ). IfSome e (λ (k : ℕ). k ≡ tick)) known holds

-- the same of what may be kept
pub here_known : (frame : ℕ) (tables : List Table) (p tick stage : ℕ) (near : Near) (stay : Option Stay) → ArePlanned frame tables → IsNextFrom frame tables p tick near → stage ≡ near.stage
    → IfSome stay (λ s. IsFirst (groups_at tables stage) p s.first)
    → IfSome stay (λ s. stage + 1 < length tables → (n : ℕ) → ArePlanned n tables → s.end ≡ from_at tables (stage + 1) * n)
    → MatchOption stay (Unit {0}) (IsHere frame tables p near)
here_known frame tables p tick stage near None are is same first ends = tt
here_known frame tables p tick stage near (Some stay) are is same first ends =
    here frame tables p tick near stay is (subst (λ (i : ℕ). IsFirst (groups_at tables i) p stay.first) same first)
    (λ more. subst (λ (i : ℕ). i + 1 < length tables → stay.end ≡ from_at tables (i + 1) * frame) same (λ below. ends below frame are) more)

-- the way's plan and partition as it tells them
pub turn_seen : (old : Way) (frame : ℕ) (tables : List Table) (p tick : ℕ) (near : Near) (stay : Option Stay) (turn : Turn) → way_of frame tables p near stay ≡ old
    → IsTurn (plan_of frame tables) p tick turn → IsTurn old.plan old.partition tick turn
turn_seen old frame tables p tick near stay turn is holds = subst (λ (w : Way). IsTurn w.plan w.partition tick turn) is holds

pub short_seen : (old : Way) (frame : ℕ) (tables : List Table) (p tick : ℕ) (near : Near) (stay : Option Stay) (turn : Turn) → way_of frame tables p near stay ≡ old
    → IsShort (plan_of frame tables) tick turn → IsShort old.plan tick turn
short_seen old frame tables p tick near stay turn is holds = subst (λ (w : Way). IsShort w.plan tick turn) is holds

-- what is known where something is kept of the stage
pub stay_holds : (stay : Option Stay) (one : Stay) (P : Stay → Type 0) → stay ≡ Some one → MatchOption stay (Unit {0}) P → P one
stay_holds stay one P is holds = subst (λ (s : Option Stay). MatchOption s (Unit {0}) P) is holds

pub holds_stay : (stay : Option Stay) (one : Stay) (P : Stay → Type 0) → stay ≡ Some one → P one → MatchOption stay (Unit {0}) P
holds_stay stay one P is holds = subst (λ (s : Option Stay). MatchOption s (Unit {0}) P) (sym is) holds

-- the way has gone on from the window that ends at the tick
pub gone_on : (frame : ℕ) (tables : List Table) (p tick : ℕ) (near after : Near) (stay : Option Stay) (one : Stay) (at : Option ℕ) → IsHere frame tables p near one → stay ≡ Some one
    → option_map (λ s. end_here tables near) stay ≡ at → IfSome at (λ e. e ≡ tick)
    → (((d : Window) → IsEndAt tables near d tick) → IsNextFrom near.frame tables p tick after) → IsNextFrom frame tables p tick after
gone_on frame tables p tick near after stay one at is some end holds steps =
    subst (λ (n : ℕ). IsNextFrom n tables p tick after) is.of_frame (steps (ends_at tables near tick is.within (known_end stay one (end_here tables near) tick at some end holds)))

-- and is at the window behind it, in the same stage
pub here_on : (frame : ℕ) (tables : List Table) (p tick : ℕ) (near after : Near) (one : Stay) → IsHere frame tables p near one → after.stage ≡ near.stage → IsNextFrom frame tables p tick after → IsHere frame tables p after one
here_on frame tables p tick near after one is same next =
    here frame tables p tick after one next (subst (λ (i : ℕ). IsFirst (groups_at tables i) p one.first) (sym same) is.first)
    (subst (λ (i : ℕ). i + 1 < length tables → one.end ≡ from_at tables (i + 1) * frame) (sym same) is.ends)
