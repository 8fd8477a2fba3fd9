-- A document's stages are in order, so no fault of theirs is one of their numbers.
use Rattle.std.proofs.Common.{ok_or, ◌≡◌, ◌<◌, ◌≤◌, ℕ, ◌+◌, suc, Bool, true, false, ◌&&◌, cond, not, leb, codes, List, [], ◌∷◌, ◌++◌, Option, Some, None, Ok, Err, ℤ, pos, negsuc, All, AllPairs, get_or, refl, subst, arith}
use Rattle.std.specs.Option.{option_or}
use Rattle.std.specs.List.{list_any}
use Rattle.std.proofs.lemmas.Bool.{or_from, and_from, and_parts, leb-true, not_from_false, lt-leb}
use Rattle.std.proofs.lemmas.List.Folds.{list_any_none}
use Rattle.std.proofs.lemmas.List.Elements.{All-weaker}
use Rattle.std.proofs.lemmas.List.Kept.{AllPairs-cons}
use Rattle.ptk_words_model.specs.declared.fault.WindowFault.{WindowFault}
use Rattle.ptk_words_model.specs.declared.fault.WindowFault.TheVariants.{Empty, Short, Overlap, PastFrame, UnknownPartition, Memory, OutOfOrder}
use Rattle.ptk_words_model.specs.declared.window.Window.{Window}
use Rattle.ptk_words_model.specs.Windows.{Stage}
use Rattle.ptk_words_model.specs.WindowFaults.{some_pair, first_fault, fault_of, window_fault, begins_with_zero, is_not_later, is_ordered, plan_fault}
use Rattle.toml.specs.Data.{Data, Items, no_items, item, Members, as_integer}
use Rattle.ptk_config.specs.declared.fault.ConfigFault.{ConfigFault}
use Rattle.ptk_config.specs.declared.fault.ConfigFault.TheVariants.{WrongType, OutOfRange, UnknownKey}
use Rattle.ptk_config.specs.Reading.{Checked, ◌>>=◌, tested, within, integer, members, required, number, array, counted, items, each_after}
use Rattle.ptk_config.specs.Sections.{Section}
use Rattle.ptk_config.specs.Windows.{AreLater, last_from, stage, stage_in, stages_of, windows_in}
use Rattle.ptk_config.proofs.Stages.{AreInOrder, AreInOrder-nil, AreInOrder-push, AreLater-end, AreLater-nil, last_from-push}

-- a fault of a table's windows, or none
abbrev pub is_of_windows : Option WindowFault → Type 0
is_of_windows None = Unit {0}
is_of_windows (Some Empty) = Unit {0}
is_of_windows (Some Short) = Unit {0}
is_of_windows (Some Overlap) = Unit {0}
is_of_windows (Some PastFrame) = Unit {0}
is_of_windows (Some UnknownPartition) = Unit {0}
is_of_windows (Some Memory) = Unit {0}
is_of_windows (Some OutOfOrder) = ⊥

pub record IsOfWindows (o : Option WindowFault) : Type 0 where
  pub is : is_of_windows o

of_earlier : (a b : Option WindowFault) → IsOfWindows a → IsOfWindows b → IsOfWindows (option_or a b)
of_earlier None b here later = later
of_earlier (Some e) b here later = here

of_cond : (b : Bool) (x y : Option WindowFault) → IsOfWindows x → IsOfWindows y → IsOfWindows (cond b x y)
of_cond true x y one two = one
of_cond false x y one two = two

of_first_fault : {A : Type 0} (f : A → Option WindowFault) → ((a : A) → IsOfWindows (f a)) → (xs : List A) → IsOfWindows (first_fault f xs)
of_first_fault f each [] = record { is = tt }
of_first_fault f each (x ∷ xs) = of_earlier (f x) (first_fault f xs) (each x) (of_first_fault f each xs)

of_fault_of : (frame parts : ℕ) (w : Window) → IsOfWindows (fault_of frame parts w)
of_fault_of frame parts w =
    of_cond _ (Some Short) _ (record { is = tt })
    (of_cond _ (Some PastFrame) _ (record { is = tt }) (of_cond _ (Some UnknownPartition) None (record { is = tt }) (record { is = tt })))

of_window_fault : (frame parts : ℕ) (ws : List Window) → IsOfWindows (window_fault frame parts ws)
unfolding window_fault
of_window_fault frame parts [] = record { is = tt }
of_window_fault frame parts (w ∷ ws) =
    of_earlier _ _ (of_first_fault (fault_of frame parts) (of_fault_of frame parts) (w ∷ ws)) (of_cond _ (Some Overlap) None (record { is = tt }) (record { is = tt }))

pub of_plan_fault : (frame parts : ℕ) (stages : List Stage) → is_ordered stages ≡ true → IsOfWindows (plan_fault frame parts stages)
unfolding plan_fault
of_plan_fault frame parts stages ordered =
    rw ordered (of_first_fault (λ (s : Stage). window_fault frame parts s.windows) (λ s. of_window_fault frame parts s.windows) stages)

none_pair : (stages : List Stage) → AllPairs (λ s u. s.from < u.from) stages → some_pair is_not_later stages ≡ false
none_pair [] rising = refl
none_pair (s ∷ stages) rising =
    let firsts : All (λ u. is_not_later s u ≡ false) stages = λ k d within. lt-leb (get_or stages k d).from s.from (rising 0 (suc k) d (omega arith) (omega arith)) in
    or_from (list_any (is_not_later s) stages) (some_pair is_not_later stages) (list_any_none (is_not_later s) stages firsts)
    (none_pair stages (λ i j d before below. rising (suc i) (suc j) d (omega arith) (omega arith)))

-- the top windows and stages that begin later are in order
pub in_order : (windows : List Window) (later : List Stage) → AreLater later → is_ordered (record { from = 0; windows = windows } ∷ later) ≡ true
in_order windows later are =
    let top : Stage = record { from = 0; windows = windows } in
    let after : All (λ u. 0 < u.from) later = All-weaker (λ u. 1 ≤ u.from) (λ u. 0 < u.from) (λ u some. omega arith) later are.some in
    and_from (begins_with_zero (top ∷ later)) (not (some_pair is_not_later (top ∷ later))) refl
    (not_from_false (some_pair is_not_later (top ∷ later)) (none_pair (top ∷ later) (AllPairs-cons (λ s u. s.from < u.from) top later after are.rising)))

-- what was read before, where all was read
pub record IsRead {A B : Type 0} (c : Checked A) (f : A → Checked B) (b : B) : Type 0 where
  pub value : A
  pub first : c ≡ Ok value
  pub rest : f value ≡ Ok b

pub read_before : {A B : Type 0} (c : Checked A) (f : A → Checked B) (b : B) → (c >>= f) ≡ Ok b → IsRead c f b
read_before (Ok a) f b is = record { value = a; first = refl; rest = is }
read_before (Err e) f b is = absurd cc

pub tested-ok : {A : Type 0} (b : Bool) (e : ConfigFault) (a c : A) → tested b e a ≡ Ok c → (b ≡ true) × (c ≡ a)
tested-ok true e a c is = (refl, cc)
tested-ok false e a c is = absurd cc

within-range : (low high n : ℕ) (z : ℤ) → within low high z ≡ Ok n → (low ≤ n) × (n ≤ high)
within-range low high n (pos m) is =
    let both = tested-ok (leb low m && leb m high) OutOfRange m n is in
    let parts = and_parts (leb low m) (leb m high) both.0 in
    rw both.1 (leb-true low m parts.0, leb-true m high parts.1)
within-range low high n (negsuc m) is = absurd cc

number-range : (key : List ℕ) (low high n : ℕ) (t : Members) → number key low high t ≡ Ok n → (low ≤ n) × (n ≤ high)
number-range key low high n t is =
    let value = read_before (required key t) (integer low high) n is in
    let signed = read_before (ok_or (as_integer value.value) WrongType) (within low high) n value.rest in
    within-range low high n signed.value signed.rest

stage-range : (sections : List Section) (low : ℕ) (d : Data) (s : Stage) → stage sections low d ≡ Ok s → (low ≤ s.from) × (s.from ≤ 68719476736)
stage-range sections low d s is =
    let table = read_before (members d) _ s is in
    let from = read_before (number (codes "from") low 68719476736 table.value) _ s table.rest in
    let values = read_before (array (codes "window") 0 64 table.value) _ s from.rest in
    let windows = read_before (windows_in sections values.value) _ s values.rest in
    let made = tested-ok _ UnknownKey _ s windows.rest in
    rw made.1 (number-range (codes "from") low 68719476736 from.value table.value from.first)

stages-later : (sections : List Section) (done : List Stage) (ds : Items) (later : List Stage)
    → AreInOrder (last_from done) done → last_from done ≤ 68719476736 → each_after (stage_in sections) done ds ≡ Ok later → AreLater later
stages-later sections done no_items later order to is =
    let same : done ≡ later = cc in subst AreLater same (AreLater-end (last_from done) done order to)
stages-later sections done (item d ds) later order to is =
    let one = read_before (stage_in sections done d) (λ a. each_after (stage_in sections) (done ++ a ∷ []) ds) later is in
    let range = stage-range sections (last_from done + 1) d one.value one.first in
    let last : last_from (done ++ one.value ∷ []) ≡ one.value.from = last_from-push done one.value in
    let next : AreInOrder (last_from (done ++ one.value ∷ [])) (done ++ one.value ∷ []) = rw last (AreInOrder-push (last_from done) done one.value order (omega (arith, range.0))) in
    stages-later sections (done ++ one.value ∷ []) ds later next (rw last range.1) one.rest

pub stages_of-later : (sections : List Section) (value : Option Data) (later : List Stage) → stages_of sections value ≡ Ok later → AreLater later
unfolding stages_of
stages_of-later sections None later is = let same : [] ≡ later = cc in subst AreLater same AreLater-nil
stages_of-later sections (Some d) later is =
    let values = read_before (items d >>= counted 0 15) (each_after (stage_in sections) []) later is in
    stages-later sections [] values.value later AreInOrder-nil (omega arith) values.rest
