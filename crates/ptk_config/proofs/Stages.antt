-- The plans that were read, as one more comes.
use Rattle.std.proofs.Common.{Bor, ◌≡◌, ◌≤◌, ◌<◌, ℕ, ◌+◌, List, [], ◌∷◌, ◌++◌, length, take, get_or, map, refl, subst, arith, ◌^◌}
use Rattle.std.specs.Prelude.{fold, All, AllPairs}
use Rattle.std.proofs.lemmas.List.{take_more, map-append, get_or-map, length-map}
use Rattle.std.proofs.lemmas.List.Elements.{All-nil, All-cons, All-weaker, All-push}
use Rattle.std.proofs.lemmas.List.Quantifiers.{all_pairs_push}
use Rattle.ptk_words_model.specs.declared.window.Window.{Window}
use Rattle.ptk_words_model.specs.Windows.{Stage}
use Rattle.ptk_config.specs.Windows.{last_from, AreLater}
use Rattle.ptk_config.proofs.Walks.{each_after-more, each_after-fault, each_after-end}

last_after : (n : ℕ) (ss : List Stage) (s : Stage) → fold (λ _ stage. stage.from) n (ss ++ s ∷ []) ≡ s.from
last_after n [] s = refl
last_after n (u ∷ ss) s = last_after u.from ss s

pub last_from-push : (ss : List Stage) (s : Stage) → last_from (ss ++ s ∷ []) ≡ s.from
last_from-push ss s = last_after 0 ss s

-- the numbers rise from 1 on, and none is above the last
pub record AreInOrder (last : ℕ) (stages : List Stage) : Type 0 where
  pub rising : AllPairs (λ s u. s.from < u.from) stages
  pub some : All (λ s. 1 ≤ s.from) stages
  pub up_to : All (λ s. s.from ≤ last) stages

pub AreInOrder-nil : AreInOrder 0 []
AreInOrder-nil = record {
  rising = λ i j d before below. absurd (omega arith);
  some = All-nil (λ s. 1 ≤ s.from);
  up_to = All-nil (λ s. s.from ≤ 0);
}

pub AreInOrder-push : (last : ℕ) (ss : List Stage) (s : Stage) → AreInOrder last ss → last < s.from → AreInOrder s.from (ss ++ s ∷ [])
AreInOrder-push last ss s order later =
    let below : All (λ u. u.from < s.from) ss = All-weaker (λ u. u.from ≤ last) (λ u. u.from < s.from) (λ u up_to. omega arith) ss order.up_to in
    record {
      rising = all_pairs_push (λ u v. u.from < v.from) ss s order.rising (λ k d within. below k d within);
      some = All-push (λ u. 1 ≤ u.from) ss s order.some (omega arith);
      up_to = All-push (λ u. u.from ≤ s.from) ss s (All-weaker (λ u. u.from < s.from) (λ u. u.from ≤ s.from) (λ u lower. omega arith) ss below) (omega arith);
    }

-- a plan from a later frame keeps the order
pub AreInOrder-more : (last first : ℕ) (ss ts : List Stage) (s : Stage) → AreInOrder last ss → last < first → first ≡ s.from → ts ≡ ss ++ s ∷ [] → AreInOrder first ts
AreInOrder-more last first ss ts s order later at more =
    let above : last < s.from = rw (← at) later in
    rw (more, at) (AreInOrder-push last ss s order above)

pub AreLater-end : (last : ℕ) (ss : List Stage) → AreInOrder last ss → last ≤ 68719476736 → AreLater ss
AreLater-end last ss order to = record {
  rising = order.rising;
  some = order.some;
  to = All-weaker (λ s. s.from ≤ last) (λ s. s.from ≤ 68719476736) (λ s up_to. omega arith) ss order.up_to;
}

pub AreLater-nil : AreLater []
AreLater-nil = AreLater-end 0 [] AreInOrder-nil (omega arith)

pub ruleset stages = (each_after-more, each_after-fault, each_after-end, last_from-push, AreInOrder-nil, AreInOrder-more, AreLater-end, AreLater-nil)

-- the stage that is given as a pair
abbrev pub stage_of : ℕ × Bor (List Window) → Stage
stage_of pair = record { from = pair.0; windows = pair.1.now }

-- the stages that are given as pairs
abbrev pub stages_of : List (ℕ × Bor (List Window)) → List Stage
stages_of pairs = map (λ pair. stage_of pair) pairs

-- one more stage is given
pub given-more : (pairs : List (ℕ × Bor (List Window))) (pair : ℕ × Bor (List Window)) (top : Stage) (later : List Stage) (i : ℕ) (s : Stage)
    → i < length later → s ≡ get_or later i s → pair.0 ≡ s.from → pair.1.now ≡ s.windows
    → stages_of pairs ≡ top ∷ take i later → stages_of (pairs ++ pair ∷ []) ≡ top ∷ take (i + 1) later
given-more pairs pair top later i s within is from windows so_far =
    let next : take (i + 1) later ≡ take i later ++ s ∷ [] = rw (take_more later i s within, ← is) in
    rw (next, map-append, so_far, from, windows)

-- the number of each pair is that of a stage
pub given-numbers : (pairs : List (ℕ × Bor (List Window))) (top : Stage) (later : List Stage)
    → stages_of pairs ≡ top ∷ later → top.from ≡ 0 → AreLater later → All (λ pair. pair.0 ≤ 2 ^ 36) pairs
given-numbers pairs top later given from are =
    let all : All (λ s. s.from ≤ 68719476736) (top ∷ later) = All-cons (λ s. s.from ≤ 68719476736) top later (omega (arith, from)) are.to in
    let each : All (λ s. s.from ≤ 68719476736) (stages_of pairs) = rw given all in
    λ k d within.
    let at : get_or (stages_of pairs) k (stage_of d) ≡ stage_of (get_or pairs k d) = get_or-map (λ pair. stage_of pair) pairs k d (stage_of d) within in
    subst (λ (s : Stage). s.from ≤ 68719476736) at (each k (stage_of d) (omega (arith, within, length-map pairs (λ pair. stage_of pair))))

pub ruleset given = (given-more)
