-- Two runs whose limits differ in the output alone, as long as the output is within the smaller limit.
use Rattle.std.proofs.Common.{◌≡◌, ℕ, zero, suc, ◌-◌, ◌≤◌, ◌<◌, Bool, true, false, ◌⊎◌, inl, inr, List, ◌++◌, length, Option, Some, None, refl, sym, ap, subst, ◌∙◌, cond, arith, append_assoc, length-append}
use Rattle.std.proofs.Math.Seq.{take-append_seam}
use Rattle.std.proofs.lemmas.Bool.{cases_lt, lt-leb}
use Rattle.std.specs.Prelude.{take}
use Rattle.std.specs.Io.{StartsWith}
use Rattle.ptk_words.specs.Names.{Byte}
use Rattle.ptk_words.specs.declared.sections.Arrival.{Arrival}
use Rattle.ptk_words.specs.declared.sections.Limits.{Limits}
use Rattle.ptk_words_model.specs.Windows.{OwnTicks}
use Rattle.ptk_words_model.specs.State.{State}
use Rattle.ptk_words_model.specs.Decision.{Decision}
use Rattle.ptk_words_model.specs.Run.{accounted, decided, is_at, after_tick_until, after_tick, alone}
use Rattle.ptk_impact.specs.Larger.{LargerOutputIsSameRun, with_output_limit, output_of}
use Rattle.ptk_impact.proofs.Outputs.{IsMore, is_kept}
use Rattle.ptk_impact.proofs.Rows.{IsAlike}
use Rattle.ptk_impact.proofs.Decided.{decision_same}
use Rattle.ptk_impact.proofs.Written.{tick_written}

more_more : (xs ys zs : List ℕ) → IsMore xs ys → IsMore ys zs → IsMore xs zs
more_more xs ys zs (first, is_first) (last, is_last) = (first ++ last, is_last ∙ (ap (λ (l : List ℕ). l ++ last) is_first ∙ append_assoc xs first last))

more_length : (xs ys : List ℕ) → IsMore xs ys → length xs ≤ length ys
more_length xs ys (more, is) = let long : length ys ≡ length (xs ++ more) = ap length is in omega (arith, long, length-append xs more)

more_starts : (xs ys : List ℕ) → IsMore xs ys → StartsWith ys xs
more_starts xs ys (more, is) = ap (take (length xs)) is ∙ take-append_seam xs more

module _ (ticks : OwnTicks) (limits : Limits) (image : Option (List Byte)) (input : List Arrival) where
  -- the run
  abbrev run : ℕ → State
  run n = alone ticks limits image input n

  -- a tick only adds to the output
  next_written : (n : ℕ) → IsMore (output_of (run n)) (output_of (run (suc n)))
  next_written n = tick_written (ticks.end_at n) ticks limits n (run n)

  added_by : (earlier n : ℕ) → earlier ≤ suc n → (earlier ≤ n → IsMore (output_of (run earlier)) (output_of (run n))) → (n < earlier) ⊎ (earlier ≤ n)
      → IsMore (output_of (run earlier)) (output_of (run (suc n)))
  added_by earlier n le added (inl past) =
      subst (λ (k : ℕ). IsMore (output_of (run k)) (output_of (run (suc n)))) (let now : suc n ≡ earlier = omega (arith, le, past) in now)
      (is_kept (output_of (run (suc n))) (output_of (run (suc n))) refl)
  added_by earlier n le added (inr before) = more_more (output_of (run earlier)) (output_of (run n)) (output_of (run (suc n))) (added before) (next_written n)

  only_added : (earlier later : ℕ) → earlier ≤ later → IsMore (output_of (run earlier)) (output_of (run later))
  only_added earlier zero le =
      subst (λ (n : ℕ). IsMore (output_of (run n)) (output_of (run zero))) (let none : zero ≡ earlier = omega (arith, le) in none)
      (is_kept (output_of (run zero)) (output_of (run zero)) refl)
  only_added earlier (suc n) le = added_by earlier n le (only_added earlier n) (cases_lt n earlier)

pub only_added_to : (ticks : OwnTicks) (limits : Limits) (image : Option (List Byte)) (input : List Arrival) (earlier later : ℕ) → earlier ≤ later
    → StartsWith (output_of (alone ticks limits image input later)) (output_of (alone ticks limits image input earlier))
only_added_to ticks limits image input earlier later le =
    more_starts (output_of (alone ticks limits image input earlier)) (output_of (alone ticks limits image input later)) (only_added ticks limits image input earlier later le)

-- ---- both limits

-- an output shorter than the smaller limit is full under neither
room_alike : (small limit : ℕ) (before after : List ℕ) → small ≤ limit → length before < small → IsAlike small limit before after
room_alike small limit before after le room = inl (lt-leb small (length before) room ∙ sym (lt-leb limit (length before) (omega (arith, room, le))))

decided_alike : (ticks : OwnTicks) (limits : Limits) (small tick room : ℕ) (s : State) → IsAlike small limits.output (output_of s) (output_of (decided ticks limits tick room s))
    → decided ticks (with_output_limit small limits) tick room s ≡ decided ticks limits tick room s
decided_alike ticks limits small tick room s same =
    ap (λ (d : Decision). let state : State = record { part = d.part; account = accounted ticks limits tick room d.part d.spent s.account } in state)
    (decision_same small limits.trace limits tick room s.part same)

tick_by : (now : Bool) (ticks : OwnTicks) (limits : Limits) (small tick room : ℕ) (s : State)
    → IsAlike small limits.output (output_of s) (output_of (cond now (decided ticks limits tick room s) s))
    → cond now (decided ticks (with_output_limit small limits) tick room s) s ≡ cond now (decided ticks limits tick room s) s
tick_by true ticks limits small tick room s same = decided_alike ticks limits small tick room s same
tick_by false ticks limits small tick room s same = refl

tick_alike : (o : Option ℕ) (ticks : OwnTicks) (limits : Limits) (small tick : ℕ) (s : State)
    → IsAlike small limits.output (output_of s) (output_of (after_tick_until o ticks limits tick s))
    → after_tick_until o ticks (with_output_limit small limits) tick s ≡ after_tick_until o ticks limits tick s
tick_alike None ticks limits small tick s same = refl
tick_alike (Some end) ticks limits small tick s same = tick_by (is_at tick s.account.next) ticks limits small tick (end - tick) s same

module _ (ticks : OwnTicks) (limits : Limits) (image : Option (List Byte)) (input : List Arrival) (small : ℕ) (le : small ≤ limits.output) where
  -- the run with the smaller limit, and the one with the larger
  abbrev less : ℕ → State
  less n = alone ticks (with_output_limit small limits) image input n

  abbrev more : ℕ → State
  more n = alone ticks limits image input n

  -- as long as the smaller limit leaves room
  same_with_room : (n : ℕ) → length (output_of (less n)) < small → less n ≡ more n
  same_with_room zero room = refl
  same_with_room (suc n) room =
      let grown : length (output_of (less n)) ≤ length (output_of (less (suc n))) =
      more_length (output_of (less n)) (output_of (less (suc n))) (next_written ticks (with_output_limit small limits) image input n) in
      let before : length (output_of (less n)) < small = omega (arith, grown, room) in
      tick_alike (ticks.end_at n) ticks limits small n (less n)
      (room_alike small limits.output (output_of (less n)) (output_of (after_tick ticks limits n (less n))) le before)
      ∙ ap (after_tick ticks limits n) (same_with_room n before)

  -- as long as no more is written than the smaller limit allows
  same_within : (n : ℕ) → length (output_of (more n)) ≤ small → less n ≡ more n
  same_within zero within = refl
  same_within (suc n) within =
      let grown : length (output_of (more n)) ≤ length (output_of (more (suc n))) =
      more_length (output_of (more n)) (output_of (more (suc n))) (next_written ticks limits image input n) in
      ap (after_tick ticks (with_output_limit small limits) n) (same_within n (omega (arith, grown, within)))
      ∙ tick_alike (ticks.end_at n) ticks limits small n (more n) (inr (le, within))

pub larger_same : LargerOutputIsSameRun
larger_same ticks limits image input small n le = record {
  room = same_with_room ticks limits image input small le n;
  within = same_within ticks limits image input small le n;
}
