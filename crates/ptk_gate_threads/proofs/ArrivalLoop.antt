-- What a loop that takes the due bytes one by one keeps.
use Rattle.std.proofs.Common.{◌≡◌, ℕ, ◌+◌, true, false, List, [], ◌∷◌, length, drop, take, refl, sym, ◌∙◌, ap}
use Rattle.std.specs.Prelude.{Option, Some, None, is_some, option_map, slice_get}
use Rattle.std.proofs.lemmas.Bool.{false≢true}
use Rattle.ptk_words.specs.declared.sections.Limits.{Limits}
use Rattle.ptk_words.proofs.Options.{none_if_not_some}
use Rattle.ptk_words_model.specs.State.{Part, with_locks, with_console}
use Rattle.ptk_words_model.specs.Console.{arriving, without_waiter}
use Rattle.ptk_words.specs.declared.sections.Arrival.{Arrival}
use Rattle.ptk_words_model.specs.Schedule.{after_wake}
use Rattle.ptk_words_model.specs.Decision.{first_waiter, after_arrival_for, after_arrivals}
use Rattle.ptk_words_invariant.specs.Well.{IsWell}
use Rattle.ptk_words_invariant.proofs.Decisions.{arrival_coming}
use Rattle.ptk_console.specs.ConsoleTable.{next_byte, without_next, with_any_input}
use Rattle.ptk_console.specs.ConsoleTable as console
use Rattle.ptk_gate_moves.specs.Held.{Held, limits_here}
use Rattle.ptk_gate_moves.specs.Moves.{with_next_taken}
use Rattle.ptk_gate_threads.specs.Arrivals.{after_byte, after_next_arrival, after_due_byte}
use Rattle.ptk_gate_threads.proofs.ArrivalSteps.{arrivals_step, arrivals_end, next_well, byte_well, next_fewer}

-- ---- the next byte

some_of : (o : Option ℕ) → is_some o ≡ true → (byte : ℕ) × (o ≡ Some byte)
some_of None e = absurd (false≢true e)
some_of (Some byte) e = (byte, refl)

next_is : (o : Option ℕ) (limit tick byte : ℕ) (s : Part) → o ≡ Some byte → after_due_byte o limit tick s ≡ after_byte limit byte (with_next_taken tick s)
next_is o limit tick byte s e = rw e refl

none_next : (o : Option ℕ) (limit tick : ℕ) (s : Part) → o ≡ None → after_due_byte o limit tick s ≡ s
none_next o limit tick s e = rw e refl

untaken : (s : Part) (xs : List Arrival) → option_map (λ (arrival : Arrival). arrival.byte) (slice_get xs 0) ≡ None → with_console (λ console. record console { coming = drop (length (take 1 xs)) console.coming }) s ≡ s
untaken s [] e = refl
untaken s (x ∷ xs) e = absurd (let no : ⊥ = cc e in no)

-- where none is due, nothing changes
pub undue_is : (limit tick : ℕ) (s : Part) → is_some (next_byte tick s.console) ≡ false → after_next_arrival limit tick s ≡ s
undue_is limit tick s none = none_next (next_byte tick s.console) limit tick s (none_if_not_some (next_byte tick s.console) none)

-- and nothing has been taken
pub next_none : (limit tick : ℕ) (s : Part) → next_byte tick s.console ≡ None → after_next_arrival limit tick s ≡ with_next_taken tick s
next_none limit tick s none = none_next (next_byte tick s.console) limit tick s none ∙ sym (untaken s (arriving tick s.console) none)

-- a byte that is due, taken and then handed to the first waiter
pub handed_is : (limit tick byte t : ℕ) (s : Part) → first_waiter s ≡ Some t → next_byte tick s.console ≡ Some byte
    → after_next_arrival limit tick s ≡ with_locks (after_wake t (0 ∷ byte ∷ [])) (with_console (without_waiter t) (with_next_taken tick s))
handed_is limit tick byte t s waits is = next_is (next_byte tick s.console) limit tick byte s is ∙ ap (λ (o : Option ℕ). after_arrival_for o limit byte (with_next_taken tick s)) waits

unwaited_of : (o : Option ℕ) (limit tick : ℕ) (s : Part) → next_byte tick s.console ≡ o → first_waiter s ≡ None → with_console (λ console. with_any_input limit o (without_next tick console)) s ≡ after_due_byte o limit tick s
unwaited_of None limit tick s e none = untaken s (arriving tick s.console) e
unwaited_of (Some byte) limit tick s e none = ap (λ (o : Option ℕ). after_arrival_for o limit byte (with_next_taken tick s)) (sym none)

-- with no waiter, the next byte goes into the ring or is lost
pub unwaited_is : (limit tick : ℕ) (s : Part) → first_waiter s ≡ None → after_next_arrival limit tick s ≡ with_console (console.after_next_byte limit tick) s
unwaited_is limit tick s none = sym (unwaited_of (next_byte tick s.console) limit tick s refl none)

pub ruleset arrivals = (undue_is, next_none, handed_is, unwaited_is)

-- ---- the loop

-- so far some of the due bytes have been taken, and the ones left lead to the same part
pub record AreArriving (tick : ℕ) (initial now : Held) : Type 0 where
  pub rest : now ≡ record initial { here = now.here }
  pub same : after_arrivals (limits_here initial) tick now.here ≡ after_arrivals (limits_here initial) tick initial.here
  pub well : IsWell (limits_here initial) now.here

-- one more, and one fewer is to come
pub arriving_more : (tick : ℕ) (initial now new : Held) → AreArriving tick initial now → is_some (next_byte tick now.here.console) ≡ true
    → new ≡ record now { here = after_next_arrival (limits_here now).ring tick now.here } → AreArriving tick initial new × (length new.here.console.coming + 1 ≡ length now.here.console.coming)
arriving_more tick initial now new a due e =
    let found = some_of (next_byte tick now.here.console) due in
    let byte : ℕ = found.0 in
    let is : next_byte tick now.here.console ≡ Some byte = found.1 in
    let u : Part = with_next_taken tick now.here in
    let v : Part = after_byte (limits_here initial).ring byte (with_next_taken tick now.here) in
    let sections : limits_here now ≡ limits_here initial = ap limits_here a.rest in
    let new_is : new ≡ record now { here = v } =
    e
    ∙ ap (λ (limits : Limits). record now { here = after_next_arrival limits.ring tick now.here }) sections
    ∙ ap (λ (s : Part). record now { here = s }) (next_is (next_byte tick now.here.console) (limits_here initial).ring tick byte now.here is) in
    let fewer : length v.console.coming ≡ length u.console.coming = ap length (arrival_coming (first_waiter u) (limits_here initial).ring byte u) in
    rw new_is (
      record {
        rest = ap (λ (pools : Held). record pools { here = v }) a.rest;
        same = arrivals_step (limits_here initial) tick byte now.here is ∙ a.same;
        well = byte_well (limits_here initial) byte u (next_well (limits_here initial) tick now.here a.well);
      },
      ap (λ n. n + 1) fewer ∙ next_fewer tick byte now.here.console is,
    )

-- and at last all
pub arriving_end : (tick : ℕ) (initial now new : Held) → AreArriving tick initial now → is_some (next_byte tick now.here.console) ≡ false
    → new ≡ record now { here = after_next_arrival (limits_here now).ring tick now.here } → new ≡ record initial { here = after_arrivals (limits_here initial) tick initial.here }
arriving_end tick initial now new a none e =
    let is : next_byte tick now.here.console ≡ None = none_if_not_some (next_byte tick now.here.console) none in
    e ∙ ap (λ (s : Part). record now { here = s }) (undue_is (limits_here now).ring tick now.here none)
    ∙ a.rest ∙ ap (λ (s : Part). record initial { here = s }) (sym (arrivals_end (limits_here initial) tick now.here is) ∙ a.same)
