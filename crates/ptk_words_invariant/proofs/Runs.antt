-- A partition alone stays whole.
use Rattle.std.proofs.Common.{◌≡◌, ℕ, zero, suc, ◌+◌, ◌-◌, ◌≤◌, Bool, true, false, List, refl}
use Rattle.std.specs.Prelude.{Option, Some, None, if◌then◌else◌}
use Rattle.std.proofs.lemmas.Bool.{false≢true}
use Rattle.ptk_words.specs.declared.faults.Status.{Status}
use Rattle.ptk_words.specs.declared.sections.Arrival.{Arrival}
use Rattle.ptk_words.specs.declared.sections.Limits.{Limits}
use Rattle.ptk_words_model.specs.Windows.{OwnTicks}
use Rattle.ptk_words_model.specs.declared.Spent.{Spent}
use Rattle.ptk_words_model.specs.declared.Spent.TheVariants.{Step, Idle, Lost}
use Rattle.ptk_words_model.specs.State.{Part, Account, State}
use Rattle.ptk_words_model.specs.Decision.{after_decision, spent_by_decision}
use Rattle.ptk_words_model.specs.Run.{next_from, start_part, start, accounted, decided, is_at, after_tick_until, after_tick, alone}
use Rattle.ptk_words.specs.Faults.{is_active}
use Rattle.ptk_words_invariant.specs.Well.{IsWell}
use Rattle.ptk_words_invariant.proofs.Starts.{well_start}
use Rattle.ptk_words_invariant.proofs.Decisions.{well_decision}

-- the state is whole, and only an active partition has a next decision (own)
pub record IsSound (limits : Limits) (s : State) : Type 0 where
  pub well : IsWell limits s.part
  pub active : (n : ℕ) → s.account.next ≡ Some n → is_active s.part.status ≡ true

next_active_at : (o : Option ℕ) (n : ℕ) (b : Bool) → (if b then o else None) ≡ Some n → b ≡ true
next_active_at o n true e = refl
next_active_at o n false e = absurd (let no : ⊥ = cc in no)

next_active : (ticks : OwnTicks) (status : Status) (tick n : ℕ) → next_from ticks status tick ≡ Some n → is_active status ≡ true
next_active ticks status tick n e = next_active_at (ticks.next_of tick) n (is_active status) e

accounted_active : (ticks : OwnTicks) (limits : Limits) (tick room : ℕ) (part : Part) (spent : Spent) (account : Account) (n : ℕ) → (accounted ticks limits tick room part spent account).next ≡ Some n → is_active part.status ≡ true
accounted_active ticks limits tick room part Idle account n e = next_active ticks part.status (tick + 1) n e
accounted_active ticks limits tick room part Lost account n e = next_active ticks part.status (tick + room) n e
accounted_active ticks limits tick room part (Step cost) account n e = next_active ticks part.status (tick + cost) n e

pub sound_start : (ticks : OwnTicks) (limits : Limits) (image : Option (List ℕ)) (input : List Arrival) → 1 ≤ limits.threads → 1 ≤ limits.interval → IsSound limits (start ticks limits image input)
sound_start ticks limits image input threads interval = record {
  well = well_start limits image input threads interval;
  active = λ n e. next_active ticks (start_part limits image input).status 0 n e;
}

pub sound_decided : (ticks : OwnTicks) (limits : Limits) (tick room : ℕ) (s : State) → is_active s.part.status ≡ true → IsWell limits s.part → IsSound limits (decided ticks limits tick room s)
sound_decided ticks limits tick room s active well = record {
  well = well_decision limits tick room s.part active well;
  active = λ n e. accounted_active ticks limits tick room (after_decision limits tick room s.part) (spent_by_decision limits tick room s.part) s.account n e;
}

at_some : (tick : ℕ) (o : Option ℕ) → is_at tick o ≡ true → (n : ℕ) × (o ≡ Some n)
at_some tick None e = absurd (false≢true e)
at_some tick (Some n) e = (n, refl)

sound_at : (ticks : OwnTicks) (limits : Limits) (tick end : ℕ) (s : State) (b : Bool) → is_at tick s.account.next ≡ b → IsSound limits s → IsSound limits (if b then decided ticks limits tick (end - tick) s else s)
sound_at ticks limits tick end s true e sound = let next = at_some tick s.account.next e in sound_decided ticks limits tick (end - tick) s (sound.active next.0 next.1) sound.well
sound_at ticks limits tick end s false e sound = sound

sound_until : (o : Option ℕ) (ticks : OwnTicks) (limits : Limits) (tick : ℕ) (s : State) → IsSound limits s → IsSound limits (after_tick_until o ticks limits tick s)
sound_until None ticks limits tick s sound = sound
sound_until (Some end) ticks limits tick s sound = sound_at ticks limits tick end s (is_at tick s.account.next) refl sound

pub sound_tick : (ticks : OwnTicks) (limits : Limits) (tick : ℕ) (s : State) → IsSound limits s → IsSound limits (after_tick ticks limits tick s)
sound_tick ticks limits tick s sound = sound_until (ticks.end_at tick) ticks limits tick s sound

pub sound_alone : (ticks : OwnTicks) (limits : Limits) (image : Option (List ℕ)) (input : List Arrival) (n : ℕ) → 1 ≤ limits.threads → 1 ≤ limits.interval → IsSound limits (alone ticks limits image input n)
sound_alone ticks limits image input zero threads interval = sound_start ticks limits image input threads interval
sound_alone ticks limits image input (suc n) threads interval = sound_tick ticks limits n (alone ticks limits image input n) (sound_alone ticks limits image input n threads interval)
