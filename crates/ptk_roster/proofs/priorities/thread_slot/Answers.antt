use Rattle.std.proofs.Common.{◌≡◌, ℕ, ◌-◌, ◌<◌, ◌≤◌, List, length, get_or, subst}
use Rattle.std.specs.Prelude.{Option, Some, None, option_map, IfSome, MatchOption}
use Rattle.std.specs.Option.{option_flatten}
use Rattle.std.specs.List.{HoldsAt}
use denote.Bor.{Bor}
use Rattle.ptk_words.specs.Pools.{pool_get}
use Rattle.ptk_threads.specs.declared.slot.Slot.{Slot}
use Rattle.ptk_threads.specs.Links.{threads_of}
use Rattle.ptk_threads.proofs.Slots.{read_at, read_past}
use Rattle.ptk_roster.proofs.priorities.thread_slot.Goals as goal

thread_got : (slots : List Slot) (t i : ℕ) (o : Option (Bor Slot)) → i ≡ t - 1 → 0 < t → IfSome o (λ x. x.now ≡ get_or slots i x.now) → MatchOption o (length slots ≤ i) (λ x. (i < length slots) × HoldsAt (λ y. x.now ≡ y) slots i)
    → option_flatten (option_map (λ (r : Bor Slot). r.now.thread) o) ≡ pool_get (threads_of slots) t
thread_got slots t i None e h is at = read_past slots t h (subst (λ (j : ℕ). length slots ≤ j) e at)
thread_got slots t i (Some x) e h is at = read_at slots t x.now h (subst (λ (j : ℕ). j < length slots) e at.0) (subst (λ (j : ℕ). x.now ≡ get_or slots j x.now) e is)

pub returns : goal.returns
returns c =
    let h = c.get.ensures.lookup in
    thread_got c.args.threads.now c.args.t c.place.result c.get.result c.place.ensures.value c.place.ensures.positive h.1 h.3
