use Rattle.std.proofs.Common.{◌≡◌, ◌<◌, ◌≤◌, ℕ, length}
use Rattle.ptk_words.specs.declared.TheConstants.{LAST_TICK}
use Rattle.ptk_system.specs.World.{at_tick, but_next, state_of}
use Rattle.ptk_system.proofs.system.System.all_stay_until.Given as goal

abbrev pub invariant-loop-i : goal.invariant-loop-i
invariant-loop-i l = (l.until ≤ l.fn.stop)
    × ((p : ℕ) → p < l.i → (k : ℕ) → l.self.tick ≤ k → k ≤ l.until → but_next (state_of (at_tick k l.self) p) ≡ but_next (state_of l.self p))
    × (l.fn.stop ≤ LAST_TICK → (k : ℕ) → k ≤ l.fn.stop
    → ((p : ℕ) → p < length l.self.config.sections → (j : ℕ) → l.self.tick ≤ j → j ≤ k → but_next (state_of (at_tick j l.self) p) ≡ but_next (state_of l.self p)) → k ≤ l.until)
