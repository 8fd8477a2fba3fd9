-- A cycle of waits: a walk of one wait for each number of a thread finds it, and finds nothing else.
use Rattle.std.proofs.Common.{◌≡◌, ℕ, Bool, false, length, sym, ◌∙◌, ap, refl}
use Rattle.std.specs.Prelude.{◌↔◌, Option, Some, None, IsTrue}
use Rattle.ptk_words.specs.Pools.{pool_get}
use Rattle.ptk_words.specs.declared.threads.Thread.{Thread}
use Rattle.ptk_words_model.specs.State.{Part}
use Rattle.ptk_words.specs.Faults.{is_active}
use Rattle.ptk_words_model.specs.Chain.{Leads, leads_to}
use Rattle.ptk_words_sync_invariant.proofs.ChainLaws.{IsNumber, IsBounded, chain_at-next, chain_at-ended, chain_complete, false_true, none_some, number_of, reaches_sound}
use Rattle.ptk_words_model.specs.Schedule.{is_running}
use Rattle.ptk_system.specs.Activities.{activity_of_number}
use Rattle.ptk_explanation.specs.Deadlocks.{IsDeadlocked, blocker_in, blocker_of}

-- a free number waits for nobody
blocker-free : (s : Part) (q : ℕ) → pool_get s.locks.threads q ≡ None → blocker_in s q ≡ None
blocker-free s q e = ap (λ thread. blocker_of s.locks (activity_of_number (is_active s.status) (is_running q s.running) thread)) e

blocker_within : (s : Part) (q v : ℕ) (o : Option Thread) → pool_get s.locks.threads q ≡ o → blocker_in s q ≡ Some v → IsNumber (length s.locks.threads) q
blocker_within s q v None e n = none_some (blocker_in s q) v (blocker-free s q e) n
blocker_within s q v (Some thread) e n = number_of s.locks.threads q thread e

-- only threads of the pool wait
pub blocker_bounded : (s : Part) → IsBounded (length s.locks.threads) (blocker_in s)
blocker_bounded s = record { each = λ q v n. blocker_within s q v (pool_get s.locks.threads q) refl n }

-- a thread that waits for the next one is on a cycle if and only if a walk of one wait for each number leads from that one back
pub cycle_found : (s : Part) (t v most : ℕ) → most ≡ length s.locks.threads → blocker_in s t ≡ Some v → (b : Bool) → b ≡ leads_to (blocker_in s) t most v → IsTrue b ↔ IsDeadlocked s t
cycle_found s t v most e n b h = (
  λ is. let r : Leads (blocker_in s) v t = reaches_sound (blocker_in s) t most v (sym h ∙ is) in (r.0, chain_at-next (blocker_in s) t v r.0 n ∙ r.1),
  λ d. h ∙ (ap (λ k. leads_to (blocker_in s) t k v) e
      ∙ chain_complete (length s.locks.threads) (blocker_in s) (blocker_bounded s) v t (d.0, sym (chain_at-next (blocker_in s) t v d.0 n) ∙ d.1)),
)

-- a thread that waits for nobody is on none
pub cycle_none : (s : Part) (t : ℕ) → blocker_in s t ≡ None → (b : Bool) → b ≡ false → IsTrue b ↔ IsDeadlocked s t
cycle_none s t n b h =
    (λ is. false_true (sym h ∙ is), λ d. none_some _ t (chain_at-ended (blocker_in s) t d.0 n) d.1)
