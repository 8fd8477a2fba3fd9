-- Condition variables: one that is new, and whether one has waiters.
use Rattle.std.proofs.Common.{arith, ◌≡◌, ℕ, List, [], ◌∷◌, length, refl, sym, ◌∙◌, ap}
use Rattle.std.specs.Prelude.{not, nat_lt, ◌==◌, Option, Some, option_map, unwrap_or}
use Rattle.std.proofs.Math.ListN.{set}
use Rattle.std.proofs.lemmas.Bool.{ne_eqb, lt-ltb}
use Rattle.ptk_words.specs.Pools.{pool_set, least_free}
use Rattle.ptk_words.specs.Parts.{part_of}
use Rattle.ptk_words_model.specs.State.{Condition}
use Rattle.ptk_gate_memory.specs.Waiters.{condition_of}
use Rattle.ptk_cond.specs.Pool.{with_new_condition}

-- the least free number is the condition variable's
pub condition_opened : (p c : ℕ) (conditions new : List (List (Option Condition))) → least_free (part_of conditions p) ≡ Some c → new ≡ set conditions p (with_new_condition (part_of conditions p))
    → new ≡ set conditions p (pool_set (part_of conditions p) c (Some (condition_of [])))
condition_opened p c conditions new free e =
    e ∙ ap (λ (o : Option ℕ). set conditions p (unwrap_or (option_map (λ k. pool_set (part_of conditions p) k (Some (condition_of []))) o) (part_of conditions p))) free

pub ruleset opened = (condition_opened)

-- ---- waiters

-- a list that is not empty
pub any_waiters : (ts : List ℕ) → not (length ts == 0) ≡ nat_lt 0 (length ts)
any_waiters [] = refl
any_waiters (t ∷ ts) = ap not (ne_eqb (length (t ∷ ts)) 0 (λ e. absurd (omega (arith, e)))) ∙ sym (lt-ltb 0 (length (t ∷ ts)) (omega arith))

pub ruleset waited = (any_waiters)
