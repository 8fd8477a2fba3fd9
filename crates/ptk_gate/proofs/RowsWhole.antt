-- Steps of a quiet partition in a row leave the tables whole.
use Rattle.std.proofs.Common.{◌≡◌, ◌∙◌, ℕ, ◌≤◌, ◌<◌, length, sym, ap, subst, arith}
use Rattle.ptk_words.specs.Ranges.{IsWithinLimits}
use Rattle.ptk_words.specs.declared.TheConstants.{RETURN_GATE}
use Rattle.ptk_words_model.specs.State.{Part}
use Rattle.ptk_console.specs.ConsoleTable.{no_limits}
use Rattle.ptk_trace.specs.KeptSteps.{KeptSteps}
use Rattle.ptk_gate_pools.specs.Kept.{Kept, part_at, put_part, limits_at}
use Rattle.ptk_gate_pools.specs.Held.{Held, held, all_of, limits_here}
use Rattle.ptk_gate_pools.proofs.Hands.{all-done, raised}
use Rattle.ptk_gate_pools.proofs.Parted.{part_at-put}
use Rattle.ptk_gate_steps.specs.Stretches.{HasGone}
use Rattle.ptk_gate_steps.proofs.StepsInARow.{gone_well}
use Rattle.ptk_gate.specs.Whole.{AreWhole}
use Rattle.ptk_gate.proofs.Wholes.{are_whole_put, well_at}

-- the return gate is past every memory
pub gate_far : (p : ℕ) (kept : Kept) → AreWhole kept → p < length kept.limits → length (part_at p kept).memory ≤ RETURN_GATE
gate_far p kept are lt =
    let range : IsWithinLimits (limits_at p kept) = are.ranges p no_limits lt in
    let size : length (part_at p kept).memory ≡ (limits_at p kept).memory = (well_at p kept are lt).memory in
    omega (arith, size, range.memory_to)

-- ---- steps of a quiet partition in a row

-- what was made of the part in hand is made of it in the tables
pub rows_put : (p : ℕ) (kept : Kept) (taken new : Held) → taken ≡ held p kept → new ≡ record taken { here = new.here } → all_of new ≡ put_part p new.here kept
rows_put p kept taken new e moved =
    ap all_of (moved ∙ ap (λ (h : Held). record h { here = new.here }) e) ∙ all-done p new.here kept

-- and is its part of them
pub rows_here : (p : ℕ) (kept : Kept) (taken new : Held) → AreWhole kept → p < length kept.limits → taken ≡ held p kept → new ≡ record taken { here = new.here } → part_at p (all_of new) ≡ new.here
rows_here p kept taken new are lt e moved = ap (part_at p) (rows_put p kept taken new e moved) ∙ part_at-put (length kept.limits) p new.here kept are.wells.parts lt

-- it leaves the tables whole
pub rows_whole : (p t tick n reached : ℕ) (kept : Kept) (taken new : Held) (before after : KeptSteps) → AreWhole kept → p < length kept.limits → taken ≡ held p kept → new ≡ record taken { here = new.here }
    → HasGone (limits_here taken) t tick n reached taken.here new.here before after → AreWhole (all_of new)
rows_whole p t tick n reached kept taken new before after are lt e moved gone =
    are_whole_put p new.here kept (all_of new) (rows_put p kept taken new e moved) are lt
    (gone_well (limits_at p kept) t tick n reached (part_at p kept) new.here before after
    (raised p (λ limits s. HasGone limits t tick n reached s new.here before after) kept taken e gone) (well_at p kept are lt))

-- and is that number of decisions of the partition
pub rows_gone : (p t tick n reached : ℕ) (kept : Kept) (taken new : Held) (before after : KeptSteps) → AreWhole kept → p < length kept.limits → taken ≡ held p kept → new ≡ record taken { here = new.here }
    → HasGone (limits_here taken) t tick n reached taken.here new.here before after → HasGone (limits_at p kept) t tick n reached (part_at p kept) (part_at p (all_of new)) before after
rows_gone p t tick n reached kept taken new before after are lt e moved gone =
    subst (λ (s : Part). HasGone (limits_at p kept) t tick n reached (part_at p kept) s before after) (sym (rows_here p kept taken new are lt e moved))
    (raised p (λ limits s. HasGone limits t tick n reached s new.here before after) kept taken e gone)
