-- How quiet a partition is after steps in a row, and that none changes nothing.
use Rattle.std.proofs.Common.{◌≡◌, ◌∙◌, ℕ, ◌≤◌, length, sym, ap, subst}
use Rattle.ptk_words.specs.declared.sections.Limits.{Limits}
use Rattle.ptk_words_model.specs.State.{Part}
use Rattle.ptk_trace.specs.KeptSteps.{KeptSteps}
use Rattle.ptk_gate.specs.Kept.{Kept, limits_at, part_at, put_part}
use Rattle.ptk_gate.proofs.Ranks.{put_same}
use Rattle.ptk_gate.specs.Decisions.{IsQuietTo}
use Rattle.ptk_gate.specs.Stretches.{HasGone}
use Rattle.ptk_gate.proofs.StepsInARow.{gone_nothing, gone_still}
use Rattle.ptk_kernel.specs.Rows.{IsStillTo}

-- no step changes nothing
pub rows_none : (p t tick n reached : ℕ) (old new : Kept) (before after : KeptSteps) → new ≡ put_part p (part_at p new) old → HasGone (limits_at p old) t tick n reached (part_at p old) (part_at p new) before after → length before.entries ≤ before.capacity → n ≡ 0
    → (reached ≡ tick) × (new ≡ old) × (after ≡ before)
rows_none p t tick n reached old new before after moved gone within none =
    let same = gone_nothing (limits_at p old) t tick n reached (part_at p old) (part_at p new) before after gone within none in
    (same.0, moved ∙ (ap (λ (s : Part). put_part p s old) same.1 ∙ sym (put_same p old)), same.2)

-- steps in a row leave a partition as quiet as it was
pub rows_still : (p t tick n reached stop : ℕ) (old new : Kept) (before after : KeptSteps) → new ≡ put_part p (part_at p new) old → HasGone (limits_at p old) t tick n reached (part_at p old) (part_at p new) before after → reached ≤ stop
    → IsStillTo p tick stop t old → IsStillTo p reached stop t new
rows_still p t tick n reached stop old new before after moved gone le still =
    let same : limits_at p new ≡ limits_at p old = ap (limits_at p) moved in
    subst (λ (limits : Limits). IsQuietTo limits reached stop t (part_at p new)) (sym same)
    (gone_still (limits_at p old) t tick n reached stop (part_at p old) (part_at p new) before after gone le still)
