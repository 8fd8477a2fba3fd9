use Rattle.std.proofs.Common.{◌≡◌, ◌<◌, ◌∙◌, ℕ, List, length, map, ap, sym, subst}
use Rattle.std.specs.Prelude.{Option}
use Rattle.ptk_words.specs.declared.threads.Thread.{Thread}
use Rattle.ptk_words.specs.Parts.{part_of}
use Rattle.ptk_words_model.specs.Withdrawal.{deadlines_of}
use Rattle.ptk_clock.specs.BySlot.{deadlines_from}
use Rattle.ptk_clock.specs.ByThread.{first_slot}
use Rattle.ptk_gate_pools.specs.Kept.{Kept, part_at, deadlines_in}
use Rattle.ptk_gate_pools.proofs.Opened.{whole}
use Rattle.ptk_gate_pools.proofs.pools.Pools.deadlines.Goals as goal

pub returns : goal.returns
returns c =
    let many : length c.threads.result.now.threads ≡ length c.self.inside.limits.items = ap (λ (l : List (List (Option Thread))). length l) c.threads.ensures.threads ∙ c.self.invariant.threads in
    subst
    (λ (kept : Kept). (q : ℕ) → q < length kept.limits → deadlines_of (part_at q kept).locks ≡ deadlines_from (first_slot q (map deadlines_in kept.threads)) (length (part_at q kept).threads) c.deadlines.result.now.pairs) (whole c.self.inside c.args.self.now c.self.view_is)
    (λ q lt. subst (λ (l : List (List (Option Thread))). deadlines_in (part_of l q) ≡ deadlines_from (first_slot q (map deadlines_in l)) (length (part_of l q)) c.deadlines.result.now.pairs) c.threads.ensures.threads
    (c.deadlines.ensures q (subst (λ (n : ℕ). q < n) (sym many) lt)))
