use Rattle.std.proofs.Common.{ℕ, ◌+◌, ◌-◌, length, take, List, ap, ◌∙◌}
use Rattle.ptk_words.specs.declared.sections.Entry.{Entry}
use Rattle.ptk_trace.specs.KeptSteps.{KeptSteps}
use Rattle.ptk_trace.proofs.Lines.{kept_parts}
use Rattle.ptk_trace.proofs.trace.Trace.entries.Goals as goal

pub returns : goal.returns
returns c =
    let newest : List Entry = take c.self.inside.noted c.self.inside.batch in
    kept_parts c.self.inside.ring.capacity c.saturating_sub-gone.result c.saturating_sub.result c.saturating_sub-2.result c.as_slices.result.0.now c.as_slices.result.1.now newest
    c.self.inside.ring.items c.after.result.now c.after-2.result.now c.after-3.result.now c.args.self.now.entries c.as_slices.ensures
    (c.saturating_sub-gone.ensures ∙ ap (λ (k : ℕ). length c.as_slices.result.0.now + length c.as_slices.result.1.now + length newest - k) c.capacity.ensures.capacity)
    c.saturating_sub.ensures c.saturating_sub-2.ensures c.after.ensures c.after-2.ensures c.after-3.ensures (ap (λ (k : KeptSteps). k.entries) c.self.view_is)
