use Rattle.std.proofs.Common.{◌≡◌, ◌<◌, ◌≤◌, ℕ, List, length, set, get_or, ap, ◌∙◌, arith}
use Rattle.std.proofs.lemmas.List.{get_or_default}
use Rattle.ptk_config.specs.Sections.{Section, no_section, with_trace, with_trace_at}
use Rattle.ptk_config.specs.Configuration.{Configuration}
use Rattle.ptk_config.proofs.Deeper.{deeper-whole}
use Rattle.ptk_config.proofs.config.Config.keep_trace.Goals as goal

pub invariant_of-self : goal.invariant_of-self
invariant_of-self c =
    let items : List Section = c.self.inside.sections.items in
    let p : ℕ = c.index.result in
    let e : ℕ = c.args.entries in
    let few : e ≤ 1048576 = c.requires.few in
    let below : p < length items = omega (arith, c.requires.place, c.index.ensures, ap (λ (x : Configuration). length x.sections) c.self.view_is) in
    let at : c.index_mut.result.now ≡ get_or items p no_section = c.index_mut.ensures.value ∙ get_or_default items p c.index_mut.result.now no_section below in
    let changed : c.keep_trace.new.self ≡ with_trace e (get_or items p no_section) = c.keep_trace.ensures ∙ ap (with_trace e) at in
    let same : set items p c.keep_trace.new.self ≡ with_trace_at e p items = ap (λ (s : Section). set items p s) changed in
    rw same (deeper-whole e p (record { sections = items; plan = c.self.inside.plan }) below few c.self.invariant)
