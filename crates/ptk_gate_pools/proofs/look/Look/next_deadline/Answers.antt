use Rattle.std.proofs.Common.{◌≡◌, ◌∙◌, List, ap}
use Rattle.std.specs.Prelude.{Option}
use Rattle.ptk_words.specs.declared.threads.Thread.{Thread}
use Rattle.ptk_words.specs.Parts.{part_of}
use Rattle.ptk_words_model.specs.Withdrawal.{deadlines_of}
use Rattle.ptk_clock.specs.ByThread.{least_deadline}
use Rattle.ptk_gate_pools.specs.Kept.{deadlines_in}
use Rattle.ptk_gate_pools.specs.Held.{Seen, seen}
use Rattle.ptk_gate_pools.specs.Pooled.{kept_of}
use Rattle.ptk_gate_pools.proofs.Opened.{looked}
use Rattle.ptk_gate_pools.proofs.look.Look.next_deadline.Goals as goal

pub returns : goal.returns
returns c =
    let a = c.pools.inside in
    let p = c.self.inside.p in
    let at : seen p (kept_of a) ≡ c.args.self.now = looked p a c.self.inside.pools.now c.args.self.now c.pools.view_is c.self.view_is in
    c.next_deadline.ensures
    ∙ ap (λ (l : List (List (Option Thread))). least_deadline (deadlines_in (part_of l p))) c.threads.ensures.threads
    ∙ ap (λ (s : Seen). least_deadline (deadlines_of s.part.locks)) at
