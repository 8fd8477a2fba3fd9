use Rattle.std.proofs.Common.{◌≡◌, ◌∙◌, ap}
use Rattle.std.specs.Prelude.{Some, option_map}
use Rattle.ptk_words.specs.declared.threads.Thread.{Thread}
use Rattle.ptk_words_model.specs.Priority.{effective_priority, thread_at}
use Rattle.ptk_gate_pools.specs.Held.{Seen, seen}
use Rattle.ptk_gate.proofs.tables.Tables.effective_priority.Goals as goal

pub returns-in-Some : goal.returns-in-Some
returns-in-Some c =
    let at : c.look-look.result ≡ seen c.args.p c.args.self.now = c.look-look.ensures ∙ ap (seen c.args.p) c.self.view_is in
    ap Some c.effective_priority.ensures
    ∙ ap (option_map (λ (thread : Thread). effective_priority c.look-look.result.part.locks c.args.t)) c.in-Some.ensures
    ∙ ap (λ (s : Seen). option_map (λ (thread : Thread). effective_priority s.part.locks c.args.t) (thread_at s.part.locks c.args.t)) at
