use Rattle.std.proofs.Common.{◌≡◌, ◌∙◌, ap, sym, subst}
use Rattle.ptk_words_laws.specs.Quiet.{IsQuiet}
use Rattle.ptk_gate_pools.specs.Held.{Seen, seen}
use Rattle.ptk_gate.proofs.tables.Tables.prepared_until.Goals as goal

pub returns-clause-full : goal.returns-clause-full
returns-clause-full c = λ t k thread after within quiet.
    let at : c.look.result ≡ seen c.args.p c.args.self.now = c.look.ensures ∙ ap (seen c.args.p) c.self.view_is in
    c.prepared_until.ensures.full t k thread after within (subst (λ (s : Seen). IsQuiet s.limits c.args.tick k t thread s.part) (sym at) quiet)
