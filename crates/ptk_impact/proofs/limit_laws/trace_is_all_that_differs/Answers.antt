use Rattle.ptk_words_model.specs.Run.{alone}
use Rattle.ptk_impact.specs.Deeper.{with_trace_limit}
use Rattle.ptk_impact.proofs.LimitRuns.{runs_same, all_but}
use Rattle.ptk_impact.proofs.limit_laws.trace_is_all_that_differs.Goals as goal

pub returns : goal.returns
returns c ticks limits image input kept n =
    all_but limits kept (alone ticks (with_trace_limit kept limits) image input n) (alone ticks limits image input n) (runs_same ticks limits image input kept n)
