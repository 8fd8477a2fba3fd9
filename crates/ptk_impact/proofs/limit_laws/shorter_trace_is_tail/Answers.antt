use Rattle.ptk_impact.proofs.LimitRuns.{runs_same}
use Rattle.ptk_impact.proofs.limit_laws.shorter_trace_is_tail.Goals as goal

pub returns : goal.returns
returns c ticks limits image input kept n le = (runs_same ticks limits image input kept n).account.tail le
