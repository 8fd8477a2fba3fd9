use Rattle.ptk_ready.proofs.Ready.{in_entries}
use Rattle.ptk_ready.proofs.Moves.{queued_marked, unqueued_free}
use Rattle.ptk_ready.proofs.laws.marks_tell_queues.Goals as goal

pub returns : goal.returns
returns c = record {
  queued = λ links ends k i are. queued_marked links ends k i are;
  free = λ links ends k are. unqueued_free links ends k are;
  ready = λ links stamps k. in_entries links stamps k;
}
