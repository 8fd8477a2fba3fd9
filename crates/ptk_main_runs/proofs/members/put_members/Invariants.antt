use Rattle.std.proofs.Common.{take}
use Rattle.ptk_main_runs.specs.Members.{SendsAll, member_events}
use Rattle.ptk_main_runs.proofs.members.put_members.Given as goal

abbrev pub invariant-loop-key : goal.invariant-loop-key
invariant-loop-key g l = SendsAll (member_events (take l.key-index l.members)) (g.S.Serializer.written l.initial.out) (g.S.Serializer.written l.out)
