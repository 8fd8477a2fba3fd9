use Rattle.ptk_keys.proofs.Due.{next_is}
use Rattle.ptk_keys.proofs.table.KeyTable.next_destructor.Goals as goal

pub returns : goal.returns
returns c =
    next_is (record { destructors = c.self.inside.destructors; values = c.self.inside.values; rounds = c.self.inside.rounds }) c.args.self.now c.args.p c.args.t
    c.part-3.result.now c.part-2.result.now c.values_in-values.result.now c.part.result.now c.rounds_in.result c.in_ok-rounds.rounds c.next_call.result
    c.self.view_is c.part-3.ensures c.part-2.ensures c.values_in-values.ensures c.part.ensures c.rounds_in.ensures c.in_ok-rounds.was c.next_call.ensures
