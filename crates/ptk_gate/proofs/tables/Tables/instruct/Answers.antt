use Rattle.std.proofs.Common.{◌<◌, length, sym, subst}
use Rattle.ptk_words_model.specs.Instructions.{effect_at}
use Rattle.ptk_gate_steps.specs.Instructions.{after_instruction}
use Rattle.ptk_gate_pools.specs.Kept.{Kept}
use Rattle.ptk_gate_pools.specs.Held.{all_of}
use Rattle.ptk_gate_pools.proofs.Hands.{lifted}
use Rattle.ptk_gate.proofs.Wholes.{whole_instruction}
use Rattle.ptk_gate.proofs.tables.Tables.instruct.Goals as goal

pub invariant_of-self : goal.invariant_of-self
invariant_of-self c =
    let lt : c.args.p < length c.self.inside.pools.elsewhere.limits = subst (λ (kept : Kept). c.args.p < length kept.limits) (sym c.self.view_is) c.requires.partition in
    whole_instruction c.args.p c.args.t c.args.cpu c.self.inside.pools c.take.new.self c.instruct.new.pools c.take.ensures c.instruct.ensures c.self.invariant lt

pub returns : goal.returns
returns c = rw (← c.self.view_is) (lifted c.args.p (λ limits s. after_instruction c.args.t c.args.cpu.pc (effect_at c.args.cpu s.memory) s) (all_of c.self.inside.pools) c.take.new.self c.instruct.new.pools c.take.ensures c.instruct.ensures)
