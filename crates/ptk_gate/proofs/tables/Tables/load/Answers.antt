use Rattle.std.proofs.Common.{◌<◌, length, sym, subst}
use Rattle.std.specs.Prelude.{Ok}
use Rattle.ptk_words.specs.Image.{ImageParts}
use Rattle.ptk_words_model.specs.Run.{with_image}
use Rattle.ptk_gate_pools.specs.Kept.{Kept, part_at, limits_at}
use Rattle.ptk_gate_pools.specs.Held.{all_of}
use Rattle.ptk_gate_pools.proofs.Hands.{lifted}
use Rattle.ptk_gate.specs.Whole.{IsBlank}
use Rattle.ptk_gate.proofs.Loads.{whole_loaded}
use Rattle.ptk_gate.proofs.tables.Tables.load.Goals as goal

pub invariant_of-self : goal.invariant_of-self
invariant_of-self c =
    let image : ImageParts = record { entry = c.args.entry; text = c.args.text.now; «data» = c.args.data.now; bss = c.args.bss } in
    let lt : c.args.p < length c.self.inside.pools.elsewhere.limits = subst (λ (kept : Kept). c.args.p < length kept.limits) (sym c.self.view_is) c.requires.partition in
    whole_loaded c.args.p image c.self.inside.pools c.take.new.self c.load.new.pools c.take.ensures c.load.ensures c.self.invariant lt
    (subst (λ (kept : Kept). IsBlank (limits_at c.args.p kept) (part_at c.args.p kept)) (sym c.self.view_is) c.requires.blank)

pub returns : goal.returns
returns c =
    let image : ImageParts = record { entry = c.args.entry; text = c.args.text.now; «data» = c.args.data.now; bss = c.args.bss } in
    rw (← c.self.view_is) (lifted c.args.p (λ limits s. with_image limits (Ok image) s) (all_of c.self.inside.pools) c.take.new.self c.load.new.pools c.take.ensures c.load.ensures)
