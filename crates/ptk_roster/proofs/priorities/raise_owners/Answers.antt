use Rattle.std.proofs.Common.{◌≡◌, ◌≤◌, ◌<◌, length, ◌∙◌, sym, rules}
use Rattle.std.specs.Prelude.{None}
use Rattle.ptk_roster.specs.Raised.{raised}
use Rattle.ptk_roster.proofs.Held.{ceilings_none, owner_raised, nobody_raised}
use Rattle.ptk_roster.proofs.Sweeps.{levels_more}
use Rattle.ptk_roster.proofs.priorities.raise_owners.Goals.{in-Some, in_default}
use Rattle.ptk_roster.proofs.priorities.raise_owners.Goals as goal

pub loop-slot-init : goal.loop-slot-init
loop-slot-init c = record { stored = ceilings_none c.args.stored.now; levels = λ threads levels. levels }

pub loop-slot-preserved : goal.loop-slot-preserved
loop-slot-preserved c =
    let lt : c.loop-slot.slot-index < length c.args.mutexes.now = c.loop-slot-test.true in
    elim c.match-protected.branch [
      | in-Some w ↦
          (let more : c.match-protected.stored ≡ raised w.in-Some.ceiling w.in-Some.u c.loop-slot.stored = search rules in
          let le : w.in-Some.ceiling ≤ 32 = search rules in
          record {
            stored = owner_raised c.args.mutexes.now c.loop-slot.slot-index w.in-Some.u w.in-Some.ceiling c.slot-item.result c.args.stored.now c.loop-slot.stored c.match-protected.stored lt c.slot-item.is c.loop-slot.invariant.stored
                (sym c.protected.ensures.value ∙ w.in-Some.is) more;
            levels = λ threads levels. levels_more (λ _. None) threads w.in-Some.ceiling 0 w.in-Some.u c.loop-slot.stored c.match-protected.stored le more (c.loop-slot.invariant.levels threads levels);
          })
      | in_default w ↦
          record {
            stored = nobody_raised c.args.mutexes.now c.loop-slot.slot-index c.slot-item.result c.args.stored.now c.loop-slot.stored c.match-protected.stored lt c.slot-item.is c.loop-slot.invariant.stored
                (sym c.protected.ensures.value ∙ w.in_default.is) w.stored-is;
            levels = λ threads levels. rw w.stored-is (c.loop-slot.invariant.levels threads levels);
          }
    ]
