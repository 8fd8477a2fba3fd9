use Rattle.std.proofs.Common.{◌≡◌, get_or, ◌∙◌, sym, ap, arith}
use Rattle.ptk_threads.specs.Links.{threads_of}
use Rattle.ptk_threads.specs.Table.{stored_of}
use Rattle.ptk_threads.proofs.Slots.{stored_of_below, length-threads_of}
use Rattle.ptk_words_model.specs.Priority.{next_in_chain}
use Rattle.ptk_roster.proofs.Nexts.{next_past}
use Rattle.ptk_roster.proofs.Risen.{risen_past, risen_stop}
use Rattle.ptk_roster.proofs.priorities.+raise_chain.Goals.{then-i-stored-via-then-i-stored, then-i-stored-via-else-i-stored+then-stored-i}
use Rattle.ptk_roster.proofs.priorities.+raise_chain.Goals as goal

pub returns-then-i-stored : goal.returns-then-i-stored
returns-then-i-stored t c =
    let next = next_in_chain (threads_of c.args.threads.now) c.args.mutexes.now in
    elim c.then-i-stored.branch [
      | then-i-stored-via-then-i-stored w ↦
          risen_past next c.args.priority c.args.fuel c.args.u c.args.stored.now
          (λ place. omega (arith, place.1, w.if-i-stored.true, c.place-i.ensures.value, c.place-i.ensures.positive))
          (next_past c.args.u (threads_of c.args.threads.now) c.args.mutexes.now (omega (arith, length-threads_of c.args.threads.now, c.requires.same, w.if-i-stored.true, c.place-i.ensures.value, c.place-i.ensures.positive)))
      | then-i-stored-via-else-i-stored+then-stored-i w ↦
          (let here : stored_of c.args.stored.now c.args.u ≡ get_or c.args.stored.now c.place-i.result 0 = stored_of_below c.args.stored.now c.args.u c.place-i.ensures.positive ∙ ap (λ i. get_or c.args.stored.now i 0) (sym c.place-i.ensures.value) in
          risen_stop next c.args.priority c.args.fuel c.args.u c.args.stored.now (omega (arith, here, w.if-stored-i.true)))
    ]
