use Rattle.std.proofs.Common.{ℕ, ◌+◌, ◌≤◌, List, length, ap}
use Rattle.ptk_gate_threads.proofs.Stores.{time_stored}
use Rattle.ptk_gate_threads.proofs.clock_calls.store_time.Goals as goal

pub returns : goal.returns
returns c =
    let room : c.args.pointer + 12 ≤ length c.args.pools.now.here.memory = rw c.requires.size c.requires.room in
    rw (c.store_word.ensures, c.store_seconds.ensures, c.time_of-seconds.ensures)
    (ap (λ (memory : List ℕ). record c.args.pools.now { here = record c.args.pools.now.here { memory = memory } }) (time_stored c.args.pools.now.here.memory c.args.pointer c.args.tick room))
