use Rattle.std.proofs.Common.{◌≡◌, ◌<◌, sym, subst}
use Rattle.ptk_words.specs.declared.TheConstants.{COUNT_LIMIT}
use Rattle.ptk_words_model.specs.declared.LockMove.TheVariants.{Counts}
use Rattle.ptk_words_model.specs.State.{Part, with_locks}
use Rattle.ptk_words_model.specs.Mutex.{mutex_at, after_unlock, relock_move, count_of}
use Rattle.ptk_gate_moves.specs.Tables.{AreLocked, MayWait}
use Rattle.ptk_gate_moves.specs.Held.{limits_here}
use Rattle.ptk_words_sync_invariant.specs.Conditions.{IsNoWaiter}
use Rattle.ptk_gate_sync.proofs.Carried.{part_moved}
use Rattle.ptk_gate_sync.proofs.Waits.{released_locked, released_wait, released_free, released_count}
use Rattle.ptk_gate_sync.proofs.waiting.wait_late.Goals as goal

pub lock_again-made-requires-clause-locked : goal.lock_again-made-requires-clause-locked
lock_again-made-requires-clause-locked c =
    let s : Part = c.args.pools.now.here in
    let at : c.unlock.new.self.here ≡ with_locks (after_unlock c.args.m) s =
    part_moved (with_locks (after_unlock c.args.m) s) c.args.pools.now c.unlock.new.self c.unlock.ensures in
    let P : Part → Type 0 = λ (u : Part). AreLocked u.locks in
    subst P (sym at) (released_locked (limits_here c.args.pools.now) c.args.m s c.requires.well)

pub lock_again-made-requires-clause-caller : goal.lock_again-made-requires-clause-caller
lock_again-made-requires-clause-caller c =
    let s : Part = c.args.pools.now.here in
    let at : c.unlock.new.self.here ≡ with_locks (after_unlock c.args.m) s =
    part_moved (with_locks (after_unlock c.args.m) s) c.args.pools.now c.unlock.new.self c.unlock.ensures in
    let P : Part → Type 0 = λ (u : Part). MayWait u.locks c.args.i.caller in
    subst P (sym at) (released_wait (limits_here c.args.pools.now) c.args.m c.args.i.caller s c.requires.well c.requires.running)

pub lock_again-made-requires-clause-free : goal.lock_again-made-requires-clause-free
lock_again-made-requires-clause-free c =
    let s : Part = c.args.pools.now.here in
    let at : c.unlock.new.self.here ≡ with_locks (after_unlock c.args.m) s =
    part_moved (with_locks (after_unlock c.args.m) s) c.args.pools.now c.unlock.new.self c.unlock.ensures in
    let P : Part → Type 0 = λ (u : Part). IsNoWaiter c.args.i.caller u.mutexes u.conditions in
    subst P (sym at) (released_free (limits_here c.args.pools.now) c.args.m c.args.i.caller s c.requires.well c.requires.running)

pub lock_again-made-requires-clause-countable : goal.lock_again-made-requires-clause-countable
lock_again-made-requires-clause-countable c =
    let s : Part = c.args.pools.now.here in
    let at : c.unlock.new.self.here ≡ with_locks (after_unlock c.args.m) s =
    part_moved (with_locks (after_unlock c.args.m) s) c.args.pools.now c.unlock.new.self c.unlock.ensures in
    let P : Part → Type 0 = λ (u : Part). relock_move c.args.i.caller (mutex_at u.locks c.args.m) ≡ Counts → count_of (mutex_at u.locks c.args.m) < COUNT_LIMIT in
    subst P (sym at) (released_count (limits_here c.args.pools.now) c.args.m c.args.i.caller s c.requires.well c.requires.running c.requires.owned)
