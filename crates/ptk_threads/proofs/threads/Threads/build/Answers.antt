use Rattle.std.proofs.Common.{refl}
use Rattle.ptk_threads.proofs.Timed.{kept_filled}
use Rattle.ptk_threads.proofs.threads.Threads.build.Goals as goal

pub invariant_of-result : goal.invariant_of-result
invariant_of-result c = kept_filled _ _ _ _ _ _ c.args.counts.now refl c.requires.threads c.in_ok-slots.ensures.threads c.in_ok-stored.ensures c.in_ok-deadlines.ensures
