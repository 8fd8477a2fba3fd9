use Rattle.std.proofs.Common.{length}
use Rattle.ptk_threads.specs.Links.{threads_of}
use Rattle.ptk_threads.specs.Table.{AreLevelsOf}
use Rattle.ptk_words_model.specs.Priority.{next_in_chain, held_of}
use Rattle.ptk_roster.proofs.Sweeps.{IsSwept}
use Rattle.ptk_roster.proofs.priorities.recompute.Given as goal

abbrev pub invariant-loop-k : goal.invariant-loop-k
invariant-loop-k l =
    record {
      swept : IsSwept (length (threads_of l.threads)) (next_in_chain (threads_of l.threads) l.mutexes) (held_of (threads_of l.threads) l.mutexes) l.k l.stored;
      levels : AreLevelsOf (threads_of l.threads) l.stored;
    }
