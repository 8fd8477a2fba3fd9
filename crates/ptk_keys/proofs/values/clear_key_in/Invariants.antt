use Rattle.std.proofs.Common.{◌≡◌}
use Rattle.ptk_words.specs.Pools.{pool_set}
use Rattle.ptk_keys.proofs.Entries.{changed_to}
use Rattle.ptk_keys.proofs.values.clear_key_in.Given as goal

abbrev pub invariant-loop-i : goal.invariant-loop-i
invariant-loop-i l = l.by_thread ≡ changed_to (λ values. pool_set values l.key 0) l.i l.initial.by_thread
