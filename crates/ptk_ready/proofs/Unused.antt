-- The queues of a slot table as it is built.
use Rattle.std.proofs.Common.{◌≡◌, ℕ, zero, suc, List, [], ◌∷◌, length, map, refl, ◌∙◌, ap}
use Rattle.std.specs.Prelude.{Option, Some, None}
use Rattle.std.proofs.lemmas.List.{length-set}
use Rattle.ptk_words.specs.Pools.{least_free}
use Rattle.ptk_words.specs.declared.threads.Thread.{Thread}
use Rattle.ptk_words.proofs.Entries.{all_empty}
use Rattle.ptk_threads.specs.Table.{ThreadTable, with_new, with_new_at}
use Rattle.ptk_words.specs.Parts.{part_of}
use Rattle.ptk_threads.specs.Queues.{no_queues}
use Rattle.ptk_ready.specs.Queues.{AreUnused}

pub lists_empty : (counts : List ℕ) (p i : ℕ) → part_of (part_of (map no_queues counts) p) i ≡ []
lists_empty [] p i = refl
lists_empty (n ∷ counts) zero i = all_empty 128 i
lists_empty (n ∷ counts) (suc p) i = lists_empty counts p i

pub unused_built : (counts : List ℕ) → AreUnused (map no_queues counts)
unused_built counts = λ p i lt. lists_empty counts p i

long : (at : Option ℕ) (p : ℕ) (thread : Thread) (table : ThreadTable) → length (with_new_at at p thread table).threads ≡ length table.threads
long None p thread table = refl
long (Some k) p thread table = length-set table.threads p _

pub length_new : (p : ℕ) (thread : Thread) (a b : ThreadTable) → b ≡ with_new p thread a → length b.threads ≡ length a.threads
length_new p thread a b e = ap (λ (t : ThreadTable). length t.threads) e ∙ long (least_free (part_of a.threads p)) p thread a
