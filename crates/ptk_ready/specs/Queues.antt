-- The slot table's queues of ready threads, and those of waiters (own).
use Rattle.std.proofs.Common.{◌≡◌, ℕ, ◌<◌, false, List, [], take, drop, map, sym, ◌∙◌, ap}
use Rattle.std.specs.Prelude.{Option, Some, None}
use Rattle.std.proofs.Math.ListN.{get_or-map}
use Rattle.std.proofs.lemmas.List.{get_or-take}
use Rattle.ptk_words.specs.Pools.{is_in}
use Rattle.ptk_words.specs.Parts.{part_of}
use Rattle.ptk_threads.specs.Queues.{with_out}
use Rattle.ptk_threads.specs.declared.link.QueueName.{QueueName}

-- by partition: the first 32 queues, one for each priority
abbrev pub ready_queues : List (List (List ℕ)) → List (List (List ℕ))
ready_queues queues = map (take 32) queues

-- by partition: the queues after the first 32, of those that wait for a mutex or on a condition variable
abbrev pub waiters_of : List (List (List ℕ)) → List (List (List ℕ))
waiters_of queues = map (drop 32) queues

-- one partition's queues by place, without k in this one, if one is named
abbrev pub with_out_of : Option QueueName → ℕ → List (List ℕ) → List (List ℕ)
with_out_of None k lists = lists
with_out_of (Some name) k lists = with_out name k lists

-- no thread lies in a queue of ready threads
abbrev pub AreUnused : List (List (List ℕ)) → Type 0
AreUnused queues = (p i : ℕ) → i < 32 → part_of (part_of queues p) i ≡ []

-- ---- what the laws of a line without queues say

-- a list of the first 32 is the same in the queues of ready threads
list_ready : (queues : List (List (List ℕ))) (p i : ℕ) → i < 32 → part_of (part_of (ready_queues queues) p) i ≡ part_of (part_of queues p) i
list_ready queues p i lt = ap (λ lists. part_of lists i) (get_or-map (take 32) queues p []) ∙ get_or-take 32 (part_of queues p) i [] lt

-- where two tables have the same queues of ready threads, these are empty in both or in neither
pub unused_same : (a b : List (List (List ℕ))) → ready_queues a ≡ ready_queues b → AreUnused a → AreUnused b
unused_same a b same unused = λ p i lt.
    sym (list_ready b p i lt) ∙ (ap (λ queues. part_of (part_of queues p) i) (sym same) ∙ (list_ready a p i lt ∙ unused p i lt))

-- no thread is in a queue that is empty
pub unused_apart : (queues : List (List (List ℕ))) (p k i : ℕ) → AreUnused queues → i < 32 → is_in k (part_of (part_of queues p) i) ≡ false
unused_apart queues p k i unused lt = ap (is_in k) (unused p i lt)
