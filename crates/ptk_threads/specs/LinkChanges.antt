-- The links and ends of a partition after one thread came between two neighbours, or went.
use Rattle.std.specs.Prelude.{ℕ, List, [], ◌∷◌, ◌++◌, length, ◌==◌, Option, Some, None, slice_set, nat_eq, if◌then◌else◌}
use Rattle.ptk_words.specs.Pools.{pool_set, without}
use Rattle.ptk_words.specs.Parts.{part_of}
use Rattle.ptk_threads.specs.declared.link.Link.{Link}
use Rattle.ptk_threads.specs.declared.link.Ends.{Ends}
use Rattle.ptk_threads.specs.declared.queues.FirstThread.{FirstThread}
use Rattle.ptk_threads.specs.declared.thread_list.Members.{Members}
use Rattle.ptk_threads.specs.declared.thread_list.Members.TheVariants.{NoMember, OnlyMember, MoreMembers}
use Rattle.ptk_threads.specs.Links.{no_link, with_next, with_previous, first_after, last_before}

-- ---- lists

-- the first thread of a list, None of an empty one
abbrev pub first_in : List ℕ → Option FirstThread
first_in [] = None
first_in (k ∷ ks) = Some (record { thread = k; is_alone = length ks == 0 })

-- whether there is none of these, one or more (own)
abbrev pub few_of : List ℕ → Members
few_of [] = NoMember
few_of (k ∷ []) = OnlyMember k
few_of (k ∷ j ∷ ks) = MoreMembers

-- the list with k before another thread
abbrev pub put_before : ℕ → ℕ → List ℕ → List ℕ
put_before k before [] = []
put_before k before (x ∷ xs) = if nat_eq before x then k ∷ x ∷ xs else x ∷ put_before k before xs

-- the queues with k before another thread, in the queue in which that one lies
abbrev pub with_inserted : Option ℕ → ℕ → ℕ → List (List ℕ) → List (List ℕ)
with_inserted None k before lists = lists
with_inserted (Some i) k before lists = slice_set lists i (put_before k before (part_of lists i))

-- the queues without k, which lies in the one at this place
abbrev pub with_taken : Option ℕ → ℕ → List (List ℕ) → List (List ℕ)
with_taken None k lists = lists
with_taken (Some i) k lists = slice_set lists i (without k (part_of lists i))

-- the queues with k as the last of the one at this place
abbrev pub with_appended : ℕ → ℕ → List (List ℕ) → List (List ℕ)
with_appended i k lists = slice_set lists i (part_of lists i ++ k ∷ [])

-- ---- links

-- k with this link, and the neighbours that it names with theirs to k
abbrev pub linked_between : ℕ → Link → List Link → List Link
linked_between k link links = pool_set (with_previous link.next (Some k) (with_next link.previous (Some k) links)) k link

-- the queue's ends, once k is between these
abbrev pub end_between : Option ℕ → ℕ → Option ℕ → Ends → Ends
end_between previous k next end = record { first = first_after previous (Some k) end.first; last = last_before next (Some k) end.last }

-- k without a link, and the neighbours that its link named linked to each other
abbrev pub unlinked : ℕ → Link → List Link → List Link
unlinked k link links = pool_set (with_previous link.next link.previous (with_next link.previous link.next links)) k no_link

-- the queue's ends, once these are neighbours
abbrev pub end_without : Option ℕ → Option ℕ → Ends → Ends
end_without previous next end = record { first = first_after previous next end.first; last = last_before next previous end.last }
