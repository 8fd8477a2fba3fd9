-- A queue read along its links.
use Rattle.std.proofs.Common.{◌≡◌, ℕ, suc, ◌+◌, ◌-◌, ◌<◌, ◌≤◌, List, [], ◌∷◌, ◌++◌, length, true, false, sym, ◌∙◌, ap, arith, inl, inr}
use Rattle.std.specs.Prelude.{Option, Some, None}
use Rattle.std.proofs.lemmas.List.{append-nil}
use Rattle.std.proofs.Common.{append_assoc, length-append}
use Rattle.std.proofs.lemmas.Map.Steps.{length-le_from_distinct_below}
use Rattle.ptk_words.specs.Pools.{is_in}
use Rattle.ptk_words.proofs.Lists.{distinct_head, in_head}
use Rattle.ptk_words.specs.Parts.{part_of}
use Rattle.ptk_threads.specs.declared.link.Link.{Link}
use Rattle.ptk_threads.specs.declared.link.Ends.{Ends}
use Rattle.ptk_threads.specs.declared.slot.Slot.{Slot}
use Rattle.ptk_threads.specs.Links.{link_in, links_of, queue_at, queues, walk, AreQueues}
use Rattle.ptk_threads.proofs.Along.{along_marked, marked_within, not_true}
use Rattle.ptk_threads.proofs.LinkSlots.{links_count}
use Rattle.ptk_threads.proofs.Lists.{list_at}

member_within : (links : List Link) (ends : List Ends) (i q : ℕ) → AreQueues links ends → is_in q (queue_at links ends i) ≡ true → (0 < q) × (q ≤ length links)
member_within links ends i q are inside = marked_within links q i (along_marked links i None None (queue_at links ends i) q (are.each i).along inside)

-- no queue has more threads than there are slots
few : (links : List Link) (ends : List Ends) (i : ℕ) → AreQueues links ends → length (queue_at links ends i) ≤ length links
few links ends i are =
    let line = queue_at links ends i in
    let out : is_in 0 line ≡ false = not_true (is_in 0 line) (λ inside. (let none = (member_within links ends i 0 are inside).0 in absurd (omega arith))) in
    let below : (q : ℕ) → is_in q (0 ∷ line) ≡ true → q < suc (length links) =
    λ q h. elim (in_head 0 q line h) as (λ _. q < suc (length links)) [ inl e ↦ omega (arith, e) | inr r ↦ (let small = (member_within links ends i q are r).1 in omega (arith, small)) ] in
    let all : length (0 ∷ line) ≤ suc (length links) = length-le_from_distinct_below (0 ∷ line) (suc (length links)) (distinct_head 0 line (are.each i).distinct out) below in
    omega (arith, all)

-- what was read of a queue, and what is left along the links
pub record IsRead (links : List Link) (ends : List Ends) (i : ℕ) (found : List ℕ) (at : Option ℕ) (counter : ℕ) : Type 0 where
  pub left : found ++ walk (suc (length links) - counter) links at ≡ queue_at links ends i
  pub many : length found ≡ counter

pub read_more : (slots : List Slot) (ends : List Ends) (i counter k : ℕ) (found more : List ℕ) (at next : Option ℕ) (link : Link) → IsRead (links_of slots) ends i found at counter → counter < length slots → at ≡ Some k → more ≡ found ++ k ∷ []
    → link ≡ link_in (links_of slots) k → next ≡ link.next → IsRead (links_of slots) ends i more next (counter + 1)
read_more slots ends i counter k found more at next link read lt is made told e =
    let links = links_of slots in
    let long : length links ≡ length slots = links_count slots in
    let now : suc (length links) - counter ≡ suc (suc (length links) - (counter + 1)) = omega (arith, lt, long) in
    let here : walk (suc (length links) - counter) links at ≡ k ∷ walk (suc (length links) - (counter + 1)) links next =
    ap (λ n. walk n links at) now ∙ (ap (walk (suc (suc (length links) - (counter + 1))) links) is ∙ ap (λ o. k ∷ walk (suc (length links) - (counter + 1)) links o) (sym (e ∙ ap (λ (l : Link). l.next) told))) in
    record {
      left = ap (λ xs. xs ++ walk (suc (length links) - (counter + 1)) links next) made ∙ (append_assoc found (k ∷ []) (walk (suc (length links) - (counter + 1)) links next) ∙ (ap (λ xs. found ++ xs) (sym here) ∙ read.left));
      many = ap length made ∙ (length-append found (k ∷ []) ∙ omega (arith, read.many));
    }

-- as many were read as there are slots
pub read_all : (slots : List Slot) (ends : List Ends) (i counter : ℕ) (found : List ℕ) (at : Option ℕ) → IsRead (links_of slots) ends i found at counter → AreQueues (links_of slots) ends → counter ≡ length slots
    → found ≡ part_of (queues (links_of slots) ends) i
read_all slots ends i counter found None read are all =
    let links = links_of slots in
    let long : length links ≡ length slots = links_count slots in
    let now : suc (length links) - counter ≡ suc (length links - counter) = omega (arith, all, long) in
    sym (append-nil found) ∙ (ap (λ n. found ++ walk n links None) (sym now) ∙ (read.left ∙ sym (list_at links ends i)))
read_all slots ends i counter found (Some k) read are all =
    let links = links_of slots in
    let long : length links ≡ length slots = links_count slots in
    let now : suc (length links) - counter ≡ suc (length links - counter) = omega (arith, all, long) in
    let left : found ++ k ∷ walk (length links - counter) links (link_in links k).next ≡ queue_at links ends i = ap (λ n. found ++ walk n links (Some k)) (sym now) ∙ read.left in
    let sum = length-append found (k ∷ walk (length links - counter) links (link_in links k).next) in
    let same = ap length left in
    let small = few links ends i are in
    absurd (omega (arith, sum, same, small, read.many, all, long))
