-- The table of slots after a change of one partition's threads, or of its queues.
use Rattle.std.proofs.Common.{◌≡◌, ◌≢◌, ℕ, zero, suc, ◌+◌, ◌<◌, ◌≤◌, List, [], ◌∷◌, ◌++◌, length, map, take, true, false, refl, sym, ◌∙◌, ap, subst, arith, inl, inr}
use Rattle.std.specs.Prelude.{is_some, option_map, ◌↔◌, Option, Some, None, IsSome, replicate}
use Rattle.std.proofs.Math.ListN.{set, get_or-map}
use Rattle.std.proofs.lemmas.Bool.{cases_eq}
use Rattle.std.proofs.lemmas.List.{length-replicate, length-map, map-set, map-append, length-set, set_past, get_or_past, get_or-set_same, get_or-set_other, set-set}
use Rattle.ptk_words.specs.Pools.{is_in, without, pool_get, pool_changed}
use Rattle.ptk_words.specs.declared.threads.Thread.{Thread}
use Rattle.ptk_words.proofs.Lists.{without_own}
use Rattle.ptk_words.specs.Parts.{part_of, joined, filled}
use Rattle.ptk_words.specs.Cuts.{lent}
use Rattle.ptk_words.proofs.Cuts.{lent-same}
use Rattle.ptk_threads.specs.declared.link.Ends.{Ends}
use Rattle.ptk_threads.specs.declared.link.Link.{Link}
use Rattle.ptk_threads.specs.declared.link.SlotLink.{SlotLink}
use Rattle.ptk_threads.specs.declared.link.QueueName.{QueueName}
use Rattle.ptk_threads.specs.declared.slot.Slot.{Slot}
use Rattle.ptk_threads.specs.Links.{place_of, link_in, links_of, shared_links, shared_link, AreLinksFrom, threads_of, free_slot, no_link, no_ends, mark_of, queue_from, queue_at, queues, AreQueues}
use Rattle.ptk_threads.specs.LinkChanges.{put_before, with_inserted, with_taken}
use Rattle.ptk_threads.proofs.Along.{along_marked, le_or_gt, not_true}
use Rattle.ptk_threads.proofs.Lists.{list_at, without_none, put_none, unqueued_mark}
use Rattle.ptk_threads.proofs.Empty.{empty_queues, empty_lists}
use Rattle.ptk_threads.specs.Queues.{LinkedThreads, queues_by, free_parts, AreLinked, AreListed, IsUnqueued, with_before, with_none, with_out}
use Rattle.ptk_threads.specs.Table.{ThreadTable, with_queues, with_changed}
use Rattle.ptk_clock.specs.ByThread.{first_slot}
use Rattle.ptk_threads.specs.Shared.{AreAlongLinks, StayInPartitions}
use Rattle.ptk_threads.proofs.Joined.{own_same, from_same, first_set, first_threads, link_joined, along_joined, stays}

-- ---- reading

pub part_threads : (slots : List (List Slot)) (p : ℕ) → part_of (map threads_of slots) p ≡ threads_of (part_of slots p)
part_threads slots p = get_or-map threads_of slots p []

pub joined_threads : (slots : List (List Slot)) → threads_of (joined slots) ≡ joined (map threads_of slots)
joined_threads [] = refl
joined_threads (part ∷ slots) = map-append (λ (slot : Slot). slot.thread) part (joined slots) ∙ ap (λ l. threads_of part ++ l) (joined_threads slots)

part_queues : (slots : List (List Slot)) (ends : List (List Ends)) (p : ℕ) → length ends ≡ length slots → part_of (queues_by slots ends) p ≡ queues (links_of (part_of slots p)) (part_of ends p)
part_queues [] [] p e = refl
part_queues [] (end ∷ ends) p e = absurd (omega (arith, e))
part_queues (part ∷ slots) [] p e = absurd (omega (arith, e))
part_queues (part ∷ slots) (end ∷ ends) zero e = refl
part_queues (part ∷ slots) (end ∷ ends) (suc p) e = part_queues slots ends p (omega (arith, e))

length_queues : (slots : List (List Slot)) (ends : List (List Ends)) → length (queues_by slots ends) ≡ length slots
length_queues [] ends = refl
length_queues (part ∷ slots) [] = ap suc (length_queues slots [])
length_queues (part ∷ slots) (end ∷ ends) = ap suc (length_queues slots ends)

pub part_linked : (slots : List (List Slot)) (ends : List (List Ends)) (p : ℕ) → AreLinked slots ends → queues (links_of (part_of slots p)) (part_of ends p) ≡ part_of (queues_by slots ends) p
part_linked slots ends p are = sym (part_queues slots ends p are.parts)

pub listed : (slots : List (List Slot)) (ends : List (List Ends)) → AreLinked slots ends → AreListed (length slots) (queues_by slots ends)
listed slots ends are = record {
  same = length_queues slots ends;
  places = λ p lt. ap length (part_queues slots ends p are.parts) ∙ (length-map (part_of ends p) (queue_from (links_of (part_of slots p))) ∙ are.places p lt);
}

-- ---- threads changed, and no link

same_length : (w part : List Slot) → shared_links w ≡ shared_links part → length w ≡ length part
same_length w part e = sym (length-map w (λ (slot : Slot). slot.link)) ∙ (ap length e ∙ length-map part (λ (slot : Slot). slot.link))

lent_set : (slots : List (List Slot)) (p : ℕ) (w : List Slot) → p < length (map threads_of slots) → shared_links w ≡ shared_links (part_of slots p) → lent slots p w ≡ set slots p w
lent_set slots p w lt e = lent-same slots p w (rw (length-map slots threads_of) at lt) (same_length w (part_of slots p) e)

pub threads_lent : (slots : List (List Slot)) (p : ℕ) (w : List Slot) (row : List (Option Thread)) → p < length (map threads_of slots) → shared_links w ≡ shared_links (part_of slots p) → threads_of w ≡ row
    → map threads_of (lent slots p w) ≡ set (map threads_of slots) p row
threads_lent slots p w row lt e is = ap (map threads_of) (lent_set slots p w lt e) ∙ (map-set threads_of slots p w ∙ ap (set (map threads_of slots) p) is)

queues_same : (slots : List (List Slot)) (ends : List (List Ends)) (p : ℕ) (w : List Slot) → shared_links w ≡ shared_links (part_of slots p) → queues_by (set slots p w) ends ≡ queues_by slots ends
queues_same [] ends p w e = refl
queues_same (part ∷ slots) [] zero w e = refl
queues_same (part ∷ slots) [] (suc p) w e = ap (λ l. [] ∷ l) (queues_same slots [] p w e)
queues_same (part ∷ slots) (end ∷ ends) zero w e = ap (λ links. queues links end ∷ queues_by slots ends) (own_same w part e)
queues_same (part ∷ slots) (end ∷ ends) (suc p) w e = ap (λ l. queues (links_of part) end ∷ l) (queues_same slots ends p w e)

pub queues_lent : (slots : List (List Slot)) (ends : List (List Ends)) (p : ℕ) (w : List Slot) → p < length (map threads_of slots) → shared_links w ≡ shared_links (part_of slots p) → queues_by (lent slots p w) ends ≡ queues_by slots ends
queues_lent slots ends p w lt e = ap (λ l. queues_by l ends) (lent_set slots p w lt e) ∙ queues_same slots ends p w e

links_same : (slots : List (List Slot)) (p q : ℕ) (w : List Slot) → shared_links w ≡ shared_links (part_of slots p) → shared_links (part_of (set slots p w) q) ≡ shared_links (part_of slots q)
links_same [] p q w e = refl
links_same (part ∷ slots) zero zero w e = e
links_same (part ∷ slots) zero (suc q) w e = refl
links_same (part ∷ slots) (suc p) zero w e = refl
links_same (part ∷ slots) (suc p) (suc q) w e = links_same slots p q w e

linked_same : (slots : List (List Slot)) (ends : List (List Ends)) (p : ℕ) (w : List Slot) → AreLinked slots ends → shared_links w ≡ shared_links (part_of slots p) → AreLinked (set slots p w) ends
linked_same slots ends p w are e = record {
  parts = are.parts ∙ sym (length-set slots p w);
  places = λ q lt. are.places q (rw (length-set slots p w) at lt);
  each = λ q. subst (λ links. AreQueues links (part_of ends q)) (sym (own_same (part_of (set slots p w) q) (part_of slots q) (links_same slots p q w e))) (are.each q);
  own = λ q. subst (λ first. AreLinksFrom first (part_of (set slots p w) q)) (sym (first_set slots p q w (same_length w (part_of slots p) e)))
      (from_same (first_slot q slots) (part_of (set slots p w) q) (part_of slots q) (links_same slots p q w e) (are.own q));
}

pub linked_lent : (slots : List (List Slot)) (ends : List (List Ends)) (p : ℕ) (w : List Slot) → AreLinked slots ends → p < length (map threads_of slots) → shared_links w ≡ shared_links (part_of slots p) → AreLinked (lent slots p w) ends
linked_lent slots ends p w are lt e = rw (lent_set slots p w lt e) (linked_same slots ends p w are e)

-- ---- one queue changed, and no thread

length_threads : (w part : List Slot) → threads_of w ≡ threads_of part → length w ≡ length part
length_threads w part e = sym (length-map w (λ (slot : Slot). slot.thread)) ∙ (ap length e ∙ length-map part (λ (slot : Slot). slot.thread))

threads_same : (slots : List (List Slot)) (p : ℕ) (w : List Slot) → threads_of w ≡ threads_of (part_of slots p) → map threads_of (set slots p w) ≡ map threads_of slots
threads_same [] p w e = refl
threads_same (part ∷ slots) zero w e = ap (λ l. l ∷ map threads_of slots) e
threads_same (part ∷ slots) (suc p) w e = ap (λ l. threads_of part ∷ l) (threads_same slots p w e)

queues_set : (slots : List (List Slot)) (ends : List (List Ends)) (p : ℕ) (w : List Slot) (late : List Ends) → length ends ≡ length slots
    → queues_by (set slots p w) (set ends p late) ≡ set (queues_by slots ends) p (queues (links_of w) late)
queues_set [] [] p w late e = refl
queues_set [] (end ∷ ends) p w late e = absurd (omega (arith, e))
queues_set (part ∷ slots) [] p w late e = absurd (omega (arith, e))
queues_set (part ∷ slots) (end ∷ ends) zero w late e = refl
queues_set (part ∷ slots) (end ∷ ends) (suc p) w late e = ap (λ l. queues (links_of part) end ∷ l) (queues_set slots ends p w late (omega (arith, e)))

linked_set : (slots : List (List Slot)) (ends : List (List Ends)) (p : ℕ) (w : List Slot) (late : List Ends) → AreLinked slots ends → p < length slots → AreQueues (links_of w) late → length w ≡ length (part_of slots p)
    → ((first : ℕ) → AreLinksFrom first (part_of slots p) → AreLinksFrom first w) → length late ≡ 128 → AreLinked (set slots p w) (set ends p late)
linked_set slots ends p w late are lt queued same from long =
    let lt' : p < length ends = omega (arith, lt, are.parts) in
    record {
      parts = length-set ends p late ∙ (are.parts ∙ sym (length-set slots p w));
      places = λ q below. elim (cases_eq q p) as (λ _. length (part_of (set ends p late) q) ≡ 128) [
        | inl e ↦ rw e (ap length (get_or-set_same ends p late [] lt') ∙ long)
        | inr ne ↦ ap length (get_or-set_other ends p q late [] ne) ∙ are.places q (rw (length-set slots p w) at below)
      ];
      each = λ q. elim (cases_eq q p) as (λ _. AreQueues (links_of (part_of (set slots p w) q)) (part_of (set ends p late) q)) [
        | inl e ↦ rw (e, get_or-set_same slots p w [] lt, get_or-set_same ends p late [] lt') queued
        | inr ne ↦ rw (get_or-set_other slots p q w [] ne, get_or-set_other ends p q late [] ne) (are.each q)
      ];
      own = λ q. rw (first_set slots p q w same) (elim (cases_eq q p) as (λ _. AreLinksFrom (first_slot q slots) (part_of (set slots p w) q)) [
        | inl e ↦ rw (e, get_or-set_same slots p w [] lt) (from (first_slot p slots) (are.own p))
        | inr ne ↦ rw (get_or-set_other slots p q w [] ne) (are.own q)
      ]);
    }

-- a partition's slots and ends lent for a change of one queue
pub record AreRelinked (slots : List (List Slot)) (ends : List (List Ends)) (p : ℕ) (w : List Slot) (late : List Ends) (lists : List (List ℕ)) : Type 0 where
  pub linked : AreLinked (lent slots p w) (lent ends p late)
  pub threads : map threads_of (lent slots p w) ≡ map threads_of slots
  pub queues : queues_by (lent slots p w) (lent ends p late) ≡ set (queues_by slots ends) p lists

pub relinked : (slots : List (List Slot)) (ends : List (List Ends)) (p : ℕ) (w : List Slot) (late : List Ends) (lists : List (List ℕ)) → AreLinked slots ends → p < length (map threads_of slots)
    → AreQueues (links_of w) late → threads_of w ≡ threads_of (part_of slots p) → ((first : ℕ) → AreLinksFrom first (part_of slots p) → AreLinksFrom first w) → length late ≡ 128 → queues (links_of w) late ≡ lists
    → AreRelinked slots ends p w late lists
relinked slots ends p w late lists are lt queued same from long is =
    let below : p < length slots = rw (length-map slots threads_of) at lt in
    let below' : p < length ends = omega (arith, below, are.parts) in
    let first : lent slots p w ≡ set slots p w = lent-same slots p w below (length_threads w (part_of slots p) same) in
    let second : lent ends p late ≡ set ends p late = lent-same ends p late below' (long ∙ sym (are.places p below)) in
    record {
      linked = rw (first, second) (linked_set slots ends p w late are below queued (length_threads w (part_of slots p) same) from long);
      threads = ap (map threads_of) first ∙ threads_same slots p w same;
      queues = ap (λ l. queues_by l (lent ends p late)) first ∙ (ap (queues_by (set slots p w)) second ∙ (queues_set slots ends p w late are.parts ∙ ap (set (queues_by slots ends) p) is));
    }

-- ---- who lies in no queue

member_mark : (links : List Link) (ends : List Ends) (k i : ℕ) → AreQueues links ends → is_in k (part_of (queues links ends) i) ≡ true → mark_of links k ≡ Some i
member_mark links ends k i are inside =
    along_marked links i None None (queue_at links ends i) k (are.each i).along (subst (λ l. is_in k l ≡ true) (list_at links ends i) inside)

-- ---- one queue changed as all are

map_same : (f : List ℕ → List ℕ) (lists : List (List ℕ)) → ((j : ℕ) → f (part_of lists j) ≡ part_of lists j) → map f lists ≡ lists
map_same f [] h = refl
map_same f (x ∷ lists) h = ap (λ y. y ∷ map f lists) (h 0) ∙ ap (λ l. x ∷ l) (map_same f lists (λ j. h (suc j)))

map_at : (f : List ℕ → List ℕ) (lists : List (List ℕ)) (i : ℕ) → ((j : ℕ) → j ≢ i → f (part_of lists j) ≡ part_of lists j) → map f lists ≡ set lists i (f (part_of lists i))
map_at f [] i h = refl
map_at f (x ∷ lists) zero h = ap (λ l. f x ∷ l) (map_same f lists (λ j. h (suc j) (λ e. absurd (omega (arith, e)))))
map_at f (x ∷ lists) (suc i) h =
    ap (λ y. y ∷ map f lists) (h 0 (λ e. absurd (omega (arith, e)))) ∙ ap (λ l. x ∷ l) (map_at f lists i (λ j ne. h (suc j) (λ e. ne (omega (arith, e)))))

-- who is not in a queue with another mark
outside : (links : List Link) (ends : List Ends) (k j : ℕ) (mark : Option ℕ) → AreQueues links ends → mark_of links k ≡ mark → mark ≢ Some j → is_in k (part_of (queues links ends) j) ≡ false
outside links ends k j mark are is ne = not_true (is_in k (part_of (queues links ends) j)) (λ inside. ne (sym is ∙ member_mark links ends k j are inside))

some_other : (i j : ℕ) → j ≢ i → Some i ≢ Some j
some_other i j ne e = ne (let same : i ≡ j = cc in sym same)

none_some : (j : ℕ) → None ≢ Some j
none_some j e = absurd (cc)

inserted_at : (links : List Link) (ends : List Ends) (k before : ℕ) (mark : Option ℕ) → AreQueues links ends → mark_of links before ≡ mark → with_inserted mark k before (queues links ends) ≡ map (put_before k before) (queues links ends)
inserted_at links ends k before None are is = sym (map_same (put_before k before) (queues links ends) (λ j. put_none k before (part_of (queues links ends) j) (outside links ends before j None are is (none_some j))))
inserted_at links ends k before (Some i) are is =
    sym (map_at (put_before k before) (queues links ends) i (λ j ne. put_none k before (part_of (queues links ends) j) (outside links ends before j (Some i) are is (some_other i j ne))))

pub inserted_all : (links : List Link) (ends : List Ends) (k before : ℕ) → AreQueues links ends → with_inserted (mark_of links before) k before (queues links ends) ≡ map (put_before k before) (queues links ends)
inserted_all links ends k before are = inserted_at links ends k before (mark_of links before) are refl

taken_at : (links : List Link) (ends : List Ends) (k : ℕ) (mark : Option ℕ) → AreQueues links ends → mark_of links k ≡ mark → with_taken mark k (queues links ends) ≡ map (without k) (queues links ends)
taken_at links ends k None are is = sym (map_same (without k) (queues links ends) (λ j. without_none k (part_of (queues links ends) j) (outside links ends k j None are is (none_some j))))
taken_at links ends k (Some i) are is =
    sym (map_at (without k) (queues links ends) i (λ j ne. without_none k (part_of (queues links ends) j) (outside links ends k j (Some i) are is (some_other i j ne))))

pub taken_all : (links : List Link) (ends : List Ends) (k : ℕ) → AreQueues links ends → with_taken (mark_of links k) k (queues links ends) ≡ map (without k) (queues links ends)
taken_all links ends k are = taken_at links ends k (mark_of links k) are refl

-- ---- the table as its calls see it

-- what the slots and their ends are to a contract
abbrev pub linked_of : List (List Slot) → List (List Ends) → LinkedThreads
linked_of slots ends = record { threads = map threads_of slots; queues = queues_by slots ends }

below_of : (slots : List (List Slot)) (ends : List (List Ends)) (p : ℕ) (v : LinkedThreads) → linked_of slots ends ≡ v → p < length v.threads → p < length (map threads_of slots)
below_of slots ends p v is lt = subst (λ (z : LinkedThreads). p < length z.threads) (sym is) lt

queued_at : (slots : List (List Slot)) (ends : List (List Ends)) (p : ℕ) (part : List Slot) (was : List Ends) → AreLinked slots ends → part ≡ part_of slots p → was ≡ part_of ends p → AreQueues (links_of part) was
queued_at slots ends p part was are e f = rw (e, f) (are.each p)

pub listed_at : (slots : List (List Slot)) (ends : List (List Ends)) (v : LinkedThreads) (n : ℕ) → AreLinked slots ends → linked_of slots ends ≡ v → n ≡ length slots → AreListed n v.queues
listed_at slots ends v n are is e = subst (λ (z : LinkedThreads). AreListed n z.queues) is (subst (λ m. AreListed m (queues_by slots ends)) (sym e) (listed slots ends are))

pub whole_at : (slots : List (List Slot)) (ends : List (List Ends)) (v : LinkedThreads) (items : List Slot) → linked_of slots ends ≡ v → items ≡ joined slots → threads_of items ≡ joined v.threads
whole_at slots ends v items is e = ap threads_of e ∙ (joined_threads slots ∙ ap (λ (z : LinkedThreads). joined z.threads) is)

pub lists_at : (slots : List (List Slot)) (ends : List (List Ends)) (p : ℕ) (v : LinkedThreads) (part : List Slot) (was : List Ends) → AreLinked slots ends → linked_of slots ends ≡ v → part ≡ part_of slots p → was ≡ part_of ends p
    → queues (links_of part) was ≡ part_of v.queues p
lists_at slots ends p v part was are is e f = rw (e, f) (part_linked slots ends p are ∙ ap (λ (z : LinkedThreads). part_of z.queues p) is)

pub free_at : (slots : List (List Slot)) (ends : List (List Ends)) (p k : ℕ) (v : LinkedThreads) (part : List Slot) (was : List Ends) → AreLinked slots ends → linked_of slots ends ≡ v → part ≡ part_of slots p → was ≡ part_of ends p
    → IsUnqueued k (part_of v.queues p) → mark_of (links_of part) k ≡ None
free_at slots ends p k v part was are is e f out =
    unqueued_mark (links_of part) was k (queued_at slots ends p part was are e f) (subst (IsUnqueued k) (sym (lists_at slots ends p v part was are is e f)) out)

-- a thread changed
pub kept_at : (slots : List (List Slot)) (ends : List (List Ends)) (p : ℕ) (v : LinkedThreads) (part w : List Slot) → AreLinked slots ends → linked_of slots ends ≡ v → p < length v.threads → part ≡ part_of slots p → shared_links w ≡ shared_links part
    → AreLinked (lent slots p w) ends
kept_at slots ends p v part w are is lt e same = linked_lent slots ends p w are (below_of slots ends p v is lt) (same ∙ ap shared_links e)

pub threads_here : (slots : List (List Slot)) (ends : List (List Ends)) (p : ℕ) (v : LinkedThreads) (part : List Slot) → linked_of slots ends ≡ v → part ≡ part_of slots p → threads_of part ≡ part_of v.threads p
threads_here slots ends p v part is e = ap threads_of e ∙ (sym (part_threads slots p) ∙ ap (λ (z : LinkedThreads). part_of z.threads p) is)

pub changed_view : (slots : List (List Slot)) (ends : List (List Ends)) (p : ℕ) (v : LinkedThreads) (part w : List Slot) (f : List (Option Thread) → List (Option Thread)) → linked_of slots ends ≡ v → p < length v.threads → part ≡ part_of slots p
    → shared_links w ≡ shared_links part → threads_of w ≡ f (threads_of part) → linked_of (lent slots p w) ends ≡ record v { threads = set v.threads p (f (part_of v.threads p)) }
changed_view slots ends p v part w f is lt e same made =
    let below = below_of slots ends p v is lt in
    let row : threads_of w ≡ f (part_of (map threads_of slots) p) = made ∙ ap f (ap threads_of e ∙ sym (part_threads slots p)) in
    let links : shared_links w ≡ shared_links (part_of slots p) = same ∙ ap shared_links e in
    ap (λ l. record { threads = l; queues = queues_by (lent slots p w) ends }) (threads_lent slots p w (f (part_of (map threads_of slots) p)) below links row)
    ∙ (ap (λ l. record { threads = set (map threads_of slots) p (f (part_of (map threads_of slots) p)); queues = l }) (queues_lent slots ends p w below links)
    ∙ ap (λ (z : LinkedThreads). record z { threads = set z.threads p (f (part_of z.threads p)) }) is)

-- a thread in use, among the slots that were lent
pub used_here : (slots : List (List Slot)) (ends : List (List Ends)) (p k : ℕ) (v : LinkedThreads) (part : List Slot) → linked_of slots ends ≡ v → part ≡ part_of slots p → IsSome (pool_get (part_of v.threads p) k) → IsSome (pool_get (threads_of part) k)
used_here slots ends p k v part is e used = subst (λ (pool : List (Option Thread)). IsSome (pool_get pool k)) (sym (threads_here slots ends p v part is e)) used

-- the queues changed
pub relinked_at : (slots : List (List Slot)) (ends : List (List Ends)) (p : ℕ) (v : LinkedThreads) (part w : List Slot) (was late : List Ends) (f : List (List ℕ) → List (List ℕ))
    → AreLinked slots ends → linked_of slots ends ≡ v → p < length v.threads → part ≡ part_of slots p → was ≡ part_of ends p
    → AreQueues (links_of w) late → threads_of w ≡ threads_of part → ((first : ℕ) → AreLinksFrom first part → AreLinksFrom first w) → length late ≡ length was → queues (links_of w) late ≡ f (queues (links_of part) was)
    → AreRelinked slots ends p w late (f (part_of v.queues p))
relinked_at slots ends p v part w was late f are is lt e g queued same from long lists =
    let below = below_of slots ends p v is lt in
    let places : length late ≡ 128 = long ∙ (ap length g ∙ are.places p (rw (length-map slots threads_of) at below)) in
    relinked slots ends p w late (f (part_of v.queues p)) are below queued (same ∙ ap threads_of e) (λ first own. from first (subst (AreLinksFrom first) (sym e) own)) places (lists ∙ ap f (lists_at slots ends p v part was are is e g))

pub view_at : (slots : List (List Slot)) (ends : List (List Ends)) (p : ℕ) (v : LinkedThreads) (w : List Slot) (late : List Ends) (lists : List (List ℕ)) → linked_of slots ends ≡ v → AreRelinked slots ends p w late lists
    → linked_of (lent slots p w) (lent ends p late) ≡ record v { queues = set v.queues p lists }
view_at slots ends p v w late lists is done =
    ap (λ l. record { threads = l; queues = queues_by (lent slots p w) (lent ends p late) }) done.threads
    ∙ (ap (λ l. record { threads = map threads_of slots; queues = l }) done.queues ∙ ap (λ (z : LinkedThreads). record z { queues = set z.queues p lists }) is)

-- the queues changed, and then a thread
pub record AreMoved (slots : List (List Slot)) (ends : List (List Ends)) (p : ℕ) (v : LinkedThreads) (w : List Slot) (late : List Ends) (row : List (Option Thread)) (lists : List (List ℕ)) : Type 0 where
  pub linked : AreLinked (lent slots p w) (lent ends p late)
  pub view : linked_of (lent slots p w) (lent ends p late) ≡ record v { threads = set v.threads p row; queues = set v.queues p lists }

pub moved_at : (slots : List (List Slot)) (ends : List (List Ends)) (p : ℕ) (v : LinkedThreads) (part mid w : List Slot) (late : List Ends) (f : List (Option Thread) → List (Option Thread)) (lists : List (List ℕ))
    → linked_of slots ends ≡ v → p < length v.threads → part ≡ part_of slots p → threads_of mid ≡ threads_of part → AreRelinked slots ends p mid late lists → shared_links w ≡ shared_links mid → threads_of w ≡ f (threads_of mid)
    → AreMoved slots ends p v w late (f (part_of v.threads p)) lists
moved_at slots ends p v part mid w late f lists is lt e same done links made =
    let v' : LinkedThreads = record v { queues = set v.queues p lists } in
    let below : p < length slots = rw (length-map slots threads_of) at (below_of slots ends p v is lt) in
    let long : length mid ≡ length (part_of slots p) = length_threads mid (part_of slots p) (same ∙ ap threads_of e) in
    let one : lent slots p mid ≡ set slots p mid = lent-same slots p mid below long in
    let here : part_of (lent slots p mid) p ≡ mid = ap (λ l. part_of l p) one ∙ get_or-set_same slots p mid [] below in
    let count : length (lent slots p mid) ≡ length slots = ap length one ∙ length-set slots p mid in
    let within : p < length (lent slots p mid) = omega (arith, count, below) in
    let alike : length w ≡ length mid = same_length w mid links in
    let again : lent (lent slots p mid) p w ≡ lent slots p w =
    lent-same (lent slots p mid) p w within (alike ∙ sym (ap length here)) ∙ (ap (λ l. set l p w) one ∙ (set-set slots p mid w ∙ sym (lent-same slots p w below (alike ∙ long)))) in
    let first = view_at slots ends p v mid late lists is done in
    record {
      linked = subst (λ l. AreLinked l (lent ends p late)) again (kept_at (lent slots p mid) (lent ends p late) p v' mid w done.linked first lt (sym here) links);
      view = subst (λ l. linked_of l (lent ends p late) ≡ record v { threads = set v.threads p (f (part_of v.threads p)); queues = set v.queues p lists }) again
          (changed_view (lent slots p mid) (lent ends p late) p v' mid w f first lt (sym here) links made);
    }

-- the mark that was read tells whether a thread lies in a queue
unmarked : (name : Option QueueName) → is_some name ≡ false → option_map place_of name ≡ None
unmarked None e = refl
unmarked (Some name) e = absurd (cc)

no_name : (name : Option QueueName) → option_map place_of name ≡ None → is_some name ≡ false
no_name None e = refl
no_name (Some name) e = absurd (cc)

pub queued_told : (links : List Link) (ends : List Ends) (lists : List (List ℕ)) (k : ℕ) (link : Link) → AreQueues links ends → queues links ends ≡ lists → link ≡ link_in links k
    → (is_some link.queue ≡ false) ↔ IsUnqueued k lists
queued_told links ends lists k link are is e =
    let same : mark_of links k ≡ option_map place_of link.queue = ap (λ (l : Link). option_map place_of l.queue) (sym e) in (
      λ free i. subst (λ l. is_in k (part_of l i) ≡ false) is (outside links ends k i None are (same ∙ unmarked link.queue free) (none_some i)),
      λ out. no_name link.queue (sym same ∙ unqueued_mark links ends k are (subst (IsUnqueued k) (sym is) out)),
    )

-- a thread goes before another, or leaves
pub inserted_lists : (slots : List (List Slot)) (ends : List (List Ends)) (p k before : ℕ) (part : List Slot) (was : List Ends) → AreLinked slots ends → part ≡ part_of slots p → was ≡ part_of ends p
    → with_inserted (mark_of (links_of part) before) k before (queues (links_of part) was) ≡ with_before k before (queues (links_of part) was)
inserted_lists slots ends p k before part was are e f = inserted_all (links_of part) was k before (queued_at slots ends p part was are e f)

pub taken_lists : (slots : List (List Slot)) (ends : List (List Ends)) (p k : ℕ) (part : List Slot) (was : List Ends) → AreLinked slots ends → part ≡ part_of slots p → was ≡ part_of ends p
    → with_taken (mark_of (links_of part) k) k (queues (links_of part) was) ≡ with_none k (queues (links_of part) was)
taken_lists slots ends p k part was are e f = taken_all (links_of part) was k (queued_at slots ends p part was are e f)

pub ruleset lifts = (part_threads, threads_lent, queues_lent)

-- the queues along the links of all slots
pub shared_lists : (slots : List (List Slot)) (ends : List (List Ends)) (v : LinkedThreads) (items : List Slot) → AreLinked slots ends → linked_of slots ends ≡ v → items ≡ joined slots → AreAlongLinks items v.threads v.queues
shared_lists slots ends v items are is e =
    subst (λ (z : LinkedThreads). AreAlongLinks items z.threads z.queues) is (rw e (record {
      along = λ p i. rw (first_threads slots p, part_queues slots ends p are.parts, list_at (links_of (part_of slots p)) (part_of ends p) i) (along_joined slots (part_of ends p) p i (are.own p) (are.each p));
      marked = λ p k i pos le mark.
          (let long : length (part_of (map threads_of slots) p) ≡ length (part_of slots p) = ap length (part_threads slots p) ∙ length-map (part_of slots p) (λ (slot : Slot). slot.thread) in
          let link = link_joined slots p k (are.own p) pos (omega (arith, le, long)) in
          let own : mark_of (links_of (part_of slots p)) k ≡ Some i = sym (ap (λ (l : SlotLink). option_map place_of l.queue) link) ∙ rw (first_threads slots p) at mark in
          rw (part_queues slots ends p are.parts, list_at (links_of (part_of slots p)) (part_of ends p) i) ((are.each p).marked k i own));
      alone = λ p k pos le unnamed.
          (let long : length (part_of (map threads_of slots) p) ≡ length (part_of slots p) = ap length (part_threads slots p) ∙ length-map (part_of slots p) (λ (slot : Slot). slot.thread) in
          let link = link_joined slots p k (are.own p) pos (omega (arith, le, long)) in
          let none : mark_of (links_of (part_of slots p)) k ≡ None = ap (option_map place_of) (sym (ap (λ (l : SlotLink). l.queue) link) ∙ rw (first_threads slots p) at unnamed) in
          rw (first_threads slots p) (link ∙ ap (shared_link (first_slot p slots)) ((are.each p).unmarked k none)));
    }))

-- and no link of another partition's slot
pub shared_within : (slots : List (List Slot)) (ends : List (List Ends)) (v : LinkedThreads) (items : List Slot) → AreLinked slots ends → linked_of slots ends ≡ v → items ≡ joined slots → StayInPartitions items v.threads
shared_within slots ends v items are is e =
    subst (λ (z : LinkedThreads). StayInPartitions items z.threads) is (rw e (record {
      each = λ p slot other at beside.
          (let long : length (part_of (map threads_of slots) p) ≡ length (part_of slots p) = ap length (part_threads slots p) ∙ length-map (part_of slots p) (λ (slot : Slot). slot.thread) in
          let first = first_threads slots p in
          let to = stays slots (part_of ends p) p slot other (are.own p) (are.each p) (rw first at at.from) (rw (first, long) at at.below) beside in
          record { from = rw first to.0; below = rw (first, long) to.1 });
    }))

pub ruleset reads = (whole_at, lists_at, shared_lists, shared_within)

-- ---- an empty table

threads_filled : (first n : ℕ) → threads_of (filled (free_slot first) n) ≡ filled None n
threads_filled first zero = refl
threads_filled first (suc n) = ap (λ l. None ∷ l) (threads_filled first n)

links_filled : (first n : ℕ) → links_of (filled (free_slot first) n) ≡ filled no_link n
links_filled first zero = refl
links_filled first (suc n) = ap (λ l. no_link ∷ l) (links_filled first n)

pub filled_threads : (first : ℕ) (counts : List ℕ) → map threads_of (free_parts first counts) ≡ map (filled None) counts
filled_threads first [] = refl
filled_threads first (n ∷ counts) = ap (λ l. l ∷ map threads_of (free_parts (first + n) counts)) (threads_filled first n) ∙ ap (λ l. filled None n ∷ l) (filled_threads (first + n) counts)

pub filled_queues : (first : ℕ) (counts : List ℕ) (m : ℕ) → queues_by (free_parts first counts) (map (filled no_ends) (replicate (length counts) m)) ≡ map (λ count. replicate m []) counts
filled_queues first [] m = refl
filled_queues first (n ∷ counts) m =
    ap (λ l. l ∷ queues_by (free_parts (first + n) counts) (map (filled no_ends) (replicate (length counts) m))) (empty_lists (links_of (filled (free_slot first) n)) m)
    ∙ ap (λ l. replicate m [] ∷ l) (filled_queues (first + n) counts m)

each_filled : (first : ℕ) (counts : List ℕ) (m p : ℕ) → AreQueues (links_of (part_of (free_parts first counts) p)) (part_of (map (filled no_ends) (replicate (length counts) m)) p)
each_filled first [] m p = empty_queues 0 0
each_filled first (n ∷ counts) m zero = rw (links_filled first n) (empty_queues n m)
each_filled first (n ∷ counts) m (suc p) = each_filled (first + n) counts m p

shared_filled : (first n : ℕ) → AreLinksFrom first (filled (free_slot first) n)
shared_filled first zero = refl
shared_filled first (suc n) = ap (λ l. shared_link first no_link ∷ l) (shared_filled first n)

own_filled : (first : ℕ) (counts : List ℕ) (p : ℕ) → AreLinksFrom (first + first_slot p (free_parts first counts)) (part_of (free_parts first counts) p)
own_filled first [] p = refl
own_filled first (n ∷ counts) zero =
    let here : first + 0 ≡ first = omega arith in
    rw here (shared_filled first n)
own_filled first (n ∷ counts) (suc p) =
    let next : first + (length (filled (free_slot first) n) + first_slot p (free_parts (first + n) counts)) ≡ first + n + first_slot p (free_parts (first + n) counts) = omega (arith, length-replicate n (free_slot first)) in
    rw next (own_filled (first + n) counts p)

places_filled : (counts : List ℕ) (m p : ℕ) → p < length counts → length (part_of (map (filled no_ends) (replicate (length counts) m)) p) ≡ m
places_filled [] m p lt = absurd (omega (arith, lt))
places_filled (n ∷ counts) m zero lt = length-replicate m no_ends
places_filled (n ∷ counts) m (suc p) lt = places_filled counts m p (omega (arith, lt))

parts_filled : (first : ℕ) (counts : List ℕ) (m : ℕ) → length (map (filled no_ends) (replicate (length counts) m)) ≡ length (free_parts first counts)
parts_filled first [] m = refl
parts_filled first (n ∷ counts) m = ap suc (parts_filled (first + n) counts m)

count_filled : (first : ℕ) (counts : List ℕ) → length (free_parts first counts) ≡ length counts
count_filled first [] = refl
count_filled first (n ∷ counts) = ap suc (count_filled (first + n) counts)

pub linked_filled : (counts : List ℕ) (m : ℕ) → m ≡ 128 → AreLinked (free_parts 0 counts) (map (filled no_ends) (replicate (length counts) m))
linked_filled counts m e = record {
  parts = parts_filled 0 counts m;
  places = λ p lt. places_filled counts m p (rw (count_filled 0 counts) at lt) ∙ e;
  each = each_filled 0 counts m;
  own = λ p. (let none : 0 + first_slot p (free_parts 0 counts) ≡ first_slot p (free_parts 0 counts) = omega arith in subst (λ first. AreLinksFrom first (part_of (free_parts 0 counts) p)) none (own_filled 0 counts p));
}

pub taken_same : (n m : ℕ) (x : ℕ) → n ≤ m → take n (replicate m x) ≡ replicate n x
taken_same zero m x le = refl
taken_same (suc n) zero x le = absurd (omega (arith, le))
taken_same (suc n) (suc m) x le = ap (λ l. x ∷ l) (taken_same n m x (omega (arith, le)))

-- ---- one thread and one queue

-- a member of one queue is in no other
pub alone : (links : List Link) (ends : List Ends) (lists : List (List ℕ)) (k i j : ℕ) → AreQueues links ends → queues links ends ≡ lists → is_in k (part_of lists i) ≡ true → j ≢ i → is_in k (part_of lists j) ≡ false
alone links ends lists k i j are is inside ne =
    subst (λ l. is_in k (part_of l j) ≡ false) is (outside links ends k j (Some i) are (member_mark links ends k i are (subst (λ l. is_in k (part_of l i) ≡ true) (sym is) inside)) (some_other i j ne))

-- so it leaves that one where it leaves all
pub left_one : (links : List Link) (ends : List Ends) (lists : List (List ℕ)) (name : QueueName) (k : ℕ) → AreQueues links ends → queues links ends ≡ lists → is_in k (part_of lists (place_of name)) ≡ true → with_none k lists ≡ with_out name k lists
left_one links ends lists name k are is inside =
    map_at (without k) lists (place_of name) (λ j ne. without_none k (part_of lists j) (alone links ends lists k (place_of name) j are is inside ne))

-- and lies in none
pub left_all : (k : ℕ) (lists : List (List ℕ)) → IsUnqueued k (with_none k lists)
left_all k lists = λ i. ap (is_in k) (get_or-map (without k) lists i []) ∙ without_own k (part_of lists i)

-- ---- a thread taken from one queue

emptied : (queues : List (List (List ℕ))) (p k : ℕ) → IsUnqueued k (part_of (set queues p (with_none k (part_of queues p))) p)
emptied queues p k = λ i. elim (le_or_gt (length queues) p) as (λ _. is_in k (part_of (part_of (set queues p (with_none k (part_of queues p))) p) i) ≡ false) [
  | inl past ↦ ap (λ lists. is_in k (part_of lists i)) (ap (λ l. part_of l p) (set_past queues p (with_none k (part_of queues p)) past) ∙ get_or_past queues p [] past)
  | inr lt ↦ ap (λ lists. is_in k (part_of lists i)) (get_or-set_same queues p (with_none k (part_of queues p)) [] lt) ∙ left_all k (part_of queues p) i
]

-- one that lay in it lies in none
pub taken_apart : (slots : List (List Slot)) (ends : List (List Ends)) (p k : ℕ) (v after : LinkedThreads) (part : List Slot) (was : List Ends) (name : QueueName) → AreLinked slots ends → linked_of slots ends ≡ v → part ≡ part_of slots p → was ≡ part_of ends p
    → after ≡ record v { queues = set v.queues p (with_out name k (part_of v.queues p)) } → is_in k (part_of (part_of v.queues p) (place_of name)) ≡ true → IsUnqueued k (part_of after.queues p)
taken_apart slots ends p k v after part was name are is e f made inside =
    let lists = part_of v.queues p in
    let links = links_of part in
    let queued : AreQueues links was = queued_at slots ends p part was are e f in
    let own : queues links was ≡ lists = lists_at slots ends p v part was are is e f in
    let left : with_none k lists ≡ with_out name k lists = left_one links was lists name k queued own inside in
    λ i. ap (λ (z : LinkedThreads). is_in k (part_of (part_of z.queues p) i)) made
    ∙ (ap (λ (l : List (List ℕ)). is_in k (part_of (part_of (set v.queues p l) p) i)) (sym left) ∙ emptied v.queues p k i)

-- ---- the table after two moves and a change

-- a partition's queues changed twice
two_queues : (table : ThreadTable) (p : ℕ) (f g : List (List ℕ) → List (List ℕ)) → p < length table.queues → with_queues p (λ lists. g (f lists)) table ≡ with_queues p g (with_queues p f table)
two_queues table p f g lt =
    let one = f (part_of table.queues p) in
    let row = set table.queues p one in
    ap (λ l. record table { queues = l }) (sym (set-set table.queues p one (g (part_of row p)) ∙ ap (λ l. set table.queues p (g l)) (get_or-set_same table.queues p one [] lt)))

pub passed_view : (old new : LinkedThreads) (now : ThreadTable) (stored : List (List ℕ)) (n p k : ℕ) (h : Thread → Thread) (f g : List (List ℕ) → List (List ℕ)) → record { threads = old.threads; stored = stored; queues = old.queues } ≡ now
    → n ≡ length old.threads → AreListed n old.queues → p < length now.threads
    → new ≡ record old { threads = set old.threads p (pool_changed k h (part_of old.threads p)); queues = set old.queues p (g (f (part_of old.queues p))) }
    → record { threads = new.threads; stored = stored; queues = new.queues } ≡ with_changed p k h (with_queues p g (with_queues p f now))
passed_view old new now stored n p k h f g is count listed lt made =
    let table : ThreadTable = record { threads = old.threads; stored = stored; queues = old.queues } in
    let long : length old.threads ≡ length now.threads = ap (λ (t : ThreadTable). length t.threads) is in
    let below : p < length old.queues = omega (arith, listed.same, count, long, lt) in
    ap (λ (z : LinkedThreads). record { threads = z.threads; stored = stored; queues = z.queues }) made
    ∙ (ap (with_changed p k h) (two_queues table p f g below) ∙ ap (λ t. with_changed p k h (with_queues p g (with_queues p f t))) is)
