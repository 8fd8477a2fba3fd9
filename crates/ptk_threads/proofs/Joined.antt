-- The links of one partition's slots among those of the table that all partitions share.
use Rattle.std.proofs.Common.{◌≡◌, ℕ, zero, suc, ◌+◌, ◌-◌, ◌<◌, ◌≤◌, List, [], ◌∷◌, ◌++◌, length, map, get_or, true, refl, sym, ◌∙◌, ap, subst, arith, ◌⊎◌, inl, inr}
use Rattle.std.specs.Prelude.{Option, Some, None, option_map}
use Rattle.std.proofs.Math.ListN.{set, get_or-map}
use Rattle.std.proofs.lemmas.List.{length-map, get_or_append_left, get_or-append-add, get_or_default}
use Rattle.std.proofs.lemmas.Simd.{map-map}
use Rattle.ptk_words.specs.Pools.{is_in}
use Rattle.ptk_words.proofs.Lists.{in_here, in_head}
use Rattle.ptk_words.specs.Parts.{part_of, joined}
use Rattle.ptk_threads.specs.declared.link.SlotLink.{SlotLink}
use Rattle.ptk_threads.specs.declared.link.Link.{Link}
use Rattle.ptk_threads.specs.declared.link.Ends.{Ends}
use Rattle.ptk_threads.specs.declared.slot.Slot.{Slot}
use Rattle.ptk_threads.specs.Links.{place_of, link_in, links_of, shared_links, threads_of, free_slot, no_link, own_link, shared_link, slot_at, AreLinksFrom, mark_of, first_or, IsAlong, queue_at, AreQueues}
use Rattle.ptk_threads.proofs.Along.{in_later, along_marked, marked_within}
use Rattle.ptk_clock.specs.ByThread.{first_slot}
use Rattle.ptk_threads.specs.Shared.{link_at, IsAlongLinks}

-- ---- links as they are kept, and in numbers of the partition

pub own_same : (w part : List Slot) → shared_links w ≡ shared_links part → links_of w ≡ links_of part
own_same w part e = sym (map-map own_link (λ (s : Slot). s.link) w) ∙ (ap (map own_link) e ∙ map-map own_link (λ (s : Slot). s.link) part)

pub from_same : (first : ℕ) (w part : List Slot) → shared_links w ≡ shared_links part → AreLinksFrom first part → AreLinksFrom first w
from_same first w part e from = e ∙ (from ∙ ap (map (shared_link first)) (sym (own_same w part e)))

shared_at : (part : List Slot) (first i : ℕ) → AreLinksFrom first part → (get_or part i (free_slot first)).link ≡ shared_link first (get_or (links_of part) i no_link)
shared_at part first i from =
    sym (get_or-map (λ (s : Slot). s.link) part i (free_slot first))
    ∙ (ap (λ links. get_or links i (shared_link first no_link)) from ∙ get_or-map (shared_link first) (links_of part) i no_link)

-- ---- where a partition's slots lie

pub first_set : (slots : List (List Slot)) (p q : ℕ) (w : List Slot) → length w ≡ length (part_of slots p) → first_slot q (set slots p w) ≡ first_slot q slots
first_set [] p q w e = refl
first_set (part ∷ slots) zero zero w e = refl
first_set (part ∷ slots) zero (suc q) w e = ap (λ n. n + first_slot q slots) e
first_set (part ∷ slots) (suc p) zero w e = refl
first_set (part ∷ slots) (suc p) (suc q) w e = ap (λ n. length part + n) (first_set slots p q w e)

pub first_threads : (slots : List (List Slot)) (p : ℕ) → first_slot p (map threads_of slots) ≡ first_slot p slots
first_threads [] p = refl
first_threads (part ∷ slots) zero = refl
first_threads (part ∷ slots) (suc p) = ap (λ n. n + first_slot p (map threads_of slots)) (length-map part (λ (s : Slot). s.thread)) ∙ ap (λ n. length part + n) (first_threads slots p)

slot_joined : (slots : List (List Slot)) (p i : ℕ) (d e : Slot) → i < length (part_of slots p) → get_or (joined slots) (first_slot p slots + i) d ≡ get_or (part_of slots p) i e
slot_joined [] p i d e lt = absurd (omega (arith, lt))
slot_joined (part ∷ slots) zero i d e lt =
    let place : 0 + i ≡ i = omega arith in
    ap (λ n. get_or (part ++ joined slots) n d) place ∙ (get_or_append_left part (joined slots) d i lt ∙ get_or_default part i d e lt)
slot_joined (part ∷ slots) (suc p) i d e lt =
    let place : length part + first_slot p slots + i ≡ length part + (first_slot p slots + i) = omega arith in
    ap (λ n. get_or (part ++ joined slots) n d) place ∙ (get_or-append-add part (joined slots) (first_slot p slots + i) d ∙ slot_joined slots p i d e lt)

-- a thread's link in the shared table
pub link_joined : (slots : List (List Slot)) (p k : ℕ) → AreLinksFrom (first_slot p slots) (part_of slots p) → 0 < k → k ≤ length (part_of slots p)
    → link_at (joined slots) (slot_at (first_slot p slots) k) ≡ shared_link (first_slot p slots) (link_in (links_of (part_of slots p)) k)
link_joined slots p zero from pos le = absurd (omega arith)
link_joined slots p (suc i) from pos le =
    let first = first_slot p slots in
    let place : first + (suc i - 1) ≡ first + i = omega arith in
    ap (link_at (joined slots)) place
    ∙ (ap (λ (s : Slot). s.link) (slot_joined slots p i (free_slot 0) (free_slot first) (omega (arith, le))) ∙ shared_at (part_of slots p) first i from)

-- ---- lists along the links

first_mapped : (f : ℕ → ℕ) (ks : List ℕ) → option_map f (first_or None ks) ≡ first_or None (map f ks)
first_mapped f [] = refl
first_mapped f (k ∷ ks) = refl

along_shared : (whole : List Slot) (links : List Link) (first i : ℕ) (before : Option ℕ) (ks : List ℕ) → ((k : ℕ) → is_in k ks ≡ true → link_at whole (slot_at first k) ≡ shared_link first (link_in links k))
    → IsAlong links i before None ks → IsAlongLinks whole i (option_map (slot_at first) before) (map (slot_at first) ks)
along_shared whole links first i before [] at h = tt
along_shared whole links first i before (k ∷ ks) at h =
    let own = at k (in_here k ks) in (
      record {
        previous = ap (λ (l : SlotLink). l.previous) own ∙ ap (option_map (slot_at first)) h.0.previous;
        next = ap (λ (l : SlotLink). l.next) own ∙ (ap (option_map (slot_at first)) h.0.next ∙ first_mapped (slot_at first) ks);
        queue = ap (λ (l : SlotLink). option_map place_of l.queue) own ∙ h.0.queue;
      },
      along_shared whole links first i (Some k) ks (λ j inside. at j (in_later j k ks inside)) h.1,
    )

member_below : (part : List Slot) (ends : List Ends) (i k : ℕ) → AreQueues (links_of part) ends → is_in k (queue_at (links_of part) ends i) ≡ true → (0 < k) × (k ≤ length part)
member_below part ends i k are inside =
    let within = marked_within (links_of part) k i (along_marked (links_of part) i None None (queue_at (links_of part) ends i) k (are.each i).along inside) in
    let long : length (links_of part) ≡ length part = length-map part (λ (s : Slot). own_link s.link) in
    (within.0, omega (arith, within.1, long))

pub along_joined : (slots : List (List Slot)) (ends : List Ends) (p i : ℕ) → AreLinksFrom (first_slot p slots) (part_of slots p) → AreQueues (links_of (part_of slots p)) ends
    → IsAlongLinks (joined slots) i None (map (slot_at (first_slot p slots)) (queue_at (links_of (part_of slots p)) ends i))
along_joined slots ends p i from are =
    along_shared (joined slots) (links_of (part_of slots p)) (first_slot p slots) i None (queue_at (links_of (part_of slots p)) ends i)
    (λ k inside. (let below = member_below (part_of slots p) ends i k are inside in link_joined slots p k from below.0 below.1)) (are.each i).along

-- ---- who stands beside a thread

next_inside : (links : List Link) (i : ℕ) (before : Option ℕ) (ks : List ℕ) (k n : ℕ) → IsAlong links i before None ks → is_in k ks ≡ true → (link_in links k).next ≡ Some n → is_in n ks ≡ true
next_inside links i before [] k n h inside e = absurd (cc)
next_inside links i before (x ∷ []) k n h inside e =
    elim (in_head x k [] inside) as (λ _. is_in n (x ∷ []) ≡ true) [
      | inl same ↦ (let none : None ≡ Some n = sym h.0.next ∙ rw same at e in absurd (cc))
      | inr r ↦ absurd (cc)
    ]
next_inside links i before (x ∷ y ∷ ks) k n h inside e =
    elim (in_head x k (y ∷ ks) inside) as (λ _. is_in n (x ∷ y ∷ ks) ≡ true) [
      | inl same ↦ (let next : Some y ≡ Some n = sym h.0.next ∙ rw same at e in let is : n ≡ y = cc in in_later n x (y ∷ ks) (subst (λ m. is_in m (y ∷ ks) ≡ true) (sym is) (in_here y ks)))
      | inr r ↦ in_later n x (y ∷ ks) (next_inside links i (Some x) (y ∷ ks) k n h.1 r e)
    ]

previous_inside : (links : List Link) (i : ℕ) (before : Option ℕ) (ks : List ℕ) (k n : ℕ) → IsAlong links i before None ks → is_in k ks ≡ true → (link_in links k).previous ≡ Some n → (before ≡ Some n) ⊎ (is_in n ks ≡ true)
previous_inside links i before [] k n h inside e = absurd (cc)
previous_inside links i before (x ∷ ks) k n h inside e =
    elim (in_head x k ks inside) as (λ _. (before ≡ Some n) ⊎ (is_in n (x ∷ ks) ≡ true)) [
      | inl same ↦ inl (sym h.0.previous ∙ rw same at e)
      | inr r ↦ elim (previous_inside links i (Some x) ks k n h.1 r e) as (λ _. (before ≡ Some n) ⊎ (is_in n (x ∷ ks) ≡ true)) [
        | inl own ↦ (let is : n ≡ x = cc in inr (subst (λ m. is_in m (x ∷ ks) ≡ true) (sym is) (in_here x ks)))
        | inr later ↦ inr (in_later n x ks later)
      ]
    ]

-- a neighbour is a thread of the partition
neighbour_below : (part : List Slot) (ends : List Ends) (k n : ℕ) (mark : Option ℕ) → AreQueues (links_of part) ends → mark_of (links_of part) k ≡ mark → ((link_in (links_of part) k).previous ≡ Some n) ⊎ ((link_in (links_of part) k).next ≡ Some n) → (0 < n) × (n ≤ length part)
neighbour_below part ends k n None are mark beside =
    let none = are.unmarked k mark in
    elim beside as (λ _. (0 < n) × (n ≤ length part)) [
      | inl e ↦ (let never : None ≡ Some n = sym (ap (λ (l : Link). l.previous) none) ∙ e in absurd (cc))
      | inr e ↦ (let never : None ≡ Some n = sym (ap (λ (l : Link). l.next) none) ∙ e in absurd (cc))
    ]
neighbour_below part ends k n (Some i) are mark beside =
    let line = queue_at (links_of part) ends i in
    let inside : is_in k line ≡ true = are.marked k i mark in
    elim beside as (λ _. (0 < n) × (n ≤ length part)) [
      | inl e ↦ elim (previous_inside (links_of part) i None line k n (are.each i).along inside e) as (λ _. (0 < n) × (n ≤ length part)) [ inl never ↦ absurd (cc) | inr there ↦ member_below part ends i n are there ]
      | inr e ↦ member_below part ends i n are (next_inside (links_of part) i None line k n (are.each i).along inside e)
    ]

-- what a link of slots names is what the partition's own names
pub record Named (first : ℕ) (own : Option ℕ) (slot : ℕ) : Type 0 where
  pub thread : ℕ
  pub is : own ≡ Some thread
  pub slot_is : slot_at first thread ≡ slot

named : (first : ℕ) (own : Option ℕ) (slot : ℕ) → option_map (slot_at first) own ≡ Some slot → Named first own slot
named first None slot e = absurd (cc)
named first (Some k) slot e = record { thread = k; is = refl; slot_is = cc }

beside_own : (first : ℕ) (own : Link) (link : SlotLink) (slot : ℕ) → link ≡ shared_link first own → (link.previous ≡ Some slot) ⊎ (link.next ≡ Some slot) → (n : ℕ) × ((own.previous ≡ Some n) ⊎ (own.next ≡ Some n)) × (slot_at first n ≡ slot)
beside_own first own link slot is beside =
    elim beside as (λ _. (n : ℕ) × ((own.previous ≡ Some n) ⊎ (own.next ≡ Some n)) × (slot_at first n ≡ slot)) [
      | inl e ↦ (let at = named first own.previous slot (sym (ap (λ (l : SlotLink). l.previous) is) ∙ e) in (at.thread, inl at.is, at.slot_is))
      | inr e ↦ (let at = named first own.next slot (sym (ap (λ (l : SlotLink). l.next) is) ∙ e) in (at.thread, inr at.is, at.slot_is))
    ]

-- no link leads to another partition's slot
pub stays : (slots : List (List Slot)) (ends : List Ends) (p slot other : ℕ) → AreLinksFrom (first_slot p slots) (part_of slots p) → AreQueues (links_of (part_of slots p)) ends
    → first_slot p slots ≤ slot → slot < first_slot p slots + length (part_of slots p) → ((link_at (joined slots) slot).previous ≡ Some other) ⊎ ((link_at (joined slots) slot).next ≡ Some other)
    → (first_slot p slots ≤ other) × (other < first_slot p slots + length (part_of slots p))
stays slots ends p slot other from are low high beside =
    let first = first_slot p slots in
    let k = slot - first + 1 in
    let place : slot_at first k ≡ slot = omega (arith, low) in
    let link : link_at (joined slots) slot ≡ shared_link first (link_in (links_of (part_of slots p)) k) = ap (link_at (joined slots)) (sym place) ∙ link_joined slots p k from (omega arith) (omega (arith, low, high)) in
    let at = beside_own first (link_in (links_of (part_of slots p)) k) (link_at (joined slots) slot) other link beside in
    let below = neighbour_below (part_of slots p) ends k at.0 (mark_of (links_of (part_of slots p)) k) are refl at.1 in
    (omega (arith, at.2), omega (arith, at.2, below.0, below.1))
