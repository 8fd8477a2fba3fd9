-- The links and threads of slots, read and written at a number.
use Rattle.std.proofs.Common.{◌≡◌, ℕ, zero, suc, ◌-◌, ◌<◌, ◌≤◌, List, length, map, sym, ◌∙◌, ap, arith, get_or}
use Rattle.std.specs.Prelude.{Option, option_map}
use Rattle.std.proofs.Math.ListN.{set, get_or-map}
use Rattle.std.proofs.Math.Seq.{map-set_same}
use Rattle.std.proofs.lemmas.List.{get_or_past, length-map, map-set, set_past, get_or_read}
use Rattle.ptk_words.specs.Pools.{pool_set}
use Rattle.ptk_threads.specs.declared.link.Link.{Link}
use Rattle.ptk_threads.specs.declared.link.SlotLink.{SlotLink}
use Rattle.ptk_threads.specs.declared.slot.Slot.{Slot}
use Rattle.ptk_threads.specs.Links.{links_of, shared_links, slot_at, threads_of, link_in, no_link, free_slot, own_link, shared_link, AreLinksFrom}

pub links_count : (slots : List Slot) → length (links_of slots) ≡ length slots
links_count slots = length-map slots (λ (slot : Slot). own_link slot.link)

-- a read as the code makes it
pub link_here : (slots : List Slot) (k : ℕ) (slot : Slot) → 0 < k → k - 1 < length slots → slot ≡ get_or slots (k - 1) slot → own_link slot.link ≡ link_in (links_of slots) k
link_here slots zero slot h lt e = absurd (omega arith)
link_here slots (suc i) slot h lt e =
    let same : suc i - 1 ≡ i = omega arith in
    let within : i < length slots = omega (arith, lt) in
    let read : slot ≡ get_or slots i slot = rw same at e in
    ap (λ (s : Slot). own_link s.link) (get_or_read slots i slot within read (free_slot 0)) ∙ sym (get_or-map (λ (s : Slot). own_link s.link) slots i (free_slot 0))

-- a read at a place
pub link_read : (slots : List Slot) (k i : ℕ) (slot : Slot) → i ≡ k - 1 → 0 < k → i < length slots → slot ≡ get_or slots i slot → own_link (get_or slots i slot).link ≡ link_in (links_of slots) k
link_read slots k i slot at pos lt is =
    ap (λ (s : Slot). own_link s.link) (sym is) ∙ link_here slots k slot pos (omega (arith, lt, at)) (is ∙ ap (λ n. get_or slots n slot) at)

pub link_past : (slots : List Slot) (k : ℕ) → 0 < k → length slots ≤ k - 1 → no_link ≡ link_in (links_of slots) k
link_past slots zero h le = absurd (omega arith)
link_past slots (suc i) h le =
    let past : length slots ≤ i = omega (arith, le) in
    sym (get_or_past (links_of slots) i no_link (rw (links_count slots) past))

-- a write as the code makes it
pub links_set : (slots new : List Slot) (k : ℕ) (slot after : Slot) (link : Link) → 0 < k → new ≡ set slots (k - 1) after → own_link after.link ≡ link → links_of new ≡ pool_set (links_of slots) k link
links_set slots new zero slot after link h e is = absurd (omega arith)
links_set slots new (suc i) slot after link h e is =
    let same : suc i - 1 ≡ i = omega arith in
    ap links_of (rw same at e) ∙ map-set (λ (s : Slot). own_link s.link) slots i after ∙ ap (set (links_of slots) i) is

pub links_set_past : (slots : List Slot) (k : ℕ) (link : Link) → 0 < k → length slots ≤ k - 1 → links_of slots ≡ pool_set (links_of slots) k link
links_set_past slots zero link h le = absurd (omega arith)
links_set_past slots (suc i) link h le =
    let past : length slots ≤ i = omega (arith, le) in
    sym (set_past (links_of slots) i link (rw (links_count slots) past))

pub threads_set : (slots new : List Slot) (k : ℕ) (slot after : Slot) → k - 1 < length slots → slot ≡ get_or slots (k - 1) slot → new ≡ set slots (k - 1) after → after.thread ≡ slot.thread → threads_of new ≡ threads_of slots
threads_set slots new k slot after lt e is same =
    ap threads_of is ∙ map-set_same (λ (s : Slot). s.thread) slots (k - 1) after (free_slot 0) (same ∙ ap (λ (s : Slot). s.thread) (get_or_read slots (k - 1) slot lt e (free_slot 0)))

-- a slot that a partition's own link was read of, and the same after a write
shared_here : (slots : List Slot) (first i : ℕ) (slot : Slot) → i < length slots → slot ≡ get_or slots i slot → AreLinksFrom first slots → slot.link ≡ shared_link first (get_or (links_of slots) i no_link)
shared_here slots first i slot lt e from =
    ap (λ (s : Slot). s.link) (get_or_read slots i slot lt e (free_slot first))
    ∙ (sym (get_or-map (λ (s : Slot). s.link) slots i (free_slot first))
    ∙ (ap (λ links. get_or links i (shared_link first no_link)) from ∙ get_or-map (shared_link first) (links_of slots) i no_link))

pub shared_set : (slots new : List Slot) (first k : ℕ) (slot after : Slot) (link : Link) → k - 1 < length slots → slot ≡ get_or slots (k - 1) slot → new ≡ set slots (k - 1) after → after.link ≡ shared_link slot.link.first link → own_link after.link ≡ link
    → AreLinksFrom first slots → AreLinksFrom first new
shared_set slots new first k slot after link lt e is shared own from =
    let same : slot.link.first ≡ first = ap (λ (l : SlotLink). l.first) (shared_here slots first (k - 1) slot lt e from) in
    let made : after.link ≡ shared_link first link = shared ∙ ap (λ f. shared_link f link) same in
    ap shared_links is
    ∙ (map-set (λ (s : Slot). s.link) slots (k - 1) after
    ∙ (ap (λ links. set links (k - 1) after.link) from
    ∙ (ap (set (map (shared_link first) (links_of slots)) (k - 1)) (made ∙ ap (shared_link first) (sym own))
    ∙ (sym (map-set (shared_link first) (links_of slots) (k - 1) (own_link after.link))
    ∙ ap (map (shared_link first)) (sym (ap links_of is ∙ map-set (λ (s : Slot). own_link s.link) slots (k - 1) after))))))

-- the same where one neighbour alone changes
whole_here : (slots : List Slot) (first i : ℕ) (slot : Slot) → i < length slots → slot ≡ get_or slots i slot → AreLinksFrom first slots → slot.link ≡ shared_link slot.link.first (own_link slot.link)
whole_here slots first i slot lt e from =
    let here = shared_here slots first i slot lt e from in
    let same : slot.link.first ≡ first = ap (λ (l : SlotLink). l.first) here in
    let own : own_link slot.link ≡ get_or (links_of slots) i no_link = ap (λ (s : Slot). own_link s.link) (get_or_read slots i slot lt e (free_slot 0)) ∙ sym (get_or-map (λ (s : Slot). own_link s.link) slots i (free_slot 0)) in
    here ∙ (sym (ap (λ f. shared_link f (get_or (links_of slots) i no_link)) same) ∙ sym (ap (shared_link slot.link.first) own))

pub shared_next : (slots new : List Slot) (first k : ℕ) (slot after : Slot) (next : Option ℕ) → k - 1 < length slots → slot ≡ get_or slots (k - 1) slot → new ≡ set slots (k - 1) after
    → after.link ≡ record slot.link { next = option_map (slot_at slot.link.first) next } → own_link after.link ≡ record (own_link slot.link) { next = next } → AreLinksFrom first slots → AreLinksFrom first new
shared_next slots new first k slot after next lt e is shared own from =
    shared_set slots new first k slot after (record (own_link slot.link) { next = next }) lt e is
    (shared ∙ ap (λ (l : SlotLink). record l { next = option_map (slot_at slot.link.first) next }) (whole_here slots first (k - 1) slot lt e from)) own from

pub shared_previous : (slots new : List Slot) (first k : ℕ) (slot after : Slot) (previous : Option ℕ) → k - 1 < length slots → slot ≡ get_or slots (k - 1) slot → new ≡ set slots (k - 1) after
    → after.link ≡ record slot.link { previous = option_map (slot_at slot.link.first) previous } → own_link after.link ≡ record (own_link slot.link) { previous = previous } → AreLinksFrom first slots → AreLinksFrom first new
shared_previous slots new first k slot after previous lt e is shared own from =
    shared_set slots new first k slot after (record (own_link slot.link) { previous = previous }) lt e is
    (shared ∙ ap (λ (l : SlotLink). record l { previous = option_map (slot_at slot.link.first) previous }) (whole_here slots first (k - 1) slot lt e from)) own from

pub links_next : (slots new : List Slot) (k : ℕ) (slot after : Slot) (next : Option ℕ) → 0 < k → k - 1 < length slots → slot ≡ get_or slots (k - 1) slot → new ≡ set slots (k - 1) after → own_link after.link ≡ record (own_link slot.link) { next = next }
    → links_of new ≡ pool_set (links_of slots) k (record (link_in (links_of slots) k) { next = next })
links_next slots new k slot after next pos lt e is own = links_set slots new k slot after _ pos is (own ∙ ap (λ (l : Link). record l { next = next }) (link_here slots k slot pos lt e))

pub links_previous : (slots new : List Slot) (k : ℕ) (slot after : Slot) (previous : Option ℕ) → 0 < k → k - 1 < length slots → slot ≡ get_or slots (k - 1) slot → new ≡ set slots (k - 1) after → own_link after.link ≡ record (own_link slot.link) { previous = previous }
    → links_of new ≡ pool_set (links_of slots) k (record (link_in (links_of slots) k) { previous = previous })
links_previous slots new k slot after previous pos lt e is own = links_set slots new k slot after _ pos is (own ∙ ap (λ (l : Link). record l { previous = previous }) (link_here slots k slot pos lt e))

-- a slot's number has a link
pub links_long : (slots : List Slot) (k : ℕ) → k ≤ length slots → k ≤ length (links_of slots)
links_long slots k le = rw (links_count slots) le

pub ruleset slots = (link_here, link_past, links_set, links_set_past, threads_set, shared_set, links_next, links_previous, shared_next, shared_previous)
