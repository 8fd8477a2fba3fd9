-- The lists of the queues after each call.
use Rattle.std.proofs.Common.{◌≡◌, ℕ, ◌<◌, ◌≤◌, ◌≢◌, zero, suc, List, [], ◌∷◌, ◌++◌, length, drop, true, false, refl, sym, ◌∙◌, ap, subst, arith, inl, inr}
use Rattle.std.specs.Prelude.{Option, Some, None, option_map, is_some, nat_eq, ◌==◌, Bool, not}
use Rattle.std.specs.List.{IsDistinct}
use Rattle.std.proofs.Math.ListN.{set, get_or-map}
use Rattle.std.proofs.lemmas.Bool.{cases_eq, eq-eqb}
use Rattle.std.proofs.lemmas.Bool.Decides.{nat_tests}
use Rattle.std.proofs.lemmas.List.{append-nil, set_comm, get_or-set_other, set-get_or}
use Rattle.ptk_words.specs.Pools.{pool_set, is_in, without}
use Rattle.ptk_words.proofs.Options.{none_if_never_some}
use Rattle.ptk_words.proofs.Lists.{head_out, in_head}
use Rattle.ptk_words.specs.Parts.{part_of}
use Rattle.ptk_threads.specs.declared.link.Link.{Link}
use Rattle.ptk_threads.specs.declared.link.SlotLink.{SlotLink}
use Rattle.ptk_threads.specs.declared.link.Ends.{Ends}
use Rattle.ptk_threads.specs.declared.link.QueueName.{QueueName}
use Rattle.ptk_threads.specs.declared.link.QueueName.TheVariants.{Ready, MutexWaiters, ConditionWaiters}
use Rattle.ptk_threads.specs.declared.thread_list.Members.TheVariants.{OnlyMember}
use Rattle.ptk_threads.specs.Links.{place_of, IsQueueName, link_in, own_link, number_at, no_link, no_ends, ends_at, mark_of, with_previous, first_or, last_or, IsLink, IsAlong, IsQueue, AreQueues, queue_from, queue_at, queues}
use Rattle.ptk_threads.specs.LinkChanges.{first_in, few_of, with_taken, put_before, linked_between, end_between, unlinked, end_without}
use Rattle.ptk_threads.proofs.Along.{out_parts, marked_within, first_out, last_out, along_right, along_marked, not_true}
use Rattle.ptk_threads.proofs.Turns.{IsMoved, queues_moved, are_moved, between, taken, out_middle}

-- the queues are these, with this list at place i
pub record AreTurned (links new : List Link) (ends after : List Ends) (i : ℕ) (line : List ℕ) : Type 0 where
  pub sound : AreQueues new after
  pub lists : queues new after ≡ set (queues links ends) i line

turned : (links new : List Link) (ends after : List Ends) (i : ℕ) (end : Ends) (line : List ℕ) → AreQueues links ends → IsMoved links new ends i end line → after ≡ set ends i end → AreTurned links new ends after i line
turned links new ends after i end line are moved e =
    record { sound = rw e (are_moved links new ends i end line are moved); lists = rw e (queues_moved links new ends i end line are moved) }

pub list_at : (links : List Link) (ends : List Ends) (i : ℕ) → part_of (queues links ends) i ≡ queue_at links ends i
list_at links ends i = get_or-map (queue_from links) ends i no_ends

-- ---- lists at a member

pub record Split (k : ℕ) (line : List ℕ) : Type 0 where
  pub before : List ℕ
  pub after : List ℕ
  pub is : line ≡ before ++ k ∷ after
  pub out : is_in k before ≡ false

pub split : (k : ℕ) (line : List ℕ) → is_in k line ≡ true → Split k line
split k [] h = absurd (cc)
split k (x ∷ xs) h =
    elim (cases_eq k x) as (λ _. Split k (x ∷ xs)) [
      | inl e ↦ record { before = []; after = xs; is = ap (λ y. y ∷ xs) (sym e); out = refl }
      | inr ne ↦ (let there : is_in k xs ≡ true = elim (in_head x k xs h) as (λ _. is_in k xs ≡ true) [ inl e ↦ absurd (ne e) | inr r ↦ r ] in
          let rest = split k xs there in
          let apart : nat_eq k x ≡ false = grind (arith, nat_tests) in
          record { before = x ∷ rest.before; after = rest.after; is = ap (λ l. x ∷ l) rest.is; out = rw apart rest.out })
    ]

put_split : (k b : ℕ) (xs ys : List ℕ) → is_in b xs ≡ false → put_before k b (xs ++ b ∷ ys) ≡ xs ++ k ∷ b ∷ ys
put_split k b [] ys out = rw (eq-eqb b b refl) refl
put_split k b (x ∷ xs) ys out =
    let both = out_parts b (x ∷ []) xs out in
    let apart : nat_eq b x ≡ false = grind (arith, nat_tests, both.0) in
    rw apart (ap (λ l. x ∷ l) (put_split k b xs ys both.1))

-- what is not there changes nothing
pub put_none : (k b : ℕ) (ys : List ℕ) → is_in b ys ≡ false → put_before k b ys ≡ ys
put_none k b [] out = refl
put_none k b (y ∷ ys) out =
    let both = out_parts b (y ∷ []) ys out in
    let apart : nat_eq b y ≡ false = grind (arith, nat_tests, both.0) in
    rw apart (ap (λ l. y ∷ l) (put_none k b ys both.1))

pub without_none : (k : ℕ) (ys : List ℕ) → is_in k ys ≡ false → without k ys ≡ ys
without_none k [] out = refl
without_none k (y ∷ ys) out =
    let both = out_parts k (y ∷ []) ys out in
    let apart : (y == k) ≡ false = grind (arith, nat_tests, both.0) in
    rw apart (ap (λ l. y ∷ l) (without_none k ys both.1))

without_split : (k : ℕ) (xs ys : List ℕ) → is_in k (xs ++ ys) ≡ false → without k (xs ++ k ∷ ys) ≡ xs ++ ys
without_split k [] ys out =
    let same : (k == k) ≡ true = grind (arith, nat_tests) in
    rw same (without_none k ys out)
without_split k (x ∷ xs) ys out =
    let both = out_parts k (x ∷ []) (xs ++ ys) out in
    let apart : (x == k) ≡ false = grind (arith, nat_tests, both.0) in
    rw apart (ap (λ l. x ∷ l) (without_split k xs ys both.1))

-- ---- the calls

pub appended : (links new : List Link) (ends after : List Ends) (i k : ℕ) (name : QueueName) (end : Ends) → AreQueues links ends → i < length ends → 0 < k → k ≤ length links → mark_of links k ≡ None → place_of name ≡ i → end ≡ ends_at ends i
    → new ≡ linked_between k (record { previous = end.last; next = None; queue = Some name }) links → after ≡ set ends i (end_between end.last k None (ends_at ends i))
    → AreTurned links new ends after i (part_of (queues links ends) i ++ k ∷ [])
appended links new ends after i k name end are lt pos le free place is made ended =
    let line = queue_at links ends i in
    let link : Link = record { previous = end.last; next = None; queue = Some name } in
    let last : end.last ≡ last_or None line = ap (λ (e : Ends). e.last) is ∙ (are.each i).last in
    let moved : IsMoved links (linked_between k link links) ends i (end_between end.last k None (ends_at ends i)) (line ++ k ∷ []) =
    between links ends i k link line [] are lt pos le free (sym (append-nil line)) last refl (ap Some place) in
    rw (list_at links ends i, made) (turned links (linked_between k link links) ends after i (end_between end.last k None (ends_at ends i)) (line ++ k ∷ []) are moved ended)

pub prepended : (links new : List Link) (ends after : List Ends) (i k : ℕ) (name : QueueName) (end : Ends) → AreQueues links ends → i < length ends → 0 < k → k ≤ length links → mark_of links k ≡ None → place_of name ≡ i → end ≡ ends_at ends i
    → new ≡ linked_between k (record { previous = None; next = end.first; queue = Some name }) links → after ≡ set ends i (end_between None k end.first (ends_at ends i))
    → AreTurned links new ends after i (k ∷ part_of (queues links ends) i)
prepended links new ends after i k name end are lt pos le free place is made ended =
    let line = queue_at links ends i in
    let link : Link = record { previous = None; next = end.first; queue = Some name } in
    let first : end.first ≡ first_or None line = ap (λ (e : Ends). e.first) is ∙ (are.each i).first in
    let moved : IsMoved links (linked_between k link links) ends i (end_between None k end.first (ends_at ends i)) (k ∷ line) =
    between links ends i k link [] line are lt pos le free refl refl first (ap Some place) in
    rw (list_at links ends i, made) (turned links (linked_between k link links) ends after i (end_between None k end.first (ends_at ends i)) (k ∷ line) are moved ended)

-- where a marked thread lies
lies : (links : List Link) (ends : List Ends) (i k : ℕ) → AreQueues links ends → mark_of links k ≡ Some i → Split k (queue_at links ends i)
lies links ends i k are mark = split k (queue_at links ends i) (are.marked k i mark)

-- the mark of a link that was read
pub mark_is : (links : List Link) (i k : ℕ) (name : QueueName) (link : Link) → place_of name ≡ i → link ≡ link_in links k → link.queue ≡ Some name → mark_of links k ≡ Some i
mark_is links i k name link place is named = ap (λ (l : Link). option_map place_of l.queue) (sym is) ∙ ap (λ o. option_map place_of o) named ∙ ap Some place

pub inserted : (links new : List Link) (ends after : List Ends) (i k before : ℕ) (name : QueueName) (link : Link) → AreQueues links ends → i < length ends → 0 < k → k ≤ length links → mark_of links k ≡ None → place_of name ≡ i
    → link ≡ link_in links before → link.queue ≡ Some name
    → new ≡ linked_between k (record link { next = Some before }) links → after ≡ set ends i (end_between link.previous k (Some before) (ends_at ends i))
    → AreTurned links new ends after i (put_before k before (part_of (queues links ends) i))
inserted links new ends after i k before name link are lt pos le free place is named made ended =
    let mark = mark_is links i before name link place is named in
    let at = lies links ends i before are mark in
    let own : Link = record link { next = Some before } in
    let along : IsAlong links i None None (at.before ++ before ∷ at.after) = subst (λ l. IsAlong links i None None l) at.is (are.each i).along in
    let here = along_right links i None None at.before (before ∷ at.after) along in
    let prev : link.previous ≡ last_or None at.before = ap (λ (l : Link). l.previous) is ∙ here.0.previous in
    let moved : IsMoved links (linked_between k own links) ends i (end_between link.previous k (Some before) (ends_at ends i)) (at.before ++ k ∷ before ∷ at.after) =
    between links ends i k own at.before (before ∷ at.after) are lt pos le free at.is prev refl (ap (λ o. option_map place_of o) named ∙ ap Some place) in
    let done = turned links (linked_between k own links) ends after i (end_between link.previous k (Some before) (ends_at ends i)) (at.before ++ k ∷ before ∷ at.after) are moved ended in
    rw (list_at links ends i, at.is, put_split k before at.before at.after at.out, made) done

pub went : (links new : List Link) (ends after : List Ends) (i k : ℕ) (name : QueueName) (link : Link) → AreQueues links ends → i < length ends → place_of name ≡ i
    → link ≡ link_in links k → link.queue ≡ Some name
    → new ≡ unlinked k link links → after ≡ set ends i (end_without link.previous link.next (ends_at ends i))
    → AreTurned links new ends after i (without k (part_of (queues links ends) i))
went links new ends after i k name link are lt place is named made ended =
    let mark = mark_is links i k name link place is named in
    let at = lies links ends i k are mark in
    let was : IsQueue links (ends_at ends i) i (at.before ++ k ∷ at.after) = subst (λ l. IsQueue links (ends_at ends i) i l) at.is (are.each i) in
    let out : is_in k (at.before ++ at.after) ≡ false = out_middle at.before at.after k was.distinct in
    let moved : IsMoved links (unlinked k link links) ends i (end_without link.previous link.next (ends_at ends i)) (at.before ++ at.after) = taken links ends i k link at.before at.after are lt is mark at.is in
    let done = turned links (unlinked k link links) ends after i (end_without link.previous link.next (ends_at ends i)) (at.before ++ at.after) are moved ended in
    rw (list_at links ends i, at.is, without_split k at.before at.after out, made) done

-- ---- the first thread of a queue

-- the first thread of a list, as its queue's ends and its link say
pub record IsFirst (links : List Link) (i k : ℕ) (line : List ℕ) : Type 0 where
  pub is : line ≡ k ∷ drop 1 line
  pub link : IsLink links i None (first_or None (drop 1 line)) k

first_is : (links : List Link) (end : Ends) (i k : ℕ) (line : List ℕ) → IsQueue links end i line → end.first ≡ Some k → IsFirst links i k line
first_is links end i k [] queue first = (let none : None ≡ Some k = sym queue.first ∙ first in absurd (cc))
first_is links end i k (x ∷ xs) queue first =
    let same : x ≡ k = (let here : Some x ≡ Some k = sym queue.first ∙ first in cc) in
    record { is = ap (λ y. y ∷ xs) same; link = subst (λ y. IsLink links i None (first_or None xs) y) same queue.along.0 }

-- the first thread has a slot
pub first_within : (links : List Link) (ends : List Ends) (i k : ℕ) (end : Ends) → AreQueues links ends → end ≡ ends_at ends i → end.first ≡ Some k → k ≤ length links
first_within links ends i k end are read named =
    let first : (ends_at ends i).first ≡ Some k = ap (λ (e : Ends). e.first) (sym read) ∙ named in
    (marked_within links k i (first_is links (ends_at ends i) i k (queue_at links ends i) (are.each i) first).link.queue).1

alone_is : (ys : List ℕ) (next : Option ℕ) (b : Bool) → next ≡ first_or None ys → is_some next ≡ not b → b ≡ (length ys == 0)
alone_is [] next true e told = refl
alone_is [] next false e told = (let none : is_some next ≡ false = ap is_some e in absurd (cc))
alone_is (y ∷ ys) next true e told = (let some : is_some next ≡ true = ap is_some e in absurd (cc))
alone_is (y ∷ ys) next false e told = grind (arith, nat_tests)

first_here : (k : ℕ) (line : List ℕ) (next : Option ℕ) (b : Bool) → line ≡ k ∷ drop 1 line → next ≡ first_or None (drop 1 line) → is_some next ≡ not b → Some (record { thread = k; is_alone = b }) ≡ first_in line
first_here k line next b is e told = ap (λ a. Some (record { thread = k; is_alone = a })) (alone_is (drop 1 line) next b e told) ∙ ap first_in (sym is)

-- the links, whichever of the two is written first
order : (links : List Link) (k : ℕ) (next : Option ℕ) → next ≢ Some k → with_previous next None (pool_set links k no_link) ≡ pool_set (with_previous next None links) k no_link
order links k None ne = refl
order links zero (Some z) ne = refl
order links (suc i) (Some zero) ne = refl
order links (suc i) (Some (suc j)) ne =
    let apart : i ≢ j = λ e. ne (ap (λ n. Some (suc n)) (sym e)) in
    let other : link_in (pool_set links (suc i) no_link) (suc j) ≡ link_in links (suc j) = get_or-set_other links i j no_link no_link (λ e. apart (sym e)) in
    ap (λ (l : Link). set (set links i no_link) j (record l { previous = None })) other ∙ set_comm links i j no_link (record (link_in links (suc j)) { previous = None }) apart

pub first_went : (links mid new : List Link) (ends after : List Ends) (i k : ℕ) (end : Ends) (next : Option ℕ) (b : Bool) → AreQueues links ends → i < length ends → end ≡ ends_at ends i → end.first ≡ Some k
    → next ≡ (link_in links k).next → is_some next ≡ not b → mid ≡ pool_set links k no_link → new ≡ with_previous next None mid → after ≡ set ends i (end_without None next end)
    → AreTurned links new ends after i (drop 1 (part_of (queues links ends) i)) × (Some (record { thread = k; is_alone = b }) ≡ first_in (part_of (queues links ends) i))
first_went links mid new ends after i k end next b are lt read named is alone freed made ended =
    let first : (ends_at ends i).first ≡ Some k = ap (λ (e : Ends). e.first) (sym read) ∙ named in
    let line = queue_at links ends i in
    let at = first_is links (ends_at ends i) i k line (are.each i) first in
    let link = link_in links k in
    let was : IsQueue links (ends_at ends i) i (k ∷ drop 1 line) = subst (λ l. IsQueue links (ends_at ends i) i l) at.is (are.each i) in
    let told : next ≡ first_or None (drop 1 line) = is ∙ at.link.next in
    let apart : next ≢ Some k = λ e. first_out (drop 1 line) k (head_out k (drop 1 line) was.distinct) (sym told ∙ e) in
    let links_are : new ≡ unlinked k link links = made ∙ (ap (with_previous next None) freed ∙ order links k next apart ∙ rw (at.link.previous, ← is) refl) in
    let ends_are : after ≡ set ends i (end_without link.previous link.next (ends_at ends i)) = ended ∙ rw (read, at.link.previous, ← is) refl in
    let moved : IsMoved links (unlinked k link links) ends i (end_without link.previous link.next (ends_at ends i)) (drop 1 line) = taken links ends i k link [] (drop 1 line) are lt refl at.link.queue at.is in
    let done = turned links (unlinked k link links) ends after i (end_without link.previous link.next (ends_at ends i)) (drop 1 line) are moved ends_are in
    (rw (list_at links ends i, links_are) done, rw (list_at links ends i) (first_here k line next b at.is told alone))

-- ---- a thread that leaves a queue, or does not lie in it

none_is : (o : Option ℕ) (b : Bool) → is_some o ≡ not b → b ≡ true → o ≡ None
none_is None b told is = refl
none_is (Some x) b told is = (let no : true ≡ false = told ∙ ap not is in absurd (cc))

-- it is alone there
pub alone_went : (links new : List Link) (ends after : List Ends) (i k : ℕ) (name : QueueName) (link : SlotLink) (before next : Bool) → AreQueues links ends → i < length ends → place_of name ≡ i
    → own_link link ≡ link_in links k → link.queue ≡ Some name → is_some link.previous ≡ not before → before ≡ true → is_some link.next ≡ not next → next ≡ true
    → new ≡ pool_set links k no_link → after ≡ set ends i no_ends
    → AreTurned links new ends after i (without k (part_of (queues links ends) i))
alone_went links new ends after i k name link before next are lt place is named no_before one_is no_next two_is made ended =
    let own = own_link link in
    let one : own.previous ≡ None = ap (option_map (number_at link.first)) (none_is link.previous before no_before one_is) in
    let two : own.next ≡ None = ap (option_map (number_at link.first)) (none_is link.next next no_next two_is) in
    went links new ends after i k name own are lt place is named (made ∙ rw (one, two) refl) (ended ∙ rw (one, two) refl)

-- a thread that lies elsewhere changes nothing
pub stays : (links : List Link) (ends : List Ends) (i k : ℕ) → AreQueues links ends → mark_of links k ≢ Some i → queues links ends ≡ with_taken (Some i) k (queues links ends)
stays links ends i k are ne =
    let line = queue_at links ends i in
    let out : is_in k line ≡ false = not_true (is_in k line) (λ inside. ne (along_marked links i None None line k (are.each i).along inside)) in
    let same : without k (part_of (queues links ends) i) ≡ part_of (queues links ends) i = rw (list_at links ends i) (without_none k line out) in
    sym (ap (set (queues links ends) i) same ∙ set-get_or (queues links ends) i [])

-- who lies in no queue has no mark
pub unqueued_mark : (links : List Link) (ends : List Ends) (k : ℕ) → AreQueues links ends → ((i : ℕ) → is_in k (part_of (queues links ends) i) ≡ false) → mark_of links k ≡ None
unqueued_mark links ends k are out = none_if_never_some (mark_of links k) (λ i mark.
    (let inside : is_in k (part_of (queues links ends) i) ≡ true = subst (λ l. is_in k l ≡ true) (sym (list_at links ends i)) (are.marked k i mark) in
    let outside = out i in absurd (cc)))

-- two names with one place are one
one_place : (one other : QueueName) → IsQueueName one → IsQueueName other → place_of one ≡ place_of other → one ≡ other
one_place (Ready p) (Ready q) a b e = (let same : p ≡ q = omega (arith, e, a.0, b.0) in ap Ready same)
one_place (Ready p) (MutexWaiters m) a b e = absurd (omega (arith, e, a.0, a.1, b.0))
one_place (Ready p) (ConditionWaiters v) a b e = absurd (omega (arith, e, a.0, a.1, b.0))
one_place (MutexWaiters m) (Ready q) a b e = absurd (omega (arith, e, a.0, b.0, b.1))
one_place (MutexWaiters m) (MutexWaiters n) a b e = (let same : m ≡ n = omega (arith, e) in ap MutexWaiters same)
one_place (MutexWaiters m) (ConditionWaiters v) a b e = absurd (omega (arith, e, a.0, a.1, b.0))
one_place (ConditionWaiters v) (Ready q) a b e = absurd (omega (arith, e, a.0, b.0, b.1))
one_place (ConditionWaiters v) (MutexWaiters n) a b e = absurd (omega (arith, e, a.0, b.0, b.1))
one_place (ConditionWaiters v) (ConditionWaiters w) a b e = (let same : v ≡ w = omega (arith, e) in ap ConditionWaiters same)

-- a thread whose link was read lies in another queue, or in none
pub stays_elsewhere : (links : List Link) (ends : List Ends) (k : ℕ) (name own : QueueName) (link : SlotLink) → AreQueues links ends → IsQueueName own → IsQueueName name → own_link link ≡ link_in links k → link.queue ≡ Some own → own ≢ name
    → queues links ends ≡ with_taken (Some (place_of name)) k (queues links ends)
stays_elsewhere links ends k name own link are one other is named ne =
    stays links ends (place_of name) k are (λ mark.
    (let here : Some (place_of own) ≡ Some (place_of name) = sym (ap (λ o. option_map place_of o) named) ∙ (ap (λ (l : Link). option_map place_of l.queue) is ∙ mark) in
    let same : place_of own ≡ place_of name = cc in
    ne (one_place own name one other same)))

pub stays_unmarked : (links : List Link) (ends : List Ends) (k i : ℕ) (link : SlotLink) → AreQueues links ends → own_link link ≡ link_in links k → link.queue ≡ None → queues links ends ≡ with_taken (Some i) k (queues links ends)
stays_unmarked links ends k i link are is named =
    stays links ends i k are (λ mark.
    (let here : None ≡ Some i = sym (ap (λ o. option_map place_of o) named) ∙ (ap (λ (l : Link). option_map place_of l.queue) is ∙ mark) in absurd (cc)))

-- ---- the only thread of a queue

-- a list without a thread twice, by its first and its last
few_only : (k : ℕ) (line : List ℕ) → IsDistinct nat_eq line → first_or None line ≡ Some k → last_or None line ≡ Some k → OnlyMember k ≡ few_of line
few_only k [] distinct first last = absurd (cc)
few_only k (x ∷ []) distinct first last = (let same : x ≡ k = cc in ap OnlyMember (sym same))
few_only k (x ∷ y ∷ ys) distinct first last = absurd (last_out (y ∷ ys) x (head_out x (y ∷ ys) distinct) (last ∙ sym first))

-- of a queue, by its ends
pub only_read : (links : List Link) (ends : List Ends) (i k j : ℕ) (end : Ends) → AreQueues links ends → end ≡ ends_at ends i → end.first ≡ Some k → end.last ≡ Some j → j ≡ k → OnlyMember k ≡ few_of (part_of (queues links ends) i)
only_read links ends i k j end are read first last same =
    let line = queue_at links ends i in
    let head : first_or None line ≡ Some k = sym (are.each i).first ∙ (ap (λ (e : Ends). e.first) (sym read) ∙ first) in
    let tail : last_or None line ≡ Some k = sym (are.each i).last ∙ (ap (λ (e : Ends). e.last) (sym read) ∙ (last ∙ ap Some same)) in
    rw (list_at links ends i) (few_only k line (are.each i).distinct head tail)
