-- The queues of a partition after a change of one of them.
use Rattle.std.proofs.Common.{◌≡◌, ◌≢◌, ℕ, zero, suc, ◌<◌, ◌≤◌, List, [], ◌∷◌, ◌++◌, length, map, true, false, refl, sym, ◌∙◌, ap, subst, arith, ◌⊎◌, inl, inr}
use Rattle.std.specs.Prelude.{Option, Some, None, option_map, nat_eq}
use Rattle.std.specs.List.{IsDistinct}
use Rattle.std.proofs.Math.ListN.{set}
use Rattle.std.proofs.lemmas.Bool.{cases_eq}
use Rattle.std.proofs.lemmas.List.{get_or-set_same, get_or-set_other, set_past, map-set}
use Rattle.std.proofs.lemmas.Map.Keys.{IsDistinct-tail}
use Rattle.std.proofs.lemmas.Map.Steps.{length-le_from_distinct_below}
use Rattle.ptk_words.specs.Pools.{pool_set, is_in}
use Rattle.ptk_words.proofs.Lists.{in_here, distinct_head, head_out, in_head, out_of}
use Rattle.ptk_threads.specs.declared.link.Link.{Link}
use Rattle.ptk_threads.specs.declared.link.Ends.{Ends}
use Rattle.ptk_threads.specs.Links.{place_of, link_in, no_link, no_ends, ends_at, mark_of, with_next, with_previous, first_after, last_before, first_or, last_or, IsLink, IsAlong, IsQueue, AreQueues, queue_from, queue_at, queues}
use Rattle.ptk_threads.specs.LinkChanges.{linked_between, end_between, unlinked, end_without}
use Rattle.ptk_threads.proofs.Along.{in_later, in_left, in_right, in_parts, apart, not_true, out_join, out_parts, distinct_left, distinct_right, le_or_gt, marked_within, link_same, link_other, next_other, previous_other, length_next, length_previous, last_out, first_out, along_same, along_left, along_right, along_join, along_marked, along_ends, along_starts, walk_along}

-- the queue at place i is this line now; links of other queues' threads stay, nobody came to another queue, and who is in none has no neighbours
pub record IsMoved (links new : List Link) (ends : List Ends) (i : ℕ) (end : Ends) (line : List ℕ) : Type 0 where
  pub place : i < length ends
  pub own : IsQueue new end i line
  pub others : (j y : ℕ) → j ≢ i → mark_of links y ≡ Some j → link_in new y ≡ link_in links y
  pub marked : (y j : ℕ) → mark_of new y ≡ Some j → ((j ≡ i) × (is_in y line ≡ true)) ⊎ ((j ≢ i) × (mark_of links y ≡ Some j))
  pub unmarked : (y : ℕ) → mark_of new y ≡ None → link_in new y ≡ no_link

-- a queue's list can be read off its links
pub queue_is : (links : List Link) (end : Ends) (i : ℕ) (line : List ℕ) → IsQueue links end i line → queue_from links end ≡ line
queue_is links end i line q =
    let below : (y : ℕ) → is_in y line ≡ true → y < suc (length links) =
    λ y inside. (let within = marked_within links y i (along_marked links i None None line y q.along inside) in omega (arith, within.1)) in
    let short : length line ≤ suc (length links) = length-le_from_distinct_below line (suc (length links)) q.distinct below in
    rw (q.first) (walk_along (suc (length links)) links i None line short q.along)

other_queue : (links new : List Link) (ends : List Ends) (i : ℕ) (end : Ends) (line : List ℕ) → AreQueues links ends → IsMoved links new ends i end line → (j : ℕ) → j ≢ i → IsQueue new (ends_at ends j) j (queue_at links ends j)
other_queue links new ends i end line are moved j ne =
    let was = are.each j in
    record {
      along = along_same links new j None None (queue_at links ends j) (λ y inside. moved.others j y ne (along_marked links j None None (queue_at links ends j) y was.along inside)) was.along;
      distinct = was.distinct;
      first = was.first;
      last = was.last;
    }

other_same : (links new : List Link) (ends : List Ends) (i : ℕ) (end : Ends) (line : List ℕ) → AreQueues links ends → IsMoved links new ends i end line → (j : ℕ) → j ≢ i → queue_from new (ends_at ends j) ≡ queue_from links (ends_at ends j)
other_same links new ends i end line are moved j ne = queue_is new (ends_at ends j) j (queue_at links ends j) (other_queue links new ends i end line are moved j ne)

map_agree : (f g : Ends → List ℕ) (ends : List Ends) → ((j : ℕ) → f (ends_at ends j) ≡ g (ends_at ends j)) → map f ends ≡ map g ends
map_agree f g [] h = refl
map_agree f g (e ∷ ends) h = rw (h 0, map_agree f g ends (λ j. h (suc j))) refl

set_agree : (f g : Ends → List ℕ) (ends : List Ends) (i : ℕ) (v : List ℕ) → ((j : ℕ) → j ≢ i → f (ends_at ends j) ≡ g (ends_at ends j)) → set (map f ends) i v ≡ set (map g ends) i v
set_agree f g [] i v h = refl
set_agree f g (e ∷ ends) zero v h = ap (λ l. v ∷ l) (map_agree f g ends (λ j. h (suc j) (omega arith)))
set_agree f g (e ∷ ends) (suc i) v h = rw (h 0 (omega arith), set_agree f g ends i v (λ j ne. h (suc j) (omega (arith, ne)))) refl

-- the queues are as before but for one
pub queues_moved : (links new : List Link) (ends : List Ends) (i : ℕ) (end : Ends) (line : List ℕ) → AreQueues links ends → IsMoved links new ends i end line → queues new (set ends i end) ≡ set (queues links ends) i line
queues_moved links new ends i end line are moved =
    map-set (queue_from new) ends i end
    ∙ ap (set (map (queue_from new) ends) i) (queue_is new end i line moved.own)
    ∙ set_agree (queue_from new) (queue_from links) ends i line (other_same links new ends i end line are moved)

pub are_moved : (links new : List Link) (ends : List Ends) (i : ℕ) (end : Ends) (line : List ℕ) → AreQueues links ends → IsMoved links new ends i end line → AreQueues new (set ends i end)
are_moved links new ends i end line are moved =
    let own : ends_at (set ends i end) i ≡ end = get_or-set_same ends i end no_ends moved.place in
    let is : queue_from new end ≡ line = queue_is new end i line moved.own in
    let here : IsQueue new (ends_at (set ends i end) i) i (queue_at new (set ends i end) i) =
    rw (own) (subst (λ l. IsQueue new end i l) (sym is) moved.own) in
    record {
      each = λ j. elim (cases_eq j i) as (λ _. IsQueue new (ends_at (set ends i end) j) j (queue_at new (set ends i end) j)) [
        | inl e ↦ subst (λ n. IsQueue new (ends_at (set ends i end) n) n (queue_at new (set ends i end) n)) (sym e) here
        | inr ne ↦ (let same : ends_at (set ends i end) j ≡ ends_at ends j = get_or-set_other ends i j end no_ends ne in
            rw (same) (subst (λ l. IsQueue new (ends_at ends j) j l) (sym (other_same links new ends i end line are moved j ne)) (other_queue links new ends i end line are moved j ne)))
      ];
      marked = λ y j h. elim (moved.marked y j h) as (λ _. is_in y (queue_at new (set ends i end) j) ≡ true) [
        | inl own_place ↦ rw (own_place.0, own, is) own_place.1
        | inr other ↦ (let same : ends_at (set ends i end) j ≡ ends_at ends j = get_or-set_other ends i j end no_ends other.0 in
            rw (same, other_same links new ends i end line are moved j other.0) (are.marked y j other.1))
      ];
      unmarked = moved.unmarked;
    }

-- ---- marks

mark_set : (links : List Link) (z : ℕ) (link : Link) (y : ℕ) → option_map place_of link.queue ≡ mark_of links z → mark_of (pool_set links z link) y ≡ mark_of links y
mark_set links zero link y e = refl
mark_set links (suc i) link zero e = refl
mark_set links (suc i) link (suc j) e =
    elim (cases_eq j i) as (λ _. mark_of (pool_set links (suc i) link) (suc j) ≡ mark_of links (suc j)) [
      | inr ne ↦ ap (λ (l : Link). option_map place_of l.queue) (get_or-set_other links i j link no_link ne)
      | inl same ↦ elim (le_or_gt (length links) i) as (λ _. mark_of (pool_set links (suc i) link) (suc j) ≡ mark_of links (suc j)) [
        | inl past ↦ ap (λ (ls : List Link). mark_of ls (suc j)) (set_past links i link past)
        | inr lt ↦ rw (same) (ap (λ (l : Link). option_map place_of l.queue) (get_or-set_same links i link no_link lt) ∙ e)
      ]
    ]

mark_next : (links : List Link) (o v : Option ℕ) (y : ℕ) → mark_of (with_next o v links) y ≡ mark_of links y
mark_next links None v y = refl
mark_next links (Some k) v y = mark_set links k (record (link_in links k) { next = v }) y refl

mark_previous : (links : List Link) (o v : Option ℕ) (y : ℕ) → mark_of (with_previous o v links) y ≡ mark_of links y
mark_previous links None v y = refl
mark_previous links (Some k) v y = mark_set links k (record (link_in links k) { previous = v }) y refl

-- ---- the ends of a list

last_append : (b : Option ℕ) (xs ys : List ℕ) → last_or b (xs ++ ys) ≡ last_or (last_or b xs) ys
last_append b [] ys = refl
last_append b (x ∷ xs) ys = last_append (Some x) xs ys

after_some : (x : ℕ) (xs : List ℕ) (f old : Option ℕ) → first_after (last_or (Some x) xs) f old ≡ old
after_some x [] f old = refl
after_some x (y ∷ xs) f old = after_some y xs f old

first_between : (xs ys : List ℕ) (k : ℕ) (old : Option ℕ) → old ≡ first_or None (xs ++ ys) → first_after (last_or None xs) (Some k) old ≡ first_or None (xs ++ k ∷ ys)
first_between [] ys k old e = refl
first_between (x ∷ xs) ys k old e = after_some x xs (Some k) old ∙ e

last_between : (xs ys : List ℕ) (k : ℕ) (old : Option ℕ) → old ≡ last_or None (xs ++ ys) → last_before (first_or None ys) (Some k) old ≡ last_or None (xs ++ k ∷ ys)
last_between xs [] k old e = sym (last_append None xs (k ∷ []))
last_between xs (y ∷ ys) k old e = e ∙ last_append None xs (y ∷ ys) ∙ sym (last_append None xs (k ∷ y ∷ ys))

first_without : (xs ys : List ℕ) (k : ℕ) (old : Option ℕ) → old ≡ first_or None (xs ++ k ∷ ys) → first_after (last_or None xs) (first_or None ys) old ≡ first_or None (xs ++ ys)
first_without [] ys k old e = refl
first_without (x ∷ xs) ys k old e = after_some x xs (first_or None ys) old ∙ e

last_without : (xs ys : List ℕ) (k : ℕ) (old : Option ℕ) → old ≡ last_or None (xs ++ k ∷ ys) → last_before (first_or None ys) (last_or None xs) old ≡ last_or None (xs ++ ys)
last_without xs [] k old e = sym (last_append None xs [])
last_without xs (y ∷ ys) k old e = e ∙ last_append None xs (k ∷ y ∷ ys) ∙ sym (last_append None xs (y ∷ ys))

distinct_between : (xs ys : List ℕ) (k : ℕ) → is_in k (xs ++ ys) ≡ false → IsDistinct nat_eq (xs ++ ys) → IsDistinct nat_eq (xs ++ k ∷ ys)
distinct_between [] ys k out d = distinct_head k ys d out
distinct_between (x ∷ xs) ys k out d =
    let head = head_out x (xs ++ ys) d in
    let parts = out_parts x xs ys head in
    let mine : is_in k (x ∷ xs ++ ys) ≡ false = out in
    let later : is_in k (xs ++ ys) ≡ false = not_true (is_in k (xs ++ ys)) (λ inside. (let there = in_later k x (xs ++ ys) inside in absurd (cc))) in
    let apart : is_in x (k ∷ ys) ≡ false = not_true (is_in x (k ∷ ys)) (λ inside. elim (in_head k x ys inside) as (λ _. ⊥) [
      | inl e ↦ (let there : is_in k (x ∷ xs ++ ys) ≡ true = rw e (in_here k (xs ++ ys)) in absurd (cc))
      | inr r ↦ absurd (cc)
    ]) in
    distinct_head x (xs ++ k ∷ ys) (distinct_between xs ys k later (IsDistinct-tail nat_eq x (xs ++ ys) d)) (out_join x xs (k ∷ ys) parts.0 apart)

distinct_without : (xs ys : List ℕ) (k : ℕ) → IsDistinct nat_eq (xs ++ k ∷ ys) → IsDistinct nat_eq (xs ++ ys)
distinct_without [] ys k d = IsDistinct-tail nat_eq k ys d
distinct_without (x ∷ xs) ys k d =
    let parts = out_parts x xs (k ∷ ys) (head_out x (xs ++ k ∷ ys) d) in
    let right : is_in x ys ≡ false = not_true (is_in x ys) (λ inside. (let there = in_later x k ys inside in absurd (cc))) in
    distinct_head x (xs ++ ys) (distinct_without xs ys k (IsDistinct-tail nat_eq x (xs ++ k ∷ ys) d)) (out_join x xs ys parts.0 right)

-- ---- a thread that comes between two others

far : (links : List Link) (o u v w : Option ℕ) (k y : ℕ) (link : Link) → o ≢ Some y → u ≢ Some y → y ≢ k → link_in (pool_set (with_previous u w (with_next o v links)) k link) y ≡ link_in links y
far links o u v w k y link ne_o ne_u nk = link_other (with_previous u w (with_next o v links)) k y link nk ∙ previous_other (with_next o v links) u w y ne_u ∙ next_other links o v y ne_o

marks : (links : List Link) (o u v w : Option ℕ) (k y : ℕ) (link : Link) → y ≢ k → mark_of (pool_set (with_previous u w (with_next o v links)) k link) y ≡ mark_of links y
marks links o u v w k y link nk =
    ap (λ (l : Link). option_map place_of l.queue) (link_other (with_previous u w (with_next o v links)) k y link nk) ∙ mark_previous (with_next o v links) u w y ∙ mark_next links o v y

length_both : (links : List Link) (o u v w : Option ℕ) → length (with_previous u w (with_next o v links)) ≡ length links
length_both links o u v w = length_previous (with_next o v links) u w ∙ length_next links o v

here : (links : List Link) (o u v w : Option ℕ) (k : ℕ) (link : Link) → 0 < k → k ≤ length links → link_in (pool_set (with_previous u w (with_next o v links)) k link) k ≡ link
here links o u v w k link pos le = link_same (with_previous u w (with_next o v links)) k link pos (rw (length_both links o u v w) le)

-- a thread with another queue's mark is not in the list
not_here : (links : List Link) (i j y : ℕ) (b a : Option ℕ) (line : List ℕ) → j ≢ i → mark_of links y ≡ Some j → IsAlong links i b a line → is_in y line ≡ false
not_here links i j y b a line ne mark along = not_true (is_in y line) (λ inside. (let own : mark_of links y ≡ Some i = along_marked links i b a line y along inside in let same : j ≡ i = cc in absurd (ne same)))

-- nor is one without a mark
unmarked_out : (links : List Link) (i y : ℕ) (line : List ℕ) → mark_of links y ≡ None → IsAlong links i None None line → is_in y line ≡ false
unmarked_out links i y line none along = not_true (is_in y line) (λ inside. (let own : mark_of links y ≡ Some i = along_marked links i None None line y along inside in absurd (cc)))

between_along : (links : List Link) (i k : ℕ) (link : Link) (xs ys : List ℕ) → 0 < k → k ≤ length links → is_in k (xs ++ ys) ≡ false → link.previous ≡ last_or None xs → link.next ≡ first_or None ys → option_map place_of link.queue ≡ Some i
    → IsDistinct nat_eq (xs ++ ys) → IsAlong links i None None (xs ++ ys) → IsAlong (linked_between k link links) i None None (xs ++ k ∷ ys)
between_along links i k link xs ys pos le out before after mark d h =
    let one = with_next (last_or None xs) (Some k) links in
    let two = with_previous (first_or None ys) (Some k) one in
    let new = pool_set two k link in
    let outs = out_parts k xs ys out in
    let not_k : (y : ℕ) (zs : List ℕ) → is_in k zs ≡ false → is_in y zs ≡ true → y ≢ k = λ y zs o inside. out_of y k zs o inside in
    let left_one : IsAlong one i None (Some k) xs = along_ends links i (first_or None ys) (Some k) xs (distinct_left xs ys d) (along_left links i None None xs ys h) in
    let left : IsAlong new i None (Some k) xs =
    along_same one new i None (Some k) xs (λ y inside.
    link_other two k y link (not_k y xs outs.0 inside)
    ∙ previous_other one (first_or None ys) (Some k) y (first_out ys y (not_true (is_in y ys) (λ also. apart y y xs ys d inside also refl)))) left_one in
    let right_links : IsAlong links i (last_or None xs) None ys = along_right links i None None xs ys h in
    let right_one : IsAlong one i (last_or None xs) None ys =
    along_same links one i (last_or None xs) None ys (λ y inside. next_other links (last_or None xs) (Some k) y (last_out xs y (not_true (is_in y xs) (λ also. apart y y xs ys d also inside refl)))) right_links in
    let right_two : IsAlong two i (Some k) None ys = along_starts one i (last_or None xs) None (Some k) ys (distinct_right xs ys d) right_one in
    let right : IsAlong new i (Some k) None ys = along_same two new i (Some k) None ys (λ y inside. link_other two k y link (not_k y ys outs.1 inside)) right_two in
    let own : link_in new k ≡ link = here links (last_or None xs) (first_or None ys) (Some k) (Some k) k link pos le in
    let mid : IsLink new i (last_or None xs) (first_or None ys) k =
    record { previous = ap (λ (l : Link). l.previous) own ∙ before; next = ap (λ (l : Link). l.next) own ∙ after; queue = ap (λ (l : Link). option_map place_of l.queue) own ∙ mark } in
    let all : IsAlong new i None None (xs ++ k ∷ ys) = along_join new i None None xs (k ∷ ys) left (mid, right) in
    subst (λ o. IsAlong (pool_set (with_previous link.next (Some k) (with_next o (Some k) links)) k link) i None None (xs ++ k ∷ ys)) (sym before)
    (subst (λ u. IsAlong (pool_set (with_previous u (Some k) one) k link) i None None (xs ++ k ∷ ys)) (sym after) all)

pub between : (links : List Link) (ends : List Ends) (i k : ℕ) (link : Link) (xs ys : List ℕ) → AreQueues links ends → i < length ends → 0 < k → k ≤ length links → mark_of links k ≡ None
    → queue_at links ends i ≡ xs ++ ys → link.previous ≡ last_or None xs → link.next ≡ first_or None ys → option_map place_of link.queue ≡ Some i
    → IsMoved links (linked_between k link links) ends i (end_between link.previous k link.next (ends_at ends i)) (xs ++ k ∷ ys)
between links ends i k link xs ys are lt pos le free line before after mark =
    let was : IsQueue links (ends_at ends i) i (xs ++ ys) = subst (λ l. IsQueue links (ends_at ends i) i l) line (are.each i) in
    let out : is_in k (xs ++ ys) ≡ false = not_true (is_in k (xs ++ ys)) (λ inside. (let own : mark_of links k ≡ Some i = along_marked links i None None (xs ++ ys) k was.along inside in absurd (cc))) in
    record {
      place = lt;
      own = record {
        along = between_along links i k link xs ys pos le out before after mark was.distinct was.along;
        distinct = distinct_between xs ys k out was.distinct;
        first = rw (before) (first_between xs ys k (ends_at ends i).first was.first);
        last = rw (after) (last_between xs ys k (ends_at ends i).last was.last);
      };
      others = λ j y ne marked.
          (let parts = out_parts y xs ys (not_here links i j y None None (xs ++ ys) ne marked was.along) in
          let apart : y ≢ k = λ e. (let none : mark_of links y ≡ None = rw e free in absurd (cc)) in
          far links link.previous link.next (Some k) (Some k) k y link (rw before (last_out xs y parts.0)) (rw after (first_out ys y parts.1)) apart);
      marked = λ y j h. elim (cases_eq y k) as (λ _. ((j ≡ i) × (is_in y (xs ++ k ∷ ys) ≡ true)) ⊎ ((j ≢ i) × (mark_of links y ≡ Some j))) [
        | inl e ↦ (let own : link_in (linked_between k link links) k ≡ link = here links link.previous link.next (Some k) (Some k) k link pos le in
            let is_i : mark_of (linked_between k link links) y ≡ Some i = rw e (ap (λ (l : Link). option_map place_of l.queue) own ∙ mark) in
            let same : j ≡ i = cc in
            inl (same, rw e (in_right k xs (k ∷ ys) (in_here k ys))))
        | inr ne ↦ (let was_j : mark_of links y ≡ Some j = sym (marks links link.previous link.next (Some k) (Some k) k y link ne) ∙ h in
            elim (cases_eq j i) as (λ _. ((j ≡ i) × (is_in y (xs ++ k ∷ ys) ≡ true)) ⊎ ((j ≢ i) × (mark_of links y ≡ Some j))) [
              | inr other ↦ inr (other, was_j)
              | inl same ↦ (let there : is_in y (xs ++ ys) ≡ true = subst (λ l. is_in y l ≡ true) line (are.marked y i (was_j ∙ ap Some same)) in
                  inl (same, elim (in_parts y xs ys there) as (λ _. is_in y (xs ++ k ∷ ys) ≡ true) [ inl l ↦ in_left y xs (k ∷ ys) l | inr r ↦ in_right y xs (k ∷ ys) (in_later y k ys r) ]))
            ])
      ];
      unmarked = λ y h. elim (cases_eq y k) as (λ _. link_in (linked_between k link links) y ≡ no_link) [
        | inl e ↦ (let own : link_in (linked_between k link links) k ≡ link = here links link.previous link.next (Some k) (Some k) k link pos le in
            let is_i : mark_of (linked_between k link links) y ≡ Some i = rw e (ap (λ (l : Link). option_map place_of l.queue) own ∙ mark) in
            absurd (cc))
        | inr ne ↦ (let none : mark_of links y ≡ None = sym (marks links link.previous link.next (Some k) (Some k) k y link ne) ∙ h in
            let parts = out_parts y xs ys (unmarked_out links i y (xs ++ ys) none was.along) in
            far links link.previous link.next (Some k) (Some k) k y link (rw before (last_out xs y parts.0)) (rw after (first_out ys y parts.1)) ne ∙ are.unmarked y none)
      ];
    }

-- ---- a thread that goes

taken_along : (links : List Link) (i k : ℕ) (link : Link) (xs ys : List ℕ) → is_in k (xs ++ ys) ≡ false → link.previous ≡ last_or None xs → link.next ≡ first_or None ys
    → IsDistinct nat_eq (xs ++ ys) → IsAlong links i None (Some k) xs → IsAlong links i (Some k) None ys → IsAlong (unlinked k link links) i None None (xs ++ ys)
taken_along links i k link xs ys out before after d lefts rights =
    let one = with_next (last_or None xs) (first_or None ys) links in
    let two = with_previous (first_or None ys) (last_or None xs) one in
    let new = pool_set two k no_link in
    let outs = out_parts k xs ys out in
    let left_one : IsAlong one i None (first_or None ys) xs = along_ends links i (Some k) (first_or None ys) xs (distinct_left xs ys d) lefts in
    let left : IsAlong new i None (first_or None ys) xs =
    along_same one new i None (first_or None ys) xs (λ y inside.
    link_other two k y no_link (out_of y k xs outs.0 inside)
    ∙ previous_other one (first_or None ys) (last_or None xs) y (first_out ys y (not_true (is_in y ys) (λ also. apart y y xs ys d inside also refl)))) left_one in
    let right_one : IsAlong one i (Some k) None ys =
    along_same links one i (Some k) None ys (λ y inside. next_other links (last_or None xs) (first_or None ys) y (last_out xs y (not_true (is_in y xs) (λ also. apart y y xs ys d also inside refl)))) rights in
    let right_two : IsAlong two i (last_or None xs) None ys = along_starts one i (Some k) None (last_or None xs) ys (distinct_right xs ys d) right_one in
    let right : IsAlong new i (last_or None xs) None ys = along_same two new i (last_or None xs) None ys (λ y inside. link_other two k y no_link (out_of y k ys outs.1 inside)) right_two in
    let all : IsAlong new i None None (xs ++ ys) = along_join new i None None xs ys left right in
    rw (before, after) all

pub out_middle : (xs ys : List ℕ) (k : ℕ) → IsDistinct nat_eq (xs ++ k ∷ ys) → is_in k (xs ++ ys) ≡ false
out_middle xs ys k d =
    out_join k xs ys (not_true (is_in k xs) (λ inside. apart k k xs (k ∷ ys) d inside (in_here k ys) refl)) (head_out k ys (distinct_right xs (k ∷ ys) d))

pub taken : (links : List Link) (ends : List Ends) (i k : ℕ) (link : Link) (xs ys : List ℕ) → AreQueues links ends → i < length ends → link ≡ link_in links k → mark_of links k ≡ Some i
    → queue_at links ends i ≡ xs ++ k ∷ ys → IsMoved links (unlinked k link links) ends i (end_without link.previous link.next (ends_at ends i)) (xs ++ ys)
taken links ends i k link xs ys are lt is mark line =
    let was : IsQueue links (ends_at ends i) i (xs ++ k ∷ ys) = subst (λ l. IsQueue links (ends_at ends i) i l) line (are.each i) in
    let within = marked_within links k i mark in
    let out : is_in k (xs ++ ys) ≡ false = out_middle xs ys k was.distinct in
    let lefts : IsAlong links i None (Some k) xs = along_left links i None None xs (k ∷ ys) was.along in
    let middle : IsAlong links i (last_or None xs) None (k ∷ ys) = along_right links i None None xs (k ∷ ys) was.along in
    let before : link.previous ≡ last_or None xs = ap (λ (l : Link). l.previous) is ∙ middle.0.previous in
    let after : link.next ≡ first_or None ys = ap (λ (l : Link). l.next) is ∙ middle.0.next in
    record {
      place = lt;
      own = record {
        along = taken_along links i k link xs ys out before after (distinct_without xs ys k was.distinct) lefts middle.1;
        distinct = distinct_without xs ys k was.distinct;
        first = rw (before, after) (first_without xs ys k (ends_at ends i).first was.first);
        last = rw (before, after) (last_without xs ys k (ends_at ends i).last was.last);
      };
      others = λ j y ne marked.
          (let parts = out_parts y xs (k ∷ ys) (not_here links i j y None None (xs ++ k ∷ ys) ne marked was.along) in
          let apart : y ≢ k = λ e. (let mine : mark_of links y ≡ Some i = rw e mark in let same : j ≡ i = cc in absurd (ne same)) in
          let right : is_in y ys ≡ false = not_true (is_in y ys) (λ inside. (let there = in_later y k ys inside in absurd (cc))) in
          far links link.previous link.next link.next link.previous k y no_link (rw before (last_out xs y parts.0)) (rw after (first_out ys y right)) apart);
      marked = λ y j h. elim (cases_eq y k) as (λ _. ((j ≡ i) × (is_in y (xs ++ ys) ≡ true)) ⊎ ((j ≢ i) × (mark_of links y ≡ Some j))) [
        | inl e ↦ (let own : link_in (unlinked k link links) k ≡ no_link = here links link.previous link.next link.next link.previous k no_link within.0 within.1 in
            let none : mark_of (unlinked k link links) y ≡ None = rw e (ap (λ (l : Link). option_map place_of l.queue) own) in absurd (cc))
        | inr ne ↦ (let was_j : mark_of links y ≡ Some j = sym (marks links link.previous link.next link.next link.previous k y no_link ne) ∙ h in
            elim (cases_eq j i) as (λ _. ((j ≡ i) × (is_in y (xs ++ ys) ≡ true)) ⊎ ((j ≢ i) × (mark_of links y ≡ Some j))) [
              | inr other ↦ inr (other, was_j)
              | inl same ↦ (let there : is_in y (xs ++ k ∷ ys) ≡ true = subst (λ l. is_in y l ≡ true) line (are.marked y i (was_j ∙ ap Some same)) in
                  inl (
                    same,
                    elim (in_parts y xs (k ∷ ys) there) as (λ _. is_in y (xs ++ ys) ≡ true) [
                      | inl l ↦ in_left y xs ys l
                      | inr r ↦ elim (in_head k y ys r) as (λ _. is_in y (xs ++ ys) ≡ true) [ inl e ↦ absurd (ne e) | inr s ↦ in_right y xs ys s ]
                    ],
                  ))
            ])
      ];
      unmarked = λ y h. elim (cases_eq y k) as (λ _. link_in (unlinked k link links) y ≡ no_link) [
        | inl e ↦ rw e (here links link.previous link.next link.next link.previous k no_link within.0 within.1)
        | inr ne ↦ (let none : mark_of links y ≡ None = sym (marks links link.previous link.next link.next link.previous k y no_link ne) ∙ h in
            let parts = out_parts y xs (k ∷ ys) (unmarked_out links i y (xs ++ k ∷ ys) none was.along) in
            let right : is_in y ys ≡ false = not_true (is_in y ys) (λ inside. (let there = in_later y k ys inside in absurd (cc))) in
            far links link.previous link.next link.next link.previous k y no_link (rw before (last_out xs y parts.0)) (rw after (first_out ys y right)) ne ∙ are.unmarked y none)
      ];
    }
