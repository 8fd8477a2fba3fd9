-- What each call makes of the line, told by the queues' lists.
use Rattle.std.proofs.Common.{◌≡◌, ℕ, zero, suc, ◌-◌, ◌<◌, ◌≤◌, List, [], ◌∷◌, ◌++◌, length, drop, true, false, refl, sym, ◌∙◌, ap, subst, arith, ◌⊎◌, inl, inr, take}
use Rattle.std.specs.Prelude.{ℤ, ◌<ℤ◌, int_lt, ◌==◌, ◌||◌, Bool, find, filter, is_some, option_map, Option, Some, None}
use Rattle.std.proofs.Math.ListN.{set, get_or-map}
use Rattle.std.proofs.lemmas.Bool.{cases_eq, cases_Bool, eq-eqb, ne_eqb}
use Rattle.std.proofs.lemmas.List.{get_or-set_same, length-map, length-set, get_or_past, take-set-le, drop-set-lt}
use Rattle.std.proofs.Math.Seq.{take-set-lt}
use Rattle.ptk_words.specs.Pools.{is_in, without, pool_set, numbers_to}
use Rattle.ptk_words.specs.Parts.{part_of}
use Rattle.ptk_threads.specs.Table.{stored_of}
use Rattle.ptk_threads.specs.Queues.{IsUnqueued, with_last, with_first, with_before, with_none}
use Rattle.ptk_threads.proofs.Linked.{inserted_all, taken_all}
use Rattle.ptk_threads.specs.declared.link.Link.{Link}
use Rattle.ptk_threads.specs.declared.link.Ends.{Ends}
use Rattle.ptk_threads.specs.declared.link.QueueName.{QueueName}
use Rattle.ptk_threads.specs.declared.link.QueueName.TheVariants.{Ready}
use Rattle.ptk_threads.specs.Links.{place_of, mark_of, link_in, no_ends, no_link, ends_at, first_after, queue_from, queue_at, queues, with_next, with_previous, AreQueues}
use Rattle.ptk_threads.specs.LinkChanges.{put_before, linked_between, end_between, unlinked, end_without}
use Rattle.ptk_threads.proofs.Along.{not_true, le_or_gt, link_same, length_next, length_previous, along_marked, marked_within}
use Rattle.ptk_threads.proofs.Lists.{AreTurned, list_at, appended, prepended, inserted, unqueued_mark}
use Rattle.ptk_threads.proofs.Lists.{went as left_links}
use Rattle.ptk_ready.specs.declared.stamps.StampRange.{StampRange}
use Rattle.ptk_ready.specs.Bits.{has_bit, IsBitChanged}
use Rattle.ptk_ready.specs.Orders.{in_order, placed}
use Rattle.ptk_ready.specs.Entries.{IsInRange, is_ready, stamp_of, entries, has_any, AreStamps, IsSound}
use Rattle.ptk_ready.specs.Lines.{line_of, with_refiled, IsFiled}
use Rattle.ptk_ready.proofs.Orders.{no_less, less_test, same_test}
use Rattle.ptk_ready.proofs.Ready.{in_entries, ready_mark, marked_ready}
use Rattle.ptk_ready.specs.Laws.{filter_agree, filed_take, line_take, list_take}
use Rattle.ptk_ready.proofs.Kept.{sound_kept, went}
use Rattle.ptk_ready.proofs.Firsts.{any_member}
use Rattle.ptk_ready.proofs.Filed.{found_passes, placed_end, placed_before}
use Rattle.ptk_ready.proofs.Lists.{line_same, filed_line, sound_line}
use Rattle.ptk_ready.proofs.Moves.{IsDone, done, any_first, pushed_tail, pushed_head, refiled, taken_free}

-- the queues with these lists are filed, the line is this list, and those of waiters are as before
pub record IsListed (limit : ℕ) (range : StampRange) (was lists : List (List ℕ)) (stored : List ℕ) (stamps : List ℤ) (bitmap : ℕ) (xs : List ℕ) : Type 0 where
  pub sound : IsFiled limit range lists stored stamps bitmap
  pub line : line_of lists stamps ≡ xs
  pub waiters : drop 32 lists ≡ drop 32 was

pub drop_agree : (n : ℕ) (xs ys : List (List ℕ)) → length xs ≡ length ys → ((i : ℕ) → n ≤ i → part_of xs i ≡ part_of ys i) → drop n xs ≡ drop n ys
drop_agree n [] [] long h = refl
drop_agree n [] (y ∷ ys) long h = absurd (omega (arith, long))
drop_agree n (x ∷ xs) [] long h = absurd (omega (arith, long))
drop_agree zero (x ∷ xs) (y ∷ ys) long h =
    ap (λ l. l ∷ xs) (h 0 (omega arith)) ∙ ap (λ l. y ∷ l) (drop_agree zero xs ys (omega (arith, long)) (λ i le. h (suc i) (omega arith)))
drop_agree (suc n) (x ∷ xs) (y ∷ ys) long h = drop_agree n xs ys (omega (arith, long)) (λ i le. h (suc i) (omega (arith, le)))

as_lists : (limit : ℕ) (range : StampRange) (links new : List Link) (ends late : List Ends) (stored : List ℕ) (stamps : List ℤ) (bitmap : ℕ) (xs ys : List ℕ) (lists : List (List ℕ)) → length new ≤ 32 → length late ≡ length ends → queues new late ≡ lists → xs ≡ ys
    → IsDone limit range links new ends late stored stamps bitmap xs → IsListed limit range (queues links ends) lists stored stamps bitmap ys
as_lists limit range links new ends late stored stamps bitmap xs ys lists few wide e same is =
    subst (λ l. IsListed limit range (queues links ends) l stored stamps bitmap ys) e (record {
      sound = filed_line limit range new late stored stamps bitmap few is.sound;
      line = sym (line_same new late stamps is.sound.queues few) ∙ (is.line ∙ same);
      waiters = drop_agree 32 (queues new late) (queues links ends) (length-map late (queue_from new) ∙ (wide ∙ sym (length-map ends (queue_from links))))
          (λ i far. list_at new late i ∙ (is.waiters i far ∙ sym (list_at links ends i)));
    })

-- ---- as many links as before

pool_long : (links : List Link) (k : ℕ) (link : Link) → length (pool_set links k link) ≡ length links
pool_long links zero link = refl
pool_long links (suc i) link = length-set links i link

both_long : (links : List Link) (o u v w : Option ℕ) (k : ℕ) (link : Link) → length (pool_set (with_previous u w (with_next o v links)) k link) ≡ length links
both_long links o u v w k link = pool_long (with_previous u w (with_next o v links)) k link ∙ (length_previous (with_next o v links) u w ∙ length_next links o v)

-- ---- a thread is pushed

pushed_free : (limit : ℕ) (was range : StampRange) (links : List Link) (ends : List Ends) (stored : List ℕ) (stamps mid anew : List ℤ) (bitmap bits k i : ℕ) (stamp : ℤ) (name : QueueName)
    → AreQueues links ends → length links ≤ 32 → IsFiled limit was (queues links ends) stored stamps bitmap → AreStamps limit range links mid → entries links mid ≡ entries links stamps
    → mark_of links k ≡ None → 0 < k → k ≤ length links → length mid ≡ 32 → anew ≡ set mid (k - 1) stamp → stored_of stored k ≡ suc i → i < 32 → place_of name ≡ i
    → ((j : ℕ) → is_ready links j ≡ true → stamp_of mid j <ℤ stamp) → IsInRange range stamp → length ends ≡ 128 → IsBitChanged bitmap bits i true
    → IsListed limit range (queues links ends) (with_last name k (queues links ends)) stored anew bits (line_of (queues links ends) stamps ++ k ∷ [])
pushed_free limit was range links ends stored stamps mid anew bitmap bits k i stamp name queued few filed are line none some within long made level low place last bounds wide bit =
    let end = ends_at ends i in
    let link : Link = record { previous = end.last; next = None; queue = Some name } in
    let new = linked_between k link links in
    let late = set ends i (end_between end.last k None end) in
    let turned : AreTurned links new ends late i (part_of (queues links ends) i ++ k ∷ []) =
    appended links new ends late i k name end queued (omega (arith, low, wide)) some within none place refl refl refl in
    as_lists limit range links new ends late stored anew bits (entries links stamps ++ k ∷ []) (line_of (queues links ends) stamps ++ k ∷ []) (with_last name k (queues links ends))
    (omega (arith, few, both_long links end.last None (Some k) (Some k) k link))
    (length-set ends i _) (turned.lists ∙ ap (λ j. set (queues links ends) j (part_of (queues links ends) j ++ k ∷ [])) (sym place))
    (ap (λ l. l ++ k ∷ []) (line_same links ends stamps queued few))
    (pushed_tail limit was range links new ends late stored stamps mid anew bitmap bits k i stamp (sound_line limit was links ends stored stamps bitmap queued few filed) are line
    none some (omega (arith, few, within)) long made level low last bounds wide turned.sound turned.lists bit)

record IsNamed (o : Option QueueName) (i : ℕ) : Type 0 where
  name : QueueName
  is : o ≡ Some name
  place : place_of name ≡ i

named : (o : Option QueueName) (i : ℕ) → option_map place_of o ≡ Some i → IsNamed o i
named None i h = absurd (cc)
named (Some name) i h = record { name = name; is = refl; place = cc }

abbrev gone_links : ℕ → List Link → List Link
gone_links k links = unlinked k (link_in links k) links

abbrev gone_ends : ℕ → ℕ → List Link → List Ends → List Ends
gone_ends k i links ends = set ends i (end_without (link_in links k).previous (link_in links k).next (ends_at ends i))

one_or_none : (o : Option ℕ) → (o ≡ None) ⊎ ((w : ℕ) × (o ≡ Some w))
one_or_none None = inl refl
one_or_none (Some w) = inr (w, refl)

-- the ready threads are those of the queues of ready threads, whatever the links
ready_there : (links new : List Link) (ends late : List Ends) (j : ℕ) → AreQueues links ends → AreQueues new late → ((i : ℕ) → i < 32 → queue_at new late i ≡ queue_at links ends i) → is_ready links j ≡ true → is_ready new j ≡ true
ready_there links new ends late j are sound same ready =
    let at = ready_mark links j ready in
    let inside : is_in j (queue_at new late at.place) ≡ true = subst (λ l. is_in j l ≡ true) (sym (same at.place at.low)) (are.marked j at.place at.mark) in
    marked_ready new j at.place at.low (along_marked new at.place None None (queue_at new late at.place) j (sound.each at.place).along inside)

ready_same : (links new : List Link) (ends late : List Ends) → AreQueues links ends → AreQueues new late → ((i : ℕ) → i < 32 → queue_at new late i ≡ queue_at links ends i) → (j : ℕ) → is_ready new j ≡ is_ready links j
ready_same links new ends late are sound same j = same_test (is_ready new j) (is_ready links j) (ready_there new links late ends j sound are (λ i lt. sym (same i lt))) (ready_there links new ends late j are sound same)

entries_same : (links new : List Link) (stamps : List ℤ) → length new ≡ length links → ((j : ℕ) → is_ready new j ≡ is_ready links j) → entries new stamps ≡ entries links stamps
entries_same links new stamps long ready =
    ap (λ n. in_order (stamp_of stamps) (filter (is_ready new) (numbers_to n))) long
    ∙ ap (in_order (stamp_of stamps)) (filter_agree (is_ready new) (is_ready links) (numbers_to (length links)) (λ j inside. ready j))

-- the queues of ready threads with k as the last of one
pub last_take : (name : QueueName) (k : ℕ) (a b : List (List ℕ)) → place_of name < 32 → take 32 a ≡ take 32 b → take 32 (with_last name k a) ≡ take 32 (with_last name k b)
last_take name k a b low same =
    let i = place_of name in
    take-set-lt 32 a i (part_of a i ++ k ∷ []) low
    ∙ (ap (λ l. set l i (part_of a i ++ k ∷ [])) same
    ∙ (ap (λ q. set (take 32 b) i (q ++ k ∷ [])) (sym (list_take a b i same low)) ∙ sym (take-set-lt 32 b i (part_of b i ++ k ∷ []) low)))

pushed_away : (limit : ℕ) (was range : StampRange) (links : List Link) (ends : List Ends) (stored : List ℕ) (stamps mid anew : List ℤ) (bitmap bits k i w : ℕ) (stamp : ℤ) (name : QueueName)
    → AreQueues links ends → length links ≤ 32 → IsFiled limit was (queues links ends) stored stamps bitmap → AreStamps limit range links mid → entries links mid ≡ entries links stamps
    → mark_of links k ≡ Some w → 32 ≤ w → w < length ends → 0 < k → k ≤ length links → length mid ≡ 32 → anew ≡ set mid (k - 1) stamp → stored_of stored k ≡ suc i → i < 32 → place_of name ≡ i
    → ((j : ℕ) → is_ready links j ≡ true → stamp_of mid j <ℤ stamp) → IsInRange range stamp → length ends ≡ 128 → IsBitChanged bitmap bits i true
    → IsListed limit range (queues links ends) (with_last name k (queues links ends)) stored anew bits (line_of (queues links ends) stamps ++ k ∷ [])
pushed_away limit was range links ends stored stamps mid anew bitmap bits k i w stamp name queued few filed are line mark far lt some within long made level low place last bounds wide bit =
    let lists = queues links ends in
    let link = link_in links k in
    let at = named link.queue w mark in
    let new = gone_links k links in
    let late = gone_ends k w links ends in
    let turned : AreTurned links new ends late w (without k (part_of lists w)) = left_links links new ends late w k at.name link queued lt at.place refl at.is refl refl in
    let fewer : take 32 (queues new late) ≡ take 32 lists = ap (take 32) turned.lists ∙ take-set-le 32 lists w (without k (part_of lists w)) far in
    let same : (j : ℕ) → j < 32 → queue_at new late j ≡ queue_at links ends j = λ j less. sym (list_at new late j) ∙ (list_take lists (queues new late) j (sym fewer) less ∙ list_at links ends j) in
    let ready = ready_same links new ends late queued turned.sound same in
    let count : length new ≡ length links = both_long links link.previous link.next link.next link.previous k no_link in
    let none : mark_of new k ≡ None =
    ap (λ (l : Link). option_map place_of l.queue)
    (link_same (with_previous link.next link.previous (with_next link.previous link.next links)) k no_link some
    (omega (arith, within, length_previous (with_next link.previous link.next links) link.next link.previous, length_next links link.previous link.next))) in
    let stays : (st : List ℤ) → entries new st ≡ entries links st = λ st. entries_same links new st count ready in
    let low' : place_of name < 32 = omega (arith, low, place) in
    let agree : take 32 (with_last name k (queues new late)) ≡ take 32 (with_last name k lists) = last_take name k (queues new late) lists low' fewer in
    let pushed = pushed_free limit was range new late stored stamps mid anew bitmap bits k i stamp name turned.sound (omega (arith, few, count))
    (filed_take limit was lists (queues new late) stored stored stamps bitmap (sym fewer) (λ j inside. refl) filed)
    (record { apart = λ j q x y. are.apart j q (sym (ready j) ∙ x) (sym (ready q) ∙ y); within = λ j x. are.within j (sym (ready j) ∙ x); limits = are.limits })
    (stays mid ∙ (line ∙ sym (stays stamps))) none some (omega (arith, within, count)) long made level low place (λ j x. last j (sym (ready j) ∙ x)) bounds (length-set ends w _ ∙ wide) bit in
    record {
      sound = filed_take limit range (with_last name k (queues new late)) (with_last name k lists) stored stored anew bits agree (λ j inside. refl) pushed.sound;
      line = line_take (with_last name k lists) (with_last name k (queues new late)) anew (sym agree) ∙ (pushed.line ∙ ap (λ l. l ++ k ∷ []) (line_take (queues new late) lists stamps fewer));
      waiters = drop-set-lt 32 lists (place_of name) (part_of lists (place_of name) ++ k ∷ []) low';
    }

-- the place of a thread that is in no queue of ready threads
away_place : (links : List Link) (ends : List Ends) (k w : ℕ) → AreQueues links ends → ((i : ℕ) → i < 32 → is_in k (part_of (queues links ends) i) ≡ false) → mark_of links k ≡ Some w → (32 ≤ w) × (w < length ends)
away_place links ends k w are apart mark =
    let inside : is_in k (part_of (queues links ends) w) ≡ true = subst (λ l. is_in k l ≡ true) (sym (list_at links ends w)) (are.marked k w mark) in (
      elim (le_or_gt 32 w) as (λ _. 32 ≤ w) [ inl le ↦ le | inr gt ↦ (let out = apart w gt in absurd (cc)) ],
      elim (le_or_gt (length ends) w) as (λ _. w < length ends) [
        | inl past ↦ (let none : part_of (queues links ends) w ≡ [] = get_or_past (queues links ends) w [] (omega (arith, past, length-map ends (queue_from links))) in
            let no : true ≡ false = sym inside ∙ ap (is_in k) none in absurd (cc))
        | inr lt ↦ lt
      ],
    )

pub pushed_last : (limit : ℕ) (was range : StampRange) (links : List Link) (ends : List Ends) (stored : List ℕ) (stamps mid anew : List ℤ) (bitmap bits k i : ℕ) (stamp : ℤ) (name : QueueName)
    → AreQueues links ends → length links ≤ 32 → IsFiled limit was (queues links ends) stored stamps bitmap → AreStamps limit range links mid → entries links mid ≡ entries links stamps
    → ((j : ℕ) → j < 32 → is_in k (part_of (queues links ends) j) ≡ false) → 0 < k → k ≤ length links → length mid ≡ 32 → anew ≡ set mid (k - 1) stamp → stored_of stored k ≡ suc i → i < 32 → place_of name ≡ i
    → ((j : ℕ) → is_ready links j ≡ true → stamp_of mid j <ℤ stamp) → IsInRange range stamp → length ends ≡ 128 → IsBitChanged bitmap bits i true
    → IsListed limit range (queues links ends) (with_last name k (queues links ends)) stored anew bits (line_of (queues links ends) stamps ++ k ∷ [])
pushed_last limit was range links ends stored stamps mid anew bitmap bits k i stamp name queued few filed are line apart some within long made level low place last bounds wide bit =
    elim (one_or_none (mark_of links k)) as (λ _. IsListed limit range (queues links ends) (with_last name k (queues links ends)) stored anew bits (line_of (queues links ends) stamps ++ k ∷ [])) [
      | inl none ↦ pushed_free limit was range links ends stored stamps mid anew bitmap bits k i stamp name queued few filed are line none some within long made level low place last bounds wide bit
      | inr one ↦ (let there = away_place links ends k one.0 queued apart one.1 in
          pushed_away limit was range links ends stored stamps mid anew bitmap bits k i one.0 stamp name queued few filed are line one.1 there.0 there.1 some within long made level low place last bounds wide bit)
    ]

pub pushed_first : (limit : ℕ) (was range : StampRange) (links : List Link) (ends : List Ends) (stored : List ℕ) (stamps mid anew : List ℤ) (bitmap bits k i : ℕ) (stamp : ℤ) (name : QueueName)
    → AreQueues links ends → length links ≤ 32 → IsFiled limit was (queues links ends) stored stamps bitmap → AreStamps limit range links mid → entries links mid ≡ entries links stamps
    → IsUnqueued k (queues links ends) → 0 < k → k ≤ length links → length mid ≡ 32 → anew ≡ set mid (k - 1) stamp → stored_of stored k ≡ suc i → i < 32 → place_of name ≡ i
    → ((j : ℕ) → is_ready links j ≡ true → stamp <ℤ stamp_of mid j) → IsInRange range stamp → length ends ≡ 128 → IsBitChanged bitmap bits i true
    → IsListed limit range (queues links ends) (with_first name k (queues links ends)) stored anew bits (k ∷ line_of (queues links ends) stamps)
pushed_first limit was range links ends stored stamps mid anew bitmap bits k i stamp name queued few filed are line free some within long made level low place first bounds wide bit =
    let end = ends_at ends i in
    let link : Link = record { previous = None; next = end.first; queue = Some name } in
    let new = linked_between k link links in
    let late = set ends i (end_between None k end.first end) in
    let none = unqueued_mark links ends k queued free in
    let turned : AreTurned links new ends late i (k ∷ part_of (queues links ends) i) =
    prepended links new ends late i k name end queued (omega (arith, low, wide)) some within none place refl refl refl in
    as_lists limit range links new ends late stored anew bits (k ∷ entries links stamps) (k ∷ line_of (queues links ends) stamps) (with_first name k (queues links ends))
    (omega (arith, few, both_long links None end.first (Some k) (Some k) k link))
    (length-set ends i _) (turned.lists ∙ ap (λ j. set (queues links ends) j (k ∷ part_of (queues links ends) j)) (sym place))
    (ap (λ l. k ∷ l) (line_same links ends stamps queued few))
    (pushed_head limit was range links new ends late stored stamps mid anew bitmap bits k i stamp (sound_line limit was links ends stored stamps bitmap queued few filed) are line
    none some (omega (arith, few, within)) long made level low first bounds wide turned.sound turned.lists bit)

-- ---- a thread leaves

some_left : (p n f : Option ℕ) → is_some f ≡ true → is_some (first_after p n f) ≡ (is_some p || is_some n)
some_left None n f h = refl
some_left (Some p) n f h = h

-- the links once k is gone, which lies in queue i
record IsGone (limit : ℕ) (range : StampRange) (links new : List Link) (ends late : List Ends) (stored : List ℕ) (stamps : List ℤ) (bits k : ℕ) : Type 0 where
  done : IsDone limit range links new ends late stored stamps bits (without k (entries links stamps))
  lists : queues new late ≡ with_none k (queues links ends)
  few : length new ≡ length links
  wide : length late ≡ length ends

gone : (limit : ℕ) (range : StampRange) (links : List Link) (ends : List Ends) (stored : List ℕ) (stamps : List ℤ) (bitmap bits k i : ℕ) → IsSound limit range links ends stored stamps bitmap → length ends ≡ 128
    → i < 32 → mark_of links k ≡ Some i → IsBitChanged bitmap bits i (is_some (link_in links k).previous || is_some (link_in links k).next)
    → IsGone limit range links (gone_links k links) ends (gone_ends k i links ends) stored stamps bits k
gone limit range links ends stored stamps bitmap bits k i sound wide low mark bit =
    let are = sound.queues in
    let lt : i < length ends = omega (arith, low, wide) in
    let link = link_in links k in
    let at = named link.queue i mark in
    let end = end_without link.previous link.next (ends_at ends i) in
    let new = unlinked k link links in
    let late = set ends i end in
    let turned : AreTurned links new ends late i (without k (part_of (queues links ends) i)) = left_links links new ends late i k at.name link are lt at.place refl at.is refl refl in
    let was : is_some (ends_at ends i).first ≡ true =
    ap is_some (are.each i).first ∙ (any_first (queue_at links ends i) ∙ any_member k (queue_at links ends i) (are.marked k i mark)) in
    let any : (is_some link.previous || is_some link.next) ≡ has_any (queue_at new late i) =
    sym (some_left link.previous link.next (ends_at ends i).first was)
    ∙ (ap (λ (e : Ends). is_some e.first) (sym (get_or-set_same ends i end no_ends lt)) ∙ (ap is_some (turned.sound.each i).first ∙ any_first (queue_at new late i))) in
    record {
      done = done limit range links new ends late stored stamps bits (without k (entries links stamps)) i (without k (part_of (queues links ends) i)) low turned.lists
          (went limit range links new ends late stored stamps bitmap bits (entries links stamps) k i (sound_kept limit range links ends stored stamps bitmap sound) low wide mark turned.sound turned.lists
          (subst (IsBitChanged bitmap bits i) any bit));
      lists = turned.lists ∙ (rw mark at (taken_all links ends k are));
      few = both_long links link.previous link.next link.next link.previous k no_link;
      wide = length-set ends i end;
    }

pub member_ready : (links : List Link) (ends : List Ends) (stamps : List ℤ) (k : ℕ) → AreQueues links ends → length links ≤ 32 → is_in k (line_of (queues links ends) stamps) ≡ true → is_ready links k ≡ true
member_ready links ends stamps k are few inside = sym (in_entries links stamps k) ∙ (ap (is_in k) (line_same links ends stamps are few) ∙ inside)

-- what a removal does to the bitmap
abbrev pub IsCleared : List Link → ℕ → ℕ → ℕ → Type 0
IsCleared links bitmap bits k = (i : ℕ) → mark_of links k ≡ Some i → has_bit bitmap i ≡ true → IsBitChanged bitmap bits i (is_some (link_in links k).previous || is_some (link_in links k).next)

record IsLeft (limit : ℕ) (range : StampRange) (links : List Link) (ends : List Ends) (stored : List ℕ) (stamps : List ℤ) (bits k : ℕ) : Type 0 where
  new : List Link
  late : List Ends
  is : IsGone limit range links new ends late stored stamps bits k

left : (limit : ℕ) (range : StampRange) (links : List Link) (ends : List Ends) (stored : List ℕ) (stamps : List ℤ) (bitmap bits k : ℕ) → IsSound limit range links ends stored stamps bitmap → length ends ≡ 128
    → is_ready links k ≡ true → IsCleared links bitmap bits k → IsLeft limit range links ends stored stamps bits k
left limit range links ends stored stamps bitmap bits k sound wide ready cleared =
    let at = ready_mark links k ready in
    let set : has_bit bitmap at.place ≡ true = sound.bits at.place at.low ∙ any_member k (queue_at links ends at.place) (sound.queues.marked k at.place at.mark) in
    record {
      new = gone_links k links;
      late = gone_ends k at.place links ends;
      is = gone limit range links ends stored stamps bitmap bits k at.place sound wide at.low at.mark (cleared at.place at.mark set);
    }

pub removed_lists : (limit : ℕ) (range : StampRange) (links : List Link) (ends : List Ends) (stored : List ℕ) (stamps : List ℤ) (bitmap bits k : ℕ) → AreQueues links ends → length links ≤ 32 → IsFiled limit range (queues links ends) stored stamps bitmap → length ends ≡ 128
    → is_in k (line_of (queues links ends) stamps) ≡ true → IsCleared links bitmap bits k
    → IsListed limit range (queues links ends) (with_none k (queues links ends)) stored stamps bits (without k (line_of (queues links ends) stamps))
removed_lists limit range links ends stored stamps bitmap bits k are few filed wide inside cleared =
    let at = left limit range links ends stored stamps bitmap bits k (sound_line limit range links ends stored stamps bitmap are few filed) wide (member_ready links ends stamps k are few inside) cleared in
    as_lists limit range links at.new ends at.late stored stamps bits (without k (entries links stamps)) (without k (line_of (queues links ends) stamps)) (with_none k (queues links ends))
    (omega (arith, few, at.is.few)) at.is.wide at.is.lists (ap (without k) (line_same links ends stamps are few)) at.is.done

-- ---- a thread is filed anew

find_without : (p : ℕ → Bool) (k : ℕ) (ks : List ℕ) → p k ≡ false → find p (without k ks) ≡ find p ks
find_without p k [] fails = refl
find_without p k (x ∷ xs) fails = elim (cases_eq x k) as (λ _. find p (without k (x ∷ xs)) ≡ find p (x ∷ xs)) [
  | inl e ↦ (let gone : (x == k) ≡ true = eq-eqb x k e in
      let out : p x ≡ false = ap p e ∙ fails in
      rw (gone, out) (find_without p k xs fails))
  | inr ne ↦ (let stays : (x == k) ≡ false = ne_eqb x k ne in
      elim (cases_Bool (p x)) as (λ _. find p (without k (x ∷ xs)) ≡ find p (x ∷ xs)) [
        | inl does ↦ rw (stays, does) refl
        | inr out ↦ rw (stays, out) (find_without p k xs fails)
      ])
]

-- a thread of no queue goes to its place by stamp in queue i
record IsBack (links new : List Link) (ends late : List Ends) (stamps : List ℤ) (k i : ℕ) (to : List (List ℕ)) : Type 0 where
  sound : AreQueues new late
  placed : queues new late ≡ set (queues links ends) i (placed (stamp_of stamps) k (part_of (queues links ends) i))
  lists : queues new late ≡ to
  few : length new ≡ length links
  wide : length late ≡ length ends

record IsSomewhere (links : List Link) (ends : List Ends) (stamps : List ℤ) (k i : ℕ) (lists : List (List ℕ)) : Type 0 where
  new : List Link
  late : List Ends
  is : IsBack links new ends late stamps k i lists

back_last : (links : List Link) (ends : List Ends) (stamps : List ℤ) (k i priority : ℕ) (was : List (List ℕ)) → queues links ends ≡ with_none k was → AreQueues links ends → i < length ends → 0 < k → k ≤ length links → mark_of links k ≡ None → priority ≡ suc i
    → find (λ j. int_lt (stamp_of stamps k) (stamp_of stamps j)) (part_of (queues links ends) i) ≡ None
    → IsSomewhere links ends stamps k i (with_last (Ready priority) k (with_none k was))
back_last links ends stamps k i priority was e are lt some within free level none =
    let end = ends_at ends i in
    let link : Link = record { previous = end.last; next = None; queue = Some (Ready priority) } in
    let new = linked_between k link links in
    let late = set ends i (end_between end.last k None end) in
    let place : place_of (Ready priority) ≡ i = omega (arith, level) in
    let turned : AreTurned links new ends late i (part_of (queues links ends) i ++ k ∷ []) =
    appended links new ends late i k (Ready priority) end are lt some within free place refl refl refl in
    record {
      new = new;
      late = late;
      is = record {
        sound = turned.sound;
        placed = turned.lists ∙ ap (set (queues links ends) i) (sym (placed_end (stamp_of stamps) k (part_of (queues links ends) i) none));
        lists = turned.lists ∙ (ap (λ j. set (queues links ends) j (part_of (queues links ends) j ++ k ∷ [])) (sym place) ∙ ap (with_last (Ready priority) k) e);
        few = both_long links end.last None (Some k) (Some k) k link;
        wide = length-set ends i _;
      };
    }

back_before : (links : List Link) (ends : List Ends) (stamps : List ℤ) (k i b : ℕ) (was : List (List ℕ)) → queues links ends ≡ with_none k was → AreQueues links ends → i < length ends → 0 < k → k ≤ length links → mark_of links k ≡ None
    → find (λ j. int_lt (stamp_of stamps k) (stamp_of stamps j)) (part_of (queues links ends) i) ≡ Some b
    → IsSomewhere links ends stamps k i (with_before k b (with_none k was))
back_before links ends stamps k i b was e are lt some within free found =
    let inside : is_in b (queue_at links ends i) ≡ true =
    subst (λ l. is_in b l ≡ true) (list_at links ends i) (found_passes (λ j. int_lt (stamp_of stamps k) (stamp_of stamps j)) b (part_of (queues links ends) i) found).1 in
    let mark : mark_of links b ≡ Some i = along_marked links i None None (queue_at links ends i) b (are.each i).along inside in
    let link_b = link_in links b in
    let at = named link_b.queue i mark in
    let link : Link = record link_b { next = Some b } in
    let new = linked_between k link links in
    let late = set ends i (end_between link_b.previous k (Some b) (ends_at ends i)) in
    let turned : AreTurned links new ends late i (put_before k b (part_of (queues links ends) i)) =
    inserted links new ends late i k b at.name link_b are lt some within free at.place refl at.is refl refl in
    record {
      new = new;
      late = late;
      is = record {
        sound = turned.sound;
        placed = turned.lists ∙ ap (set (queues links ends) i) (placed_before (stamp_of stamps) k b (part_of (queues links ends) i) found);
        lists = turned.lists ∙ ((rw mark at (inserted_all links ends k b are)) ∙ ap (with_before k b) e);
        few = both_long links link_b.previous (Some b) (Some k) (Some k) k link;
        wide = length-set ends i _;
      };
    }

back : (links : List Link) (ends : List Ends) (stamps : List ℤ) (k i priority : ℕ) (found : Option ℕ) (was : List (List ℕ)) → queues links ends ≡ with_none k was → AreQueues links ends → i < length ends → 0 < k → k ≤ length links → mark_of links k ≡ None → priority ≡ suc i
    → find (λ j. int_lt (stamp_of stamps k) (stamp_of stamps j)) (part_of (queues links ends) i) ≡ found
    → IsSomewhere links ends stamps k i (with_refiled found priority k was)
back links ends stamps k i priority None was e are lt some within free level found = back_last links ends stamps k i priority was e are lt some within free level found
back links ends stamps k i priority (Some b) was e are lt some within free level found = back_before links ends stamps k i b was e are lt some within free found

never_less : (a : ℤ) → int_lt a a ≡ false
never_less a = not_true (int_lt a a) (λ e. no_less a (less_test a a e))

pub refiled_lists : (limit : ℕ) (range : StampRange) (links : List Link) (ends : List Ends) (stored : List ℕ) (stamps : List ℤ) (bitmap bits after k i priority : ℕ) (found : Option ℕ) → AreQueues links ends → length links ≤ 32 → IsFiled limit range (queues links ends) stored stamps bitmap → length ends ≡ 128
    → is_in k (line_of (queues links ends) stamps) ≡ true → IsCleared links bitmap bits k → priority ≡ suc i → i < 32 → IsBitChanged bits after i true
    → find (λ j. int_lt (stamp_of stamps k) (stamp_of stamps j)) (queue_at links ends i) ≡ found
    → IsListed limit range (queues links ends) (with_refiled found priority k (queues links ends)) (pool_set stored k priority) stamps after (line_of (queues links ends) stamps)
refiled_lists limit range links ends stored stamps bitmap bits after k i priority found are few filed wide inside cleared level low bit is =
    let sound = sound_line limit range links ends stored stamps bitmap are few filed in
    let ready = member_ready links ends stamps k are few inside in
    let at = ready_mark links k ready in
    let within = marked_within links k at.place at.mark in
    let mid = left limit range links ends stored stamps bitmap bits k sound wide ready cleared in
    let then = mid.is in
    let free : mark_of mid.new k ≡ None = taken_free links mid.new ends mid.late stamps k are then.done.sound.queues ready then.done.waiters then.done.line in
    let own : part_of (queues mid.new mid.late) i ≡ without k (queue_at links ends i) =
    ap (λ l. part_of l i) then.lists ∙ (get_or-map (without k) (queues links ends) i [] ∙ ap (without k) (list_at links ends i)) in
    let first : find (λ j. int_lt (stamp_of stamps k) (stamp_of stamps j)) (part_of (queues mid.new mid.late) i) ≡ found =
    ap (find (λ j. int_lt (stamp_of stamps k) (stamp_of stamps j))) own ∙ (find_without (λ j. int_lt (stamp_of stamps k) (stamp_of stamps j)) k (queue_at links ends i) (never_less (stamp_of stamps k)) ∙ is) in
    let there = back mid.new mid.late stamps k i priority found (queues links ends) then.lists then.done.sound.queues (omega (arith, low, then.wide, wide)) within.0 (omega (arith, within.1, then.few)) free level first in
    let whole = refiled limit range links mid.new there.new ends mid.late there.late stored stamps bitmap bits after k i priority sound (in_entries links stamps k ∙ ready) then.done.sound then.done.line then.done.waiters low level
    (omega (arith, then.wide, wide)) there.is.sound there.is.placed bit in
    as_lists limit range links there.new ends there.late (pool_set stored k priority) stamps after (entries links stamps) (line_of (queues links ends) stamps) (with_refiled found priority k (queues links ends))
    (omega (arith, few, there.is.few, then.few)) (omega (arith, there.is.wide, then.wide))
    there.is.lists (line_same links ends stamps are few) whole

-- a thread of the line has a slot
pub member_within : (links : List Link) (ends : List Ends) (stamps : List ℤ) (k : ℕ) → AreQueues links ends → length links ≤ 32 → is_in k (line_of (queues links ends) stamps) ≡ true → k ≤ length links
member_within links ends stamps k are few inside = let at = ready_mark links k (member_ready links ends stamps k are few inside) in (marked_within links k at.place at.mark).1
