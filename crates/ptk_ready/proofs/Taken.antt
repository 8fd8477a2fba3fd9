-- The line once the first thread of a queue of ready threads left it, told by the queues' lists alone.
use Rattle.std.proofs.Common.{◌≡◌, ◌≢◌, ℕ, suc, ◌<◌, List, [], ◌∷◌, length, drop, true, false, not, refl, sym, ◌∙◌, ap, subst, arith, inl, inr}
use Rattle.std.specs.Prelude.{ℤ, filter, ◌==◌, Some, None}
use Rattle.std.proofs.Math.ListN.{set}
use Rattle.std.proofs.lemmas.Bool.{cases_eq, eq-eqb, ne_eqb, and_parts, and_from}
use Rattle.std.proofs.lemmas.List.{get_or_past, get_or-set_same, get_or-set_other, length-set}
use Rattle.ptk_words.specs.Pools.{is_in, without, numbers_to, first_of_greatest}
use Rattle.ptk_words.proofs.Lists.{distinct-filter, in_here, in_head, out_of}
use Rattle.ptk_words.specs.Parts.{part_of}
use Rattle.ptk_threads.specs.Table.{stored_of}
use Rattle.ptk_threads.specs.Queues.{without_first}
use Rattle.ptk_threads.specs.declared.link.QueueName.{QueueName}
use Rattle.ptk_threads.specs.declared.queues.FirstThread.{FirstThread}
use Rattle.ptk_threads.specs.Links.{place_of, first_or}
use Rattle.ptk_threads.specs.LinkChanges.{first_in}
use Rattle.ptk_threads.proofs.Along.{in_later, not_true, le_or_gt}
use Rattle.ptk_threads.proofs.Lists.{without_none}
use Rattle.ptk_ready.specs.declared.stamps.StampRange.{StampRange}
use Rattle.ptk_ready.specs.Bits.{has_bit, IsBitChanged, IsGreatestBit}
use Rattle.ptk_ready.specs.Entries.{stamp_of, of_priority, has_any}
use Rattle.ptk_ready.specs.Lines.{queued, line_of, IsFiled}
use Rattle.ptk_ready.specs.Laws.{in_priority}
use Rattle.ptk_ready.proofs.Orders.{IsInOrder, no_less, in_kept, order_kept, order_sorted, same_list}
use Rattle.ptk_ready.proofs.Ready.{numbers_distinct}
use Rattle.ptk_ready.proofs.Lists.{placed_in, queued_in, in_line}
use Rattle.ptk_ready.proofs.Kept.{in_without, filter_turned, not_of}
use Rattle.ptk_ready.proofs.Moves.{out_without}
use Rattle.ptk_ready.proofs.Firsts.{first_found}
use Rattle.ptk_ready.proofs.Calls.{IsListed, drop_agree}

-- a line whose threads have stamps of their own is in order
line_order : (lists : List (List ℕ)) (stamps : List ℤ) → ((j k : ℕ) → is_in j (queued lists) ≡ true → is_in k (queued lists) ≡ true → stamp_of stamps j ≡ stamp_of stamps k → j ≡ k) → IsInOrder (stamp_of stamps) (line_of lists stamps)
line_order lists stamps apart =
    let kept : (j : ℕ) → is_in j (filter (λ k. is_in k (queued lists)) (numbers_to 32)) ≡ true → is_in j (queued lists) ≡ true =
    λ j inside. (and_parts (is_in j (queued lists)) (is_in j (numbers_to 32)) (sym (in_kept (λ k. is_in k (queued lists)) j (numbers_to 32)) ∙ inside)).0 in
    order_sorted (stamp_of stamps) (filter (λ k. is_in k (queued lists)) (numbers_to 32)) (distinct-filter (λ k. is_in k (queued lists)) (numbers_to 32) (numbers_distinct 32))
    (λ j k a b e. apart j k (kept j a) (kept k b) e)

-- queue i is k and then these
record IsLed (limit : ℕ) (range : StampRange) (lists : List (List ℕ)) (stored : List ℕ) (stamps : List ℤ) (bitmap k i : ℕ) (ks : List ℕ) : Type 0 where
  filed : IsFiled limit range lists stored stamps bitmap
  low : i < 32
  list : part_of lists i ≡ k ∷ ks

some_within : (lists : List (List ℕ)) (i k : ℕ) (ks : List ℕ) → part_of lists i ≡ k ∷ ks → i < length lists
some_within lists i k ks list = elim (le_or_gt (length lists) i) as (λ _. i < length lists) [
  | inl past ↦ (let none : [] ≡ k ∷ ks = sym (get_or_past lists i [] past) ∙ list in absurd (cc))
  | inr lt ↦ lt
]

own_level : (limit : ℕ) (range : StampRange) (lists : List (List ℕ)) (stored : List ℕ) (stamps : List ℤ) (bitmap q i : ℕ) → IsFiled limit range lists stored stamps bitmap → i < 32 → is_in q (part_of lists i) ≡ true
    → (stored_of stored q ≡ suc i) × (is_in q (line_of lists stamps) ≡ true)
own_level limit range lists stored stamps bitmap q i filed low inside = in_priority stored (suc i) q (line_of lists stamps) (subst (λ l. is_in q l ≡ true) (filed.lines i low) inside)

-- k comes once in its queue
led_out : (limit : ℕ) (range : StampRange) (lists : List (List ℕ)) (stored : List ℕ) (stamps : List ℤ) (bitmap k i : ℕ) (ks : List ℕ) → IsLed limit range lists stored stamps bitmap k i ks → is_in k ks ≡ false
led_out limit range lists stored stamps bitmap k i ks led =
    let filed = led.filed in
    let order : IsInOrder (stamp_of stamps) (k ∷ ks) =
    subst (IsInOrder (stamp_of stamps)) (sym (filed.lines i led.low) ∙ led.list) (order_kept (stamp_of stamps) (λ j. stored_of stored j == suc i) (line_of lists stamps) (line_order lists stamps filed.apart)) in
    not_true (is_in k ks) (λ inside. no_less (stamp_of stamps k) (order.0 k inside))

-- the other queues stay, and queue i has all but k
record IsSplit (lists new : List (List ℕ)) (k : ℕ) : Type 0 where
  was : (q j : ℕ) → j < 32 → is_in q (part_of new j) ≡ true → (is_in q (part_of lists j) ≡ true) × (q ≢ k)
  stays : (q j : ℕ) → j < 32 → is_in q (part_of lists j) ≡ true → q ≢ k → is_in q (part_of new j) ≡ true

split : (limit : ℕ) (range : StampRange) (lists : List (List ℕ)) (stored : List ℕ) (stamps : List ℤ) (bitmap k i : ℕ) (ks : List ℕ) → IsLed limit range lists stored stamps bitmap k i ks → IsSplit lists (set lists i ks) k
split limit range lists stored stamps bitmap k i ks led =
    let lt = some_within lists i k ks led.list in
    let own : part_of (set lists i ks) i ≡ ks = get_or-set_same lists i ks [] lt in
    let level = (own_level limit range lists stored stamps bitmap k i led.filed led.low (subst (λ l. is_in k l ≡ true) (sym led.list) (in_here k ks))).0 in
    record {
      was = λ q j low inside. elim (cases_eq j i) as (λ _. (is_in q (part_of lists j) ≡ true) × (q ≢ k)) [
        | inl e ↦ (let there : is_in q ks ≡ true = subst (λ l. is_in q l ≡ true) (ap (part_of (set lists i ks)) e ∙ own) inside in
            (subst (λ l. is_in q l ≡ true) (sym (ap (part_of lists) e ∙ led.list)) (in_later q k ks there), out_of q k ks (led_out limit range lists stored stamps bitmap k i ks led) there))
        | inr ne ↦ (let there : is_in q (part_of lists j) ≡ true = subst (λ l. is_in q l ≡ true) (get_or-set_other lists i j ks [] ne) inside in (
          there,
          λ e. (let other = (own_level limit range lists stored stamps bitmap q j led.filed low there).0 in
              let same = sym other ∙ (ap (stored_of stored) e ∙ level) in ne (omega (arith, same))),
        ))
      ];
      stays = λ q j low inside apart. elim (cases_eq j i) as (λ _. is_in q (part_of (set lists i ks) j) ≡ true) [
        | inl e ↦ subst (λ l. is_in q l ≡ true) (sym (ap (part_of (set lists i ks)) e ∙ own))
            (elim (in_head k q ks (subst (λ l. is_in q l ≡ true) (ap (part_of lists) e ∙ led.list) inside)) as (λ _. is_in q ks ≡ true) [ inl same ↦ absurd (apart same) | inr r ↦ r ])
        | inr ne ↦ subst (λ l. is_in q l ≡ true) (sym (get_or-set_other lists i j ks [] ne)) inside
      ];
    }

split_queued : (lists new : List (List ℕ)) (k q : ℕ) → IsSplit lists new k → is_in q (queued new) ≡ true → (is_in q (queued lists) ≡ true) × (q ≢ k)
split_queued lists new k q split inside =
    let at = placed_in new q inside in
    let there = split.was q at.place at.low at.inside in
    (queued_in lists q at.place at.low there.0, there.1)

split_line : (lists new : List (List ℕ)) (stamps : List ℤ) (k : ℕ) → ((j k : ℕ) → is_in j (queued lists) ≡ true → is_in k (queued lists) ≡ true → stamp_of stamps j ≡ stamp_of stamps k → j ≡ k) → IsSplit lists new k
    → line_of new stamps ≡ without k (line_of lists stamps)
split_line lists new stamps k apart split =
    let xs = line_of lists stamps in
    same_list (stamp_of stamps) (line_of new stamps) (without k xs)
    (line_order new stamps (λ i j a b e. apart i j (split_queued lists new k i split a).0 (split_queued lists new k j split b).0 e))
    (order_kept (stamp_of stamps) (λ j. not (j == k)) xs (line_order lists stamps apart))
    (λ q inside. (let parts = and_parts (is_in q (queued new)) (is_in q (numbers_to 32)) (sym (in_line new stamps q) ∙ inside) in
    let there = split_queued lists new k q split parts.0 in
    in_kept (λ j. not (j == k)) q xs ∙ (rw (ne_eqb q k there.1) (in_line lists stamps q ∙ and_from (is_in q (queued lists)) (is_in q (numbers_to 32)) there.0 parts.1))))
    (λ q inside. (let parts = and_parts (is_in q (queued lists)) (is_in q (numbers_to 32)) (sym (in_line lists stamps q) ∙ in_without q k xs inside) in
    let at = placed_in lists q parts.0 in
    let ne : q ≢ k = λ e. out_without k xs (subst (λ z. is_in z (without k xs) ≡ true) e inside) in
    in_line new stamps q ∙ and_from (is_in q (queued new)) (is_in q (numbers_to 32)) (queued_in new q at.place at.low (split.stays q at.place at.low at.inside ne)) parts.1))

without_head : (k : ℕ) (ks : List ℕ) → is_in k ks ≡ false → without k (k ∷ ks) ≡ ks
without_head k ks out = let same : (k == k) ≡ true = eq-eqb k k refl in rw same (without_none k ks out)

-- k left queue i
left_first : (limit : ℕ) (range : StampRange) (lists : List (List ℕ)) (stored : List ℕ) (stamps : List ℤ) (bitmap bits k i : ℕ) (ks : List ℕ) → IsLed limit range lists stored stamps bitmap k i ks → IsBitChanged bitmap bits i (has_any ks)
    → IsListed limit range lists (set lists i ks) stored stamps bits (without k (line_of lists stamps))
left_first limit range lists stored stamps bitmap bits k i ks led bit =
    let filed = led.filed in
    let xs = line_of lists stamps in
    let new = set lists i ks in
    let lt = some_within lists i k ks led.list in
    let own : part_of new i ≡ ks = get_or-set_same lists i ks [] lt in
    let other : (j : ℕ) → j ≢ i → part_of new j ≡ part_of lists j = λ j ne. get_or-set_other lists i j ks [] ne in
    let level = (own_level limit range lists stored stamps bitmap k i filed led.low (subst (λ l. is_in k l ≡ true) (sym led.list) (in_here k ks))).0 in
    let parts = split limit range lists stored stamps bitmap k i ks led in
    let line : line_of new stamps ≡ without k xs = split_line lists new stamps k filed.apart parts in
    record {
      sound = record {
        apart = λ j q a b e. filed.apart j q (split_queued lists new k j parts a).0 (split_queued lists new k q parts b).0 e;
        within = λ q inside. filed.within q (split_queued lists new k q parts inside).0;
        limits = filed.limits;
        lines = λ j low. elim (cases_eq j i) as (λ _. part_of new j ≡ of_priority stored (suc j) (line_of new stamps)) [
          | inl e ↦ rw (e, line) (own ∙ (sym (without_head k ks (led_out limit range lists stored stamps bitmap k i ks led)) ∙ (ap (without k) (sym led.list ∙ filed.lines i led.low)
              ∙ filter_turned (λ q. stored_of stored q == suc i) (λ q. not (q == k)) xs)))
          | inr ne ↦ rw line (other j ne ∙ (filed.lines j low ∙ sym (not_of stored (suc j) k xs (λ e. (let same = sym level ∙ e in ne (omega (arith, same)))))))
        ];
        bits = λ j low. elim (cases_eq j i) as (λ _. has_bit bits j ≡ has_any (part_of new j)) [
          | inl e ↦ rw e (bit.own ∙ ap has_any (sym own))
          | inr ne ↦ bit.others j low ne ∙ (filed.bits j low ∙ ap has_any (sym (other j ne)))
        ];
      };
      line = line;
      waiters = drop_agree 32 new lists (length-set lists i ks) (λ j far. (let low : i < 32 = led.low in other j (λ e. absurd (omega (arith, low, far, e)))));
    }

-- ---- as the slot table's call says

taken_from : (limit : ℕ) (range : StampRange) (lists : List (List ℕ)) (stored : List ℕ) (stamps : List ℤ) (bitmap bits i : ℕ) (first : FirstThread) (line : List ℕ) → IsFiled limit range lists stored stamps bitmap → i < 32
    → part_of lists i ≡ line → Some first ≡ first_in line → IsBitChanged bitmap bits i (not first.is_alone)
    → IsListed limit range lists (set lists i (drop 1 line)) stored stamps bits (without first.thread (line_of lists stamps)) × (Some first.thread ≡ first_or None line)
taken_from limit range lists stored stamps bitmap bits i first [] filed low list is bit = absurd (cc)
taken_from limit range lists stored stamps bitmap bits i first (k ∷ []) filed low list is bit =
    let same : first ≡ record { thread = k; is_alone = true } = cc in
    let gone : IsBitChanged bitmap bits i false = subst (λ (f : FirstThread). IsBitChanged bitmap bits i (not f.is_alone)) same bit in
    rw same (left_first limit range lists stored stamps bitmap bits k i [] (record { filed = filed; low = low; list = list }) gone, refl)
taken_from limit range lists stored stamps bitmap bits i first (k ∷ j ∷ ks) filed low list is bit =
    let some : (length (j ∷ ks) == 0) ≡ false = ne_eqb (length (j ∷ ks)) 0 (omega arith) in
    let same : first ≡ record { thread = k; is_alone = false } = (let here = rw some at is in cc) in
    let stays : IsBitChanged bitmap bits i true = subst (λ (f : FirstThread). IsBitChanged bitmap bits i (not f.is_alone)) same bit in
    rw same (left_first limit range lists stored stamps bitmap bits k i (j ∷ ks) (record { filed = filed; low = low; list = list }) stays, refl)

pub taken_first : (limit : ℕ) (range : StampRange) (lists : List (List ℕ)) (stored : List ℕ) (stamps : List ℤ) (bitmap bits : ℕ) (name : QueueName) (first : FirstThread) → IsFiled limit range lists stored stamps bitmap
    → IsGreatestBit bitmap (Some (place_of name)) → Some first ≡ first_in (part_of lists (place_of name)) → IsBitChanged bitmap bits (place_of name) (not first.is_alone)
    → IsListed limit range lists (without_first name lists) stored stamps bits (without first.thread (line_of lists stamps)) × (Some first.thread ≡ first_of_greatest (stored_of stored) (line_of lists stamps))
taken_first limit range lists stored stamps bitmap bits name first filed top is bit =
    let done = taken_from limit range lists stored stamps bitmap bits (place_of name) first (part_of lists (place_of name)) filed top.0 refl is bit in
    (done.0, done.1 ∙ first_found limit range lists stored stamps bitmap (place_of name) filed top)

no_first : (line : List ℕ) → has_any line ≡ true → None ≡ first_in line → ⊥
no_first [] some is = absurd (cc)
no_first (k ∷ ks) some is = absurd (cc)

-- a queue whose bit is set is not empty
pub some_first : (limit : ℕ) (range : StampRange) (lists : List (List ℕ)) (stored : List ℕ) (stamps : List ℤ) (bitmap : ℕ) (name : QueueName) → IsFiled limit range lists stored stamps bitmap
    → IsGreatestBit bitmap (Some (place_of name)) → None ≡ first_in (part_of lists (place_of name)) → ⊥
some_first limit range lists stored stamps bitmap name filed top is = no_first (part_of lists (place_of name)) (sym (filed.bits (place_of name) top.0) ∙ top.1) is
