-- The line after a thread came or went, with its queues.
use Rattle.std.proofs.Common.{◌≡◌, ◌≢◌, ℕ, suc, ◌-◌, ◌<◌, ◌≤◌, List, [], ◌∷◌, length, Bool, true, false, ◌&&◌, not, refl, sym, ◌∙◌, ap, subst, arith, ◌⊎◌, inl, inr}
use Rattle.std.specs.Prelude.{ℤ, int_lt, ◌==◌, filter, Some, None}
use Rattle.std.proofs.Math.ListN.{set}
use Rattle.std.proofs.lemmas.Bool.{cases_eq, cases_Bool, and_parts, and_from, eq-eqb, ne_eqb}
use Rattle.std.proofs.lemmas.List.{get_or-set_same, get_or-set_other, length-map}
use Rattle.ptk_words.specs.Pools.{is_in, without}
use Rattle.ptk_words.proofs.Lists.{in_here, in_head, out_of}
use Rattle.ptk_words.specs.Parts.{part_of}
use Rattle.ptk_threads.specs.Table.{stored_of}
use Rattle.ptk_threads.specs.declared.link.Link.{Link}
use Rattle.ptk_threads.specs.declared.link.Ends.{Ends}
use Rattle.ptk_threads.specs.Links.{mark_of, queue_at, queue_from, queues, AreQueues}
use Rattle.ptk_threads.proofs.Along.{in_later, along_marked}
use Rattle.ptk_threads.proofs.Lists.{list_at}
use Rattle.ptk_ready.specs.declared.stamps.StampRange.{StampRange}
use Rattle.ptk_ready.specs.Bits.{has_bit, IsBitChanged}
use Rattle.ptk_ready.specs.Orders.{placed}
use Rattle.ptk_ready.specs.Entries.{IsInRange, IsRange, is_ready, stamp_of, entries, of_priority, has_any, IsSound}
use Rattle.ptk_ready.specs.Laws.{filter_agree, in_priority}
use Rattle.ptk_ready.proofs.Orders.{IsInOrder, same_test, in_placed, in_kept, order_same, order_kept, order_placed, order_apart, same_list}
use Rattle.ptk_ready.proofs.Ready.{ready_mark, marked_ready, in_entries, entries_order, entries_are}

-- ---- the line as a list in order

-- xs is the line, and all holds that a sound line has
pub record IsKept (limit : ℕ) (range : StampRange) (links : List Link) (ends : List Ends) (stored : List ℕ) (stamps : List ℤ) (bitmap : ℕ) (xs : List ℕ) : Type 0 where
  pub queues : AreQueues links ends
  pub order : IsInOrder (stamp_of stamps) xs
  pub levels : (k : ℕ) → is_in k xs ≡ true → (0 < stored_of stored k) × (stored_of stored k ≤ 32)
  pub lines : (i : ℕ) → i < 32 → queue_at links ends i ≡ of_priority stored (suc i) xs
  pub bits : (i : ℕ) → i < 32 → has_bit bitmap i ≡ has_any (queue_at links ends i)
  pub within : (k : ℕ) → is_in k xs ≡ true → IsInRange range (stamp_of stamps k)
  pub limits : IsRange limit range

pub of_its_priority : (stored : List ℕ) (n k : ℕ) (xs : List ℕ) → stored_of stored k ≡ n → is_in k xs ≡ true → is_in k (of_priority stored n xs) ≡ true
of_its_priority stored n k xs e inside = in_kept (λ j. stored_of stored j == n) k xs ∙ and_from (stored_of stored k == n) (is_in k xs) (eq-eqb (stored_of stored k) n e) inside

-- a ready thread lies in the queue of its stored priority
pub kept_mark : (limit : ℕ) (range : StampRange) (links : List Link) (ends : List Ends) (stored : List ℕ) (stamps : List ℤ) (bitmap : ℕ) (xs : List ℕ) → IsKept limit range links ends stored stamps bitmap xs
    → (k i : ℕ) → i < 32 → mark_of links k ≡ Some i → (stored_of stored k ≡ suc i) × (is_in k xs ≡ true)
kept_mark limit range links ends stored stamps bitmap xs kept k i lt mark =
    in_priority stored (suc i) k xs (subst (λ l. is_in k l ≡ true) (kept.lines i lt) (kept.queues.marked k i mark))

pub kept_ready : (limit : ℕ) (range : StampRange) (links : List Link) (ends : List Ends) (stored : List ℕ) (stamps : List ℤ) (bitmap : ℕ) (xs : List ℕ) → IsKept limit range links ends stored stamps bitmap xs → (k : ℕ) → is_in k xs ≡ is_ready links k
kept_ready limit range links ends stored stamps bitmap xs kept k = same_test (is_in k xs) (is_ready links k)
    (λ inside. (let level = kept.levels k inside in
    let i = stored_of stored k - 1 in
    let lt : i < 32 = omega (arith, level.0, level.1) in
    let there : is_in k (queue_at links ends i) ≡ true = rw (kept.lines i lt) (of_its_priority stored (suc i) k xs (omega (arith, level.0)) inside) in
    marked_ready links k i lt (along_marked links i None None (queue_at links ends i) k (kept.queues.each i).along there)))
    (λ ready. (let at = ready_mark links k ready in (kept_mark limit range links ends stored stamps bitmap xs kept k at.place at.low at.mark).1))

pub kept_entries : (limit : ℕ) (range : StampRange) (links : List Link) (ends : List Ends) (stored : List ℕ) (stamps : List ℤ) (bitmap : ℕ) (xs : List ℕ) → IsKept limit range links ends stored stamps bitmap xs → entries links stamps ≡ xs
kept_entries limit range links ends stored stamps bitmap xs kept = entries_are links stamps xs kept.order (kept_ready limit range links ends stored stamps bitmap xs kept)

pub kept_sound : (limit : ℕ) (range : StampRange) (links : List Link) (ends : List Ends) (stored : List ℕ) (stamps : List ℤ) (bitmap : ℕ) (xs : List ℕ) → IsKept limit range links ends stored stamps bitmap xs → IsSound limit range links ends stored stamps bitmap
kept_sound limit range links ends stored stamps bitmap xs kept =
    let same = kept_ready limit range links ends stored stamps bitmap xs kept in
    record {
      queues = kept.queues;
      stamped = record {
        apart = λ j k a b e. order_apart (stamp_of stamps) xs kept.order j k (same j ∙ a) (same k ∙ b) e;
        within = λ k ready. kept.within k (same k ∙ ready);
        limits = kept.limits;
      };
      lines = λ i lt. kept.lines i lt ∙ ap (of_priority stored (suc i)) (sym (kept_entries limit range links ends stored stamps bitmap xs kept));
      bits = kept.bits;
    }

pub sound_kept : (limit : ℕ) (range : StampRange) (links : List Link) (ends : List Ends) (stored : List ℕ) (stamps : List ℤ) (bitmap : ℕ) → IsSound limit range links ends stored stamps bitmap → IsKept limit range links ends stored stamps bitmap (entries links stamps)
sound_kept limit range links ends stored stamps bitmap sound = record {
  queues = sound.queues;
  order = entries_order limit range links stamps sound.stamped;
  levels = λ k inside.
      (let at = ready_mark links k (sym (in_entries links stamps k) ∙ inside) in
      let level = (in_priority stored (suc at.place) k (entries links stamps) (subst (λ l. is_in k l ≡ true) (sound.lines at.place at.low) (sound.queues.marked k at.place at.mark))).0 in
      let low : at.place < 32 = at.low in
      (omega (arith, level), omega (arith, level, low)));
  lines = sound.lines;
  bits = sound.bits;
  within = λ k inside. sound.stamped.within k (sym (in_entries links stamps k) ∙ inside);
  limits = sound.stamped.limits;
}

-- ---- one queue changed

pub queue_set : (links new : List Link) (ends after : List Ends) (i : ℕ) (line : List ℕ) → i < length ends → queues new after ≡ set (queues links ends) i line → queue_at new after i ≡ line
queue_set links new ends after i line lt e =
    sym (list_at new after i) ∙ ap (λ ls. part_of ls i) e ∙ get_or-set_same (queues links ends) i line [] (rw (length-map ends (queue_from links)) lt)

pub queue_other : (links new : List Link) (ends after : List Ends) (i j : ℕ) (line : List ℕ) → j ≢ i → queues new after ≡ set (queues links ends) i line → queue_at new after j ≡ queue_at links ends j
queue_other links new ends after i j line ne e =
    sym (list_at new after j) ∙ ap (λ ls. part_of ls j) e ∙ get_or-set_other (queues links ends) i j line [] ne ∙ list_at links ends j

-- ---- filters

-- a number that fails the test may as well not be there
filter_placed_out : (stamp : ℕ → ℤ) (p : ℕ → Bool) (k : ℕ) (xs : List ℕ) → p k ≡ false → filter p (placed stamp k xs) ≡ filter p xs
filter_placed_out stamp p k [] fails = rw fails refl
filter_placed_out stamp p k (x ∷ xs) fails = elim (cases_Bool (int_lt (stamp k) (stamp x))) as (λ _. filter p (placed stamp k (x ∷ xs)) ≡ filter p (x ∷ xs)) [
  | inl less ↦ rw (less, fails) refl
  | inr more ↦ rw (more, filter_placed_out stamp p k xs fails) refl
]

-- a number that passes goes to its place among those that pass
filter_placed : (stamp : ℕ → ℤ) (p : ℕ → Bool) (k : ℕ) (xs : List ℕ) → p k ≡ true → ((j : ℕ) → is_in j xs ≡ true → stamp k ≢ stamp j) → IsInOrder stamp xs → filter p (placed stamp k xs) ≡ placed stamp k (filter p xs)
filter_placed stamp p k xs does ne order =
    let ne_kept : (j : ℕ) → is_in j (filter p xs) ≡ true → stamp k ≢ stamp j = λ j inside. ne j (and_parts (p j) (is_in j xs) (sym (in_kept p j xs) ∙ inside)).1 in
    same_list stamp (filter p (placed stamp k xs)) (placed stamp k (filter p xs))
    (order_kept stamp p (placed stamp k xs) (order_placed stamp k xs ne order))
    (order_placed stamp k (filter p xs) ne_kept (order_kept stamp p xs order))
    (λ j inside. (let parts = and_parts (p j) (is_in j (placed stamp k xs)) (sym (in_kept p j (placed stamp k xs)) ∙ inside) in
    in_placed stamp j k (filter p xs) ∙ elim (in_head k j xs (sym (in_placed stamp j k xs) ∙ parts.1)) as (λ _. is_in j (k ∷ filter p xs) ≡ true) [
      | inl e ↦ subst (λ z. is_in z (k ∷ filter p xs) ≡ true) (sym e) (in_here k (filter p xs))
      | inr r ↦ in_later j k (filter p xs) (in_kept p j xs ∙ and_from (p j) (is_in j xs) parts.0 r)
    ]))
    (λ j inside. elim (in_head k j (filter p xs) (sym (in_placed stamp j k (filter p xs)) ∙ inside)) as (λ _. is_in j (filter p (placed stamp k xs)) ≡ true) [
      | inl e ↦ subst (λ z. is_in z (filter p (placed stamp k xs)) ≡ true) (sym e) (in_kept p k (placed stamp k xs) ∙ and_from (p k) (is_in k (placed stamp k xs)) does (in_placed stamp k k xs ∙ in_here k xs))
      | inr r ↦ (let parts = and_parts (p j) (is_in j xs) (sym (in_kept p j xs) ∙ r) in
          in_kept p j (placed stamp k xs) ∙ and_from (p j) (is_in j (placed stamp k xs)) parts.0 (in_placed stamp j k xs ∙ in_later j k xs parts.1))
    ])

pub any_placed : (stamp : ℕ → ℤ) (k : ℕ) (xs : List ℕ) → has_any (placed stamp k xs) ≡ true
any_placed stamp k [] = refl
any_placed stamp k (x ∷ xs) = elim (cases_Bool (int_lt (stamp k) (stamp x))) as (λ _. has_any (placed stamp k (x ∷ xs)) ≡ true) [ inl less ↦ rw less refl | inr more ↦ rw more refl ]

-- ---- a thread that comes

-- what is asked of the new stamp and the new stored priority of k, which comes into queue i
pub record IsComing (range : StampRange) (stored after : List ℕ) (stamps anew : List ℤ) (xs : List ℕ) (k i : ℕ) : Type 0 where
  pub out : is_in k xs ≡ false
  pub place : i < 32
  pub others : (j : ℕ) → j ≢ k → stamp_of anew j ≡ stamp_of stamps j
  pub levels : (j : ℕ) → j ≢ k → stored_of after j ≡ stored_of stored j
  pub level : stored_of after k ≡ suc i
  pub apart : (j : ℕ) → is_in j xs ≡ true → stamp_of anew k ≢ stamp_of anew j
  pub within : IsInRange range (stamp_of anew k)

coming_order : (range : StampRange) (stored after : List ℕ) (stamps anew : List ℤ) (xs : List ℕ) (k i : ℕ) → IsComing range stored after stamps anew xs k i → IsInOrder (stamp_of stamps) xs → IsInOrder (stamp_of anew) xs
coming_order range stored after stamps anew xs k i coming order =
    order_same (stamp_of stamps) (stamp_of anew) xs
    (λ a b h g less. (let one = coming.others a (out_of a k xs coming.out h) in
    let two = coming.others b (out_of b k xs coming.out g) in
    rw (one, two) less)) order

-- the threads of a priority, once k has come
coming_line : (range : StampRange) (stored after : List ℕ) (stamps anew : List ℤ) (xs : List ℕ) (k i : ℕ) → IsComing range stored after stamps anew xs k i → IsInOrder (stamp_of anew) xs
    → of_priority after (suc i) (placed (stamp_of anew) k xs) ≡ placed (stamp_of anew) k (of_priority stored (suc i) xs)
coming_line range stored after stamps anew xs k i coming order =
    filter_placed (stamp_of anew) (λ j. stored_of after j == suc i) k xs (eq-eqb (stored_of after k) (suc i) coming.level) coming.apart order
    ∙ ap (placed (stamp_of anew) k)
    (filter_agree (λ j. stored_of after j == suc i) (λ j. stored_of stored j == suc i) xs
    (λ j inside. ap (λ n. n == suc i) (coming.levels j (out_of j k xs coming.out inside))))

coming_other : (range : StampRange) (stored after : List ℕ) (stamps anew : List ℤ) (xs : List ℕ) (k i n : ℕ) → IsComing range stored after stamps anew xs k i → suc i ≢ n
    → of_priority after n (placed (stamp_of anew) k xs) ≡ of_priority stored n xs
coming_other range stored after stamps anew xs k i n coming ne =
    filter_placed_out (stamp_of anew) (λ j. stored_of after j == n) k xs (ne_eqb (stored_of after k) n (λ e. ne (sym coming.level ∙ e)))
    ∙ filter_agree (λ j. stored_of after j == n) (λ j. stored_of stored j == n) xs
    (λ j inside. ap (λ m. m == n) (coming.levels j (out_of j k xs coming.out inside)))

pub came : (limit : ℕ) (range : StampRange) (links new : List Link) (ends late : List Ends) (stored after : List ℕ) (stamps anew : List ℤ) (bitmap bits : ℕ) (xs : List ℕ) (k i : ℕ)
    → IsKept limit range links ends stored stamps bitmap xs → IsComing range stored after stamps anew xs k i → length ends ≡ 128 → AreQueues new late
    → queues new late ≡ set (queues links ends) i (placed (stamp_of anew) k (part_of (queues links ends) i)) → IsBitChanged bitmap bits i true
    → IsKept limit range new late after anew bits (placed (stamp_of anew) k xs)
came limit range links new ends late stored after stamps anew bitmap bits xs k i kept coming long sound lists bit =
    let order = coming_order range stored after stamps anew xs k i coming kept.order in
    let low : i < 32 = coming.place in
    let lt : i < length ends = omega (arith, long, low) in
    let own : queue_at new late i ≡ placed (stamp_of anew) k (queue_at links ends i) =
    queue_set links new ends late i (placed (stamp_of anew) k (part_of (queues links ends) i)) lt lists ∙ ap (placed (stamp_of anew) k) (list_at links ends i) in
    let other : (j : ℕ) → j ≢ i → queue_at new late j ≡ queue_at links ends j = λ j ne. queue_other links new ends late i j (placed (stamp_of anew) k (part_of (queues links ends) i)) ne lists in
    let member : (q : ℕ) → is_in q (placed (stamp_of anew) k xs) ≡ true → (q ≡ k) ⊎ (is_in q xs ≡ true) = λ q inside. in_head k q xs (sym (in_placed (stamp_of anew) q k xs) ∙ inside) in
    record {
      queues = sound;
      order = order_placed (stamp_of anew) k xs coming.apart order;
      levels = λ q inside. elim (member q inside) as (λ _. (0 < stored_of after q) × (stored_of after q ≤ 32)) [
        | inl e ↦ (let level : stored_of after q ≡ suc i = ap (stored_of after) e ∙ coming.level in (omega (arith, level), omega (arith, level, low)))
        | inr r ↦ rw (coming.levels q (out_of q k xs coming.out r)) (kept.levels q r)
      ];
      lines = λ j within. elim (cases_eq j i) as (λ _. queue_at new late j ≡ of_priority after (suc j) (placed (stamp_of anew) k xs)) [
        | inl e ↦ rw e (own ∙ (ap (placed (stamp_of anew) k) (kept.lines i low) ∙ sym (coming_line range stored after stamps anew xs k i coming order)))
        | inr ne ↦ other j ne ∙ (kept.lines j within ∙ sym (coming_other range stored after stamps anew xs k i (suc j) coming (λ e. ne (omega (arith, e)))))
      ];
      bits = λ j within. elim (cases_eq j i) as (λ _. has_bit bits j ≡ has_any (queue_at new late j)) [
        | inl e ↦ rw e (bit.own ∙ sym (ap has_any own ∙ any_placed (stamp_of anew) k (queue_at links ends i)))
        | inr ne ↦ bit.others j within ne ∙ (kept.bits j within ∙ sym (ap has_any (other j ne)))
      ];
      within = λ q inside. elim (member q inside) as (λ _. IsInRange range (stamp_of anew q)) [
        | inl e ↦ subst (λ z. IsInRange range (stamp_of anew z)) (sym e) coming.within
        | inr r ↦ rw (coming.others q (out_of q k xs coming.out r)) (kept.within q r)
      ];
      limits = kept.limits;
    }

-- ---- a thread that goes

filter_twice : (p q : ℕ → Bool) (xs : List ℕ) → filter q (filter p xs) ≡ filter (λ x. p x && q x) xs
filter_twice p q [] = refl
filter_twice p q (x ∷ xs) = elim (cases_Bool (p x)) as (λ _. filter q (filter p (x ∷ xs)) ≡ filter (λ x. p x && q x) (x ∷ xs)) [
  | inl does ↦ rw (does, filter_twice p q xs) refl
  | inr fails ↦ rw (fails, filter_twice p q xs) refl
]

and_turned : (a b : Bool) → (a && b) ≡ (b && a)
and_turned true true = refl
and_turned true false = refl
and_turned false true = refl
and_turned false false = refl

pub filter_turned : (p q : ℕ → Bool) (xs : List ℕ) → filter q (filter p xs) ≡ filter p (filter q xs)
filter_turned p q xs = filter_twice p q xs ∙ filter_agree (λ x. p x && q x) (λ x. q x && p x) xs (λ x inside. and_turned (p x) (q x)) ∙ sym (filter_twice q p xs)

-- without a number that has another priority
pub not_of : (stored : List ℕ) (n k : ℕ) (xs : List ℕ) → stored_of stored k ≢ n → of_priority stored n (without k xs) ≡ of_priority stored n xs
not_of stored n k [] ne = refl
not_of stored n k (x ∷ xs) ne = elim (cases_eq x k) as (λ _. of_priority stored n (without k (x ∷ xs)) ≡ of_priority stored n (x ∷ xs)) [
  | inl e ↦ (let gone : (x == k) ≡ true = eq-eqb x k e in
      let fails : (stored_of stored x == n) ≡ false = ne_eqb (stored_of stored x) n (λ h. ne (ap (stored_of stored) (sym e) ∙ h)) in
      rw (gone, fails) (not_of stored n k xs ne))
  | inr other ↦ (let stays : (x == k) ≡ false = ne_eqb x k other in rw (stays, not_of stored n k xs ne) refl)
]

pub in_without : (q k : ℕ) (xs : List ℕ) → is_in q (without k xs) ≡ true → is_in q xs ≡ true
in_without q k xs h = (and_parts (not (q == k)) (is_in q xs) (sym (in_kept (λ j. not (j == k)) q xs) ∙ h)).1

pub went : (limit : ℕ) (range : StampRange) (links new : List Link) (ends late : List Ends) (stored : List ℕ) (stamps : List ℤ) (bitmap bits : ℕ) (xs : List ℕ) (k i : ℕ)
    → IsKept limit range links ends stored stamps bitmap xs → i < 32 → length ends ≡ 128 → mark_of links k ≡ Some i → AreQueues new late
    → queues new late ≡ set (queues links ends) i (without k (part_of (queues links ends) i)) → IsBitChanged bitmap bits i (has_any (queue_at new late i))
    → IsKept limit range new late stored stamps bits (without k xs)
went limit range links new ends late stored stamps bitmap bits xs k i kept low long mark sound lists bit =
    let lt : i < length ends = omega (arith, long, low) in
    let level : stored_of stored k ≡ suc i = (kept_mark limit range links ends stored stamps bitmap xs kept k i low mark).0 in
    let own : queue_at new late i ≡ without k (queue_at links ends i) =
    queue_set links new ends late i (without k (part_of (queues links ends) i)) lt lists ∙ ap (without k) (list_at links ends i) in
    let other : (j : ℕ) → j ≢ i → queue_at new late j ≡ queue_at links ends j = λ j ne. queue_other links new ends late i j (without k (part_of (queues links ends) i)) ne lists in
    record {
      queues = sound;
      order = order_kept (stamp_of stamps) (λ j. not (j == k)) xs kept.order;
      levels = λ q inside. kept.levels q (in_without q k xs inside);
      lines = λ j within. elim (cases_eq j i) as (λ _. queue_at new late j ≡ of_priority stored (suc j) (without k xs)) [
        | inl e ↦ rw e (own ∙ (ap (without k) (kept.lines i low) ∙ filter_turned (λ q. stored_of stored q == suc i) (λ q. not (q == k)) xs))
        | inr ne ↦ other j ne ∙ (kept.lines j within ∙ sym (not_of stored (suc j) k xs (λ e. (let same = sym level ∙ e in ne (omega (arith, same))))))
      ];
      bits = λ j within. elim (cases_eq j i) as (λ _. has_bit bits j ≡ has_any (queue_at new late j)) [
        | inl e ↦ rw e bit.own
        | inr ne ↦ bit.others j within ne ∙ (kept.bits j within ∙ sym (ap has_any (other j ne)))
      ];
      within = λ q inside. kept.within q (in_without q k xs inside);
      limits = kept.limits;
    }
