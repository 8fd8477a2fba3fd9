-- The line read from the queues' lists is the line read from the links.
use Rattle.std.proofs.Common.{◌≡◌, ℕ, zero, suc, ◌+◌, ◌-◌, ◌<◌, ◌≤◌, List, [], ◌∷◌, ◌++◌, length, take, true, false, refl, sym, ◌∙◌, ap, subst, arith, inl, inr, length-take}
use Rattle.std.specs.Prelude.{Bool, ◌&&◌, ℤ, None, filter, ◌==◌, ◌↔◌}
use Rattle.std.proofs.lemmas.List.{get_or-take, append-nil}
use Rattle.std.proofs.lemmas.Nat.Bits.{bit_at-zero}
use Rattle.std.proofs.lemmas.List.Elements.{filter-append}
use Rattle.std.proofs.lemmas.Bool.{and_parts}
use Rattle.ptk_words.specs.Pools.{is_in, numbers_to}
use Rattle.ptk_words.proofs.Lists.{in_here}
use Rattle.ptk_words.specs.Parts.{part_of, joined}
use Rattle.ptk_threads.specs.declared.link.Link.{Link}
use Rattle.ptk_threads.specs.declared.link.Ends.{Ends}
use Rattle.ptk_threads.specs.Links.{queue_at, queues, AreQueues}
use Rattle.ptk_threads.proofs.Along.{in_left, in_right, in_parts, not_true, marked_within, along_marked}
use Rattle.ptk_threads.proofs.Lists.{list_at}
use Rattle.ptk_ready.specs.declared.stamps.StampRange.{StampRange}
use Rattle.ptk_ready.specs.Orders.{in_order}
use Rattle.ptk_ready.specs.Entries.{IsRange, is_ready, ready_of, stamp_of, entries, of_priority, has_any, IsSound}
use Rattle.ptk_ready.specs.Lines.{queued, line_of, IsFiled}
use Rattle.ptk_ready.proofs.Orders.{same_test, in_kept, in_sorted}
use Rattle.ptk_ready.proofs.Ready.{ready_mark, marked_ready}
use Rattle.ptk_ready.specs.Laws.{filter_agree}

-- ---- lists joined

record IsAmong (k : ℕ) (lists : List (List ℕ)) : Type 0 where
  place : ℕ
  low : place < length lists
  inside : is_in k (part_of lists place) ≡ true

among : (k : ℕ) (lists : List (List ℕ)) → is_in k (joined lists) ≡ true → IsAmong k lists
among k [] h = absurd (cc)
among k (x ∷ lists) h = elim (in_parts k x (joined lists) h) as (λ _. IsAmong k (x ∷ lists)) [
  | inl l ↦ record { place = 0; low = omega arith; inside = l }
  | inr r ↦ (let rest = among k lists r in record { place = suc rest.place; low = omega (arith, rest.low); inside = rest.inside })
]

joined_in : (k : ℕ) (lists : List (List ℕ)) (i : ℕ) → is_in k (part_of lists i) ≡ true → is_in k (joined lists) ≡ true
joined_in k [] i h = absurd (cc)
joined_in k (x ∷ lists) zero h = in_left k x (joined lists) h
joined_in k (x ∷ lists) (suc i) h = in_right k x (joined lists) (joined_in k lists i h)

-- ---- who is in the line

list_of : (links : List Link) (ends : List Ends) (i : ℕ) → i < 32 → part_of (take 32 (queues links ends)) i ≡ queue_at links ends i
list_of links ends i lt = get_or-take 32 (queues links ends) i [] lt ∙ list_at links ends i

pub ready_same : (links : List Link) (ends : List Ends) (k : ℕ) → AreQueues links ends → is_in k (queued (queues links ends)) ≡ is_ready links k
ready_same links ends k are = same_test (is_in k (queued (queues links ends))) (is_ready links k)
    (λ inside. (let at = among k (take 32 (queues links ends)) inside in
    let lt : at.place < 32 = omega (arith, at.low, length-take 32 (queues links ends)) in
    let member : is_in k (queue_at links ends at.place) ≡ true = subst (λ l. is_in k l ≡ true) (list_of links ends at.place lt) at.inside in
    marked_ready links k at.place lt (along_marked links at.place None None (queue_at links ends at.place) k (are.each at.place).along member)))
    (λ ready. (let at = ready_mark links k ready in
    joined_in k (take 32 (queues links ends)) at.place (subst (λ l. is_in k l ≡ true) (sym (list_of links ends at.place at.low)) (are.marked k at.place at.mark))))

none_kept : (p : ℕ → Bool) (k : ℕ) → p k ≡ false → filter p (k ∷ []) ≡ []
none_kept p k out = rw out refl

beyond : (p : ℕ → Bool) (n d m : ℕ) → m ≡ n + d → ((k : ℕ) → n < k → p k ≡ false) → filter p (numbers_to m) ≡ filter p (numbers_to n)
beyond p n zero m e h = let same : m ≡ n = omega (arith, e) in ap (λ z. filter p (numbers_to z)) same
beyond p n (suc d) zero e h = absurd (omega (arith, e))
beyond p n (suc d) (suc m) e h =
    filter-append p (numbers_to m) (suc m ∷ [])
    ∙ (ap (λ l. filter p (numbers_to m) ++ l) (none_kept p (suc m) (h (suc m) (omega (arith, e))))
    ∙ (append-nil (filter p (numbers_to m)) ∙ beyond p n d m (omega (arith, e)) h))

pub line_same : (links : List Link) (ends : List Ends) (stamps : List ℤ) → AreQueues links ends → length links ≤ 32 → entries links stamps ≡ line_of (queues links ends) stamps
line_same links ends stamps are few =
    let high : (k : ℕ) → length links < k → is_ready links k ≡ false = λ k lt. not_true (is_ready links k) (λ ready.
    (let at = ready_mark links k ready in let within = marked_within links k at.place at.mark in absurd (omega (arith, lt, within.1)))) in
    let whole : filter (is_ready links) (numbers_to 32) ≡ ready_of links = beyond (is_ready links) (length links) (32 - length links) 32 (omega (arith, few)) high in
    ap (in_order (stamp_of stamps))
    (sym whole ∙ filter_agree (is_ready links) (λ k. is_in k (queued (queues links ends))) (numbers_to 32) (λ k inside. sym (ready_same links ends k are)))

-- ---- soundness in both words

pub filed_line : (limit : ℕ) (range : StampRange) (links : List Link) (ends : List Ends) (stored : List ℕ) (stamps : List ℤ) (bitmap : ℕ) → length links ≤ 32 → IsSound limit range links ends stored stamps bitmap → IsFiled limit range (queues links ends) stored stamps bitmap
filed_line limit range links ends stored stamps bitmap few sound =
    let same = ready_same links ends in
    let are = sound.queues in
    record {
      apart = λ j k a b e. sound.stamped.apart j k (sym (same j are) ∙ a) (sym (same k are) ∙ b) e;
      within = λ k inside. sound.stamped.within k (sym (same k are) ∙ inside);
      limits = sound.stamped.limits;
      lines = λ i lt. list_at links ends i ∙ (sound.lines i lt ∙ ap (of_priority stored (suc i)) (line_same links ends stamps are few));
      bits = λ i lt. sound.bits i lt ∙ sym (ap has_any (list_at links ends i));
    }

pub sound_line : (limit : ℕ) (range : StampRange) (links : List Link) (ends : List Ends) (stored : List ℕ) (stamps : List ℤ) (bitmap : ℕ) → AreQueues links ends → length links ≤ 32 → IsFiled limit range (queues links ends) stored stamps bitmap → IsSound limit range links ends stored stamps bitmap
sound_line limit range links ends stored stamps bitmap are few filed =
    let same = ready_same links ends in
    record {
      queues = are;
      stamped = record {
        apart = λ j k a b e. filed.apart j k (same j are ∙ a) (same k are ∙ b) e;
        within = λ k ready. filed.within k (same k are ∙ ready);
        limits = filed.limits;
      };
      lines = λ i lt. sym (list_at links ends i) ∙ (filed.lines i lt ∙ ap (of_priority stored (suc i)) (sym (line_same links ends stamps are few)));
      bits = λ i lt. filed.bits i lt ∙ ap has_any (list_at links ends i);
    }

pub filed_sound : (limit : ℕ) (range : StampRange) (links : List Link) (ends : List Ends) (stored : List ℕ) (stamps : List ℤ) (bitmap : ℕ) → AreQueues links ends → length links ≤ 32 → IsSound limit range links ends stored stamps bitmap ↔ IsFiled limit range (queues links ends) stored stamps bitmap
filed_sound limit range links ends stored stamps bitmap are few =
    (filed_line limit range links ends stored stamps bitmap few, sound_line limit range links ends stored stamps bitmap are few)

-- ---- the line's threads

pub no_members : (ks : List ℕ) → ((k : ℕ) → is_in k ks ≡ true → ⊥) → ks ≡ []
no_members [] h = refl
no_members (k ∷ ks) h = absurd (h k (in_here k ks))

-- the queue of a thread that is in one of the first 32
pub record IsPlaced (k : ℕ) (lists : List (List ℕ)) : Type 0 where
  pub place : ℕ
  pub low : place < 32
  pub inside : is_in k (part_of lists place) ≡ true

pub placed_in : (lists : List (List ℕ)) (k : ℕ) → is_in k (queued lists) ≡ true → IsPlaced k lists
placed_in lists k inside =
    let at = among k (take 32 lists) inside in
    let lt : at.place < 32 = omega (arith, at.low, length-take 32 lists) in
    record { place = at.place; low = lt; inside = subst (λ l. is_in k l ≡ true) (get_or-take 32 lists at.place [] lt) at.inside }

pub queued_in : (lists : List (List ℕ)) (k i : ℕ) → i < 32 → is_in k (part_of lists i) ≡ true → is_in k (queued lists) ≡ true
queued_in lists k i lt inside = joined_in k (take 32 lists) i (subst (λ l. is_in k l ≡ true) (sym (get_or-take 32 lists i [] lt)) inside)

pub in_line : (lists : List (List ℕ)) (stamps : List ℤ) (k : ℕ) → is_in k (line_of lists stamps) ≡ (is_in k (queued lists) && is_in k (numbers_to 32))
in_line lists stamps k = in_sorted (stamp_of stamps) k (filter (λ j. is_in j (queued lists)) (numbers_to 32)) ∙ in_kept (λ j. is_in j (queued lists)) k (numbers_to 32)

pub member_queued : (lists : List (List ℕ)) (stamps : List ℤ) (k : ℕ) → is_in k (line_of lists stamps) ≡ true → is_in k (queued lists) ≡ true
member_queued lists stamps k inside = (and_parts (is_in k (queued lists)) (is_in k (numbers_to 32)) (sym (in_line lists stamps k) ∙ inside)).0

none_queued : (lists : List (List ℕ)) → ((i : ℕ) → i < 32 → part_of lists i ≡ []) → (k : ℕ) → is_in k (queued lists) ≡ true → ⊥
none_queued lists none k inside = (let at = placed_in lists k inside in let there : is_in k [] ≡ true = subst (λ l. is_in k l ≡ true) (none at.place at.low) at.inside in absurd (cc))

pub none_line : (lists : List (List ℕ)) (stamps : List ℤ) → ((i : ℕ) → i < 32 → part_of lists i ≡ []) → line_of lists stamps ≡ []
none_line lists stamps none = no_members (line_of lists stamps) (λ k inside. none_queued lists none k (member_queued lists stamps k inside))

pub none_filed : (limit : ℕ) (range : StampRange) (lists : List (List ℕ)) (stored : List ℕ) (stamps : List ℤ) → ((i : ℕ) → i < 32 → part_of lists i ≡ []) → IsRange limit range → IsFiled limit range lists stored stamps 0
none_filed limit range lists stored stamps none limits = record {
  apart = λ j k a b e. absurd (none_queued lists none j a);
  within = λ k inside. absurd (none_queued lists none k inside);
  limits = limits;
  lines = λ i lt. none i lt ∙ sym (ap (of_priority stored (suc i)) (none_line lists stamps none));
  bits = λ i lt. ap (λ b. b == 1) (bit_at-zero i) ∙ sym (ap has_any (none i lt));
}
