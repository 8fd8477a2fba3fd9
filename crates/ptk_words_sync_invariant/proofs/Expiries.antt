-- The due deadlines in order: the head is the least one, the tail those that are due without it.
use Rattle.std.proofs.Common.{◌≡◌, ℕ, zero, suc, ◌+◌, ◌<◌, ◌≤◌, Bool, true, false, cond, List, [], ◌∷◌, fold, refl, sym, ◌∙◌, ap, subst, arith}
use Rattle.std.specs.Prelude.{Option, Some, None, nat_le, slice_get, slice_set, if◌then◌else◌}
use Rattle.std.specs.Option.{option_flatten}
use Rattle.std.proofs.lemmas.Bool.{leb-true, leb-false, le-leb, false≢true}
use Rattle.std.proofs.lemmas.Bool.Decides.{nat_tests}
use Rattle.std.proofs.lemmas.Option.{none-some, same_Some}
use Rattle.ptk_words.specs.Pools.{pool_get, pool_set}
use Rattle.ptk_words.proofs.Lists.{empty_from_no_first}
use Rattle.ptk_words_model.specs.State.{Part}
use Rattle.ptk_words_model.specs.Withdrawal.{Expiry, expires_before, in_order_with, in_order, due, deadlines_of, after_expiries}
use Rattle.ptk_words_sync_invariant.specs.Expiries.{due_among, next_expiry, IsLeastDue, IsNoneDue, IsNextExpiry, after_expiry, after_next_expiry, AreExpiriesInTurn}
use Rattle.ptk_words_sync_invariant.proofs.Deadlines.{due_of, deadlines-timeout}

-- ---- of deadlines whose first is that of thread k

-- the entry at an index
abbrev deadline_from : List (Option ℕ) → ℕ → Option ℕ
deadline_from deadlines i = option_flatten (slice_get deadlines i)

-- the head is the least of the due deadlines, and the tail those that are due without it
record IsHead (tick k : ℕ) (deadlines : List (Option ℕ)) (a : Expiry) (rest : List Expiry) : Type 0 where
  index : ℕ
  number : a.thread ≡ k + index
  own : deadline_from deadlines index ≡ Some a.deadline
  due : nat_le a.deadline tick ≡ true
  least : (i deadline : ℕ) → deadline_from deadlines i ≡ Some deadline → nat_le deadline tick ≡ true → expires_before (record { thread = k + i; deadline = deadline }) a ≡ false
  tail : in_order (due_of tick k (slice_set deadlines index None)) ≡ rest

-- these are the due deadlines in order
abbrev AreDueFrom : ℕ → ℕ → List (Option ℕ) → List Expiry → Type 0
AreDueFrom tick k deadlines [] = (i deadline : ℕ) → deadline_from deadlines i ≡ Some deadline → nat_le deadline tick ≡ false
AreDueFrom tick k deadlines (a ∷ rest) = IsHead tick k deadlines a rest

-- ---- a deadline that is not due

-- the entry has no deadline, or one that is not due
abbrev IsNotDue : ℕ → Option ℕ → Type 0
IsNotDue tick x = (deadline : ℕ) → x ≡ Some deadline → nat_le deadline tick ≡ false

none_not_due : (tick : ℕ) → IsNotDue tick None
none_not_due tick deadline e = absurd (none-some deadline e)

later_not_due : (tick d : ℕ) → nat_le d tick ≡ false → IsNotDue tick (Some d)
later_not_due tick d e deadline same = ap (λ n. nat_le n tick) (sym (same_Some d deadline same)) ∙ e

due-skip : (tick k : ℕ) (x : Option ℕ) (deadlines : List (Option ℕ)) → IsNotDue tick x → due_of tick k (x ∷ deadlines) ≡ due_of tick (k + 1) deadlines
due-skip tick k None deadlines not_due = refl
due-skip tick k (Some d) deadlines not_due = ap (λ b. cond b (record { thread = k; deadline = d } ∷ due_of tick (k + 1) deadlines) (due_of tick (k + 1) deadlines)) (not_due d refl)

none_skipped : (tick : ℕ) (x : Option ℕ) (deadlines : List (Option ℕ)) → IsNotDue tick x → ((i deadline : ℕ) → deadline_from deadlines i ≡ Some deadline → nat_le deadline tick ≡ false)
    → (i deadline : ℕ) → deadline_from (x ∷ deadlines) i ≡ Some deadline → nat_le deadline tick ≡ false
none_skipped tick x deadlines not_due none zero deadline e = not_due deadline e
none_skipped tick x deadlines not_due none (suc i) deadline e = none i deadline e

renumbered : (k i deadline : ℕ) (a : Expiry) → expires_before (record { thread = (k + 1) + i; deadline = deadline }) a ≡ false → expires_before (record { thread = k + suc i; deadline = deadline }) a ≡ false
renumbered k i deadline a e = let same : k + suc i ≡ (k + 1) + i = omega arith in ap (λ t. expires_before (record { thread = t; deadline = deadline }) a) same ∙ e

least_skipped : (tick k : ℕ) (x : Option ℕ) (deadlines : List (Option ℕ)) (a : Expiry) → IsNotDue tick x
    → ((i deadline : ℕ) → deadline_from deadlines i ≡ Some deadline → nat_le deadline tick ≡ true → expires_before (record { thread = (k + 1) + i; deadline = deadline }) a ≡ false)
    → (i deadline : ℕ) → deadline_from (x ∷ deadlines) i ≡ Some deadline → nat_le deadline tick ≡ true → expires_before (record { thread = k + i; deadline = deadline }) a ≡ false
least_skipped tick k x deadlines a not_due least zero deadline e is_due = absurd (false≢true (sym (not_due deadline e) ∙ is_due))
least_skipped tick k x deadlines a not_due least (suc i) deadline e is_due = renumbered k i deadline a (least i deadline e is_due)

skipped : (tick k : ℕ) (x : Option ℕ) (deadlines : List (Option ℕ)) (xs : List Expiry) → IsNotDue tick x → AreDueFrom tick (k + 1) deadlines xs → AreDueFrom tick k (x ∷ deadlines) xs
skipped tick k x deadlines [] not_due are = none_skipped tick x deadlines not_due are
skipped tick k x deadlines (a ∷ rest) not_due are = record {
  index = suc are.index;
  number = (let n : a.thread ≡ (k + 1) + are.index = are.number in omega (arith, n));
  own = are.own;
  due = are.due;
  least = least_skipped tick k x deadlines a not_due are.least;
  tail = ap in_order (due-skip tick k x (slice_set deadlines are.index None) not_due) ∙ are.tail;
}

-- ---- a deadline that is due

due-take : (tick k d : ℕ) (deadlines : List (Option ℕ)) → nat_le d tick ≡ true → due_of tick k (Some d ∷ deadlines) ≡ record { thread = k; deadline = d } ∷ due_of tick (k + 1) deadlines
due-take tick k d deadlines is_due = ap (λ b. cond b (record { thread = k; deadline = d } ∷ due_of tick (k + 1) deadlines) (due_of tick (k + 1) deadlines)) is_due

not_before_itself : (k d : ℕ) (a : Expiry) → a.thread ≡ k → a.deadline ≡ d → expires_before a (record { thread = k; deadline = d }) ≡ false
not_before_itself k d a same at = grind (arith, nat_tests)

-- what is not before the head is not before what is before the head
not_before_first : (a b c : Expiry) → expires_before a b ≡ true → expires_before c b ≡ false → expires_before c a ≡ false
not_before_first a b c first not_before = grind (arith, nat_tests)

-- the head of the list, with its own deadline first
head_least : (tick k d : ℕ) (deadlines : List (Option ℕ))
    → ((i deadline : ℕ) → deadline_from deadlines i ≡ Some deadline → nat_le deadline tick ≡ true → expires_before (record { thread = (k + 1) + i; deadline = deadline }) (record { thread = k; deadline = d }) ≡ false)
    → (i deadline : ℕ) → deadline_from (Some d ∷ deadlines) i ≡ Some deadline → nat_le deadline tick ≡ true → expires_before (record { thread = k + i; deadline = deadline }) (record { thread = k; deadline = d }) ≡ false
head_least tick k d deadlines later zero deadline e is_due = not_before_itself k d (record { thread = k + zero; deadline = deadline }) (omega arith) (sym (same_Some d deadline e))
head_least tick k d deadlines later (suc i) deadline e is_due = renumbered k i deadline (record { thread = k; deadline = d }) (later i deadline e is_due)

head_first : (tick k d : ℕ) (deadlines : List (Option ℕ)) → nat_le d tick ≡ true
    → ((i deadline : ℕ) → deadline_from deadlines i ≡ Some deadline → nat_le deadline tick ≡ true → expires_before (record { thread = (k + 1) + i; deadline = deadline }) (record { thread = k; deadline = d }) ≡ false)
    → IsHead tick k (Some d ∷ deadlines) (record { thread = k; deadline = d }) (in_order (due_of tick (k + 1) deadlines))
head_first tick k d deadlines is_due later = record {
  index = zero;
  number = omega arith;
  own = refl;
  due = is_due;
  least = head_least tick k d deadlines later;
  tail = refl;
}

least_later : (tick k d : ℕ) (deadlines : List (Option ℕ)) (a : Expiry) → expires_before (record { thread = k; deadline = d }) a ≡ false
    → ((i deadline : ℕ) → deadline_from deadlines i ≡ Some deadline → nat_le deadline tick ≡ true → expires_before (record { thread = (k + 1) + i; deadline = deadline }) a ≡ false)
    → (i deadline : ℕ) → deadline_from (Some d ∷ deadlines) i ≡ Some deadline → nat_le deadline tick ≡ true → expires_before (record { thread = k + i; deadline = deadline }) a ≡ false
least_later tick k d deadlines a not_before least zero deadline e is_due =
    let same : k + zero ≡ k = omega arith in
    ap (λ t. expires_before (record { thread = t; deadline = deadline }) a) same ∙ ap (λ n. expires_before (record { thread = k; deadline = n }) a) (sym (same_Some d deadline e)) ∙ not_before
least_later tick k d deadlines a not_before least (suc i) deadline e is_due = renumbered k i deadline a (least i deadline e is_due)

head_later : (tick k d : ℕ) (deadlines : List (Option ℕ)) (a : Expiry) (rest : List Expiry) → nat_le d tick ≡ true → expires_before (record { thread = k; deadline = d }) a ≡ false → IsHead tick (k + 1) deadlines a rest
    → IsHead tick k (Some d ∷ deadlines) a (in_order_with expires_before (record { thread = k; deadline = d }) rest)
head_later tick k d deadlines a rest is_due not_before is = record {
  index = suc is.index;
  number = (let n : a.thread ≡ (k + 1) + is.index = is.number in omega (arith, n));
  own = is.own;
  due = is.due;
  least = least_later tick k d deadlines a not_before is.least;
  tail = ap in_order (due-take tick k d (slice_set deadlines is.index None) is_due) ∙ ap (in_order_with expires_before (record { thread = k; deadline = d })) is.tail;
}

placed : (b : Bool) (tick k d : ℕ) (deadlines : List (Option ℕ)) (a : Expiry) (rest : List Expiry) → nat_le d tick ≡ true → expires_before (record { thread = k; deadline = d }) a ≡ b
    → in_order (due_of tick (k + 1) deadlines) ≡ a ∷ rest → IsHead tick (k + 1) deadlines a rest
    → AreDueFrom tick k (Some d ∷ deadlines) (if b then record { thread = k; deadline = d } ∷ a ∷ rest else a ∷ in_order_with expires_before (record { thread = k; deadline = d }) rest)
placed true tick k d deadlines a rest is_due before e is =
    subst (IsHead tick k (Some d ∷ deadlines) (record { thread = k; deadline = d })) e
    (head_first tick k d deadlines is_due (λ i deadline at now. not_before_first (record { thread = k; deadline = d }) a (record { thread = (k + 1) + i; deadline = deadline }) before (is.least i deadline at now)))
placed false tick k d deadlines a rest is_due before e is = head_later tick k d deadlines a rest is_due before is

taken : (tick k d : ℕ) (deadlines : List (Option ℕ)) (xs : List Expiry) → nat_le d tick ≡ true → in_order (due_of tick (k + 1) deadlines) ≡ xs → AreDueFrom tick (k + 1) deadlines xs
    → AreDueFrom tick k (Some d ∷ deadlines) (in_order_with expires_before (record { thread = k; deadline = d }) xs)
taken tick k d deadlines [] is_due e are =
    subst (IsHead tick k (Some d ∷ deadlines) (record { thread = k; deadline = d })) e
    (head_first tick k d deadlines is_due (λ i deadline at now. absurd (false≢true (sym (are i deadline at) ∙ now))))
taken tick k d deadlines (a ∷ rest) is_due e are = placed (expires_before (record { thread = k; deadline = d }) a) tick k d deadlines a rest is_due refl e are

-- ---- all

either_due : (b : Bool) (tick k d : ℕ) (deadlines : List (Option ℕ)) → nat_le d tick ≡ b → AreDueFrom tick (k + 1) deadlines (in_order (due_of tick (k + 1) deadlines))
    → AreDueFrom tick k (Some d ∷ deadlines) (in_order (cond b (record { thread = k; deadline = d } ∷ due_of tick (k + 1) deadlines) (due_of tick (k + 1) deadlines)))
either_due true tick k d deadlines e are = taken tick k d deadlines (in_order (due_of tick (k + 1) deadlines)) e refl are
either_due false tick k d deadlines e are = skipped tick k (Some d) deadlines (in_order (due_of tick (k + 1) deadlines)) (later_not_due tick d e) are

nothing_due : (tick i deadline : ℕ) → deadline_from [] i ≡ Some deadline → nat_le deadline tick ≡ false
nothing_due tick i deadline e = absurd (none-some deadline e)

due_in_order : (tick k : ℕ) (deadlines : List (Option ℕ)) → AreDueFrom tick k deadlines (in_order (due_of tick k deadlines))
due_in_order tick k [] = nothing_due tick
due_in_order tick k (None ∷ deadlines) = skipped tick k None deadlines (in_order (due_of tick (k + 1) deadlines)) (none_not_due tick) (due_in_order tick (k + 1) deadlines)
due_in_order tick k (Some d ∷ deadlines) = either_due (nat_le d tick) tick k d deadlines refl (due_in_order tick (k + 1) deadlines)

-- ---- by thread number

none_due : (tick : ℕ) (deadlines : List (Option ℕ)) → AreDueFrom tick 1 deadlines [] → IsNoneDue tick deadlines
none_due tick deadlines none zero deadline e = absurd (none-some deadline e)
none_due tick deadlines none (suc i) deadline e = leb-false deadline tick (none i deadline e)

not_before_head : (tick : ℕ) (deadlines : List (Option ℕ)) (a : Expiry) (rest : List Expiry) → IsHead tick 1 deadlines a rest
    → (t d : ℕ) → pool_get deadlines t ≡ Some d → d ≤ tick → expires_before (record { thread = t; deadline = d }) a ≡ false
not_before_head tick deadlines a rest is zero d e now = absurd (none-some d e)
not_before_head tick deadlines a rest is (suc i) d e now =
    let same : suc i ≡ 1 + i = omega arith in
    ap (λ t. expires_before (record { thread = t; deadline = d }) a) same ∙ is.least i d e (le-leb d tick now)

next_number : (tick : ℕ) (deadlines : List (Option ℕ)) (a : Expiry) (rest : List Expiry) (is : IsHead tick 1 deadlines a rest) → a.thread ≡ suc is.index
next_number tick deadlines a rest is = let n : a.thread ≡ 1 + is.index = is.number in omega (arith, n)

least_due : (tick : ℕ) (deadlines : List (Option ℕ)) (a : Expiry) (rest : List Expiry) → IsHead tick 1 deadlines a rest → IsLeastDue tick deadlines a
least_due tick deadlines a rest is = record {
  own = ap (pool_get deadlines) (next_number tick deadlines a rest is) ∙ is.own;
  due = leb-true a.deadline tick is.due;
  least = λ b at now. not_before_head tick deadlines a rest is b.thread b.deadline at now;
}

next_of : (tick : ℕ) (deadlines : List (Option ℕ)) (xs : List Expiry) → AreDueFrom tick 1 deadlines xs → IsNextExpiry tick deadlines (slice_get xs 0)
next_of tick deadlines [] are = none_due tick deadlines are
next_of tick deadlines (a ∷ rest) are = least_due tick deadlines a rest are

-- the head is the least due deadline
pub next_least : (tick : ℕ) (deadlines : List (Option ℕ)) → IsNextExpiry tick deadlines (next_expiry tick deadlines)
next_least tick deadlines = next_of tick deadlines (in_order (due_among tick deadlines)) (due_in_order tick 1 deadlines)

same_deadline : (a b : Expiry) → expires_before a b ≡ false → expires_before b a ≡ false → a.deadline ≡ b.deadline
same_deadline a b not_before not_after = grind (arith, nat_tests)

same_thread : (a b : Expiry) → expires_before a b ≡ false → expires_before b a ≡ false → a.thread ≡ b.thread
same_thread a b not_before not_after = grind (arith, nat_tests)

same_parts : (a b : Expiry) → a.thread ≡ b.thread → a.deadline ≡ b.deadline → a ≡ b
same_parts a b thread deadline = ap (λ t. record { thread = t; deadline = a.deadline }) thread ∙ ap (λ d. record { thread = b.thread; deadline = d }) deadline

same_expiry : (a b : Expiry) → expires_before a b ≡ false → expires_before b a ≡ false → a ≡ b
same_expiry a b not_before not_after = same_parts a b (same_thread a b not_before not_after) (same_deadline a b not_before not_after)

due_or_not : (tick : ℕ) (deadlines : List (Option ℕ)) (a : Expiry) → IsNoneDue tick deadlines → IsLeastDue tick deadlines a → ⊥
due_or_not tick deadlines a none is = let late : tick < a.deadline = none a.thread a.deadline is.own in let now : a.deadline ≤ tick = is.due in omega (arith, late, now)

same_next : (tick : ℕ) (deadlines : List (Option ℕ)) (o next : Option Expiry) → IsNextExpiry tick deadlines o → IsNextExpiry tick deadlines next → o ≡ next
same_next tick deadlines None None is other = refl
same_next tick deadlines None (Some b) is other = absurd (due_or_not tick deadlines b is other)
same_next tick deadlines (Some a) None is other = absurd (due_or_not tick deadlines a other is)
same_next tick deadlines (Some a) (Some b) is other = ap (λ (c : Expiry). Some c) (same_expiry a b (other.least a is.own is.due) (is.least b other.own other.due))

-- there is one least due deadline at most
pub next_only : (tick : ℕ) (deadlines : List (Option ℕ)) (o : Option Expiry) → IsNextExpiry tick deadlines o → o ≡ next_expiry tick deadlines
next_only tick deadlines o is = same_next tick deadlines o (next_expiry tick deadlines) is (next_least tick deadlines)

rest_of : (tick : ℕ) (deadlines : List (Option ℕ)) (xs : List Expiry) (a : Expiry) → AreDueFrom tick 1 deadlines xs → slice_get xs 0 ≡ Some a → xs ≡ a ∷ in_order (due_among tick (pool_set deadlines a.thread None))
rest_of tick deadlines [] a are e = absurd (none-some a e)
rest_of tick deadlines (x ∷ rest) a are e =
    let own : x ≡ a = same_Some x a e in
    let tail : in_order (due_among tick (pool_set deadlines x.thread None)) ≡ rest = ap (λ t. in_order (due_among tick (pool_set deadlines t None))) (next_number tick deadlines x rest are) ∙ are.tail in
    ap (λ ys. x ∷ ys) (sym tail) ∙ ap (λ (y : Expiry). y ∷ in_order (due_among tick (pool_set deadlines y.thread None))) own

-- the tail is what is due without it
pub next_rest : (tick : ℕ) (deadlines : List (Option ℕ)) (a : Expiry) → next_expiry tick deadlines ≡ Some a → in_order (due_among tick deadlines) ≡ a ∷ in_order (due_among tick (pool_set deadlines a.thread None))
next_rest tick deadlines a e = rest_of tick deadlines (in_order (due_among tick deadlines)) a (due_in_order tick 1 deadlines) e

-- ---- the expiries of a tick

-- the first timeout ends the first deadline alone
pub in_turn : (tick : ℕ) (a : Expiry) (s : Part) → next_expiry tick (deadlines_of s.locks) ≡ Some a → AreExpiriesInTurn tick a s
in_turn tick a s e = record {
  deadlines = deadlines-timeout a.thread s;
  rest = next_rest tick (deadlines_of s.locks) a e;
  later = next_rest tick (deadlines_of s.locks) a e ∙ ap (λ deadlines. a ∷ in_order (due_among tick deadlines)) (sym (deadlines-timeout a.thread s));
}

by_next : (tick : ℕ) (next : Option Expiry) (s : Part) → next_expiry tick (deadlines_of s.locks) ≡ next → after_expiries tick s ≡ after_next_expiry tick next s
by_next tick None s e = ap (λ (xs : List Expiry). fold (λ u a. after_expiry a u) s xs) (empty_from_no_first (in_order (due tick s)) e)
by_next tick (Some a) s e = ap (λ xs. fold (λ u b. after_expiry b u) s xs) ((in_turn tick a s e).later)

-- one expiry at a time
pub one_at_a_time : (tick : ℕ) (s : Part) → after_expiries tick s ≡ after_next_expiry tick (next_expiry tick (deadlines_of s.locks)) s
one_at_a_time tick s = by_next tick (next_expiry tick (deadlines_of s.locks)) s refl
