-- The slots of all partitions, one partition's behind the other's, after a change of one partition's pairs.
use Rattle.std.proofs.Common.{◌≡◌, ℕ, zero, suc, ◌+◌, ◌*◌, ◌<◌, ◌≤◌, List, [], ◌∷◌, length, replicate, refl, sym, ◌∙◌, ap, subst, arith, Option, Some, None, inl, inr}
use Rattle.std.proofs.Common.{take, drop, ◌++◌}
use Rattle.std.specs.Prelude.{slice_get, slice_set, slice_index_or, map, All}
use Rattle.std.proofs.Math.Seq.{take-append_seam}
use Rattle.std.proofs.lemmas.Option.{none-some, same_Some}
use Rattle.ptk_words.specs.Names.{Tick}
use Rattle.ptk_words.specs.Parts.{part_of, filled}
use Rattle.ptk_clock.specs.declared.threads.PartitionSlots.{PartitionSlots}
use Rattle.ptk_clock.specs.Pairs.{Pair, DeadlineTable}
use Rattle.ptk_clock.specs.BySlot.{deadlines_from}
use Rattle.ptk_clock.specs.ByThread.{least_deadline, first_slot, deadlines_by_partition, AreLaid, AreLeast, AreThreadDeadlines, laid_from, end_from, IsElsewhereSame, with_least}
use Rattle.ptk_clock.proofs.Expiries.{length-deadlines_from, deadlines_from_none}
use Rattle.ptk_clock.proofs.LeastDeadlines.{least_none}

-- ---- one partition's slots

pub length-by : (ss : List PartitionSlots) (xs : List Pair) → length (deadlines_by_partition ss xs) ≡ length ss
length-by [] xs = refl
length-by (s ∷ ss) xs = let rest : length (deadlines_by_partition ss xs) ≡ length ss = length-by ss xs in omega (arith, rest)

pub part_of-by : (p : ℕ) (ss : List PartitionSlots) (s : PartitionSlots) (xs : List Pair) → slice_get ss p ≡ Some s → part_of (deadlines_by_partition ss xs) p ≡ deadlines_from s.first s.count xs
part_of-by p [] s xs e = absurd (none-some s e)
part_of-by zero (x ∷ ss) s xs e = ap (λ (r : PartitionSlots). deadlines_from r.first r.count xs) (same_Some x s e)
part_of-by (suc p) (x ∷ ss) s xs e = part_of-by p ss s xs e

-- a partition's slots lie from a slot on, before the end of all
pub record IsLaid (start slots : ℕ) (s : PartitionSlots) : Type 0 where
  pub low : start ≤ s.first
  pub high : s.first + s.count ≤ slots
  pub count : s.count ≤ 32

laid_end : (start slots : ℕ) (ss : List PartitionSlots) → AreLaid start slots ss → start ≤ slots
laid_end start slots [] h = h
laid_end start slots (s ∷ ss) h = let rest : start + s.count ≤ slots = laid_end (start + s.count) slots ss h.2 in omega (arith, rest)

pub laid_at : (start slots p : ℕ) (ss : List PartitionSlots) (s : PartitionSlots) → AreLaid start slots ss → slice_get ss p ≡ Some s → IsLaid start slots s
laid_at start slots p [] s h e = absurd (none-some s e)
laid_at start slots zero (x ∷ ss) s h e =
    let rest : start + x.count ≤ slots = laid_end (start + x.count) slots ss h.2 in
    let first : x.first ≡ start = h.0 in
    let is : IsLaid start slots x = record { low = omega (arith, first); high = omega (arith, first, rest); count = h.1 } in
    subst (IsLaid start slots) (same_Some x s e) is
laid_at start slots (suc p) (x ∷ ss) s h e =
    let is : IsLaid (start + x.count) slots s = laid_at (start + x.count) slots p ss s h.2 e in
    let low : start + x.count ≤ s.first = is.low in
    record { low = omega (arith, low); high = is.high; count = is.count }

-- ---- the partitions after a change of one partition's pairs

by-behind : (start slots first n : ℕ) (ss : List PartitionSlots) (xs ys : List Pair) → AreLaid start slots ss → first + n ≤ start → IsElsewhereSame first n xs ys → deadlines_by_partition ss ys ≡ deadlines_by_partition ss xs
by-behind start slots first n [] xs ys h le same = refl
by-behind start slots first n (s ∷ ss) xs ys h le same =
    let at : s.first ≡ start = h.0 in
    let here : deadlines_from s.first s.count ys ≡ deadlines_from s.first s.count xs = same s.first s.count (inr (omega (arith, at, le))) in
    let rest : deadlines_by_partition ss ys ≡ deadlines_by_partition ss xs = by-behind (start + s.count) slots first n ss xs ys h.2 (omega (arith, le)) same in
    rw (here, rest) refl

by-unread : (p : ℕ) (ss : List PartitionSlots) (ys zs : List Pair) → deadlines_by_partition (with_least p zs ss) ys ≡ deadlines_by_partition ss ys
by-unread p [] ys zs = refl
by-unread zero (s ∷ ss) ys zs = refl
by-unread (suc p) (s ∷ ss) ys zs = ap (λ (rest : List (List (Option Tick))). deadlines_from s.first s.count ys ∷ rest) (by-unread p ss ys zs)

by-set : (start slots p : ℕ) (ss : List PartitionSlots) (s : PartitionSlots) (xs ys : List Pair) → AreLaid start slots ss → slice_get ss p ≡ Some s → IsElsewhereSame s.first s.count xs ys
    → deadlines_by_partition ss ys ≡ slice_set (deadlines_by_partition ss xs) p (deadlines_from s.first s.count ys)
by-set start slots p [] s xs ys h e same = refl
by-set start slots zero (x ∷ ss) s xs ys h e same =
    let is : x ≡ s = same_Some x s e in
    let first : x.first ≡ s.first = ap (λ (r : PartitionSlots). r.first) is in
    let count : x.count ≡ s.count = ap (λ (r : PartitionSlots). r.count) is in
    let at : x.first ≡ start = h.0 in
    let here : deadlines_from x.first x.count ys ≡ deadlines_from s.first s.count ys = ap (λ (r : PartitionSlots). deadlines_from r.first r.count ys) is in
    let rest : deadlines_by_partition ss ys ≡ deadlines_by_partition ss xs = by-behind (start + x.count) slots s.first s.count ss xs ys h.2 (omega (arith, first, count, at)) same in
    rw (here, rest) refl
by-set start slots (suc p) (x ∷ ss) s xs ys h e same =
    let is : IsLaid (start + x.count) slots s = laid_at (start + x.count) slots p ss s h.2 e in
    let low : start + x.count ≤ s.first = is.low in
    let at : x.first ≡ start = h.0 in
    let here : deadlines_from x.first x.count ys ≡ deadlines_from x.first x.count xs = same x.first x.count (inl (omega (arith, low, at))) in
    let rest : deadlines_by_partition ss ys ≡ slice_set (deadlines_by_partition ss xs) p (deadlines_from s.first s.count ys) = by-set (start + x.count) slots p ss s xs ys h.2 e same in
    rw (here, rest) refl

-- one partition's deadlines are others, and every other partition's stay
pub by-changed : (slots p : ℕ) (ss : List PartitionSlots) (s : PartitionSlots) (xs ys : List Pair) (v : List (Option Tick)) → AreThreadDeadlines slots xs ss → slice_get ss p ≡ Some s
    → IsElsewhereSame s.first s.count xs ys → deadlines_from s.first s.count ys ≡ v → deadlines_by_partition (with_least p ys ss) ys ≡ slice_set (deadlines_by_partition ss xs) p v
by-changed slots p ss s xs ys v h e same own = by-unread p ss ys ys ∙ by-set 0 slots p ss s xs ys h.laid e same ∙ ap (slice_set (deadlines_by_partition ss xs) p) own

laid-with : (start slots p : ℕ) (ss : List PartitionSlots) (ys : List Pair) → AreLaid start slots ss → AreLaid start slots (with_least p ys ss)
laid-with start slots p [] ys h = h
laid-with start slots zero (s ∷ ss) ys h = h
laid-with start slots (suc p) (s ∷ ss) ys h = (h.0, h.1, laid-with (start + s.count) slots p ss ys h.2)

least-behind : (start slots first n : ℕ) (ss : List PartitionSlots) (xs ys : List Pair) → AreLaid start slots ss → first + n ≤ start → IsElsewhereSame first n xs ys → AreLeast xs ss → AreLeast ys ss
least-behind start slots first n [] xs ys h le same least = tt
least-behind start slots first n (s ∷ ss) xs ys h le same least =
    let at : s.first ≡ start = h.0 in
    let here : deadlines_from s.first s.count ys ≡ deadlines_from s.first s.count xs = same s.first s.count (inr (omega (arith, at, le))) in
    (least.0 ∙ ap least_deadline (sym here), least-behind (start + s.count) slots first n ss xs ys h.2 (omega (arith, le)) same least.1)

least-with : (start slots p : ℕ) (ss : List PartitionSlots) (s : PartitionSlots) (xs ys : List Pair) → AreLaid start slots ss → slice_get ss p ≡ Some s → IsElsewhereSame s.first s.count xs ys → AreLeast xs ss → AreLeast ys (with_least p ys ss)
least-with start slots p [] s xs ys h e same least = tt
least-with start slots zero (x ∷ ss) s xs ys h e same least =
    let is : x ≡ s = same_Some x s e in
    let first : x.first ≡ s.first = ap (λ (r : PartitionSlots). r.first) is in
    let count : x.count ≡ s.count = ap (λ (r : PartitionSlots). r.count) is in
    let at : x.first ≡ start = h.0 in
    (refl, least-behind (start + x.count) slots s.first s.count ss xs ys h.2 (omega (arith, first, count, at)) same least.1)
least-with start slots (suc p) (x ∷ ss) s xs ys h e same least =
    let is : IsLaid (start + x.count) slots s = laid_at (start + x.count) slots p ss s h.2 e in
    let low : start + x.count ≤ s.first = is.low in
    let at : x.first ≡ start = h.0 in
    let here : deadlines_from x.first x.count ys ≡ deadlines_from x.first x.count xs = same x.first x.count (inl (omega (arith, low, at))) in
    (least.0 ∙ ap least_deadline (sym here), least-with (start + x.count) slots p ss s xs ys h.2 e same least.1)

-- what always holds is so after the change
pub kept-changed : (slots p : ℕ) (ss : List PartitionSlots) (s : PartitionSlots) (xs ys : List Pair) → AreThreadDeadlines slots xs ss → slice_get ss p ≡ Some s → IsElsewhereSame s.first s.count xs ys → AreThreadDeadlines slots ys (with_least p ys ss)
kept-changed slots p ss s xs ys h e same = record { few = h.few; laid = laid-with 0 slots p ss ys h.laid; least = least-with 0 slots p ss s xs ys h.laid e same h.least }

-- the kept deadline is the least of the partition's
pub least_at : (p : ℕ) (ss : List PartitionSlots) (s : PartitionSlots) (xs : List Pair) → AreLeast xs ss → slice_get ss p ≡ Some s → s.next ≡ least_deadline (part_of (deadlines_by_partition ss xs) p)
least_at p [] s xs h e = absurd (none-some s e)
least_at zero (x ∷ ss) s xs h e = ap (λ (r : PartitionSlots). r.next) (sym (same_Some x s e)) ∙ h.0
least_at (suc p) (x ∷ ss) s xs h e = least_at p ss s xs h.1 e

-- the least made again is put where it was kept
put_at : (p : ℕ) (ss : List PartitionSlots) (s d : PartitionSlots) (ys : List Pair) (o : Option Tick) → slice_get ss p ≡ Some s → o ≡ least_deadline (deadlines_from s.first s.count ys)
    → slice_set ss p (record { first = (slice_index_or ss p d).first; count = (slice_index_or ss p d).count; next = o }) ≡ with_least p ys ss
put_at p [] s d ys o e is = absurd (none-some s e)
put_at zero (x ∷ ss) s d ys o e is =
    let same : o ≡ least_deadline (deadlines_from x.first x.count ys) = is ∙ ap (λ (r : PartitionSlots). least_deadline (deadlines_from r.first r.count ys)) (sym (same_Some x s e)) in
    rw same refl
put_at (suc p) (x ∷ ss) s d ys o e is = ap (λ (rest : List PartitionSlots). x ∷ rest) (put_at p ss s d ys o e is)

pub put_least : (p i : ℕ) (ss : List PartitionSlots) (s d : PartitionSlots) (ys : List Pair) (o : Option Tick) → i ≡ p → slice_get ss p ≡ Some s → o ≡ least_deadline (deadlines_from s.first s.count ys)
    → slice_set ss i (record { first = (slice_index_or ss i d).first; count = (slice_index_or ss i d).count; next = o }) ≡ with_least p ys ss
put_least p i ss s d ys o same e is = ap (λ k. slice_set ss k (record { first = (slice_index_or ss k d).first; count = (slice_index_or ss k d).count; next = o })) same ∙ put_at p ss s d ys o e is

-- ---- the partitions as they are read and written back

pub within : (p : ℕ) (items read : List PartitionSlots) (xs : List Pair) (value : List (List (Option Tick))) → read ≡ items → deadlines_by_partition items xs ≡ value → p < length value → p < length read
within p items read xs value same view lt =
    let lists : length value ≡ length items = ap length (sym view) ∙ length-by items xs in
    let count : length read ≡ length items = ap length same in
    omega (arith, lists, count, lt)

pub laid_read : (slots p : ℕ) (items read : List PartitionSlots) (s : PartitionSlots) (xs : List Pair) → AreThreadDeadlines slots xs items → read ≡ items → slice_get read p ≡ Some s → IsLaid 0 slots s
laid_read slots p items read s xs h same e = laid_at 0 slots p items s h.laid (ap (λ (ss : List PartitionSlots). slice_get ss p) (sym same) ∙ e)

pub least_read : (slots p : ℕ) (items read : List PartitionSlots) (s : PartitionSlots) (xs : List Pair) (value : List (List (Option Tick))) → AreThreadDeadlines slots xs items → read ≡ items → slice_get read p ≡ Some s → deadlines_by_partition items xs ≡ value → s.next ≡ least_deadline (part_of value p)
least_read slots p items read s xs value h same e view = least_at p items s xs h.least (ap (λ (ss : List PartitionSlots). slice_get ss p) (sym same) ∙ e) ∙ ap (λ (lists : List (List (Option Tick))). least_deadline (part_of lists p)) view

-- a partition's slots were read, its pairs changed, and its least deadline made again
pub record IsChange (p n : ℕ) (items : List PartitionSlots) (s : PartitionSlots) (xs ys : List Pair) (new : List PartitionSlots) : Type 0 where
  pub read : slice_get items p ≡ Some s
  pub elsewhere : IsElsewhereSame s.first s.count xs ys
  pub made : take n (new ++ drop (length new) items) ≡ with_least p ys items

length-with_least : (p : ℕ) (ss : List PartitionSlots) (ys : List Pair) → length (with_least p ys ss) ≡ length ss
length-with_least p [] ys = refl
length-with_least zero (s ∷ ss) ys = refl
length-with_least (suc p) (s ∷ ss) ys = let rest : length (with_least p ys ss) ≡ length ss = length-with_least p ss ys in omega (arith, rest)

pub change : (p n : ℕ) (items read lent : List PartitionSlots) (s : PartitionSlots) (xs ys : List Pair) (new : List PartitionSlots) → read ≡ items → slice_get read p ≡ Some s → lent ≡ items → length lent ≡ n → IsElsewhereSame s.first s.count xs ys → new ≡ with_least p ys lent
    → IsChange p n items s xs ys new
change p n items read lent s xs ys new same e lends count elsewhere made =
    let made' : new ≡ with_least p ys items = made ∙ ap (with_least p ys) lends in
    let all : n ≡ length new = sym (ap length made' ∙ length-with_least p items ys ∙ ap length (sym lends) ∙ count) in
    record {
      read = ap (λ (ss : List PartitionSlots). slice_get ss p) (sym same) ∙ e;
      elsewhere = elsewhere;
      made = ap (λ k. take k (new ++ drop (length new) items)) all ∙ take-append_seam new (drop (length new) items) ∙ made';
    }

pub kept_back : (slots after p n : ℕ) (items : List PartitionSlots) (s : PartitionSlots) (xs ys : List Pair) (new : List PartitionSlots) → AreThreadDeadlines slots xs items → after ≡ slots → IsChange p n items s xs ys new
    → AreThreadDeadlines after ys (take n (new ++ drop (length new) items))
kept_back slots after p n items s xs ys new h e changed =
    let P : List PartitionSlots → Type 0 = λ ss. AreThreadDeadlines after ys ss in
    let Q : ℕ → Type 0 = λ k. AreThreadDeadlines k ys (with_least p ys items) in
    subst P (sym changed.made) (subst Q (sym e) (kept-changed slots p items s xs ys h changed.read changed.elsewhere))

pub view_back : (slots p n : ℕ) (items : List PartitionSlots) (s : PartitionSlots) (xs ys : List Pair) (new : List PartitionSlots) (f : List (Option Tick) → List (Option Tick)) (value : List (List (Option Tick))) → AreThreadDeadlines slots xs items → IsChange p n items s xs ys new
    → deadlines_from s.first s.count ys ≡ f (deadlines_from s.first s.count xs) → deadlines_by_partition items xs ≡ value → deadlines_by_partition (take n (new ++ drop (length new) items)) ys ≡ slice_set value p (f (part_of value p))
view_back slots p n items s xs ys new f value h changed own view =
    ap (λ (ss : List PartitionSlots). deadlines_by_partition ss ys) changed.made
    ∙ by-changed slots p items s xs ys (f (part_of (deadlines_by_partition items xs) p)) h changed.read changed.elsewhere (own ∙ ap f (sym (part_of-by p items s xs changed.read)))
    ∙ ap (λ (lists : List (List (Option Tick))). slice_set lists p (f (part_of lists p))) view

-- ---- the first slots

by_first : (start slots p : ℕ) (ss : List PartitionSlots) (xs : List Pair) → AreLaid start slots ss → p < length ss
    → part_of (deadlines_by_partition ss xs) p ≡ deadlines_from (start + first_slot p (deadlines_by_partition ss xs)) (length (part_of (deadlines_by_partition ss xs) p)) xs
by_first start slots p [] xs h lt = absurd (omega (arith, lt))
by_first start slots zero (s ∷ ss) xs h lt =
    let first : s.first ≡ start + 0 = omega (arith, h.0) in
    ap (λ k. deadlines_from k s.count xs) first ∙ ap (λ n. deadlines_from (start + 0) n xs) (sym (length-deadlines_from s.first s.count xs))
by_first start slots (suc p) (s ∷ ss) xs h lt =
    let count : length (deadlines_from s.first s.count xs) ≡ s.count = length-deadlines_from s.first s.count xs in
    let all : List (List (Option Tick)) = deadlines_by_partition ss xs in
    let first : start + s.count + first_slot p all ≡ start + (length (deadlines_from s.first s.count xs) + first_slot p all) = omega (arith, count) in
    by_first (start + s.count) slots p ss xs h.2 (omega (arith, lt)) ∙ ap (λ k. deadlines_from k (length (part_of all p)) xs) first

-- each partition's deadlines are read from its first slot on
pub read_from : (slots p : ℕ) (ss : List PartitionSlots) (xs : List Pair) → AreLaid 0 slots ss → p < length (deadlines_by_partition ss xs)
    → part_of (deadlines_by_partition ss xs) p ≡ deadlines_from (first_slot p (deadlines_by_partition ss xs)) (length (part_of (deadlines_by_partition ss xs) p)) xs
read_from slots p ss xs h lt =
    let all : List (List (Option Tick)) = deadlines_by_partition ss xs in
    by_first 0 slots p ss xs h (omega (arith, lt, length-by ss xs)) ∙ ap (λ k. deadlines_from k (length (part_of all p)) xs) (omega arith)

-- ---- no deadline yet

pub by-laid : (start : ℕ) (ns : List ℕ) → deadlines_by_partition (laid_from start ns) [] ≡ map (filled None) ns
by-laid start [] = refl
by-laid start (n ∷ ns) =
    let here : deadlines_from start n [] ≡ replicate n None = deadlines_from_none start n in
    let rest : deadlines_by_partition (laid_from (start + n) ns) [] ≡ map (filled None) ns = by-laid (start + n) ns in
    rw (here, rest) refl

laid_new : (start : ℕ) (ns : List ℕ) → All (λ n. n ≤ 32) ns → AreLaid start (end_from start ns) (laid_from start ns)
laid_new start [] h = omega arith
laid_new start (n ∷ ns) h = (refl, h 0 0 (omega arith), laid_new (start + n) ns (λ k d lt. h (suc k) d (omega (arith, lt))))

least_new : (start : ℕ) (ns : List ℕ) → AreLeast [] (laid_from start ns)
least_new start [] = tt
least_new start (n ∷ ns) = (sym (least_none start n [] (λ q low high. refl)), least_new (start + n) ns)

end_new : (start : ℕ) (ns : List ℕ) → All (λ n. n ≤ 32) ns → end_from start ns ≤ start + length ns * 32
end_new start [] h = omega arith
end_new start (n ∷ ns) h =
    let here : n ≤ 32 = h 0 0 (omega arith) in
    let rest : end_from (start + n) ns ≤ start + n + length ns * 32 = end_new (start + n) ns (λ k d lt. h (suc k) d (omega (arith, lt))) in
    omega (arith, here, rest)

pub kept_new : (slots : ℕ) (queue : DeadlineTable) (items : List PartitionSlots) (ns : List ℕ) → length ns ≤ 8 → All (λ n. n ≤ 32) ns → queue ≡ record { slots = slots; pairs = [] } → items ≡ laid_from 0 ns → slots ≡ end_from 0 ns → AreThreadDeadlines queue.slots queue.pairs items
kept_new slots queue items ns le h made laid end =
    let few : end_from 0 ns ≤ 0 + length ns * 32 = end_new 0 ns h in
    let new : AreThreadDeadlines (end_from 0 ns) [] (laid_from 0 ns) = record { few = omega (arith, few, le); laid = laid_new 0 ns h; least = least_new 0 ns } in
    let P : List PartitionSlots → Type 0 = λ ss. AreThreadDeadlines (end_from 0 ns) [] ss in
    let Q : ℕ → Type 0 = λ k. AreThreadDeadlines k [] items in
    let R : DeadlineTable → Type 0 = λ table. AreThreadDeadlines table.slots table.pairs items in
    subst R (sym made) (subst Q (sym end) (subst P (sym laid) new))

pub view_new : (slots : ℕ) (queue : DeadlineTable) (items : List PartitionSlots) (ns : List ℕ) → queue ≡ record { slots = slots; pairs = [] } → items ≡ laid_from 0 ns → deadlines_by_partition items queue.pairs ≡ map (filled None) ns
view_new slots queue items ns made laid =
    ap (λ (table : DeadlineTable). deadlines_by_partition items table.pairs) made ∙ ap (λ (ss : List PartitionSlots). deadlines_by_partition ss []) laid ∙ by-laid 0 ns
