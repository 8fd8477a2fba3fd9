-- Pools, whose numbers count from 1, read and written at a number, and the table after a change of one partition.
use Rattle.std.proofs.Common.{◌≡◌, ℕ, zero, suc, ◌+◌, ◌-◌, ◌<◌, ◌≤◌, List, [], ◌∷◌, length, map, refl, sym, ◌∙◌, ap, subst, arith, All, get_or, add-one}
use Rattle.std.specs.Prelude.{Option, Some, None, IsSome, option_map, is_none, position, slice_get, slice_index, if◌then◌else◌, Bool, not, ◌||◌}
use Rattle.std.specs.List.{prefix_len, list_any}
use Rattle.std.specs.Option.{option_flatten}
use Rattle.std.proofs.Math.ListN.{set, get_or-map}
use Rattle.std.proofs.Math.Seq.{map-set_same}
use Rattle.std.proofs.lemmas.List.{length-replicate, length-map, length-set, map-set, set_past, set-get_or, set-set, get_or_read}
use Rattle.std.proofs.lemmas.List.Elements.{All-head, All-tail}
use Rattle.ptk_words.specs.Pools.{pool_get, pool_set, pool_changed}
use Rattle.ptk_words.specs.declared.threads.Thread.{Thread}
use Rattle.ptk_words.proofs.Pools.{length-pool_set, length-changed, entry_past, pool_set_below}
use Rattle.ptk_words.specs.Parts.{part_of, filled}
use Rattle.ptk_words.specs.Cuts.{lent}
use Rattle.ptk_words.proofs.Cuts.{lent-same, set_part-same}
use Rattle.ptk_words.proofs.Entries.{length_part-set}
use Rattle.ptk_threads.specs.declared.slot.Slot.{Slot}
use Rattle.ptk_threads.specs.Links.{shared_links, threads_of, free_slot}
use Rattle.ptk_threads.specs.Table.{IsTable, stored_of, replaced_by}

-- ---- a number

pub pool_get_below : {A : Type 0} (pool : List (Option A)) (k : ℕ) → 0 < k → pool_get pool k ≡ option_flatten (slice_get pool (k - 1))
pool_get_below pool zero h = absurd (omega arith)
pool_get_below pool (suc i) h = let e : suc i - 1 ≡ i = omega arith in rw e refl

pub stored_of_below : (stored : List ℕ) (k : ℕ) → 0 < k → stored_of stored k ≡ slice_index stored (k - 1)
stored_of_below stored zero h = absurd (omega arith)
stored_of_below stored (suc i) h = let e : suc i - 1 ≡ i = omega arith in rw e refl

slot_at : {X : Type 0} (xs : List (Option X)) (i : ℕ) (d : Option X) → i < length xs → option_flatten (slice_get xs i) ≡ get_or xs i d
slot_at [] i d lt = absurd (omega (arith, lt))
slot_at (x ∷ xs) zero d lt = refl
slot_at (x ∷ xs) (suc i) d lt = slot_at xs i d (omega (arith, lt))

-- ---- a slot, as the code reads and writes it

place_of_number : (i : ℕ) → suc i - 1 ≡ i
place_of_number i = omega arith

pub length-threads_of : (slots : List Slot) → length (threads_of slots) ≡ length slots
length-threads_of slots = length-map slots (λ (slot : Slot). slot.thread)

thread_here : (slots : List Slot) (i : ℕ) (slot : Slot) → i < length slots → slot ≡ get_or slots i slot → slot.thread ≡ option_flatten (slice_get (threads_of slots) i)
thread_here slots i slot lt is =
    ap (λ (s : Slot). s.thread) (get_or_read slots i slot lt is (free_slot 0))
    ∙ (sym (get_or-map (λ (s : Slot). s.thread) slots i (free_slot 0)) ∙ sym (slot_at (threads_of slots) i None (rw (length-threads_of slots) lt)))

pub read_at : (slots : List Slot) (k : ℕ) (slot : Slot) → 0 < k → k - 1 < length slots → slot ≡ get_or slots (k - 1) slot → slot.thread ≡ pool_get (threads_of slots) k
read_at slots zero slot h lt is = absurd (omega (arith, h))
read_at slots (suc i) slot h lt is = thread_here slots i slot (omega (arith, lt)) (rw (place_of_number i) at is)

pub read_past : (slots : List Slot) (k : ℕ) → 0 < k → length slots ≤ k - 1 → None ≡ pool_get (threads_of slots) k
read_past slots zero h le = absurd (omega (arith, h))
read_past slots (suc i) h le = sym (entry_past (threads_of slots) i (rw (length-threads_of slots) (omega (arith, le))))

pub changed_at : (k : ℕ) (f : Thread → Thread) (slots new : List Slot) (slot after : Slot) → 0 < k → k - 1 < length slots → slot ≡ get_or slots (k - 1) slot → new ≡ set slots (k - 1) after
    → after.thread ≡ option_map f slot.thread → threads_of new ≡ pool_changed k f (threads_of slots)
changed_at zero f slots new slot after h lt r e is = absurd (omega (arith, h))
changed_at (suc i) f slots new slot after h lt r e is =
    let read = thread_here slots i slot (omega (arith, lt)) (rw (place_of_number i) at r) in
    ap threads_of (rw (place_of_number i) at e) ∙ (map-set (λ (s : Slot). s.thread) slots i after ∙ ap (set (threads_of slots) i) (is ∙ ap (option_map f) read))

pub changed_past : (k : ℕ) (f : Thread → Thread) (slots : List Slot) → 0 < k → length slots ≤ k - 1 → threads_of slots ≡ pool_changed k f (threads_of slots)
changed_past zero f slots h le = absurd (omega (arith, h))
changed_past (suc i) f slots h le = sym (set_past (threads_of slots) i _ (rw (length-threads_of slots) (omega (arith, le))))

pub put_at : (k : ℕ) (thread : Option Thread) (slots new : List Slot) (after : Slot) → 0 < k → new ≡ set slots (k - 1) after → after.thread ≡ thread → threads_of new ≡ pool_set (threads_of slots) k thread
put_at zero thread slots new after h e is = absurd (omega (arith, h))
put_at (suc i) thread slots new after h e is = ap threads_of (rw (place_of_number i) at e) ∙ (map-set (λ (s : Slot). s.thread) slots i after ∙ ap (set (threads_of slots) i) is)

pub put_past : (k : ℕ) (thread : Option Thread) (slots : List Slot) → 0 < k → length slots ≤ k - 1 → threads_of slots ≡ pool_set (threads_of slots) k thread
put_past zero thread slots h le = absurd (omega (arith, h))
put_past (suc i) thread slots h le = sym (set_past (threads_of slots) i thread (rw (length-threads_of slots) (omega (arith, le))))

pub links_at : (k : ℕ) (slots new : List Slot) (slot after : Slot) → k - 1 < length slots → slot ≡ get_or slots (k - 1) slot → new ≡ set slots (k - 1) after → after.link ≡ slot.link → shared_links new ≡ shared_links slots
links_at k slots new slot after lt is e same =
    ap shared_links e ∙ map-set_same (λ (s : Slot). s.link) slots (k - 1) after (free_slot 0) (same ∙ ap (λ (s : Slot). s.link) (get_or_read slots (k - 1) slot lt is (free_slot 0)))

prefix_threads : (f : Option Thread → Bool) (slots : List Slot) → prefix_len (λ (slot : Slot). f slot.thread) slots ≡ prefix_len f (threads_of slots)
prefix_threads f [] = refl
prefix_threads f (slot ∷ slots) = ap (λ n. if f slot.thread then 1 + n else 0) (prefix_threads f slots)

pub position_threads : (slots : List Slot) → position (λ (slot : Slot). is_none slot.thread) slots ≡ position is_none (threads_of slots)
position_threads slots =
    let same : length (threads_of slots) ≡ length slots = length-threads_of slots in
    rw (same, prefix_threads (λ thread. not (is_none thread)) slots) refl

-- ---- a thread in use, and work on it

pub threads_any : (f : Option Thread → Bool) (slots : List Slot) → list_any (λ (slot : Slot). f slot.thread) slots ≡ list_any f (threads_of slots)
threads_any f [] = refl
threads_any f (slot ∷ slots) = ap (λ b. f slot.thread || b) (threads_any f slots)

pub replaced_some : (made : Thread) (place : Option Thread) → IsSome place → Some made ≡ option_map (replaced_by made) place
replaced_some made None used = absurd (cc)
replaced_some made (Some thread) used = refl

some_below : {X : Type 0} (xs : List (Option X)) (i : ℕ) → IsSome (option_flatten (slice_get xs i)) → i < length xs
some_below [] i used = absurd (cc)
some_below (x ∷ xs) zero used = omega arith
some_below (x ∷ xs) (suc i) used = let lt = some_below xs i used in omega (arith, lt)

-- a number in use is that of a slot
pub used_below : (slots : List Slot) (k : ℕ) → IsSome (pool_get (threads_of slots) k) → k - 1 < length slots
used_below slots zero used = absurd (cc)
used_below slots (suc i) used = rw (place_of_number i) (rw (length-threads_of slots) at (some_below (threads_of slots) i used))

-- work on the thread of a number in use, as the code reads and writes its slot
pub used_at : (k i : ℕ) (slots : List Slot) (slot : Slot) → i ≡ k - 1 → 0 < k → IsSome (pool_get (threads_of slots) k) → slot ≡ get_or slots i slot → (get_or slots i slot).thread ≡ pool_get (threads_of slots) k
used_at k i slots slot same h used is =
    let here : slot ≡ get_or slots (k - 1) slot = subst (λ (j : ℕ). slot ≡ get_or slots j slot) same is in
    ap (λ (s : Slot). s.thread) (sym is) ∙ read_at slots k slot h (used_below slots k used) here

pub worked_at : (k i : ℕ) (slots : List Slot) (after : Slot) (made : Thread) → i ≡ k - 1 → 0 < k → IsSome (pool_get (threads_of slots) k) → after.thread ≡ Some made → threads_of (set slots i after) ≡ pool_changed k (replaced_by made) (threads_of slots)
worked_at zero i slots after made same h used is = absurd (omega (arith, h))
worked_at (suc j) i slots after made same h used is =
    let here : i ≡ j = same ∙ place_of_number j in
    ap (λ (n : ℕ). threads_of (set slots n after)) here
    ∙ (map-set (λ (s : Slot). s.thread) slots j after ∙ ap (set (threads_of slots) j) (is ∙ replaced_some made (pool_get (threads_of slots) (suc j)) used))

-- a change of the thread of a number in use, as the code reads and writes its slot
pub used_changed : (k i : ℕ) (f : Thread → Thread) (slots : List Slot) (slot after : Slot) → i ≡ k - 1 → 0 < k → IsSome (pool_get (threads_of slots) k) → slot ≡ get_or slots i slot → after.thread ≡ option_map f (get_or slots i slot).thread
    → threads_of (set slots i after) ≡ pool_changed k f (threads_of slots)
used_changed k i f slots slot after same h used is made =
    let here : slot ≡ get_or slots (k - 1) slot = subst (λ (j : ℕ). slot ≡ get_or slots j slot) same is in
    changed_at k f slots (set slots i after) slot after h (used_below slots k used) here (ap (λ (j : ℕ). set slots j after) same) (made ∙ ap (λ (s : Slot). option_map f s.thread) (sym is))

pub worked_links : (i : ℕ) (slots : List Slot) (slot after : Slot) → after.link ≡ (get_or slots i slot).link → shared_links (set slots i after) ≡ shared_links slots
worked_links i slots slot after same = map-set_same (λ (s : Slot). s.link) slots i after slot same

-- ---- a partition

pub table_threads : (threads : List (List (Option Thread))) (stored : List (List ℕ)) (p : ℕ) (row : List (Option Thread)) → IsTable threads stored → length row ≡ length (part_of threads p) → IsTable (set threads p row) stored
table_threads threads stored p row table e =
    record {
      parts = table.parts ∙ sym (length-set threads p row);
      same = λ q. table.same q ∙ sym (length_part-set threads p q row e);
      few = λ q. rw (length_part-set threads p q row e) (table.few q);
    }

pub table_stored : (threads : List (List (Option Thread))) (stored : List (List ℕ)) (p : ℕ) (row : List ℕ) → IsTable threads stored → p < length threads → length row ≡ length (part_of stored p) → IsTable threads (lent stored p row)
table_stored threads stored p row table lt e =
    let lt' : p < length stored = rw (table.parts) lt in
    rw (lent-same stored p row lt' e)
    (record {
      parts = length-set stored p row ∙ table.parts;
      same = λ q. length_part-set stored p q row e ∙ table.same q;
      few = table.few;
    })

-- a list for each count is as long as the count
few_filled : {X : Type 0} (x : X) (counts : List ℕ) → All (λ count. count ≤ 32) counts → (p : ℕ) → length (part_of (map (filled x) counts) p) ≤ 32
few_filled x [] small p = omega arith
few_filled x (n ∷ ns) small zero = rw (length-replicate n x) (All-head (λ count. count ≤ 32) n ns small)
few_filled x (n ∷ ns) small (suc p) = few_filled x ns (All-tail (λ count. count ≤ 32) n ns small) p

same_filled : {X Y : Type 0} (x : X) (y : Y) (counts : List ℕ) (p : ℕ) → length (part_of (map (filled y) counts) p) ≡ length (part_of (map (filled x) counts) p)
same_filled x y [] p = refl
same_filled x y (n ∷ ns) zero = rw (length-replicate n x, length-replicate n y) refl
same_filled x y (n ∷ ns) (suc p) = same_filled x y ns p

length-map_filled : {X Y : Type 0} (x : X) (y : Y) (counts : List ℕ) → length (map (filled y) counts) ≡ length (map (filled x) counts)
length-map_filled x y [] = refl
length-map_filled x y (n ∷ ns) = ap suc (length-map_filled x y ns)

-- a table of free slots
pub table_filled : (threads : List (List (Option Thread))) (stored : List (List ℕ)) (slot : Option Thread) (n : ℕ) (counts : List ℕ) → All (λ count. count ≤ 32) counts
    → threads ≡ map (filled slot) counts → stored ≡ map (filled n) counts → IsTable threads stored
table_filled threads stored slot n counts small e f =
    rw (e, f)
    (record {
      parts = length-map_filled slot n counts;
      same = same_filled slot n counts;
      few = few_filled slot counts small;
    })

pub ruleset pools = (pool_get_below, pool_set_below, stored_of_below, add-one, lent-same, length-set, set_part-same, set_past, set-get_or, set-set, length-pool_set, length-changed, table_threads, table_stored)

pub ruleset numbers = (pool_get_below, pool_set_below, stored_of_below, add-one, set_past)

pub ruleset free_numbers = (position_threads, add-one)

pub ruleset reads = (read_at, read_past)

pub ruleset changes = (changed_at, changed_past, put_at, put_past, links_at)
