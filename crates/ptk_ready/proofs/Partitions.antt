-- What each call makes of the lines of all partitions.
use Rattle.std.proofs.Common.{◌≡◌, ◌≢◌, ℕ, zero, suc, ◌<◌, ◌≤◌, List, [], ◌∷◌, ◌++◌, length, drop, take, map, true, false, refl, sym, ◌∙◌, ap, subst, arith, get_or, inl, inr}
use Rattle.std.specs.Prelude.{ℤ, pos, IsSome, Option, replicate}
use Rattle.std.proofs.Math.ListN.{set, get_or-map}
use Rattle.std.proofs.Math.Seq.{map-set_same}
use Rattle.std.proofs.lemmas.Bool.{cases_eq}
use Rattle.std.proofs.lemmas.List.{get_or-set_same, get_or-set_other, get_or_read, get_or_past, set_past, set-get_or, set-set, ext_get_or, take-set-le, drop-set-lt, get_or-replicate, length-map, length-set, length-replicate}
use Rattle.ptk_words.specs.Pools.{is_in, without, pool_get, pool_set}
use Rattle.ptk_words.specs.declared.threads.Thread.{Thread}
use Rattle.ptk_words.proofs.Pools.{used_at}
use Rattle.ptk_words.proofs.Lists.{out_of}
use Rattle.ptk_words.specs.Parts.{part_of}
use Rattle.ptk_threads.specs.Table.{ThreadTable, thread_in, stored_of, with_stored, with_queues}
use Rattle.ptk_threads.specs.Queues.{IsUnqueued, with_none, with_last, with_out}
use Rattle.ptk_threads.specs.declared.link.Ends.{Ends}
use Rattle.ptk_threads.specs.declared.slot.Slot.{Slot}
use Rattle.ptk_threads.specs.declared.link.QueueName.{QueueName}
use Rattle.ptk_threads.specs.Links.{links_of, threads_of, place_of, queues, AreQueues}
use Rattle.ptk_threads.proofs.LinkSlots.{links_count}
use Rattle.ptk_threads.proofs.Along.{le_or_gt, not_true}
use Rattle.ptk_ready.specs.Queues.{ready_queues, waiters_of, AreUnused}
use Rattle.ptk_ready.specs.declared.entries.LinkedEntries.{LinkedEntries}
use Rattle.ptk_ready.specs.Lines.{line_of, IsFiled}
use Rattle.ptk_ready.proofs.Lists.{none_line}
use Rattle.ptk_ready.proofs.Moves.{out_without, stored_other}
use Rattle.ptk_ready.proofs.Calls.{member_within, last_take}
use Rattle.ptk_ready.specs.Partitions.{entries_at, lines_by, AreFiled}
use Rattle.ptk_ready.specs.Laws.{lines_at, lines_long, filed_same, filed_take, line_take}
use Rattle.ptk_threads.proofs.Lists.{without_none}

-- partition p's line is this list, and all others are as before
pub record IsMoved (limit : ℕ) (line late : List (LinkedEntries limit)) (table now : ThreadTable) (p : ℕ) (xs : List ℕ) : Type 0 where
  pub sound : AreFiled limit late now
  pub told : lines_by late now.queues ≡ set (lines_by line table.queues) p xs
  pub waiters : waiters_of now.queues ≡ waiters_of table.queues

lines_set : {limit : ℕ} (line : List (LinkedEntries limit)) (queues : List (List (List ℕ))) (p : ℕ) (entries : LinkedEntries limit) (lists : List (List ℕ)) → p < length line → length line ≡ length queues
    → lines_by (set line p entries) (set queues p lists) ≡ set (lines_by line queues) p (line_of lists entries.stamps)
lines_set [] queues p entries lists lt same = absurd (omega (arith, lt))
lines_set (x ∷ line) [] p entries lists lt same = absurd (omega (arith, same))
lines_set (x ∷ line) (y ∷ queues) zero entries lists lt same = refl
lines_set (x ∷ line) (y ∷ queues) (suc p) entries lists lt same =
    ap (λ l. line_of y x.stamps ∷ l) (lines_set line queues p entries lists (omega (arith, lt)) (omega (arith, same)))

pub moved : (limit : ℕ) (line : List (LinkedEntries limit)) (table now : ThreadTable) (p : ℕ) (entries : LinkedEntries limit) (lists : List (List ℕ)) (xs : List ℕ) → AreFiled limit line table → p < length line
    → now.queues ≡ set table.queues p lists → ((q : ℕ) → q ≢ p → part_of now.stored q ≡ part_of table.stored q)
    → IsFiled limit entries.range lists (part_of now.stored p) entries.stamps entries.bitmap → line_of lists entries.stamps ≡ xs → drop 32 lists ≡ drop 32 (part_of table.queues p)
    → IsMoved limit line (set line p entries) table now p xs
moved limit line table now p entries lists xs filed lt is others own to waiters =
    let none : LinkedEntries limit = record { stamps = []; bitmap = 0; range = record { first = pos 0; last = pos 0 } } in
    let within : p < length table.queues = omega (arith, lt, filed.parts) in
    let here : part_of now.queues p ≡ lists = ap (λ queues. part_of queues p) is ∙ get_or-set_same table.queues p lists [] within in
    let kept : entries_at (set line p entries) p ≡ entries = get_or-set_same line p entries none lt in
    record {
      sound = record {
        parts = length-set line p entries ∙ (filed.parts ∙ sym (ap length is ∙ length-set table.queues p lists));
        each = λ q below. elim (cases_eq q p) as (λ _. IsFiled limit (entries_at (set line p entries) q).range (part_of now.queues q) (part_of now.stored q) (entries_at (set line p entries) q).stamps (entries_at (set line p entries) q).bitmap) [
          | inl e ↦ subst (λ z. IsFiled limit (entries_at (set line p entries) z).range (part_of now.queues z) (part_of now.stored z) (entries_at (set line p entries) z).stamps (entries_at (set line p entries) z).bitmap) (sym e) (rw (here, kept) own)
          | inr ne ↦ (let there : part_of now.queues q ≡ part_of table.queues q = ap (λ queues. part_of queues q) is ∙ get_or-set_other table.queues p q lists [] ne in
              let same : entries_at (set line p entries) q ≡ entries_at line q = get_or-set_other line p q entries none ne in
              rw (there, others q ne, same) (filed.each q (omega (arith, below, length-set line p entries))))
        ];
      };
      told = ap (lines_by (set line p entries)) is ∙ (lines_set line table.queues p entries lists lt filed.parts ∙ ap (set (lines_by line table.queues) p) to);
      waiters = ap (map (drop 32)) is ∙ map-set_same (drop 32) table.queues p lists [] waiters;
    }

-- ---- what a call reads

-- a partition's entries, and its queues and stored priorities as they were lent
pub record IsRead (limit : ℕ) (line : List (LinkedEntries limit)) (table : ThreadTable) (p : ℕ) (lists : List (List ℕ)) (stored : List ℕ) (entries : LinkedEntries limit) : Type 0 where
  pub within : p < length line
  pub filed : IsFiled limit entries.range lists stored entries.stamps entries.bitmap
  pub same : line_of lists entries.stamps ≡ part_of (lines_by line table.queues) p

pub read : (limit : ℕ) (items line : List (LinkedEntries limit)) (table : ThreadTable) (p i : ℕ) (lists : List (List ℕ)) (stored : List ℕ) (entries : LinkedEntries limit) → items ≡ line → i ≡ p → AreFiled limit line table → p < length (lines_by line table.queues)
    → entries ≡ get_or items i entries → lists ≡ part_of table.queues p → stored ≡ part_of table.stored p → IsRead limit line table p lists stored entries
read limit items line table p i lists stored entries view at filed lt value told kept =
    let within : p < length line = omega (arith, lt, lines_long line table.queues) in
    let is : entries ≡ entries_at line p =
    get_or_read line p entries within (value ∙ (ap (λ xs. get_or xs i entries) view ∙ ap (λ n. get_or line n entries) at)) (record { stamps = []; bitmap = 0; range = record { first = pos 0; last = pos 0 } }) in
    record {
      within = within;
      filed = rw (told, kept, is) (filed.each p within);
      same = rw (told, is) (sym (lines_at line table.queues p within));
    }

-- the number of a thread that is in use has a slot
used_number : (threads : List (Option Thread)) (k : ℕ) → IsSome (pool_get threads k) → k ≤ length threads
used_number threads zero used = omega arith
used_number threads (suc i) used = let rest : i < length threads = used_at i threads used in omega (arith, rest)

pub slot_of_used : (slots : List Slot) (table : ThreadTable) (p k : ℕ) → threads_of slots ≡ part_of table.threads p → IsSome (thread_in table p k) → k ≤ length slots
slot_of_used slots table p k same some =
    let long : length slots ≡ length (part_of table.threads p) = sym (length-map slots (λ (slot : Slot). slot.thread)) ∙ ap length same in
    omega (arith, long, used_number (part_of table.threads p) k some)

pub number_of_used : (table : ThreadTable) (p k : ℕ) → IsSome (thread_in table p k) → k ≤ length (part_of table.threads p)
number_of_used table p k some = used_number (part_of table.threads p) k some

-- ---- nothing changes

pub put_back : (limit : ℕ) (items line : List (LinkedEntries limit)) (i : ℕ) (entries : LinkedEntries limit) → items ≡ line → entries ≡ get_or items i entries → set items i entries ≡ line
put_back limit items line i entries view value = ap (set items i) value ∙ (set-get_or items i entries ∙ view)

pub line_without : (lines : List (List ℕ)) (p k : ℕ) → is_in k (part_of lines p) ≡ false → lines ≡ set lines p (without k (part_of lines p))
line_without lines p k out = sym (ap (set lines p) (without_none k (part_of lines p) out) ∙ set-get_or lines p [])

-- ---- a stored priority

set_nothing : (k v : ℕ) → pool_set {A = ℕ} [] k v ≡ []
set_nothing zero v = refl
set_nothing (suc i) v = refl

pub stored_here : (stored : List (List ℕ)) (p k priority : ℕ) → part_of (set stored p (pool_set (part_of stored p) k priority)) p ≡ pool_set (part_of stored p) k priority
stored_here stored p k priority = elim (le_or_gt (length stored) p) as (λ _. part_of (set stored p (pool_set (part_of stored p) k priority)) p ≡ pool_set (part_of stored p) k priority) [
  | inl past ↦ (let none : part_of stored p ≡ [] = get_or_past stored p [] past in
      ap (λ s. part_of s p) (set_past stored p (pool_set (part_of stored p) k priority) past) ∙ (none ∙ sym (ap (λ s. pool_set s k priority) none ∙ set_nothing k priority)))
  | inr lt ↦ get_or-set_same stored p (pool_set (part_of stored p) k priority) [] lt
]

-- a thread that is not in the line may get any stored priority
pub priority_out : (limit : ℕ) (line : List (LinkedEntries limit)) (table : ThreadTable) (p k priority : ℕ) → AreFiled limit line table → is_in k (part_of (lines_by line table.queues) p) ≡ false → AreFiled limit line (with_stored p k priority table)
priority_out limit line table p k priority filed out =
    filed_same limit line table (with_stored p k priority table)
    (λ q j inside. elim (cases_eq q p) as (λ _. stored_of (part_of (with_stored p k priority table).stored q) j ≡ stored_of (part_of table.stored q) j) [
      | inl e ↦ (let apart : j ≢ k = out_of j k (part_of (lines_by line table.queues) p) out (subst (λ z. is_in j (part_of (lines_by line table.queues) z) ≡ true) e inside) in
          subst (λ z. stored_of (part_of (with_stored p k priority table).stored z) j ≡ stored_of (part_of table.stored z) j) (sym e)
          (ap (λ s. stored_of s j) (stored_here table.stored p k priority) ∙ stored_other (part_of table.stored p) k priority j apart))
      | inr ne ↦ ap (λ s. stored_of s j) (get_or-set_other table.stored p q (pool_set (part_of table.stored p) k priority) [] ne)
    ])
    refl filed

-- ---- two changes of a partition's queues

pub queues_twice : (p : ℕ) (f g : List (List ℕ) → List (List ℕ)) (table : ThreadTable) → p < length table.queues → with_queues p g (with_queues p f table) ≡ with_queues p (λ lists. g (f lists)) table
queues_twice p f g table lt =
    ap (λ lists. record table { queues = set (set table.queues p (f (part_of table.queues p))) p (g lists) }) (get_or-set_same table.queues p (f (part_of table.queues p)) [] lt)
    ∙ ap (λ queues. record table { queues = queues }) (set-set table.queues p (f (part_of table.queues p)) (g (f (part_of table.queues p))))

pub unqueued_there : (p k : ℕ) (table : ThreadTable) → p < length table.queues → IsUnqueued k (part_of (with_queues p (with_none k) table).queues p)
unqueued_there p k table lt = λ i.
    ap (λ lists. is_in k (part_of lists i)) (get_or-set_same table.queues p (with_none k (part_of table.queues p)) [] lt)
    ∙ (ap (is_in k) (get_or-map (without k) (part_of table.queues p) i []) ∙ not_true (is_in k (without k (part_of (part_of table.queues p) i))) (out_without k (part_of (part_of table.queues p) i)))

-- ---- a waiter that comes to the line

-- the queues of ready threads stay where a thread leaves one of waiters
pub away_same : (p k : ℕ) (from : QueueName) (table : ThreadTable) → 32 ≤ place_of from → ready_queues table.queues ≡ ready_queues (with_queues p (with_out from k) table).queues
away_same p k from table far =
    let own = part_of table.queues p in
    sym (map-set_same (take 32) table.queues p (with_out from k own) [] (take-set-le 32 own (place_of from) (without k (part_of own (place_of from))) far))

-- partition p's line is this list, and its waiters' queues are those that a thread left
pub roused : (limit : ℕ) (line : List (LinkedEntries limit)) (table now : ThreadTable) (p k : ℕ) (from name : QueueName) (entries : LinkedEntries limit) (lists : List (List ℕ)) (stored xs : List ℕ) → AreFiled limit line table → p < length line
    → 32 ≤ place_of from → place_of name < 32 → now.queues ≡ (with_queues p (with_last name k) (with_queues p (with_out from k) table)).queues → now.stored ≡ table.stored → lists ≡ part_of table.queues p → stored ≡ part_of table.stored p
    → IsFiled limit entries.range (with_last name k lists) stored entries.stamps entries.bitmap → line_of (with_last name k lists) entries.stamps ≡ xs
    → IsMoved limit line (set line p entries) (with_queues p (with_out from k) table) now p xs
roused limit line table now p k from name entries lists stored xs filed lt far low is kept told levels own to =
    let row = part_of table.queues p in
    let out = with_out from k row in
    let left : ThreadTable = with_queues p (with_out from k) table in
    let within : p < length table.queues = omega (arith, lt, filed.parts) in
    let here : part_of left.queues p ≡ out = get_or-set_same table.queues p out [] within in
    let fewer : take 32 out ≡ take 32 row = take-set-le 32 row (place_of from) (without k (part_of row (place_of from))) far in
    let agree : take 32 (with_last name k out) ≡ take 32 (with_last name k row) = last_take name k out row low fewer in
    let sound : IsFiled limit entries.range (with_last name k row) (part_of now.stored p) entries.stamps entries.bitmap =
    subst (λ s. IsFiled limit entries.range (with_last name k row) s entries.stamps entries.bitmap) (levels ∙ sym (ap (λ s. part_of s p) kept))
    (subst (λ l. IsFiled limit entries.range (with_last name k l) stored entries.stamps entries.bitmap) told own) in
    moved limit line left now p entries (with_last name k out) xs (filed_same limit line table left (λ q j inside. refl) (away_same p k from table far) filed) lt
    (is ∙ ap (λ l. set left.queues p (with_last name k l)) here) (λ q ne. ap (λ s. part_of s q) kept)
    (filed_take limit entries.range (with_last name k row) (with_last name k out) (part_of now.stored p) (part_of now.stored p) entries.stamps entries.bitmap (sym agree) (λ j inside. refl) sound)
    (line_take (with_last name k out) (with_last name k row) entries.stamps agree ∙ (ap (λ l. line_of (with_last name k l) entries.stamps) (sym told) ∙ to))
    (drop-set-lt 32 out (place_of name) (part_of out (place_of name) ++ k ∷ []) low ∙ ap (drop 32) (sym here))

-- ---- a thread of the line

pub slot_of_member : (slots : List Slot) (ends : List Ends) (stamps : List ℤ) (table : ThreadTable) (p k : ℕ) → threads_of slots ≡ part_of table.threads p → AreQueues (links_of slots) ends → length slots ≤ 32
    → is_in k (line_of (queues (links_of slots) ends) stamps) ≡ true → k ≤ length (part_of table.threads p)
slot_of_member slots ends stamps table p k same are few inside =
    let links : length (links_of slots) ≡ length slots = links_count slots in
    let long : length slots ≡ length (part_of table.threads p) = sym (length-map slots (λ (slot : Slot). slot.thread)) ∙ ap length same in
    omega (arith, links, long, member_within (links_of slots) ends stamps k are (omega (arith, links, few)) inside)

-- ---- no thread

pub built_empty : (limit parts : ℕ) (items : List (LinkedEntries limit)) (entries : LinkedEntries limit) (table : ThreadTable) → items ≡ replicate parts entries → AreUnused table.queues → lines_by items table.queues ≡ replicate parts []
built_empty limit parts items entries table is unused =
    let long : length items ≡ parts = ap length is ∙ length-replicate parts entries in
    ext_get_or [] (lines_by items table.queues) (replicate parts []) (lines_long items table.queues ∙ (long ∙ sym (length-replicate parts [])))
    (λ p lt. (let below : p < length items = omega (arith, lt, lines_long items table.queues) in
    lines_at items table.queues p below
    ∙ (none_line (part_of table.queues p) (entries_at items p).stamps (unused p) ∙ sym (get_or-replicate parts p [] [] (omega (arith, below, long))))))

pub built_filed : (limit parts : ℕ) (items : List (LinkedEntries limit)) (entries : LinkedEntries limit) (table : ThreadTable) → items ≡ replicate parts entries → length table.queues ≡ parts → AreUnused table.queues
    → ((lists : List (List ℕ)) (stored : List ℕ) → ((i : ℕ) → i < 32 → part_of lists i ≡ []) → IsFiled limit entries.range lists stored entries.stamps entries.bitmap)
    → AreFiled limit items table
built_filed limit parts items entries table is same unused new =
    let long : length items ≡ parts = ap length is ∙ length-replicate parts entries in
    record {
      parts = long ∙ sym same;
      each = λ p lt.
          (let own : entries_at items p ≡ entries = ap (λ l. entries_at l p) is ∙ get_or-replicate parts p entries (record { stamps = []; bitmap = 0; range = record { first = pos 0; last = pos 0 } }) (omega (arith, lt, long)) in
          rw own (new (part_of table.queues p) (part_of table.stored p) (unused p)));
    }
