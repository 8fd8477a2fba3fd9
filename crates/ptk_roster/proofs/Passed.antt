-- A waiter that goes from one queue to another, or to the line.
use Rattle.std.proofs.Common.{◌≡◌, ℕ, ◌<◌, List, [], length, Bool, true, false, refl, ◌∙◌, ap, arith, inl, inr}
use Rattle.std.specs.Prelude.{Option, IsSome}
use Rattle.std.proofs.Math.ListN.{set}
use Rattle.std.proofs.lemmas.Bool.{cases_eq}
use Rattle.std.proofs.lemmas.List.{length-set, get_or-set_same, get_or-set_other}
use Rattle.ptk_words.specs.Pools.{is_in, without}
use Rattle.ptk_words.specs.declared.threads.Thread.{Thread}
use Rattle.ptk_words.specs.Parts.{part_of}
use Rattle.ptk_words_model.specs.State.{Mutex}
use Rattle.ptk_threads.specs.Table.{ThreadTable, thread_in, with_changed}
use Rattle.ptk_threads.specs.Queues.{IsUnqueued}
use Rattle.ptk_threads.proofs.Linked.{alone}
use Rattle.ptk_threads.specs.declared.link.Link.{Link}
use Rattle.ptk_threads.specs.declared.link.Ends.{Ends}
use Rattle.ptk_threads.specs.Links.{queues, AreQueues}
use Rattle.ptk_threads.proofs.Along.{not_true}
use Rattle.ptk_ready.specs.Queues as ready
use Rattle.ptk_ready.specs.declared.entries.LinkedEntries.{LinkedEntries}
use Rattle.ptk_ready.specs.Partitions.{lines_by, AreFiled}
use Rattle.ptk_ready.proofs.Moves.{out_without}
use Rattle.ptk_roster.specs.Rosters.{Rostered, IsLined, IsRoster}
use Rattle.ptk_roster.proofs.Rosters.{moved_roster}
use Rattle.ptk_roster.proofs.Seen.{queue_set}
use Rattle.ptk_roster.proofs.Pools.{seen_of, changed_whole, moved_whole, line_seen}
use Rattle.ptk_roster.proofs.Waits.{HasQueues}

-- a thread that lies in one queue lies in none once it left that one
pub away : (links : List Link) (ends : List Ends) (a : ThreadTable) (p i k : ℕ) → AreQueues links ends → queues links ends ≡ part_of a.queues p → HasQueues a p → i < 128 → is_in k (part_of (part_of a.queues p) i) ≡ true
    → IsUnqueued k (set (part_of a.queues p) i (without k (part_of (part_of a.queues p) i)))
away links ends a p i k are is has lt inside =
    let lists = part_of a.queues p in
    let below : i < length lists = omega (arith, lt, has.places) in
    λ j. elim (cases_eq j i) as (λ _. is_in k (part_of (set lists i (without k (part_of lists i))) j) ≡ false) [
      | inl e ↦ rw (e, get_or-set_same lists i (without k (part_of lists i)) [] below) (not_true (is_in k (without k (part_of lists i))) (out_without k (part_of lists i)))
      | inr ne ↦ rw (get_or-set_other lists i j (without k (part_of lists i)) [] ne) (alone links ends lists k i j are is inside ne)
    ]

-- the partition has its queues still
pub has_still : (a : ThreadTable) (p i : ℕ) (xs : List ℕ) → HasQueues a p → HasQueues (record a { queues = queue_set a.queues p i xs }) p
has_still a p i xs has =
    let row = set (part_of a.queues p) i xs in
    record {
      part = omega (arith, has.part, length-set a.queues p row);
      places = ap length (get_or-set_same a.queues p row [] has.part) ∙ (length-set (part_of a.queues p) i xs ∙ has.places);
    }

-- what is seen where a thread is changed
pub changed_seen : {limit : ℕ} (line : List (LinkedEntries limit)) (a b : ThreadTable) (mutexes : List (List (Option Mutex))) (marks : List (List Bool)) (now : Rostered) (p k : ℕ) (f : Thread → Thread) → seen_of line a mutexes marks ≡ now → b ≡ with_changed p k f a
    → seen_of line b mutexes marks ≡ record now { table = with_changed p k f now.table }
changed_seen line a b mutexes marks now p k f is e = ap (λ (t : ThreadTable). seen_of line t mutexes marks) e ∙ ap (λ (n : Rostered). record n { table = with_changed p k f n.table }) is

-- ---- the line got a thread, which was changed

pub roused_whole : (limit : ℕ) (line late : List (LinkedEntries limit)) (a b : ThreadTable) (mutexes : List (List (Option Mutex))) (marks : List (List Bool)) (p k : ℕ) (f : Thread → Thread) (xs : List ℕ) → IsRoster limit line a mutexes marks → AreFiled limit late b
    → b.threads ≡ (with_changed p k f a).threads → b.stored ≡ a.stored → ready.waiters_of b.queues ≡ ready.waiters_of a.queues → lines_by late b.queues ≡ set (lines_by line a.queues) p xs → ((j : ℕ) → is_in j xs ≡ true → IsSome (thread_in a p j)) → p < length a.threads
    → IsRoster limit late b mutexes marks
roused_whole limit line late a b mutexes marks p k f xs roster filed threads stored waiters lines used lt =
    let mid : ThreadTable = record b { threads = a.threads } in
    let lined : IsLined limit late mid = moved_roster limit line late a mid p xs roster.lined (record { parts = filed.parts; each = filed.each }) refl stored lines used in
    changed_whole limit late p k f mid b mutexes marks (ap (λ z. record b { threads = z }) threads) lt (moved_whole limit line late a mid mutexes marks lined waiters refl roster)

pub roused_seen : {limit : ℕ} (line late : List (LinkedEntries limit)) (a b : ThreadTable) (mutexes : List (List (Option Mutex))) (marks : List (List Bool)) (now : Rostered) (p k : ℕ) (f : Thread → Thread) (g : List ℕ → List ℕ) → seen_of line a mutexes marks ≡ now
    → b.threads ≡ (with_changed p k f a).threads → b.stored ≡ a.stored → ready.waiters_of b.queues ≡ ready.waiters_of a.queues → lines_by late b.queues ≡ set (lines_by line a.queues) p (g (part_of (lines_by line a.queues) p))
    → seen_of late b mutexes marks ≡ record now { table = with_changed p k f now.table; lines = set now.lines p (g (part_of now.lines p)) }
roused_seen line late a b mutexes marks now p k f g is threads stored waiters lines =
    let mid : ThreadTable = record b { threads = a.threads } in
    changed_seen late mid b mutexes marks (record now { lines = set now.lines p (g (part_of now.lines p)) }) p k f (line_seen line late a mid mutexes marks now p g is waiters lines refl stored) (ap (λ z. record b { threads = z }) threads)
