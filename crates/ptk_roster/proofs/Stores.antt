-- The stored priorities of a partition, stored all at once.
use Rattle.std.proofs.Common.{◌≡◌, ◌≢◌, ℕ, suc, ◌<◌, ◌≤◌, List, [], length, true, refl, sym, ◌∙◌, ap, subst, arith, get_or, inl, inr}
use Rattle.std.specs.Prelude.{option_map}
use Rattle.std.proofs.Math.ListN.{set}
use Rattle.std.proofs.lemmas.Bool.{cases_eq}
use Rattle.std.proofs.lemmas.List.{get_or-set_same, get_or-set_other, set_past}
use Rattle.ptk_words.specs.Pools.{is_in}
use Rattle.ptk_words.specs.Parts.{part_of}
use Rattle.ptk_threads.specs.Table.{ThreadTable, AreLevelsOf, stored_of}
use Rattle.ptk_threads.specs.declared.link.Link.{Link}
use Rattle.ptk_threads.specs.declared.link.Ends.{Ends}
use Rattle.ptk_threads.specs.declared.slot.Slot.{Slot}
use Rattle.ptk_threads.specs.Links.{links_of, place_of, queues, AreQueues}
use Rattle.ptk_threads.proofs.Along.{le_or_gt}
use Rattle.ptk_threads.proofs.LinkSlots.{link_read}
use Rattle.ptk_ready.specs.declared.entries.LinkedEntries.{LinkedEntries}
use Rattle.ptk_ready.specs.Entries.{is_ready, is_ready_place}
use Rattle.ptk_ready.specs.Lines.{line_of}
use Rattle.ptk_ready.specs.Partitions.{entries_at, lines_by}
use Rattle.ptk_ready.specs.Laws.{lines_at, filed_same}
use Rattle.ptk_ready.proofs.Calls.{member_ready}
use Rattle.ptk_roster.specs.Rosters.{IsLined}

-- whether the thread of a slot is ready, as the code reads it
pub ready_slot : (slots : List Slot) (i : ℕ) (slot : Slot) → i < length slots → slot ≡ get_or slots i slot → is_ready (links_of slots) (suc i) ≡ is_ready_place (option_map place_of slot.link.queue)
ready_slot slots i slot lt is =
    sym (ap (λ (l : Link). is_ready_place (option_map place_of l.queue)) (link_read slots (suc i) i slot (omega arith) (omega arith) lt is))
    ∙ ap (λ (s : Slot). is_ready_place (option_map place_of s.link.queue)) (sym is)

-- a thread of the line is ready by its link
pub line_ready : {limit : ℕ} (line : List (LinkedEntries limit)) (a : ThreadTable) (links : List Link) (ends : List Ends) (p k : ℕ) → AreQueues links ends → queues links ends ≡ part_of a.queues p → length links ≤ 32 → p < length line
    → is_in k (part_of (lines_by line a.queues) p) ≡ true → is_ready links k ≡ true
line_ready line a links ends p k are is few lt inside =
    member_ready links ends (entries_at line p).stamps k are few
    (subst (λ lists. is_in k (line_of lists (entries_at line p).stamps) ≡ true) (sym is) (subst (λ l. is_in k l ≡ true) (lines_at line a.queues p lt) inside))

-- other stored priorities of a partition, where its ready threads keep theirs
pub stored_lined : (limit : ℕ) (line : List (LinkedEntries limit)) (a b : ThreadTable) (p : ℕ) (priorities : List ℕ) → b ≡ record a { stored = set a.stored p priorities } → AreLevelsOf (part_of a.threads p) priorities
    → ((k : ℕ) → is_in k (part_of (lines_by line a.queues) p) ≡ true → stored_of priorities k ≡ stored_of (part_of a.stored p) k) → IsLined limit line a → IsLined limit line b
stored_lined limit line a b p priorities e levels keeps lined =
    let late = set a.stored p priorities in
    let other : (q : ℕ) → q ≢ p → part_of late q ≡ part_of a.stored q = λ q ne. get_or-set_other a.stored p q priorities [] ne in
    rw e (record {
      parts = lined.parts;
      listed = lined.listed;
      levels = λ q. elim (cases_eq q p) as (λ _. AreLevelsOf (part_of a.threads q) (part_of late q)) [
        | inl same ↦ elim (le_or_gt (length a.stored) p) as (λ _. AreLevelsOf (part_of a.threads q) (part_of late q)) [
          | inl past ↦ rw (set_past a.stored p priorities past) (lined.levels q)
          | inr lt ↦ rw (same, get_or-set_same a.stored p priorities [] lt) levels
        ]
        | inr ne ↦ rw (other q ne) (lined.levels q)
      ];
      filed = filed_same limit line a (record a { stored = late })
          (λ q k inside. elim (cases_eq q p) as (λ _. stored_of (part_of late q) k ≡ stored_of (part_of a.stored q) k) [
            | inl same ↦ elim (le_or_gt (length a.stored) p) as (λ _. stored_of (part_of late q) k ≡ stored_of (part_of a.stored q) k) [
              | inl past ↦ ap (λ s. stored_of (part_of s q) k) (set_past a.stored p priorities past)
              | inr lt ↦ rw (same, get_or-set_same a.stored p priorities [] lt) (keeps k (subst (λ z. is_in k (part_of (lines_by line a.queues) z) ≡ true) same inside))
            ]
            | inr ne ↦ ap (λ s. stored_of s k) (other q ne)
          ])
          refl lined.filed;
    })
