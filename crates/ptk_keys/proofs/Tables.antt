-- The tables after a change of one partition, and those made for each section.
use Rattle.std.proofs.Common.{arith, ◌≡◌, ℕ, ◌<◌, ◌≤◌, zero, suc, List, [], ◌∷◌, length, map, sym, ◌∙◌, All}
use Rattle.std.specs.Prelude.{Option, None, replicate}
use Rattle.std.proofs.lemmas.List.{length-map, length-replicate, length-set, set_past, set-get_or, set-set}
use Rattle.std.proofs.lemmas.List.Elements.{All-head, All-tail}
use Rattle.ptk_words.specs.declared.sections.Limits.{Limits}
use Rattle.ptk_words.proofs.Pools.{length-pool_set, length-update}
use Rattle.ptk_words.specs.Parts.{part_of}
use Rattle.ptk_words.specs.Cuts.{lent}
use Rattle.ptk_words.proofs.Cuts.{lent-same, set_part-same}
use Rattle.ptk_words_model.specs.declared.Rounds.{Rounds}
use Rattle.ptk_keys.specs.KeptKeys.{AreKept}
use Rattle.ptk_words.proofs.Entries.{filled_per, length_part-set}

-- ---- a loan of one partition's list that keeps its length

pub kept_destructors : (destructors : List (List (Option ℕ))) (values : List (List (List ℕ))) (rounds : List (List Rounds)) (p : ℕ) (row : List (Option ℕ))
    → AreKept destructors values rounds → p < length destructors → length row ≡ length (part_of destructors p) → AreKept (lent destructors p row) values rounds
kept_destructors destructors values rounds p row kept lt e =
    rw (lent-same destructors p row lt e)
    (record {
      values_parts = kept.values_parts ∙ sym (length-set destructors p row);
      rounds_parts = kept.rounds_parts ∙ sym (length-set destructors p row);
      few = λ q. rw (length_part-set destructors p q row e) (kept.few q);
    })

pub kept_values : (destructors : List (List (Option ℕ))) (values : List (List (List ℕ))) (rounds : List (List Rounds)) (p : ℕ) (row : List (List ℕ))
    → AreKept destructors values rounds → p < length destructors → length row ≡ length (part_of values p) → AreKept destructors (lent values p row) rounds
kept_values destructors values rounds p row kept lt e =
    let within : p < length values = rw kept.values_parts lt in
    rw (lent-same values p row within e)
    (record { values_parts = length-set values p row ∙ kept.values_parts; rounds_parts = kept.rounds_parts; few = kept.few })

pub kept_rounds : (destructors : List (List (Option ℕ))) (values : List (List (List ℕ))) (rounds : List (List Rounds)) (p : ℕ) (row : List Rounds)
    → AreKept destructors values rounds → p < length destructors → length row ≡ length (part_of rounds p) → AreKept destructors values (lent rounds p row)
kept_rounds destructors values rounds p row kept lt e =
    let within : p < length rounds = rw kept.rounds_parts lt in
    rw (lent-same rounds p row within e)
    (record { values_parts = kept.values_parts; rounds_parts = length-set rounds p row ∙ kept.rounds_parts; few = kept.few })

pub ruleset tables = (lent-same, length-set, length-map, set_part-same, set_past, set-get_or, set-set, length-pool_set, length-update, kept_destructors, kept_values, kept_rounds)

-- ---- made for each section

few_filled : {X : Type 0} (x : X) (limits : List Limits) → All (λ count. count ≤ 32) (map (λ l. l.keys) limits) → (p : ℕ) → length (part_of (map (λ l. replicate l.keys x) limits) p) ≤ 32
few_filled x [] small p = omega arith
few_filled x (l ∷ ls) small zero = rw (length-replicate l.keys x) (All-head (λ count. count ≤ 32) l.keys (map (λ m. m.keys) ls) small)
few_filled x (l ∷ ls) small (suc p) = few_filled x ls (All-tail (λ count. count ≤ 32) l.keys (map (λ m. m.keys) ls) small) p

pub kept_built : (destructors : List (List (Option ℕ))) (values : List (List (List ℕ))) (rounds : List (List Rounds)) (row : Limits → List (List ℕ)) (far : Limits → List Rounds) (limits : List Limits)
    → All (λ count. count ≤ 32) (map (λ l. l.keys) limits) → destructors ≡ map (λ l. replicate l.keys None) limits → values ≡ map row limits → rounds ≡ map far limits → AreKept destructors values rounds
kept_built destructors values rounds row far limits small d v r =
    rw (d, v, r)
    (record {
      values_parts = length-map limits row ∙ sym (length-map limits (λ l. replicate l.keys None));
      rounds_parts = length-map limits far ∙ sym (length-map limits (λ l. replicate l.keys None));
      few = few_filled None limits small;
    })

pub ruleset built = (filled_per, kept_built, length-map, length-replicate)
