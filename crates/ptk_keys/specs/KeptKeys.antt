-- The keys of all partitions, by component, and of them one partition's keys.
use Rattle.std.specs.Prelude.{◌≡◌, ℕ, ◌≤◌, List, [], length, map, replicate, slice_set, Option, Some, None, option_map, unwrap_or}
use Rattle.ptk_words.specs.Names.{Pointer, ThreadNumber, Word}
use Rattle.ptk_words.specs.Pools.{least_free}
use Rattle.ptk_words.specs.declared.sections.Limits.{Limits}
use Rattle.ptk_words.specs.Parts.{part_of}
use Rattle.ptk_words_model.specs.declared.Rounds.{Rounds}
use Rattle.ptk_words_model.specs.State.{Keys}
use Rattle.ptk_words_model.specs.Keys.{no_rounds, no_values, values_of, with_key, with_new_specific}

-- ---- by partition

-- each partition's destructors by key, values by thread and key, and rounds by thread
pub record KeptKeys : Type 0 where
  pub destructors : List (List (Option Pointer))
  pub values : List (List (List Word))
  pub rounds : List (List Rounds)

-- the keys of a partition
abbrev pub keys_at : ℕ → KeptKeys → Keys
keys_at p kept = record { destructors = part_of kept.destructors p; values = part_of kept.values p; rounds = part_of kept.rounds p }

-- the keys of all partitions with those of one replaced
abbrev pub put_keys : ℕ → Keys → KeptKeys → KeptKeys
put_keys p keys kept =
    record {
      destructors = slice_set kept.destructors p keys.destructors;
      values = slice_set kept.values p keys.values;
      rounds = slice_set kept.rounds p keys.rounds;
    }

-- no key in use, every value 0, no destructor called (pthread_key_create)
abbrev pub fresh_keys : List Limits → KeptKeys
fresh_keys limits =
    record {
      destructors = map (λ l. replicate l.keys None) limits;
      values = map (λ l. replicate l.threads (no_values l.keys)) limits;
      rounds = map (λ l. replicate l.threads no_rounds) limits;
    }

-- ---- one partition

-- a key with this destructor, or 0 for none, at the least free number, if there is one (pthread_key_create)
abbrev pub with_new_key : Pointer → Keys → Keys
with_new_key destructor keys = unwrap_or (option_map (λ k. with_key k (Some destructor) keys) (least_free keys.destructors)) keys

-- as many values as the thread has are 0, and no destructor is called (pthread_key_create)
abbrev pub with_cleared : ThreadNumber → Keys → Keys
with_cleared t keys = with_new_specific (length (values_of keys t)) t keys

-- keys of these destructors, without a thread
abbrev pub keys_of : List (Option Pointer) → Keys
keys_of destructors = record { destructors = destructors; values = []; rounds = [] }

-- ---- what the crate keeps

-- every component has an entry for each partition, and no partition has more than 32 keys (own)
pub record AreKept (destructors : List (List (Option Pointer))) (values : List (List (List Word))) (rounds : List (List Rounds)) : Type 0 where
  pub values_parts : length values ≡ length destructors
  pub rounds_parts : length rounds ≡ length destructors
  pub few : (p : ℕ) → length (part_of destructors p) ≤ 32
