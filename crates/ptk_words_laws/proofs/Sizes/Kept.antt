-- What keeps the lengths of lists and pools, and the sizes of a state.
use Rattle.std.proofs.Common.{arith, ◌≡◌, ℕ, zero, suc, ◌+◌, ◌%◌, ◌≤◌, true, false, ◌&&◌, not, List, [], ◌∷◌, ◌++◌, length, map, ◌∙◌, refl, subst, length-append}
use Rattle.std.specs.Prelude.{All, Option, Some, None, option_map, unwrap_or, nat_lt, nat_le, ◌==◌}
use Rattle.std.proofs.lemmas.Bool.{leb-true, leb-false, ltb-true, and_parts, not-false}
use Rattle.std.proofs.lemmas.List.{length-map, length-replicate}
use Rattle.std.proofs.lemmas.List.Elements.{All-get_or, All-set, All-map, All-weaker}
use Rattle.std.proofs.lemmas.Option.{slice_get_within, get_or_from_slice_get}
use Rattle.ptk_words.specs.Pools.{numbered, pool_set, pool_update}
use Rattle.ptk_words.specs.Words.{with_bytes}
use Rattle.ptk_words.specs.declared.sections.Limits.{Limits}
use Rattle.ptk_words.specs.declared.threads.Wait.{Wait}
use Rattle.ptk_words.proofs.Pools.{length-pool_set, length-update}
use Rattle.ptk_words.proofs.Lists.{length-with_bytes}
use Rattle.ptk_words_model.specs.declared.LockMove.{LockMove}
use Rattle.ptk_words_model.specs.State.{Locks, Syncs, Part}
use Rattle.ptk_words_model.specs.Mutex.{after_move, after_unlock, after_owner_end}
use Rattle.ptk_words_model.specs.Condition.{after_unblock, after_signal, after_broadcast}
use Rattle.ptk_words_sync_invariant.proofs.Sizes.{length-move_threads, length-move_mutexes, length-unlock_threads, length-unlock_mutexes, length-owner_end_threads, length-owner_end_mutexes}
use Rattle.ptk_words_invariant.proofs.SyncSizes.{sized_unblock, sized_signal, sized_broadcast}
use Rattle.ptk_words_laws.specs.Sizes.{IsSized}

-- ---- lists and pools

pub set_kept : {A : Type 0} (xs : List A) (k n : ℕ) (a : A) → length xs ≡ n → length (pool_set xs k a) ≡ n
set_kept xs k n a h = length-pool_set xs k a ∙ h

pub update_kept : {A : Type 0} (xs : List A) (k n : ℕ) (f : A → A) → length xs ≡ n → length (pool_update xs k f) ≡ n
update_kept xs k n f h = length-update xs k f ∙ h

pub map_kept : {A : Type 0} (f : A → A) (xs : List A) (n : ℕ) → length xs ≡ n → length (map f xs) ≡ n
map_kept f xs n h = length-map xs f ∙ h

-- bytes are stored at a pointer of a memory as long as this one
pub bytes_kept : (before memory bytes : List ℕ) (a k n : ℕ) → not (a % 4 == 0 && nat_le (a + k) (length before)) ≡ false → length before ≡ n → length bytes ≡ k → length memory ≡ n → length (with_bytes memory a bytes) ≡ n
bytes_kept before memory bytes a k n within was size now =
    let both : ((a % 4 == 0) ≡ true) × (nat_le (a + k) (length before) ≡ true) = and_parts _ _ (not-false _ within) in
    let room : a + k ≤ length before = leb-true _ _ both.1 in
    length-with_bytes memory bytes a (omega (arith, room, was, size, now)) ∙ now

-- a byte more has room
pub byte_kept : (xs : List ℕ) (x n : ℕ) → nat_le n (length xs) ≡ false → length (xs ++ x ∷ []) ≤ n
byte_kept xs x n e = omega (arith, length-append xs (x ∷ []), leb-false n (length xs) e)

pub input_kept : (xs : List ℕ) (x n : ℕ) → nat_lt (length xs) n ≡ true → length (xs ++ x ∷ []) ≤ n
input_kept xs x n e = omega (arith, length-append xs (x ∷ []), ltb-true (length xs) n e)

-- ---- values

numbered_holds : {A : Type 0} (P : A → Type 0) (xs : List A) (k : ℕ) (a : A) → All P xs → numbered xs k ≡ Some a → P a
numbered_holds P xs zero a h e = absurd (cc e)
numbered_holds P xs (suc i) a h e =
    subst P (get_or_from_slice_get xs i a a e) (All-get_or P xs i a (slice_get_within xs i a e) h)

each_set : {A : Type 0} (P : A → Type 0) (xs : List A) (k : ℕ) (a : A) → P a → All P xs → All P (pool_set xs k a)
each_set P xs zero a p h = h
each_set P xs (suc i) a p h = All-set P xs i a p h

each_updated : (n : ℕ) (xs : List (List ℕ)) (k : ℕ) (f : List ℕ → List ℕ) → ((values : List ℕ) → length values ≡ n → length (f values) ≡ n) → All (λ values. length values ≡ n) xs
    → (o : Option (List ℕ)) → numbered xs k ≡ o → All (λ values. length values ≡ n) (unwrap_or (option_map (λ a. pool_set xs k (f a)) o) xs)
each_updated n xs k f keeps h None e = h
each_updated n xs k f keeps h (Some a) e = each_set (λ values. length values ≡ n) xs k (f a) (keeps a (numbered_holds (λ values. length values ≡ n) xs k a h e)) h

pub each_update : (n : ℕ) (xs : List (List ℕ)) (k : ℕ) (f : List ℕ → List ℕ) → ((values : List ℕ) → length values ≡ n → length (f values) ≡ n) → All (λ values. length values ≡ n) xs
    → All (λ values. length values ≡ n) (pool_update xs k f)
each_update n xs k f keeps h = each_updated n xs k f keeps h (numbered xs k) refl

pub each_map : (n : ℕ) (xs : List (List ℕ)) (f : List ℕ → List ℕ) → ((values : List ℕ) → length values ≡ n → length (f values) ≡ n) → All (λ values. length values ≡ n) xs → All (λ values. length values ≡ n) (map f xs)
each_map n xs f keeps h = All-map (λ values. length values ≡ n) f xs (All-weaker (λ values. length values ≡ n) (λ values. length (f values) ≡ n) keeps xs h)

-- ---- threads, mutexes and condition variables

pub move_threads : (move : LockMove) (t m n : ℕ) (wait : Wait) (x : Locks) → length x.threads ≡ n → length (after_move move t m wait x).threads ≡ n
move_threads move t m n wait x h = length-move_threads move t m wait x ∙ h

pub move_mutexes : (move : LockMove) (t m n : ℕ) (wait : Wait) (x : Locks) → length x.mutexes ≡ n → length (after_move move t m wait x).mutexes ≡ n
move_mutexes move t m n wait x h = length-move_mutexes move t m wait x ∙ h

pub unlock_threads : (m n : ℕ) (x : Locks) → length x.threads ≡ n → length (after_unlock m x).threads ≡ n
unlock_threads m n x h = length-unlock_threads m x ∙ h

pub unlock_mutexes : (m n : ℕ) (x : Locks) → length x.mutexes ≡ n → length (after_unlock m x).mutexes ≡ n
unlock_mutexes m n x h = length-unlock_mutexes m x ∙ h

pub end_threads : (t n : ℕ) (x : Locks) → length x.threads ≡ n → length (after_owner_end t x).threads ≡ n
end_threads t n x h = length-owner_end_threads t x ∙ h

pub end_mutexes : (t n : ℕ) (x : Locks) → length x.mutexes ≡ n → length (after_owner_end t x).mutexes ≡ n
end_mutexes t n x h = length-owner_end_mutexes t x ∙ h

-- ---- condition variables

pub unblock_threads : (t c n : ℕ) (reply : Option ℕ) (x : Syncs) → length x.threads ≡ n → length (after_unblock t c reply x).threads ≡ n
unblock_threads t c n reply x h = (sized_unblock t c reply x).threads ∙ h

pub unblock_mutexes : (t c n : ℕ) (reply : Option ℕ) (x : Syncs) → length x.mutexes ≡ n → length (after_unblock t c reply x).mutexes ≡ n
unblock_mutexes t c n reply x h = (sized_unblock t c reply x).mutexes ∙ h

pub unblock_conditions : (t c n : ℕ) (reply : Option ℕ) (x : Syncs) → length x.conditions ≡ n → length (after_unblock t c reply x).conditions ≡ n
unblock_conditions t c n reply x h = (sized_unblock t c reply x).conditions ∙ h

pub signal_threads : (c n : ℕ) (x : Syncs) → length x.threads ≡ n → length (after_signal c x).threads ≡ n
signal_threads c n x h = (sized_signal c x).threads ∙ h

pub signal_mutexes : (c n : ℕ) (x : Syncs) → length x.mutexes ≡ n → length (after_signal c x).mutexes ≡ n
signal_mutexes c n x h = (sized_signal c x).mutexes ∙ h

pub signal_conditions : (c n : ℕ) (x : Syncs) → length x.conditions ≡ n → length (after_signal c x).conditions ≡ n
signal_conditions c n x h = (sized_signal c x).conditions ∙ h

pub broadcast_threads : (c n : ℕ) (x : Syncs) → length x.threads ≡ n → length (after_broadcast c x).threads ≡ n
broadcast_threads c n x h = (sized_broadcast c x).threads ∙ h

pub broadcast_mutexes : (c n : ℕ) (x : Syncs) → length x.mutexes ≡ n → length (after_broadcast c x).mutexes ≡ n
broadcast_mutexes c n x h = (sized_broadcast c x).mutexes ∙ h

pub broadcast_conditions : (c n : ℕ) (x : Syncs) → length x.conditions ≡ n → length (after_broadcast c x).conditions ≡ n
broadcast_conditions c n x h = (sized_broadcast c x).conditions ∙ h

-- ---- a state

pub sized_by : (l : Limits) (s : Part) → length s.memory ≡ l.memory → length s.threads ≡ l.threads → length s.mutexes ≡ l.mutexes → length s.conditions ≡ l.conditions → length s.cancellations ≡ l.threads
    → length s.cleanups ≡ l.threads → length s.keys.destructors ≡ l.keys → length s.keys.values ≡ l.threads → All (λ values. length values ≡ l.keys) s.keys.values → length s.keys.rounds ≡ l.threads
    → length s.console.ring ≤ l.ring → length s.console.output ≤ l.output → IsSized l s
sized_by l s memory threads mutexes conditions cancellations cleanups destructors values each rounds ring output = record {
  memory = memory;
  threads = threads;
  mutexes = mutexes;
  conditions = conditions;
  cancellations = cancellations;
  cleanups = cleanups;
  destructors = destructors;
  values = values;
  each_values = each;
  rounds = rounds;
  ring = ring;
  output = output;
}

pub ruleset kept = (length-replicate, unblock_threads, unblock_mutexes, unblock_conditions, signal_threads, signal_mutexes, signal_conditions, broadcast_threads, broadcast_mutexes, broadcast_conditions, set_kept, update_kept, map_kept, bytes_kept, byte_kept, input_kept, each_update, each_map, move_threads, move_mutexes, unlock_threads, unlock_mutexes, end_threads, end_mutexes, sized_by)
