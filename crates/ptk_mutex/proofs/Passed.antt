-- A waiter on a condition variable that waits for a mutex instead: it is among no waiters in between.
use Rattle.std.proofs.Common.{◌≡◌, ◌≢◌, ℕ, zero, suc, ◌+◌, ◌<◌, List, [], ◌∷◌, length, refl, sym, ◌∙◌, ap, subst, arith, true, false, ◌⊎◌, inl, inr}
use Rattle.std.specs.Prelude.{Option, Some, None, slice_get}
use Rattle.std.specs.Option.{option_flatten}
use Rattle.std.proofs.Math.ListN.{set}
use Rattle.std.proofs.lemmas.Bool.{cases_eq}
use Rattle.ptk_words.specs.Pools.{pool_get, pool_set, is_in, without}
use Rattle.ptk_words.proofs.Lists.{in_without, without_own}
use Rattle.ptk_words.proofs.Pools.{get-set_other}
use Rattle.ptk_words.specs.Parts.{part_of}
use Rattle.ptk_words_model.specs.State.{Condition}
use Rattle.ptk_words_model.specs.Priority.{awaited, thread_at}
use Rattle.ptk_words_model.specs.Mutex.{after_relock}
use Rattle.ptk_words_model.specs.Condition.{waiters_on}
use Rattle.ptk_words_sync_invariant.specs.Conditions.{IsNoWaiter}
use Rattle.ptk_threads.specs.declared.link.Link.{Link}
use Rattle.ptk_threads.specs.declared.link.Ends.{Ends}
use Rattle.ptk_threads.specs.Links.{queues, AreQueues}
use Rattle.ptk_threads.proofs.Linked.{alone}
use Rattle.ptk_threads.proofs.Pools.{part_of-set}
use Rattle.ptk_roster.specs.Rosters.{Rostered, AreQueuesOf}
use Rattle.ptk_roster.specs.Waiters.{condition_of}
use Rattle.ptk_mutex.specs.Sound.{IsSound}
use Rattle.ptk_mutex.specs.Tables.{without_condition_waiter}
use Rattle.ptk_mutex.proofs.NoWaiters.{out_of_mutex}
use Rattle.ptk_mutex.proofs.Sound.{AreReadyAt, AreSyncedAt, IsLocksMove, of_part, sound_conditions, sound_relock}

-- the condition variables of a partition without the waiter
abbrev left_row : ℕ → ℕ → List (Option Condition) → List (Option Condition)
left_row t c row = pool_set row c (Some (condition_of (without t (waiters_on (pool_get row c)))))

-- ---- it is among no waiters

own_entry : (P : Option Condition → Type 0) (row : List (Option Condition)) (i : ℕ) (x : Option Condition) → P None → P x → P (option_flatten (slice_get (set row i x) i))
own_entry P [] i x none own = none
own_entry P (y ∷ row) zero x none own = own
own_entry P (y ∷ row) (suc i) x none own = own_entry P row i x none own

left_own : (t c : ℕ) (row : List (Option Condition)) → is_in t (waiters_on (pool_get (left_row t c row) c)) ≡ false
left_own t zero row = refl
left_own t (suc i) row =
    own_entry (λ (x : Option Condition). is_in t (waiters_on x) ≡ false) row i (Some (condition_of (without t (waiters_on (pool_get row (suc i)))))) refl (without_own t (waiters_on (pool_get row (suc i))))

-- who lies in one queue lies in no other
alone_on : (links : List Link) (ends : List Ends) (lists : List (List ℕ)) (row : List (Option Condition)) (t c d : ℕ) → AreQueues links ends → queues links ends ≡ lists → ((n : ℕ) → 0 < n → part_of lists (n + 95) ≡ waiters_on (pool_get row n))
    → is_in t (waiters_on (pool_get row c)) ≡ true → d ≢ c → is_in t (waiters_on (pool_get row d)) ≡ false
alone_on links ends lists row t zero d are is seen inside ne = let no : ⊥ = cc in absurd no
alone_on links ends lists row t (suc i) zero are is seen inside ne = refl
alone_on links ends lists row t (suc i) (suc j) are is seen inside ne =
    let here : is_in t (part_of lists (suc i + 95)) ≡ true = ap (is_in t) (seen (suc i) (omega arith)) ∙ inside in
    ap (is_in t) (sym (seen (suc j) (omega arith))) ∙ alone links ends lists t (suc i + 95) (suc j + 95) are is here (λ e. ne (omega (arith, e)))

left_cases : (t c d : ℕ) (row : List (Option Condition)) → ((n : ℕ) → n ≢ c → is_in t (waiters_on (pool_get row n)) ≡ false) → (d ≡ c) ⊎ (d ≢ c) → is_in t (waiters_on (pool_get (left_row t c row) d)) ≡ false
left_cases t c d row others (inl e) = subst (λ (n : ℕ). is_in t (waiters_on (pool_get (left_row t c row) n)) ≡ false) (sym e) (left_own t c row)
left_cases t c d row others (inr ne) = ap (λ (x : Option Condition). is_in t (waiters_on x)) (get-set_other c d (Some (condition_of (without t (waiters_on (pool_get row c))))) row ne) ∙ others d ne

-- as the links of the slot table show, and since it waits for no mutex
pub passed_free : (p t c : ℕ) (links : List Link) (ends : List Ends) (lists : List (List (List ℕ))) (a : Rostered) → AreQueues links ends → queues links ends ≡ part_of lists p → AreQueuesOf a lists → AreReadyAt p a → awaited (thread_at (of_part p a).locks t) ≡ None
    → is_in t (waiters_on (pool_get (part_of a.conditions p) c)) ≡ true → p < length a.conditions → IsNoWaiter t (part_of a.mutexes p) (part_of (without_condition_waiter p t c a).conditions p)
passed_free p t c links ends lists a are is seen ready awake inside lt =
    let row : List (Option Condition) = part_of a.conditions p in
    let left : part_of (without_condition_waiter p t c a).conditions p ≡ left_row t c row = part_of-set a.conditions p (left_row t c row) lt in
    record {
      of_mutexes = λ m. out_of_mutex t m (of_part p a).locks awake ready.locked;
      of_conditions = λ d.
          ap (λ (l : List (Option Condition)). is_in t (waiters_on (pool_get l d))) left
          ∙ left_cases t c d row (λ n ne. alone_on links ends (part_of lists p) row t c n are is (λ k pos. (seen.each p).of_conditions k pos) inside ne) (cases_eq d c);
    }

-- ---- who waits on condition variables still does

left_waiters : (t c d k : ℕ) (row : List (Option Condition)) → (d ≡ c) ⊎ (d ≢ c) → is_in k (waiters_on (pool_get (left_row t c row) d)) ≡ true → is_in k (waiters_on (pool_get row d)) ≡ true
left_waiters t zero d k row same inside = inside
left_waiters t (suc i) d k row (inl e) inside =
    let left : Option Condition = Some (condition_of (without t (waiters_on (pool_get row (suc i))))) in
    let own : is_in k (waiters_on (pool_get (left_row t (suc i) row) (suc i))) ≡ true = subst (λ (n : ℕ). is_in k (waiters_on (pool_get (left_row t (suc i) row) n)) ≡ true) e inside in
    subst (λ (n : ℕ). is_in k (waiters_on (pool_get row n)) ≡ true) (sym e)
    (own_entry (λ (x : Option Condition). is_in k (waiters_on x) ≡ true → is_in k (waiters_on (pool_get row (suc i))) ≡ true) row i left (λ h. let no : ⊥ = cc in absurd no) (λ h. (in_without t k (waiters_on (pool_get row (suc i))) h).1) own)
left_waiters t (suc i) d k row (inr ne) inside = subst (λ (x : Option Condition). is_in k (waiters_on x) ≡ true) (get-set_other (suc i) d (Some (condition_of (without t (waiters_on (pool_get row (suc i)))))) row ne) inside

sound_left : (p t c : ℕ) (a : Rostered) → p < length a.table.threads → IsSound a → IsSound (without_condition_waiter p t c a)
sound_left p t c a lt sound =
    let synced : AreSyncedAt p a = sound.synced p lt in
    let row : List (Option Condition) = part_of a.conditions p in
    let left : part_of (without_condition_waiter p t c a).conditions p ≡ left_row t c row = part_of-set a.conditions p (left_row t c row) synced.of_conditions in
    sound_conditions p (left_row t c row) a
    (record {
      waiters = λ d k inside. synced.waiting.waiters d k (left_waiters t c d k row (cases_eq d c) (subst (λ (l : List (Option Condition)). is_in k (waiters_on (pool_get l d)) ≡ true) left inside));
    }) lt sound

-- ---- so the roster is sound once it waits for the mutex

pub sound_passed : (p t c m : ℕ) (reply : Option ℕ) (a b : Rostered) → (p < length a.conditions → IsNoWaiter t (part_of a.mutexes p) (part_of (without_condition_waiter p t c a).conditions p))
    → IsLocksMove p (without_condition_waiter p t c a) b (after_relock t m reply (of_part p a).locks) → IsSound a → IsSound b
sound_passed p t c m reply a b free move sound =
    sound_relock p t m reply (without_condition_waiter p t c a) b (free (sound.synced p move.before.part.of_threads).of_conditions) move (sound_left p t c a move.before.part.of_threads sound)
