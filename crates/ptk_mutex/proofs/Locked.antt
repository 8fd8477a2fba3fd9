-- Whom a hand over chooses, and that every move leaves waiters that wait and counts within their limit.
use Rattle.std.proofs.Common.{◌≡◌, ◌≢◌, ℕ, zero, suc, ◌+◌, ◌<◌, ◌≤◌, List, [], ◌∷◌, ◌++◌, length, map, get_or, max, refl, sym, ◌∙◌, ap, subst, arith, true, false, ◌⊎◌, inl, inr}
use Rattle.std.specs.Prelude.{Option, Some, None, IsSome, option_map, fold, find, ◌==◌}
use Rattle.std.proofs.lemmas.Bool.{cases_eq}
use Rattle.std.proofs.lemmas.Bool.Decides.{nat_tests}
use Rattle.std.proofs.lemmas.List.{get_or-map}
use Rattle.std.proofs.lemmas.Option.{same_Some}
use Rattle.ptk_words.specs.Pools.{pool_get, pool_changed, numbers_to, greatest, first_of_greatest, is_in, without}
use Rattle.ptk_words.specs.declared.TheConstants.{COUNT_LIMIT}
use Rattle.ptk_words.specs.declared.threads.Thread.{Thread}
use Rattle.ptk_words.specs.declared.threads.Wait.{Wait}
use Rattle.ptk_words.specs.Threads.{mutex_of_wait}
use Rattle.ptk_words.proofs.Lists.{in_push, in_without, out_push, first_in, in_here}
use Rattle.ptk_words.proofs.Pools.{used_number, changed_own, changed_other}
use Rattle.ptk_words_model.specs.Mutex.{after_wait, after_count, mutex_at, with_mutex, waiters_of, count_of, heir, without_mutex_waiter}
use Rattle.ptk_mutex.specs.Moves.{after_assignment}
use Rattle.ptk_words_model.specs.State.{Mutex, Locks}
use Rattle.ptk_words_model.specs.Priority.{awaited, thread_at, effective_of, effective_priority, effective_priorities}
use Rattle.ptk_words_model.specs.Schedule.{at_tail_with}
use Rattle.ptk_threads.specs.LinkChanges.{few_of}
use Rattle.ptk_threads.proofs.Along.{in_later}
use Rattle.ptk_threads.specs.declared.thread_list.Members.TheVariants.{NoMember, OnlyMember}
use Rattle.ptk_threads.specs.Table.{stored_of}
use Rattle.ptk_mutex.specs.Tables.{IsWaiter, AreLocked, MayGet}
use Rattle.ptk_roster.proofs.LevelLists.{length-numbers_to, get_or-numbers_to}

-- ---- one that waits

pub awaiting_used : (m : ℕ) (x : Option Thread) → awaited x ≡ Some m → IsSome x
awaiting_used m None e = let no : ⊥ = cc in absurd no
awaiting_used m (Some thread) e = refl

-- it is in use
pub waiter_used : (m k : ℕ) (locks : Locks) → IsWaiter locks m k → IsSome (pool_get locks.threads k)
waiter_used m k locks waiter = awaiting_used m (pool_get locks.threads k) waiter.waits

-- ---- the choice

pub stored_at : (threads : List (Option Thread)) (mutexes : List (Option Mutex)) (stored : List ℕ) (k : ℕ) → stored ≡ effective_priorities threads mutexes → 0 < k → k ≤ length threads → stored_of stored k ≡ effective_of threads mutexes k
stored_at threads mutexes stored zero e h le = absurd (omega (arith, h))
stored_at threads mutexes stored (suc i) e h le =
    let below : i < length threads = omega (arith, le) in
    let long : i < length (numbers_to (length threads)) = rw (length-numbers_to (length threads)) below in
    ap (λ l. get_or l i 0) e ∙ get_or-map (effective_of threads mutexes) (numbers_to (length threads)) i 0 0 long ∙ ap (effective_of threads mutexes) (get_or-numbers_to (length threads) i below)

head_same : (f g : ℕ → ℕ) (k : ℕ) (ks : List ℕ) → map f (k ∷ ks) ≡ map g (k ∷ ks) → f k ≡ g k
head_same f g k ks e = cc

tail_same : (f g : ℕ → ℕ) (k : ℕ) (ks : List ℕ) → map f (k ∷ ks) ≡ map g (k ∷ ks) → map f ks ≡ map g ks
tail_same f g k ks e = cc

greatest_same : (f g : ℕ → ℕ) (a : ℕ) (ks : List ℕ) → map f ks ≡ map g ks → fold (λ most k. max most (f k)) a ks ≡ fold (λ most k. max most (g k)) a ks
greatest_same f g a [] e = refl
greatest_same f g a (k ∷ ks) e = rw (head_same f g k ks e) (greatest_same f g (max a (g k)) ks (tail_same f g k ks e))

find_same : (f g : ℕ → ℕ) (most : ℕ) (ks : List ℕ) → map f ks ≡ map g ks → find (λ k. f k == most) ks ≡ find (λ k. g k == most) ks
find_same f g most [] e = refl
find_same f g most (k ∷ ks) e = rw (head_same f g k ks e, find_same f g most ks (tail_same f g k ks e)) refl

pub first_same : (f g : ℕ → ℕ) (ks : List ℕ) → map f ks ≡ map g ks → first_of_greatest f ks ≡ first_of_greatest g ks
first_same f g ks same =
    ap (λ most. find (λ k. f k == most) ks) (greatest_same f g 0 ks same) ∙ find_same f g (greatest g ks) ks same

pub ranks_same : (f g : ℕ → ℕ) (ks : List ℕ) → ((k : ℕ) → is_in k ks ≡ true → f k ≡ g k) → map f ks ≡ map g ks
ranks_same f g [] h = refl
ranks_same f g (k ∷ ks) h =
    let here : f k ≡ g k = h k (in_here k ks) in
    let rest : map f ks ≡ map g ks = ranks_same f g ks (λ j e. h j (in_later j k ks e)) in
    ap (λ x. x ∷ map f ks) here ∙ ap (λ xs. g k ∷ xs) rest

-- of none none is first
pub none_first : (rank : ℕ → ℕ) (ks : List ℕ) → few_of ks ≡ NoMember → None ≡ first_of_greatest rank ks
none_first rank [] e = refl
none_first rank (k ∷ []) e = let no : ⊥ = cc in absurd no
none_first rank (k ∷ j ∷ ks) e = let no : ⊥ = cc in absurd no

-- and the only one is first
pub only_first : (rank : ℕ → ℕ) (ks : List ℕ) (t : ℕ) → few_of ks ≡ OnlyMember t → Some t ≡ first_of_greatest rank ks
only_first rank [] t e = let no : ⊥ = cc in absurd no
only_first rank (k ∷ []) t e =
    let greatest : (rank k == max 0 (rank k)) ≡ true = grind (arith, nat_tests) in
    let same : t ≡ k = cc in
    rw greatest (ap Some same)
only_first rank (k ∷ j ∷ ks) t e = let no : ⊥ = cc in absurd no

-- the stored priorities choose among threads as the effective ones do
pub stored_first : (threads : List (Option Thread)) (mutexes : List (Option Mutex)) (stored ks : List ℕ) → stored ≡ effective_priorities threads mutexes → ((k : ℕ) → is_in k ks ≡ true → IsSome (pool_get threads k)) → first_of_greatest (stored_of stored) ks ≡ first_of_greatest (effective_of threads mutexes) ks
stored_first threads mutexes stored ks e used =
    first_same (stored_of stored) (effective_of threads mutexes) ks
    (ranks_same (stored_of stored) (effective_of threads mutexes) ks
    (λ k i. let number = used_number k threads (used k i) in stored_at threads mutexes stored k e number.0 number.1))

-- so the stored priorities choose the heir
pub stored_heir : (m : ℕ) (locks : Locks) (stored : List ℕ) → AreLocked locks → stored ≡ effective_priorities locks.threads locks.mutexes → first_of_greatest (stored_of stored) (waiters_of (mutex_at locks m)) ≡ heir m locks
stored_heir m locks stored locked e = stored_first locks.threads locks.mutexes stored (waiters_of (mutex_at locks m)) e (λ k i. waiter_used m k locks (locked.waiters m k i))

may_get : (m : ℕ) (locks : Locks) (o : Option ℕ) → AreLocked locks → heir m locks ≡ o → MayGet o locks m
may_get m locks None locked e = tt
may_get m locks (Some t) locked e = locked.waiters m t (first_in (effective_priority locks) t (waiters_of (mutex_at locks m)) e)

-- who is chosen waits
pub heir_may_get : (m : ℕ) (locks : Locks) (o : Option ℕ) → AreLocked locks → o ≡ heir m locks → MayGet o locks m
heir_may_get m locks o locked e = may_get m locks o locked (sym e)

-- ---- a mutex changed

-- f leaves no more waiters, and no count above the limit
pub record IsMild (f : Mutex → Mutex) : Type 0 where
  pub waiters : (k : ℕ) (x : Mutex) → is_in k (f x).waiters ≡ true → is_in k x.waiters ≡ true
  pub counts : (x : Mutex) → x.count ≤ COUNT_LIMIT → (f x).count ≤ COUNT_LIMIT

mild_waiters : (f : Mutex → Mutex) (k : ℕ) (x : Option Mutex) → IsMild f → is_in k (waiters_of (option_map f x)) ≡ true → is_in k (waiters_of x) ≡ true
mild_waiters f k None mild e = e
mild_waiters f k (Some x) mild e = mild.waiters k x e

mild_counts : (f : Mutex → Mutex) (x : Option Mutex) → IsMild f → count_of x ≤ COUNT_LIMIT → count_of (option_map f x) ≤ COUNT_LIMIT
mild_counts f None mild le = le
mild_counts f (Some x) mild le = mild.counts x le

mild_in : (m n k : ℕ) (f : Mutex → Mutex) (mutexes : List (Option Mutex)) → IsMild f → (n ≡ m) ⊎ (n ≢ m) → is_in k (waiters_of (pool_get (pool_changed m f mutexes) n)) ≡ true → is_in k (waiters_of (pool_get mutexes n)) ≡ true
mild_in m n k f mutexes mild (inl e) h =
    let own : is_in k (waiters_of (pool_get (pool_changed m f mutexes) m)) ≡ true = subst (λ (j : ℕ). is_in k (waiters_of (pool_get (pool_changed m f mutexes) j)) ≡ true) e h in
    let was : is_in k (waiters_of (pool_get mutexes m)) ≡ true = mild_waiters f k (pool_get mutexes m) mild (subst (λ (x : Option Mutex). is_in k (waiters_of x) ≡ true) (changed_own m f mutexes) own) in
    subst (λ (j : ℕ). is_in k (waiters_of (pool_get mutexes j)) ≡ true) (sym e) was
mild_in m n k f mutexes mild (inr ne) h = subst (λ (x : Option Mutex). is_in k (waiters_of x) ≡ true) (changed_other m n f mutexes ne) h

mild_count : (m n : ℕ) (f : Mutex → Mutex) (mutexes : List (Option Mutex)) → IsMild f → (n ≡ m) ⊎ (n ≢ m) → count_of (pool_get mutexes n) ≤ COUNT_LIMIT → count_of (pool_get (pool_changed m f mutexes) n) ≤ COUNT_LIMIT
mild_count m n f mutexes mild (inl e) h =
    let was : count_of (pool_get mutexes m) ≤ COUNT_LIMIT = subst (λ (j : ℕ). count_of (pool_get mutexes j) ≤ COUNT_LIMIT) e h in
    let own : count_of (pool_get (pool_changed m f mutexes) m) ≤ COUNT_LIMIT = subst (λ (x : Option Mutex). count_of x ≤ COUNT_LIMIT) (sym (changed_own m f mutexes)) (mild_counts f (pool_get mutexes m) mild was) in
    subst (λ (j : ℕ). count_of (pool_get (pool_changed m f mutexes) j) ≤ COUNT_LIMIT) (sym e) own
mild_count m n f mutexes mild (inr ne) h = subst (λ (x : Option Mutex). count_of x ≤ COUNT_LIMIT) (sym (changed_other m n f mutexes ne)) h

pub locked_mild : (m : ℕ) (f : Mutex → Mutex) (locks : Locks) → IsMild f → AreLocked locks → AreLocked (with_mutex m f locks)
locked_mild m f locks mild locked = record {
  waiters = λ n k h.
      let was = locked.waiters n k (mild_in m n k f locks.mutexes mild (cases_eq n m) h) in
      record { waits = was.waits; out = was.out; inside = h };
  counts = λ n. mild_count m n f locks.mutexes mild (cases_eq n m) (locked.counts n);
}

-- ---- a waiter gone

left_entry : (t k : ℕ) (x : Option Mutex) → is_in k (waiters_of (option_map (λ (mutex : Mutex). record mutex { waiters = without t mutex.waiters }) x)) ≡ true → k ≢ t
left_entry t k None h = let no : ⊥ = cc in absurd no
left_entry t k (Some x) h = (in_without t k x.waiters h).0

left_own : (m t k : ℕ) (mutexes : List (Option Mutex)) → is_in k (waiters_of (pool_get (pool_changed m (λ (mutex : Mutex). record mutex { waiters = without t mutex.waiters }) mutexes) m)) ≡ true → k ≢ t
left_own m t k mutexes h = left_entry t k (pool_get mutexes m) (subst (λ (x : Option Mutex). is_in k (waiters_of x) ≡ true) (changed_own m (λ (mutex : Mutex). record mutex { waiters = without t mutex.waiters }) mutexes) h)

-- a waiter of n that is left is another than t, a waiter of m that left
left_other : (m n t k : ℕ) (locks : Locks) → IsWaiter locks m t → AreLocked locks → (n ≡ m) ⊎ (n ≢ m) → is_in k (waiters_of (mutex_at (without_mutex_waiter t m locks) n)) ≡ true → k ≢ t
left_other m n t k locks waiter locked (inl e) h =
    left_own m t k locks.mutexes (subst (λ (j : ℕ). is_in k (waiters_of (mutex_at (without_mutex_waiter t m locks) j)) ≡ true) e h)
left_other m n t k locks waiter locked (inr ne) h =
    let named : awaited (thread_at locks k) ≡ Some n = (locked.waiters n k (subst (λ (x : Option Mutex). is_in k (waiters_of x) ≡ true) (changed_other m n (λ (mutex : Mutex). record mutex { waiters = without t mutex.waiters }) locks.mutexes ne) h)).waits in
    λ same.
    let again : awaited (thread_at locks t) ≡ Some n = subst (λ (j : ℕ). awaited (thread_at locks j) ≡ Some n) same named in
    ne (same_Some n m (sym again ∙ waiter.waits))

mild_without : (t : ℕ) → IsMild (λ (mutex : Mutex). record mutex { waiters = without t mutex.waiters })
mild_without t = record { waiters = λ k x h. (in_without t k x.waiters h).1; counts = λ x le. le }

pub locked_left : (m t : ℕ) (f : Thread → Thread) (locks : Locks) → IsWaiter locks m t → AreLocked locks → AreLocked (at_tail_with f t (without_mutex_waiter t m locks))
locked_left m t f locks waiter locked =
    let before : AreLocked (without_mutex_waiter t m locks) = locked_mild m (λ (mutex : Mutex). record mutex { waiters = without t mutex.waiters }) locks (mild_without t) locked in
    record {
      waiters = λ n k h.
          let other : k ≢ t = left_other m n t k locks waiter locked (cases_eq n m) h in
          let was = before.waiters n k h in
          record {
            waits = ap awaited (changed_other t k f locks.threads other) ∙ was.waits;
            out = out_push t k locks.line other was.out;
            inside = h;
          };
      counts = λ n. before.counts n;
    }

-- ---- a waiter more

more_entry : (t k : ℕ) (x : Option Mutex) → is_in k (waiters_of (option_map (λ (mutex : Mutex). record mutex { waiters = mutex.waiters ++ t ∷ [] }) x)) ≡ true → (k ≡ t) ⊎ (is_in k (waiters_of x) ≡ true)
more_entry t k None h = let no : ⊥ = cc in absurd no
more_entry t k (Some x) h = in_push t k x.waiters h

-- who waits for n once t waits for m
more_in : (m n t k : ℕ) (mutexes : List (Option Mutex)) → (n ≡ m) ⊎ (n ≢ m) → is_in k (waiters_of (pool_get (pool_changed m (λ (mutex : Mutex). record mutex { waiters = mutex.waiters ++ t ∷ [] }) mutexes) n)) ≡ true
    → ((n ≡ m) × (k ≡ t)) ⊎ (is_in k (waiters_of (pool_get mutexes n)) ≡ true)
more_in m n t k mutexes (inl e) h =
    let own : is_in k (waiters_of (pool_get (pool_changed m (λ (mutex : Mutex). record mutex { waiters = mutex.waiters ++ t ∷ [] }) mutexes) m)) ≡ true = subst (λ (j : ℕ). is_in k (waiters_of (pool_get (pool_changed m (λ (mutex : Mutex). record mutex { waiters = mutex.waiters ++ t ∷ [] }) mutexes) j)) ≡ true) e h in
    elim (more_entry t k (pool_get mutexes m) (subst (λ (x : Option Mutex). is_in k (waiters_of x) ≡ true) (changed_own m (λ (mutex : Mutex). record mutex { waiters = mutex.waiters ++ t ∷ [] }) mutexes) own)) [
      | inl same ↦ inl (e, same)
      | inr was ↦ inr (subst (λ (j : ℕ). is_in k (waiters_of (pool_get mutexes j)) ≡ true) (sym e) was)
    ]
more_in m n t k mutexes (inr ne) h = inr (subst (λ (x : Option Mutex). is_in k (waiters_of x) ≡ true) (changed_other m n (λ (mutex : Mutex). record mutex { waiters = mutex.waiters ++ t ∷ [] }) mutexes ne) h)

pub waiting_entry : (m : ℕ) (wait : Wait) (x : Option Thread) → mutex_of_wait (Some wait) ≡ Some m → IsSome x → awaited (option_map (λ (thread : Thread). record thread { wait = Some wait }) x) ≡ Some m
waiting_entry m wait None e used = let no : ⊥ = cc in absurd no
waiting_entry m wait (Some thread) e used = e

more_count : (t : ℕ) (x : Option Mutex) → count_of (option_map (λ (mutex : Mutex). record mutex { waiters = mutex.waiters ++ t ∷ [] }) x) ≡ count_of x
more_count t None = refl
more_count t (Some x) = refl

pub count_kept : (m n : ℕ) (f : Mutex → Mutex) (mutexes : List (Option Mutex)) → ((x : Option Mutex) → count_of (option_map f x) ≡ count_of x) → (n ≡ m) ⊎ (n ≢ m) → count_of (pool_get (pool_changed m f mutexes) n) ≡ count_of (pool_get mutexes n)
count_kept m n f mutexes keeps (inl e) =
    subst (λ (j : ℕ). count_of (pool_get (pool_changed m f mutexes) j) ≡ count_of (pool_get mutexes j)) (sym e) (ap count_of (changed_own m f mutexes) ∙ keeps (pool_get mutexes m))
count_kept m n f mutexes keeps (inr ne) = ap count_of (changed_other m n f mutexes ne)

pub other_than : (n t k : ℕ) (locks : Locks) → awaited (thread_at locks t) ≡ None → IsWaiter locks n k → k ≢ t
other_than n t k locks awake was = λ same.
    let named : awaited (thread_at locks t) ≡ Some n = subst (λ (j : ℕ). awaited (thread_at locks j) ≡ Some n) same was.waits in
    cc

-- a thread that waits for no mutex, in use and not in the line, becomes the last waiter
pub locked_wait : (t m : ℕ) (wait : Wait) (locks : Locks) → mutex_of_wait (Some wait) ≡ Some m → awaited (thread_at locks t) ≡ None → IsSome (thread_at locks t) → is_in t locks.line ≡ false → AreLocked locks → AreLocked (after_wait t m wait locks)
locked_wait t m wait locks names awake used out locked = record {
  waiters = λ n k h.
      elim (more_in m n t k locks.mutexes (cases_eq n m) h) as (λ _. IsWaiter (after_wait t m wait locks) n k) [
        | inl (own, same) ↦ (let named : awaited (thread_at (after_wait t m wait locks) t) ≡ Some n =
            ap awaited (changed_own t (λ (thread : Thread). record thread { wait = Some wait }) locks.threads) ∙ waiting_entry m wait (thread_at locks t) names used ∙ ap Some (sym own) in
            record {
              waits = subst (λ (j : ℕ). awaited (thread_at (after_wait t m wait locks) j) ≡ Some n) (sym same) named;
              out = subst (λ (j : ℕ). is_in j locks.line ≡ false) (sym same) out;
              inside = h;
            })
        | inr old ↦ (let was = locked.waiters n k old in record {
          waits = ap awaited (changed_other t k (λ (thread : Thread). record thread { wait = Some wait }) locks.threads (other_than n t k locks awake was)) ∙ was.waits;
          out = was.out;
          inside = h;
        })
      ];
  counts = λ n. let same = count_kept m n (λ (mutex : Mutex). record mutex { waiters = mutex.waiters ++ t ∷ [] }) locks.mutexes (more_count t) (cases_eq n m) in rw same (locked.counts n);
}

-- a thread that waits for no mutex is woken
pub locked_wake : (t : ℕ) (f : Thread → Thread) (locks : Locks) → awaited (thread_at locks t) ≡ None → AreLocked locks → AreLocked (at_tail_with f t locks)
locked_wake t f locks awake locked = record {
  waiters = λ n k h.
      let was = locked.waiters n k h in
      let other : k ≢ t = other_than n t k locks awake was in
      record {
        waits = ap awaited (changed_other t k f locks.threads other) ∙ was.waits;
        out = out_push t k locks.line other was.out;
        inside = h;
      };
  counts = λ n. locked.counts n;
}

-- ---- a count more

counted_waiters : (k : ℕ) (x : Option Mutex) → is_in k (waiters_of (option_map (λ (mutex : Mutex). record mutex { count = mutex.count + 1 }) x)) ≡ true → is_in k (waiters_of x) ≡ true
counted_waiters k None h = h
counted_waiters k (Some x) h = h

counted_below : (x : Option Mutex) → count_of x < COUNT_LIMIT → count_of (option_map (λ (mutex : Mutex). record mutex { count = mutex.count + 1 }) x) ≤ COUNT_LIMIT
counted_below None lt = omega arith
counted_below (Some x) lt = omega (arith, lt)

counted_in : (m n k : ℕ) (mutexes : List (Option Mutex)) → (n ≡ m) ⊎ (n ≢ m) → is_in k (waiters_of (pool_get (pool_changed m (λ (mutex : Mutex). record mutex { count = mutex.count + 1 }) mutexes) n)) ≡ true → is_in k (waiters_of (pool_get mutexes n)) ≡ true
counted_in m n k mutexes (inl e) h =
    let own : is_in k (waiters_of (pool_get (pool_changed m (λ (mutex : Mutex). record mutex { count = mutex.count + 1 }) mutexes) m)) ≡ true = subst (λ (j : ℕ). is_in k (waiters_of (pool_get (pool_changed m (λ (mutex : Mutex). record mutex { count = mutex.count + 1 }) mutexes) j)) ≡ true) e h in
    let was : is_in k (waiters_of (pool_get mutexes m)) ≡ true = counted_waiters k (pool_get mutexes m) (subst (λ (x : Option Mutex). is_in k (waiters_of x) ≡ true) (changed_own m (λ (mutex : Mutex). record mutex { count = mutex.count + 1 }) mutexes) own) in
    subst (λ (j : ℕ). is_in k (waiters_of (pool_get mutexes j)) ≡ true) (sym e) was
counted_in m n k mutexes (inr ne) h = subst (λ (x : Option Mutex). is_in k (waiters_of x) ≡ true) (changed_other m n (λ (mutex : Mutex). record mutex { count = mutex.count + 1 }) mutexes ne) h

counted_limit : (m n : ℕ) (mutexes : List (Option Mutex)) → (n ≡ m) ⊎ (n ≢ m) → count_of (pool_get mutexes m) < COUNT_LIMIT → count_of (pool_get mutexes n) ≤ COUNT_LIMIT → count_of (pool_get (pool_changed m (λ (mutex : Mutex). record mutex { count = mutex.count + 1 }) mutexes) n) ≤ COUNT_LIMIT
counted_limit m n mutexes (inl e) lt le =
    let own : count_of (pool_get (pool_changed m (λ (mutex : Mutex). record mutex { count = mutex.count + 1 }) mutexes) m) ≤ COUNT_LIMIT = subst (λ (x : Option Mutex). count_of x ≤ COUNT_LIMIT) (sym (changed_own m (λ (mutex : Mutex). record mutex { count = mutex.count + 1 }) mutexes)) (counted_below (pool_get mutexes m) lt) in
    subst (λ (j : ℕ). count_of (pool_get (pool_changed m (λ (mutex : Mutex). record mutex { count = mutex.count + 1 }) mutexes) j) ≤ COUNT_LIMIT) (sym e) own
counted_limit m n mutexes (inr ne) lt le = subst (λ (x : Option Mutex). count_of x ≤ COUNT_LIMIT) (sym (changed_other m n (λ (mutex : Mutex). record mutex { count = mutex.count + 1 }) mutexes ne)) le

-- a count below the limit goes up
pub locked_count : (m : ℕ) (locks : Locks) → count_of (mutex_at locks m) < COUNT_LIMIT → AreLocked locks → AreLocked (after_count m locks)
locked_count m locks lt locked = record {
  waiters = λ n k h.
      let was = locked.waiters n k (counted_in m n k locks.mutexes (cases_eq n m) h) in
      record { waits = was.waits; out = was.out; inside = h };
  counts = λ n. counted_limit m n locks.mutexes (cases_eq n m) lt (locked.counts n);
}

-- ---- a thread changed

assigned_entry : (priority : ℕ) (x : Option Thread) → awaited (option_map (λ (thread : Thread). record thread { priority = priority }) x) ≡ awaited x
assigned_entry priority None = refl
assigned_entry priority (Some thread) = refl

assigned_at : (t k priority : ℕ) (threads : List (Option Thread)) → (k ≡ t) ⊎ (k ≢ t) → awaited (pool_get (pool_changed t (λ (thread : Thread). record thread { priority = priority }) threads) k) ≡ awaited (pool_get threads k)
assigned_at t k priority threads (inl e) =
    subst (λ (j : ℕ). awaited (pool_get (pool_changed t (λ (thread : Thread). record thread { priority = priority }) threads) j) ≡ awaited (pool_get threads j)) (sym e)
    (ap awaited (changed_own t (λ (thread : Thread). record thread { priority = priority }) threads) ∙ assigned_entry priority (pool_get threads t))
assigned_at t k priority threads (inr ne) = ap awaited (changed_other t k (λ (thread : Thread). record thread { priority = priority }) threads ne)

-- another assigned priority
pub locked_assignment : (t priority : ℕ) (locks : Locks) → AreLocked locks → AreLocked (after_assignment t priority locks)
locked_assignment t priority locks locked = record {
  waiters = λ n k h.
      let was = locked.waiters n k h in
      record { waits = assigned_at t k priority locks.threads (cases_eq k t) ∙ was.waits; out = was.out; inside = h };
  counts = λ n. locked.counts n;
}
