-- A thread that took a free mutex, or got a higher assigned priority: the rise from it on gives the effective priorities.
use Rattle.std.proofs.Common.{◌∷◌, ◌++◌, fold, ◌≡◌, ◌≢◌, ℕ, suc, ◌+◌, ◌≤◌, Bool, true, false, ◌&&◌, List, [], length, map, max, refl, sym, ◌∙◌, ap, arith, ◌⊎◌, inl, inr}
use Rattle.std.specs.Prelude.{filter, nat_eq, ◌==◌, Option, Some, None, IsSome, option_map, option_and_then, if◌then◌else◌}
use Rattle.std.specs.List.{list_any}
use Rattle.std.proofs.lemmas.Bool.{and_parts, and_from, eqb-true, eq-eqb}
use Rattle.std.proofs.lemmas.Map.Views.{any-filter_same}
use Rattle.std.proofs.lemmas.List.Elements.{filter-append}
use Rattle.std.proofs.lemmas.List.Sums.{fold-append}
use Rattle.ptk_words.specs.Pools.{pool_get, pool_changed, numbers_to, greatest}
use Rattle.ptk_words.specs.declared.threads.Thread.{Thread}
use Rattle.ptk_words.specs.declared.mutexes.Protocol.{Protocol}
use Rattle.ptk_words.specs.declared.mutexes.Protocol.TheVariants.{NoProtocol, Inherit, Protect}
use Rattle.ptk_words.specs.declared.mutexes.Owner.{Owner}
use Rattle.ptk_words.specs.declared.mutexes.Owner.TheVariants.{Free, Abandoned, OwnedBy}
use Rattle.ptk_words.proofs.Pools.{changed_own, changed_other, length-changed}
use Rattle.ptk_words.proofs.Options.{same_either_way}
use Rattle.ptk_words_model.specs.State.{Mutex}
use Rattle.ptk_words_model.specs.Chain.{greatest_leading}
use Rattle.ptk_words_model.specs.Priority.{is_owner, ceiling_of, ceiling_for, inheritor, inheritor_of, awaited, assigned_of, next_in_chain, held_of, effective_priorities}
use Rattle.ptk_words_model.specs.Mutex.{owns}
use Rattle.ptk_words_sync_invariant.proofs.Threads.{changed_same}
use Rattle.ptk_words_sync_invariant.proofs.Raising.{level_of}
use Rattle.ptk_threads.specs.Table.{stored_of, with_priority}
use Rattle.ptk_threads.proofs.Pools.{pool_changed-free}
use Rattle.ptk_roster.specs.Slots.{bare, with_waiters}
use Rattle.ptk_roster.proofs.Bare.{pool_get-bare}
use Rattle.ptk_words_sync_invariant.proofs.Greatest.{Attained, attained, member_le, numbers_member}
use Rattle.ptk_roster.proofs.Tops.{number_member}
use Rattle.ptk_roster.proofs.Risen.{risen_stop}
use Rattle.ptk_roster.specs.Raised.{risen}
use Rattle.ptk_roster.proofs.Raising.{effective_mutex}
use Rattle.ptk_mutex.specs.Visits.{reads, IsVisited}
use Rattle.ptk_mutex.specs.Before.{freed, IsBeforeTake, IsBeforeAssignment}
use Rattle.ptk_words_model.specs.Condition.{is_named}
use Rattle.ptk_mutex.specs.Gained.{awaiting, gained_by, gained_of}
use Rattle.ptk_words_sync_invariant.proofs.ChainLaws.{false_true, IsNumber, next_bounded}
use Rattle.ptk_mutex.proofs.Joins.{IsJoin, IsPassed, priorities, length-priorities, stored_as, join-is}
use Rattle.ptk_mutex.proofs.Gains.{IsGain, gain-is}
use Rattle.ptk_mutex.proofs.Changes.{used_number, next_mutex, held_mutex, held_gain, ceilings, ceilings_max}
use Rattle.ptk_mutex.proofs.Waits.{rise_visited}
use Rattle.ptk_mutex.proofs.Locked.{awaiting_used}

-- ---- what it gives is read without its waiters

gained_of-waiters : (threads : List (Option Thread)) (stored : List ℕ) (m : ℕ) (w : List ℕ) (x : Option Mutex) → gained_of threads stored m (with_waiters w x) ≡ gained_of threads stored m x
gained_of-waiters threads stored m w None = refl
gained_of-waiters threads stored m w (Some x) = refl

pub gained_of-here : (threads : List (Option Thread)) (stored : List ℕ) (m : ℕ) (mutexes slots : List (Option Mutex)) → slots ≡ map bare mutexes → gained_of threads stored m (pool_get slots m) ≡ gained_of threads stored m (pool_get mutexes m)
gained_of-here threads stored m mutexes slots e =
    ap (λ (l : List (Option Mutex)). gained_of threads stored m (pool_get l m)) e ∙ ap (gained_of threads stored m) (pool_get-bare mutexes m)
    ∙ gained_of-waiters threads stored m [] (pool_get mutexes m)

-- ---- the mutex that was free

owner-is : (t : ℕ) (owner : Owner) → is_owner t owner ≡ true → owner ≡ OwnedBy t
owner-is t Free e = false_true e
owner-is t Abandoned e = false_true e
owner-is t (OwnedBy u) e = ap OwnedBy (eqb-true u t e)

-- where it has no ceiling it gives none
no_ceiling : (u : ℕ) (x : Mutex) → ceiling_of x.protocol ≡ 0 → ceiling_for u (option_map freed (Some x)) ≡ ceiling_for u (Some x)
no_ceiling u x e = sym (ap (λ c. if is_owner u x.owner then c else 0) e ∙ same_either_way (is_owner u x.owner) 0)

other_owner : (u t c : ℕ) (b : Bool) → (t == u) ≡ b → u ≢ t → (if t == u then c else 0) ≡ 0
other_owner u t c true e ne = absurd (ne (sym (eqb-true t u e)))
other_owner u t c false e ne = rw e refl

not_own : (u t : ℕ) (owner : Owner) (c : ℕ) → owner ≡ OwnedBy t → u ≢ t → (if is_owner u owner then c else 0) ≡ 0
not_own u t owner c e ne = rw e (other_owner u t c (t == u) refl ne)

-- ---- NONE

none_stays : (m : ℕ) (x : Mutex) (threads : List (Option Thread)) (mutexes : List (Option Mutex)) → pool_get mutexes m ≡ Some x → x.protocol ≡ NoProtocol → effective_priorities threads (pool_changed m freed mutexes) ≡ effective_priorities threads mutexes
none_stays m x threads mutexes at kind =
    effective_mutex m freed threads mutexes
    (ap (λ y. inheritor_of (option_map freed y)) at ∙ ap (λ p. inheritor p Free) kind ∙ sym (ap inheritor_of at ∙ ap (λ p. inheritor p x.owner) kind))
    (λ u. ap (λ y. ceiling_for u (option_map freed y)) at ∙ no_ceiling u x (ap ceiling_of kind) ∙ sym (ap (ceiling_for u) at))

-- ---- INHERIT

next_is : (m w : ℕ) (threads : List (Option Thread)) (mutexes : List (Option Mutex)) → awaited (pool_get threads w) ≡ Some m → next_in_chain threads mutexes w ≡ inheritor_of (pool_get mutexes m)
next_is m w threads mutexes e = ap (option_and_then (λ j. inheritor_of (pool_get mutexes j))) e

named_is : (m : ℕ) (o : Option ℕ) → is_named m o ≡ true → o ≡ Some m
named_is m None e = false_true e
named_is m (Some n) e = ap Some (eqb-true n m e)

next_apart : (m : ℕ) (mutexes : List (Option Mutex)) (o : Option ℕ) → is_named m o ≡ false → option_and_then (λ j. inheritor_of (pool_get (pool_changed m freed mutexes) j)) o ≡ option_and_then (λ j. inheritor_of (pool_get mutexes j)) o
next_apart m mutexes None e = refl
next_apart m mutexes (Some n) e = ap inheritor_of (changed_other m n freed mutexes (λ same. false_true (sym e ∙ eq-eqb n m same)))

joins : (t m : ℕ) (x : Mutex) (threads : List (Option Thread)) (mutexes : List (Option Mutex)) → pool_get mutexes m ≡ Some x → x.protocol ≡ Inherit → x.owner ≡ OwnedBy t
    → IsJoin (next_in_chain threads (pool_changed m freed mutexes)) (next_in_chain threads mutexes) (λ w. is_named m (awaited (pool_get threads w))) t
joins t m x threads mutexes at kind own = record {
  free = λ w j.
      next_is m w threads (pool_changed m freed mutexes) (named_is m (awaited (pool_get threads w)) j)
      ∙ ap inheritor_of (changed_own m freed mutexes ∙ ap (option_map freed) at) ∙ ap (λ p. inheritor p Free) kind;
  waits = λ w j.
      next_is m w threads mutexes (named_is m (awaited (pool_get threads w)) j)
      ∙ ap inheritor_of at ∙ ap (λ p. inheritor p x.owner) kind ∙ ap (inheritor Inherit) own;
  others = λ w j. sym (next_apart m mutexes (awaited (pool_get threads w)) j);
}

awaiting-any : (m w : ℕ) (threads : List (Option Thread)) → list_any (nat_eq w) (awaiting m threads) ≡ (is_named m (awaited (pool_get threads w)) && list_any (nat_eq w) (numbers_to (length threads)))
awaiting-any m w threads =
    any-filter_same (nat_eq w) (λ v. is_named m (awaited (pool_get threads v))) (is_named m (awaited (pool_get threads w)))
    (λ k e. ap (λ v. is_named m (awaited (pool_get threads v))) (sym (eqb-true w k e))) (numbers_to (length threads))

number_of : (m w : ℕ) (threads : List (Option Thread)) → is_named m (awaited (pool_get threads w)) ≡ true → IsNumber (length threads) w
number_of m w threads j = used_number w threads (awaiting_used m (pool_get threads w) (named_is m (awaited (pool_get threads w)) j))

passed_by : (m h : ℕ) (threads : List (Option Thread)) (stored : List ℕ) (before : ℕ → ℕ) → ((w : ℕ) → IsNumber (length threads) w → stored_of stored w ≡ before w) → h ≡ greatest (stored_of stored) (awaiting m threads)
    → Attained (stored_of stored) 0 (awaiting m threads) → (h ≡ 0) ⊎ ((b : ℕ) × (is_named m (awaited (pool_get threads b)) ≡ true) × (before b ≡ h))
passed_by m h threads stored before tells e (inl z) = inl (e ∙ z)
passed_by m h threads stored before tells e (inr (q, a, r)) =
    let both : (is_named m (awaited (pool_get threads q)) ≡ true) × (list_any (nat_eq q) (numbers_to (length threads)) ≡ true) = and_parts _ _ (sym (awaiting-any m q threads) ∙ a) in
    inr (q, both.0, sym (tells q (number_member (length threads) q both.1)) ∙ r ∙ sym e)

passes : (m h : ℕ) (threads : List (Option Thread)) (stored : List ℕ) (before : ℕ → ℕ) → ((w : ℕ) → IsNumber (length threads) w → stored_of stored w ≡ before w) → h ≡ greatest (stored_of stored) (awaiting m threads)
    → IsPassed (λ w. is_named m (awaited (pool_get threads w))) before h
passes m h threads stored before tells e = record {
  least = λ w j.
      let n : IsNumber (length threads) w = number_of m w threads j in
      let member : list_any (nat_eq w) (awaiting m threads) ≡ true = awaiting-any m w threads ∙ and_from _ _ j (numbers_member (length threads) w n.0 n.1) in
      let le : stored_of stored w ≤ greatest (stored_of stored) (awaiting m threads) = member_le (stored_of stored) w (awaiting m threads) 0 member in
      let same : stored_of stored w ≡ before w = tells w n in
      omega (arith, le, same, e);
  reached = passed_by m h threads stored before tells e (attained (stored_of stored) 0 (awaiting m threads));
}

inherit_rises : (t m h : ℕ) (x : Mutex) (threads : List (Option Thread)) (mutexes : List (Option Mutex)) (stored : List ℕ) → pool_get mutexes m ≡ Some x → x.protocol ≡ Inherit → x.owner ≡ OwnedBy t → IsBeforeTake m threads mutexes stored
    → h ≡ greatest (stored_of stored) (awaiting m threads) → risen (next_in_chain threads mutexes) h (length threads) t stored ≡ effective_priorities threads mutexes
inherit_rises t m h x threads mutexes stored at kind own before e =
    let size : ℕ = length threads in
    let next : ℕ → Option ℕ = next_in_chain threads (pool_changed m freed mutexes) in
    let rank : ℕ → ℕ = held_of threads mutexes in
    let held : held_of threads (pool_changed m freed mutexes) ≡ rank =
    λ i u. held_mutex m u freed threads mutexes (ap (λ y. ceiling_for u (option_map freed y)) at ∙ no_ceiling u x (ap ceiling_of kind) ∙ sym (ap (ceiling_for u) at)) i in
    let was : stored ≡ priorities size next rank = before ∙ ap (λ r. priorities size next r) held in
    ap (λ s. risen (next_in_chain threads mutexes) h size t s) was
    ∙ join-is size next (next_in_chain threads mutexes) rank (λ w. is_named m (awaited (pool_get threads w))) t h (next_bounded threads (pool_changed m freed mutexes)) (next_bounded threads mutexes) (joins t m x threads mutexes at kind own)
    (passes m h threads stored (greatest_leading size next rank) (λ w n. ap (λ s. stored_of s w) was ∙ stored_as size next rank w n) e)

-- ---- PROTECT

own_ceiling : (t c : ℕ) (owner : Owner) → owner ≡ OwnedBy t → (if is_owner t owner then c else 0) ≡ c
own_ceiling t c owner e = let own : is_owner t owner ≡ true = ap (is_owner t) e ∙ eq-eqb t t refl in rw own refl

protect_rises : (t m h : ℕ) (x : Mutex) (threads : List (Option Thread)) (mutexes : List (Option Mutex)) (stored : List ℕ) → pool_get mutexes m ≡ Some x → x.protocol ≡ Protect h → x.owner ≡ OwnedBy t → IsNumber (length threads) t → IsBeforeTake m threads mutexes stored
    → risen (next_in_chain threads mutexes) h (length threads) t stored ≡ effective_priorities threads mutexes
protect_rises t m h x threads mutexes stored at kind own n before =
    let size : ℕ = length threads in
    let rank : ℕ → ℕ = held_of threads (pool_changed m freed mutexes) in
    let heirs : inheritor_of (option_map freed (pool_get mutexes m)) ≡ inheritor_of (pool_get mutexes m) =
    ap (λ y. inheritor_of (option_map freed y)) at ∙ ap (λ p. inheritor p Free) kind ∙ sym (ap inheritor_of at ∙ ap (λ p. inheritor p x.owner) kind) in
    let next : next_in_chain threads (pool_changed m freed mutexes) ≡ next_in_chain threads mutexes = λ i w. next_mutex m w freed threads mutexes heirs i in
    let lost : (u : ℕ) → ceiling_for u (option_map freed (pool_get mutexes m)) ≡ 0 = λ u. ap (λ y. ceiling_for u (option_map freed y)) at in
    let here : (u : ℕ) → ceiling_for u (pool_get mutexes m) ≡ (if is_owner u x.owner then h else 0) = λ u. ap (ceiling_for u) at ∙ ap (λ p. if is_owner u x.owner then ceiling_of p else 0) kind in
    let gain : IsGain rank (held_of threads mutexes) t h =
    record {
      own = held_gain t h m freed threads mutexes (lost t) (here t ∙ own_ceiling t h x.owner own);
      others = λ w ne. sym (held_mutex m w freed threads mutexes (lost w ∙ sym (here w ∙ not_own w t x.owner h own ne)));
    } in
    let was : stored ≡ priorities size (next_in_chain threads mutexes) rank = before ∙ ap (λ f. priorities size f rank) next in
    ap (λ s. risen (next_in_chain threads mutexes) h size t s) was ∙ gain-is size (next_in_chain threads mutexes) rank (held_of threads mutexes) t h (next_bounded threads mutexes) n gain

-- ---- the take

risen_none : (next : ℕ → Option ℕ) (fuel u : ℕ) (stored : List ℕ) → risen next 0 fuel u stored ≡ stored
risen_none next fuel u stored = sym (risen_stop next 0 fuel u stored (omega arith))

protocol_rises : (t m h : ℕ) (x : Mutex) (protocol : Protocol) (threads : List (Option Thread)) (mutexes : List (Option Mutex)) (stored : List ℕ) → pool_get mutexes m ≡ Some x → x.protocol ≡ protocol → x.owner ≡ OwnedBy t → IsNumber (length threads) t
    → IsBeforeTake m threads mutexes stored → h ≡ gained_by threads stored m protocol → risen (next_in_chain threads mutexes) h (length threads) t stored ≡ effective_priorities threads mutexes
protocol_rises t m h x NoProtocol threads mutexes stored at kind own n before e =
    ap (λ p. risen (next_in_chain threads mutexes) p (length threads) t stored) e ∙ risen_none (next_in_chain threads mutexes) (length threads) t stored ∙ before ∙ none_stays m x threads mutexes at kind
protocol_rises t m h x Inherit threads mutexes stored at kind own n before e = inherit_rises t m h x threads mutexes stored at kind own before e
protocol_rises t m h x (Protect c) threads mutexes stored at kind own n before e =
    protect_rises t m h x threads mutexes stored at (kind ∙ ap Protect (sym e)) own n before

mutex_rises : (t m h : ℕ) (o : Option Mutex) (threads : List (Option Thread)) (mutexes : List (Option Mutex)) (stored : List ℕ) → pool_get mutexes m ≡ o → owns t o ≡ true → IsNumber (length threads) t
    → IsBeforeTake m threads mutexes stored → h ≡ gained_of threads stored m o → risen (next_in_chain threads mutexes) h (length threads) t stored ≡ effective_priorities threads mutexes
mutex_rises t m h None threads mutexes stored at own n before e = false_true own
mutex_rises t m h (Some x) threads mutexes stored at own n before e = protocol_rises t m h x x.protocol threads mutexes stored at refl (owner-is t x.owner own) n before e

pub take_rises : (t m h : ℕ) (threads : List (Option Thread)) (mutexes : List (Option Mutex)) (stored new : List ℕ) → IsSome (pool_get threads t) → owns t (pool_get mutexes m) ≡ true → IsBeforeTake m threads mutexes stored
    → h ≡ gained_of threads stored m (pool_get mutexes m) → new ≡ risen (next_in_chain threads mutexes) h (length threads) t stored → new ≡ effective_priorities threads mutexes
take_rises t m h threads mutexes stored new used own before e r = r ∙ mutex_rises t m h (pool_get mutexes m) threads mutexes stored refl own (used_number t threads used) before e

pub take_stays : (t m h : ℕ) (threads : List (Option Thread)) (mutexes : List (Option Mutex)) (stored : List ℕ) → IsSome (pool_get threads t) → owns t (pool_get mutexes m) ≡ true → IsBeforeTake m threads mutexes stored
    → h ≡ gained_of threads stored m (pool_get mutexes m) → h ≡ 0 → stored ≡ effective_priorities threads mutexes
take_stays t m h threads mutexes stored used own before e z =
    sym (risen_none (next_in_chain threads mutexes) (length threads) t stored) ∙ mutex_rises t m 0 (pool_get mutexes m) threads mutexes stored refl own (used_number t threads used) before (sym z ∙ e)

pub take_visited : (m u h visited : ℕ) (threads : List (Option Thread)) (mutexes : List (Option Mutex)) (stored new : List ℕ) → IsBeforeTake m threads mutexes stored
    → new ≡ risen (next_in_chain threads mutexes) h (length threads) u stored → visited ≡ reads (next_in_chain threads mutexes) h (length threads) u stored → IsVisited visited stored new
take_visited m u h visited threads mutexes stored new before e r =
    rise_visited threads mutexes u h visited stored new (ap length before ∙ length-priorities (length threads) (next_in_chain threads (pool_changed m freed mutexes)) (held_of threads (pool_changed m freed mutexes))) e r

-- ---- a higher assigned priority

abbrev given : ℕ → ℕ → List (Option Thread) → List (Option Thread)
given t priority threads = pool_changed t (with_priority priority) threads

given_awaits : (priority : ℕ) (x : Option Thread) → awaited (option_map (with_priority priority) x) ≡ awaited x
given_awaits priority None = refl
given_awaits priority (Some thread) = refl

given_level : (priority : ℕ) (x : Option Thread) → IsSome x → level_of (option_map (with_priority priority) x) ≡ priority
given_level priority None used = let no : ⊥ = cc in absurd no
given_level priority (Some thread) used = refl

next_given : (t priority : ℕ) (threads : List (Option Thread)) (mutexes : List (Option Mutex)) → next_in_chain (given t priority threads) mutexes ≡ next_in_chain threads mutexes
next_given t priority threads mutexes =
    let waits : (u : ℕ) → awaited (pool_get (given t priority threads) u) ≡ awaited (pool_get threads u) = changed_same awaited t (with_priority priority) threads (given_awaits priority (pool_get threads t)) in
    λ i u. option_and_then (λ m. inheritor_of (pool_get mutexes m)) (waits u i)

gain_own : (t before : ℕ) (threads : List (Option Thread)) (mutexes : List (Option Mutex)) → IsSome (pool_get threads t) → before ≤ assigned_of threads t
    → held_of threads mutexes t ≡ max (held_of (given t before threads) mutexes t) (assigned_of threads t)
gain_own t before threads mutexes used le =
    let was : assigned_of (given t before threads) t ≡ before = ap level_of (changed_own t (with_priority before) threads) ∙ given_level before (pool_get threads t) used in
    let most : assigned_of threads t ≡ max (assigned_of (given t before threads) t) (assigned_of threads t) = rw was (omega (arith, le)) in
    ap (λ a. ceilings t a mutexes) most ∙ ceilings_max t (assigned_of (given t before threads) t) (assigned_of threads t) mutexes

assigned_gain : (t before : ℕ) (threads : List (Option Thread)) (mutexes : List (Option Mutex)) → IsSome (pool_get threads t) → before ≤ assigned_of threads t → IsGain (held_of (given t before threads) mutexes) (held_of threads mutexes) t (assigned_of threads t)
assigned_gain t before threads mutexes used le = record {
  own = gain_own t before threads mutexes used le;
  others = λ w ne. ap (λ a. ceilings w a mutexes) (ap level_of (sym (changed_other t w (with_priority before) threads ne)));
}

given-is : (t before : ℕ) (threads : List (Option Thread)) (mutexes : List (Option Mutex)) → effective_priorities (given t before threads) mutexes ≡ priorities (length threads) (next_in_chain threads mutexes) (held_of (given t before threads) mutexes)
given-is t before threads mutexes =
    let long : length (given t before threads) ≡ length threads = length-changed t (with_priority before) threads in
    let next : next_in_chain (given t before threads) mutexes ≡ next_in_chain threads mutexes = next_given t before threads mutexes in
    λ i. priorities (long i) (next i) (held_of (given t before threads) mutexes)

free_given : (t before : ℕ) (threads : List (Option Thread)) → pool_get threads t ≡ None → given t before threads ≡ threads
free_given t before threads e = pool_changed-free t (with_priority before) threads e

assignment_cases : (t before : ℕ) (threads : List (Option Thread)) (mutexes : List (Option Mutex)) (stored : List ℕ) → before ≤ assigned_of threads t → stored ≡ effective_priorities (given t before threads) mutexes → (o : Option Thread) → pool_get threads t ≡ o
    → risen (next_in_chain threads mutexes) (assigned_of threads t) (length threads) t stored ≡ effective_priorities threads mutexes
assignment_cases t before threads mutexes stored le e None at =
    let level : assigned_of threads t ≡ 0 = ap level_of at in
    ap (λ h. risen (next_in_chain threads mutexes) h (length threads) t stored) level ∙ risen_none (next_in_chain threads mutexes) (length threads) t stored ∙ e
    ∙ ap (λ l. effective_priorities l mutexes) (free_given t before threads at)
assignment_cases t before threads mutexes stored le e (Some thread) at =
    let used : IsSome (pool_get threads t) = rw at refl in
    ap (λ s. risen (next_in_chain threads mutexes) (assigned_of threads t) (length threads) t s) (e ∙ given-is t before threads mutexes)
    ∙ gain-is (length threads) (next_in_chain threads mutexes) (held_of (given t before threads) mutexes) (held_of threads mutexes) t (assigned_of threads t) (next_bounded threads mutexes) (used_number t threads used) (assigned_gain t before threads mutexes used le)

pub assignment_rises : (t h : ℕ) (threads : List (Option Thread)) (mutexes : List (Option Mutex)) (stored new : List ℕ) → IsBeforeAssignment t threads mutexes stored → h ≡ assigned_of threads t
    → new ≡ risen (next_in_chain threads mutexes) h (length threads) t stored → new ≡ effective_priorities threads mutexes
assignment_rises t h threads mutexes stored new (before, le, e) a r =
    r ∙ ap (λ p. risen (next_in_chain threads mutexes) p (length threads) t stored) a ∙ assignment_cases t before threads mutexes stored le e (pool_get threads t) refl

pub assignment_visited : (t h visited : ℕ) (threads : List (Option Thread)) (mutexes : List (Option Mutex)) (stored new : List ℕ) → IsBeforeAssignment t threads mutexes stored
    → new ≡ risen (next_in_chain threads mutexes) h (length threads) t stored → visited ≡ reads (next_in_chain threads mutexes) h (length threads) t stored → IsVisited visited stored new
assignment_visited t h visited threads mutexes stored new (before, le, e) r c =
    rise_visited threads mutexes t h visited stored new (ap length (e ∙ given-is t before threads mutexes) ∙ length-priorities (length threads) (next_in_chain threads mutexes) (held_of (given t before threads) mutexes)) r c

-- ---- the threads that wait for a mutex

abbrev pub greatest_of : ℕ → List (Option Thread) → List ℕ → ℕ → ℕ
greatest_of m threads stored n = greatest (stored_of stored) (filter (λ u. is_named m (awaited (pool_get threads u))) (numbers_to n))

max_if : (b : Bool) (most x : ℕ) → max most (if b then x else 0) ≡ (if b then max most x else most)
max_if true most x = refl
max_if false most x = omega arith

greatest_cases : (rank : ℕ → ℕ) (most k : ℕ) (b : Bool) → fold (λ most k. max most (rank k)) most (if b then k ∷ [] else []) ≡ (if b then max most (rank k) else most)
greatest_cases rank most k true = refl
greatest_cases rank most k false = refl

greatest_more : (rank : ℕ → ℕ) (p : ℕ → Bool) (ks : List ℕ) (k : ℕ) → greatest rank (filter p (ks ++ k ∷ [])) ≡ (if p k then max (greatest rank (filter p ks)) (rank k) else greatest rank (filter p ks))
greatest_more rank p ks k =
    ap (greatest rank) (filter-append p ks (k ∷ [])) ∙ fold-append (λ most k. max most (rank k)) 0 (filter p ks) (filter p (k ∷ []))
    ∙ greatest_cases rank (greatest rank (filter p ks)) k (p k)

one_more : (m k : ℕ) (threads : List (Option Thread)) (stored : List ℕ)
    → greatest_of m threads stored (suc k) ≡ (if is_named m (awaited (pool_get threads (suc k))) then max (greatest_of m threads stored k) (stored_of stored (suc k)) else greatest_of m threads stored k)
one_more m k threads stored = greatest_more (stored_of stored) (λ u. is_named m (awaited (pool_get threads u))) (numbers_to k) (suc k)

pub awaiting_more : (m k t most x : ℕ) (threads : List (Option Thread)) (stored : List ℕ) → t ≡ k + 1 → most ≡ greatest_of m threads stored k → x ≡ (if is_named m (awaited (pool_get threads t)) then stored_of stored t else 0)
    → max most x ≡ greatest_of m threads stored (k + 1)
awaiting_more m k t most x threads stored e so_far here =
    let number : t ≡ suc k = omega (arith, e) in
    let last : suc k ≡ k + 1 = omega arith in
    ap (λ n. max n x) so_far ∙ ap (max (greatest_of m threads stored k)) (here ∙ ap (λ u. if is_named m (awaited (pool_get threads u)) then stored_of stored u else 0) number)
    ∙ max_if (is_named m (awaited (pool_get threads (suc k)))) (greatest_of m threads stored k) (stored_of stored (suc k))
    ∙ sym (one_more m k threads stored) ∙ ap (greatest_of m threads stored) last
