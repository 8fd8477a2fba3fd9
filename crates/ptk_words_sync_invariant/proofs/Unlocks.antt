-- An unlock: a count less, a hand over, or the loss of a mutex that was not made consistent, whose waiters are refused one after the other.
use Rattle.std.proofs.Common.{◌≡◌, ℕ, zero, suc, ◌<◌, ◌≤◌, Bool, true, false, [], length, refl, sym, ◌∙◌, ap, subst, arith, inl, inr}
use Rattle.std.specs.Prelude.{◌-◌, ◌≢◌, Option, Some, None, option_map, nat_lt, if◌then◌else◌}
use Rattle.std.specs.Fn.{iterate}
use Rattle.std.proofs.lemmas.Bool.{cases_eq}
use Rattle.std.proofs.lemmas.List.{nil_from_length}
use Rattle.ptk_words.specs.Pools.{without, is_in}
use Rattle.ptk_words.specs.declared.TheConstants.{COUNT_LIMIT}
use Rattle.ptk_words.specs.declared.faults.Errno.TheVariants.{ENOTRECOVERABLE}
use Rattle.ptk_words.specs.declared.mutexes.Soundness.{Soundness}
use Rattle.ptk_words.specs.declared.mutexes.Soundness.TheVariants.{Consistent, Inconsistent, Unrecoverable}
use Rattle.ptk_words.specs.declared.mutexes.Owner.TheVariants.{Free}
use Rattle.ptk_words.proofs.Pools.{changed_own, changed_other}
use Rattle.ptk_words.proofs.Lists.{first_in, without_shorter}
use Rattle.ptk_words_model.specs.declared.LockMove.TheVariants.{Refuses}
use Rattle.ptk_words_model.specs.State.{Mutex, Locks}
use Rattle.ptk_words_model.specs.Priority.{effective_priority}
use Rattle.ptk_words_model.specs.Mutex.{mutex_at, with_mutex, with_soundness, soundness_of, waiters_of, count_of, handed, heir, after_free, after_refusal_to, after_refusal, after_loss, after_last_unlock, after_unlock}
use Rattle.ptk_words_sync_invariant.proofs.Exclusion.{IsServed, IsMild, exclusive_mild, left_by}
use Rattle.ptk_words_sync_invariant.proofs.Threads.{waking_handed}
use Rattle.ptk_words_sync_invariant.proofs.Held.{Rest, AreHeld, AreHeldQueued, held_queued_from, held_from, held_queued_mutex}
use Rattle.ptk_words_sync_invariant.proofs.Rooms.{roomy_free, roomy_soundness, roomy_down}
use Rattle.ptk_words_sync_invariant.proofs.Handovers.{held_mild, mild_soundness, exclusive_free, held_queued_leave, heir_waits, no_heir, held_hand_over}

-- ---- refusals

-- all is whole but that m, free, has waiters, n at most (own)
record AreRefused (interval m n : ℕ) (running : Option ℕ) (rest : Rest) (locks : Locks) : Type 0 where
  pub queued : AreHeldQueued interval running rest locks
  pub others : (k : ℕ) → k ≢ m → IsServed (mutex_at locks k)
  pub few : length (waiters_of (mutex_at locks m)) ≤ n

served_all : (interval m : ℕ) (running : Option ℕ) (rest : Rest) (locks : Locks) → AreRefused interval m 0 running rest locks → AreHeld interval running rest locks
served_all interval m running rest locks refused =
    held_from interval running rest locks refused.queued (λ k. elim (cases_eq k m) [
      | inl same ↦ (λ e. ap (λ i. waiters_of (mutex_at locks i)) same ∙ nil_from_length (waiters_of (mutex_at locks m)) (omega (arith, refused.few)))
      | inr ne ↦ refused.others k ne
    ])

pub left_waiters : (t : ℕ) (mutex : Option Mutex) → waiters_of (option_map (left_by t) mutex) ≡ without t (waiters_of mutex)
left_waiters t None = refl
left_waiters t (Some x) = refl

refused_none : (interval m n : ℕ) (running : Option ℕ) (rest : Rest) (locks : Locks) → waiters_of (mutex_at locks m) ≡ [] → AreRefused interval m (suc n) running rest locks → AreRefused interval m n running rest locks
refused_none interval m n running rest locks none refused = record { queued = refused.queued; others = refused.others; few = rw none (omega arith) }

refused_more : (interval m n : ℕ) (running : Option ℕ) (rest : Rest) (next : Option ℕ) (locks : Locks) → heir m locks ≡ next → AreRefused interval m (suc n) running rest locks → AreRefused interval m n running rest (after_refusal_to next m locks)
refused_more interval m n running rest None locks e refused = refused_none interval m n running rest locks (no_heir m locks e) refused
refused_more interval m n running rest (Some t) locks e refused =
    let here : is_in t (waiters_of (mutex_at locks m)) ≡ true = first_in (effective_priority locks) t (waiters_of (mutex_at locks m)) e in
    let left : waiters_of (mutex_at (after_refusal_to (Some t) m locks) m) ≡ without t (waiters_of (mutex_at locks m)) = ap waiters_of (changed_own m (left_by t) locks.mutexes) ∙ left_waiters t (mutex_at locks m) in
    let shorter : length (without t (waiters_of (mutex_at locks m))) < length (waiters_of (mutex_at locks m)) = without_shorter t (waiters_of (mutex_at locks m)) here in
    let few : length (waiters_of (mutex_at locks m)) ≤ suc n = refused.few in
    record {
      queued = held_queued_leave interval t m (handed (Refuses ENOTRECOVERABLE)) running rest locks (waking_handed (Refuses ENOTRECOVERABLE)) (heir_waits m t locks (refused.queued.queues m).waiters_wait e) refused.queued;
      others = λ k ne. subst IsServed (sym (changed_other m k (left_by t) locks.mutexes ne)) (refused.others k ne);
      few = rw left (omega (arith, shorter, few));
    }

-- after so many refusals no waiter is left
refused_all : (interval m n : ℕ) (running : Option ℕ) (rest : Rest) (locks : Locks) → AreRefused interval m n running rest locks → AreHeld interval running rest (iterate (after_refusal m) n locks)
refused_all interval m zero running rest locks refused = served_all interval m running rest locks refused
refused_all interval m (suc n) running rest locks refused =
    refused_all interval m n running rest (after_refusal m locks) (refused_more interval m n running rest (heir m locks) locks refl refused)

-- ---- a mutex lost

-- the mutex is free for good, and its waiters leave without it
held_loss : (interval m : ℕ) (running : Option ℕ) (rest : Rest) (locks : Locks) → AreHeld interval running rest locks → AreHeld interval running rest (after_loss m locks)
held_loss interval m running rest locks are =
    let free : Locks = after_free m locks in
    let lost : Locks = with_soundness Unrecoverable m free in
    let whole : AreHeldQueued interval running rest locks = held_queued_from interval running rest locks are in
    let freed : AreHeldQueued interval running rest free = held_queued_mutex interval m running rest (λ (x : Mutex). record x { owner = Free; count = 0 }) locks roomy_free (exclusive_free locks.threads m (mutex_at locks m) (whole.queues m)) whole in
    let marked : AreHeldQueued interval running rest lost = held_queued_mutex interval m running rest (λ (x : Mutex). record x { soundness = Unrecoverable }) free (roomy_soundness Unrecoverable)
    (exclusive_mild locks.threads m (λ (x : Mutex). record x { soundness = Unrecoverable }) (mutex_at free m) (mild_soundness Unrecoverable (mutex_at free m) locks.threads m (freed.queues m)) (freed.queues m)) freed in
    refused_all interval m (length (waiters_of (mutex_at lost m))) running rest lost (record {
      queued = marked;
      others = λ k ne. subst IsServed (sym (changed_other m k _ free.mutexes ne ∙ changed_other m k _ locks.mutexes ne)) (are.exclusion.free_unwaited k);
      few = omega arith;
    })

-- ---- unlock

mild_down : (mutex : Option Mutex) → count_of mutex ≤ COUNT_LIMIT → (x : Mutex) → mutex ≡ Some x → IsMild x (record x { count = x.count - 1 })
mild_down mutex le x e = record { owner = refl; waiters = refl; count = (let within : x.count ≤ COUNT_LIMIT = rw e at le in omega (arith, within)) }

pub last_unlock : (interval m : ℕ) (running : Option ℕ) (rest : Rest) (soundness : Soundness) (locks : Locks) → AreHeld interval running rest locks → AreHeld interval running rest (after_last_unlock soundness m locks)
last_unlock interval m running rest Consistent locks are = held_hand_over interval m running rest locks are
last_unlock interval m running rest Inconsistent locks are = held_loss interval m running rest locks are
last_unlock interval m running rest Unrecoverable locks are = held_loss interval m running rest locks are

unlock_by : (interval m : ℕ) (running : Option ℕ) (rest : Rest) (b : Bool) (locks : Locks) → AreHeld interval running rest locks
    → AreHeld interval running rest (if b then with_mutex m (λ (x : Mutex). record x { count = x.count - 1 }) locks else after_last_unlock (soundness_of (mutex_at locks m)) m locks)
unlock_by interval m running rest true locks are =
    held_mild interval m running rest (λ (x : Mutex). record x { count = x.count - 1 }) locks (rest.mutex m _ locks.threads locks.mutexes roomy_down are.holds) (mild_down (mutex_at locks m) (are.exclusion.counts m)) are
unlock_by interval m running rest false locks are = last_unlock interval m running rest (soundness_of (mutex_at locks m)) locks are

-- a mutex is unlocked once
pub held_unlock : (interval m : ℕ) (running : Option ℕ) (rest : Rest) (locks : Locks) → AreHeld interval running rest locks → AreHeld interval running rest (after_unlock m locks)
held_unlock interval m running rest locks are = unlock_by interval m running rest (nat_lt 1 (count_of (mutex_at locks m))) locks are
