-- The end of an owner: its robust mutexes go to their heirs, the others are nobody's, and it owns none (pthread_mutexattr_setrobust; pthread_mutex_lock, EOWNERDEAD).
use Rattle.std.proofs.Common.{◌≡◌, ℕ, zero, suc, ◌≤◌, Bool, true, false, [], ◌∷◌, length, fold, refl, sym, ◌∙◌, ap, subst, arith, inl, inr}
use Rattle.std.specs.Prelude.{◌≢◌, Option, Some, None, option_map, if◌then◌else◌}
use Rattle.std.proofs.lemmas.Bool.{cases_eq, cases_lt, ne_eqb}
use Rattle.std.proofs.lemmas.List.Sums.{fold-append}
use Rattle.ptk_words.specs.Pools.{numbers_to}
use Rattle.ptk_words.specs.declared.mutexes.Soundness.TheVariants.{Inconsistent}
use Rattle.ptk_words.specs.declared.mutexes.Owner.TheVariants.{Free, Abandoned, OwnedBy}
use Rattle.ptk_words.proofs.Pools.{get_beyond, changed_own, changed_other}
use Rattle.ptk_words_model.specs.State.{Mutex, Locks}
use Rattle.ptk_words_model.specs.Priority.{awaited, thread_at, is_owner}
use Rattle.ptk_words_model.specs.Mutex.{mutex_at, owns, with_soundness, soundness_of, handed, heir, free_move, after_take, after_hand_over_to, after_bequest, after_abandonment, after_mutex_end, after_owner_end}
use Rattle.ptk_words_sync_invariant.proofs.Exclusion.{left_by}
use Rattle.ptk_words_sync_invariant.proofs.Sizes.{length-owner_end_mutexes}
use Rattle.ptk_words_sync_invariant.proofs.Held.{Rest, AreHeld}
use Rattle.ptk_words_sync_invariant.proofs.Handovers.{held_soundness, held_abandonment, held_hand_over_to, heir_waits}

-- ---- what the end of t makes of mutex m

-- all is whole, t is as before, does not own m, and the other mutexes are as before (own)
record IsDisowned (interval t m : ℕ) (running : Option ℕ) (rest : Rest) (before after : Locks) : Type 0 where
  pub locks : AreHeld interval running rest after
  pub thread : thread_at after t ≡ thread_at before t
  pub own : owns t (mutex_at after m) ≡ false
  pub others : (n : ℕ) → n ≢ m → mutex_at after n ≡ mutex_at before n

free_owns : (t : ℕ) (mutex : Option Mutex) → owns t (option_map (λ (x : Mutex). record x { owner = Free; count = 0 }) mutex) ≡ false
free_owns t None = refl
free_owns t (Some x) = refl

abandoned_owns : (t : ℕ) (mutex : Option Mutex) → owns t (option_map (λ (x : Mutex). record x { owner = Abandoned }) mutex) ≡ false
abandoned_owns t None = refl
abandoned_owns t (Some x) = refl

given_owns : (t u : ℕ) (mutex : Option Mutex) → u ≢ t → owns t (option_map (left_by u) (option_map (λ (x : Mutex). record x { owner = OwnedBy u; count = 1 }) mutex)) ≡ false
given_owns t u None ne = refl
given_owns t u (Some x) ne = ne_eqb u t ne

disowned_hand_over : (interval t m : ℕ) (running : Option ℕ) (rest : Rest) (next : Option ℕ) (locks : Locks) → heir m locks ≡ next → awaited (thread_at locks t) ≡ None → AreHeld interval running rest locks
    → IsDisowned interval t m running rest locks (after_hand_over_to next m locks)
disowned_hand_over interval t m running rest None locks e idle are = record {
  locks = held_hand_over_to interval m running rest None locks e are;
  thread = refl;
  own = ap (owns t) (changed_own m _ locks.mutexes) ∙ free_owns t (mutex_at locks m);
  others = λ n ne. changed_other m n _ locks.mutexes ne;
}
disowned_hand_over interval t m running rest (Some u) locks e idle are =
    let waits : awaited (thread_at locks u) ≡ Some m = heir_waits m u locks (are.exclusion.waiters_wait m) e in
    let other : t ≢ u = λ same. let here : awaited (thread_at locks t) ≡ awaited (thread_at locks u) = ap (λ v. awaited (thread_at locks v)) same in let no : ⊥ = cc in no in
    let taken : Locks = after_take u m locks in
    record {
      locks = held_hand_over_to interval m running rest (Some u) locks e are;
      thread = changed_other u t (handed (free_move (soundness_of (mutex_at locks m)))) locks.threads other;
      own = ap (owns t) (changed_own m (left_by u) taken.mutexes ∙ ap (option_map (left_by u)) (changed_own m _ locks.mutexes)) ∙ given_owns t u (mutex_at locks m) (λ same. other (sym same));
      others = λ n ne. changed_other m n (left_by u) taken.mutexes ne ∙ changed_other m n _ locks.mutexes ne;
    }

disowned_bequest : (interval t m : ℕ) (running : Option ℕ) (rest : Rest) (locks : Locks) → awaited (thread_at locks t) ≡ None → AreHeld interval running rest locks → IsDisowned interval t m running rest locks (after_bequest m locks)
disowned_bequest interval t m running rest locks idle are =
    let marked : Locks = with_soundness Inconsistent m locks in
    let given : IsDisowned interval t m running rest marked (after_bequest m locks) = disowned_hand_over interval t m running rest (heir m marked) marked refl idle (held_soundness interval m running rest Inconsistent locks are) in
    record {
      locks = given.locks;
      thread = given.thread;
      own = given.own;
      others = λ n ne. given.others n ne ∙ changed_other m n _ locks.mutexes ne;
    }

disowned_abandonment : (interval t m : ℕ) (running : Option ℕ) (rest : Rest) (locks : Locks) → AreHeld interval running rest locks → IsDisowned interval t m running rest locks (after_abandonment m locks)
disowned_abandonment interval t m running rest locks are = record {
  locks = held_abandonment interval m running rest locks are;
  thread = refl;
  own = ap (owns t) (changed_own m _ locks.mutexes) ∙ abandoned_owns t (mutex_at locks m);
  others = λ n ne. changed_other m n _ locks.mutexes ne;
}

disowned_same : (interval t m : ℕ) (running : Option ℕ) (rest : Rest) (locks : Locks) → owns t (mutex_at locks m) ≡ false → AreHeld interval running rest locks → IsDisowned interval t m running rest locks locks
disowned_same interval t m running rest locks none are = record { locks = are; thread = refl; own = none; others = λ n ne. refl }

disowned_by : (interval t m : ℕ) (running : Option ℕ) (rest : Rest) (locks : Locks) (owned robust : Bool) → owns t (mutex_at locks m) ≡ owned → awaited (thread_at locks t) ≡ None → AreHeld interval running rest locks
    → IsDisowned interval t m running rest locks (if owned then (if robust then after_bequest m locks else after_abandonment m locks) else locks)
disowned_by interval t m running rest locks false robust e idle are = disowned_same interval t m running rest locks e are
disowned_by interval t m running rest locks true true e idle are = disowned_bequest interval t m running rest locks idle are
disowned_by interval t m running rest locks true false e idle are = disowned_abandonment interval t m running rest locks are

disowned_end : (interval t m : ℕ) (running : Option ℕ) (rest : Rest) (mutex : Option Mutex) (locks : Locks) → mutex_at locks m ≡ mutex → awaited (thread_at locks t) ≡ None → AreHeld interval running rest locks
    → IsDisowned interval t m running rest locks (after_mutex_end t mutex m locks)
disowned_end interval t m running rest None locks e idle are = disowned_same interval t m running rest locks (ap (owns t) e) are
disowned_end interval t m running rest (Some x) locks e idle are = disowned_by interval t m running rest locks (is_owner t x.owner) x.is_robust (ap (owns t) e) idle are

-- ---- of all mutexes, in ascending number

-- what the end of t makes of one more mutex
abbrev end_of : ℕ → Locks → ℕ → Locks
end_of t locks m = after_mutex_end t (mutex_at locks m) m locks

-- all is whole, t is as before, and owns no mutex of a number up to k (own)
record IsDisownedTo (interval t k : ℕ) (running : Option ℕ) (rest : Rest) (before after : Locks) : Type 0 where
  pub locks : AreHeld interval running rest after
  pub thread : thread_at after t ≡ thread_at before t
  pub owned : (n : ℕ) → n ≤ k → owns t (mutex_at after n) ≡ false

number_zero : (t n : ℕ) (locks : Locks) → n ≤ 0 → owns t (mutex_at locks n) ≡ false
number_zero t zero locks le = refl
number_zero t (suc n) locks le = absurd (omega (arith, le))

disowned_more : (interval t k : ℕ) (running : Option ℕ) (rest : Rest) (before middle : Locks) → awaited (thread_at before t) ≡ None → IsDisownedTo interval t k running rest before middle
    → IsDisownedTo interval t (suc k) running rest before (end_of t middle (suc k))
disowned_more interval t k running rest before middle idle to =
    let idle_still : awaited (thread_at middle t) ≡ None = ap awaited to.thread ∙ idle in
    let step : IsDisowned interval t (suc k) running rest middle (end_of t middle (suc k)) = disowned_end interval t (suc k) running rest (mutex_at middle (suc k)) middle refl idle_still to.locks in
    record {
      locks = step.locks;
      thread = step.thread ∙ to.thread;
      owned = λ n le. elim (cases_eq n (suc k)) [
        | inl same ↦ ap (λ i. owns t (mutex_at (end_of t middle (suc k)) i)) same ∙ step.own
        | inr ne ↦ (let below : n ≤ k = omega (arith, le, ne) in ap (owns t) (step.others n ne) ∙ to.owned n below)
      ];
    }

disowned_to : (interval t k : ℕ) (running : Option ℕ) (rest : Rest) (locks : Locks) → awaited (thread_at locks t) ≡ None → AreHeld interval running rest locks
    → IsDisownedTo interval t k running rest locks (fold (end_of t) locks (numbers_to k))
disowned_to interval t zero running rest locks idle are = record { locks = are; thread = refl; owned = λ n le. number_zero t n locks le }
disowned_to interval t (suc k) running rest locks idle are =
    let middle : Locks = fold (end_of t) locks (numbers_to k) in
    subst (λ (l : Locks). IsDisownedTo interval t (suc k) running rest locks l) (sym (fold-append (end_of t) locks (numbers_to k) (suc k ∷ [])))
    (disowned_more interval t k running rest locks middle idle (disowned_to interval t k running rest locks idle are))

disowned_all : (interval t : ℕ) (running : Option ℕ) (rest : Rest) (locks : Locks) → awaited (thread_at locks t) ≡ None → AreHeld interval running rest locks
    → IsDisownedTo interval t (length locks.mutexes) running rest locks (after_owner_end t locks)
disowned_all interval t running rest locks idle are = disowned_to interval t (length locks.mutexes) running rest locks idle are

-- ---- the end of an owner that waits for no mutex

-- what it leaves is whole
pub held_owner_end : (interval t : ℕ) (running : Option ℕ) (rest : Rest) (locks : Locks) → awaited (thread_at locks t) ≡ None → AreHeld interval running rest locks → AreHeld interval running rest (after_owner_end t locks)
held_owner_end interval t running rest locks idle are = (disowned_all interval t running rest locks idle are).locks

-- the thread is as before
pub held_end_same : (interval t : ℕ) (running : Option ℕ) (rest : Rest) (locks : Locks) → awaited (thread_at locks t) ≡ None → AreHeld interval running rest locks → thread_at (after_owner_end t locks) t ≡ thread_at locks t
held_end_same interval t running rest locks idle are = (disowned_all interval t running rest locks idle are).thread

-- and owns no mutex
pub held_owns_none : (interval t : ℕ) (running : Option ℕ) (rest : Rest) (locks : Locks) → awaited (thread_at locks t) ≡ None → AreHeld interval running rest locks → (m : ℕ) → owns t (mutex_at (after_owner_end t locks) m) ≡ false
held_owns_none interval t running rest locks idle are m = elim (cases_lt (length locks.mutexes) m) [
  | inl beyond ↦ ap (owns t) (get_beyond m (after_owner_end t locks).mutexes (rw (length-owner_end_mutexes t locks) beyond))
  | inr within ↦ (disowned_all interval t running rest locks idle are).owned m within
]
