-- The mutex that a thread waits for stays where its threads do.
use Rattle.std.proofs.Common.{◌≡◌, ◌∙◌, ℕ, Bool, true, ◌&&◌, nat_lt, List, [], ◌∷◌, length, ap, subst, arith}
use Rattle.std.specs.Prelude.{Some}
use Rattle.std.proofs.lemmas.Bool.{lt-ltb, true_from_ne_false}
use Rattle.ptk_words.specs.Pools.{is_in}
use Rattle.ptk_words.specs.declared.sections.Limits.{Limits}
use Rattle.ptk_words_model.specs.State.{Part}
use Rattle.ptk_words_model.specs.Mutex.{mutex_at, waiters_of}
use Rattle.ptk_words_model.specs.MutexCalls.{is_locked}
use Rattle.ptk_words_model.specs.Priority.{awaited, thread_at}
use Rattle.ptk_words_invariant.specs.Well.{IsWell}
use Rattle.ptk_gate.specs.Steady.{is_contended}
pub use Rattle.ptk_gate.proofs.Steady.{steady_on, steady_same}

-- ---- the mutex that a thread waits for

some_waits : (t : ℕ) (ts : List ℕ) → is_in t ts ≡ true → nat_lt 0 (length ts) ≡ true
some_waits t [] e = absurd (let no : ⊥ = cc in no)
some_waits t (u ∷ ts) e = lt-ltb 0 (length (u ∷ ts)) (omega arith)

none_waits : (t : ℕ) (ts : List ℕ) → ts ≡ [] → is_in t ts ≡ true → ⊥
none_waits t ts e is = let no : is_in t [] ≡ true = subst (λ (us : List ℕ). is_in t us ≡ true) e is in cc

-- it has an owner, and that thread among its waiters
pub awaited_contended : (limits : Limits) (s : Part) (t m : ℕ) → IsWell limits s → awaited (thread_at s.locks t) ≡ Some m → is_contended (mutex_at s.locks m) ≡ true
awaited_contended limits s t m well waits =
    let listed : is_in t (waiters_of (mutex_at s.locks m)) ≡ true = well.exclusion.waits_listed m t waits in
    let locked : is_locked (mutex_at s.locks m) ≡ true =
    true_from_ne_false (is_locked (mutex_at s.locks m)) (λ free. none_waits t (waiters_of (mutex_at s.locks m)) (well.exclusion.free_unwaited m free) listed) in
    ap (λ (b : Bool). b && nat_lt 0 (length (waiters_of (mutex_at s.locks m)))) locked ∙ some_waits t (waiters_of (mutex_at s.locks m)) listed
