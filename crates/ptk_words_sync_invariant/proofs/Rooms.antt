-- The room of a re-lock: an owner's count is below the limit, and which changes of a mutex leave it so.
use Rattle.std.proofs.Common.{◌≡◌, ℕ, ◌<◌, ◌≤◌, Bool, true, false, refl, sym, ◌∙◌, ap, arith}
use Rattle.std.specs.Prelude.{◌-◌, Some, ◌==◌, if◌then◌else◌}
use Rattle.std.proofs.lemmas.Bool.{false≢true}
use Rattle.ptk_words.specs.declared.TheConstants.{COUNT_LIMIT}
use Rattle.ptk_words.specs.declared.mutexes.Soundness.{Soundness}
use Rattle.ptk_words.specs.declared.mutexes.Soundness.TheVariants.{Consistent, Inconsistent, Unrecoverable}
use Rattle.ptk_words.specs.declared.mutexes.Owner.{Owner}
use Rattle.ptk_words.specs.declared.mutexes.Owner.TheVariants.{Free, Abandoned, OwnedBy}
use Rattle.ptk_words_model.specs.declared.LockMove.TheVariants.{Counts, Waits}
use Rattle.ptk_words_model.specs.State.{Mutex}
use Rattle.ptk_words_model.specs.Priority.{is_owner}
use Rattle.ptk_words_model.specs.Mutex.{free_move, OwnerMoves, owner_move, relock_move}
use Rattle.ptk_words_sync_invariant.specs.Conditions.{HasRoom}
use Rattle.ptk_words_sync_invariant.proofs.Exclusion.{joined_by, left_by}
use Rattle.ptk_words_sync_invariant.proofs.Held.{IsRoomy}

-- ---- who counts up

-- the moves of a re-lock, by the mutex's soundness (own)
abbrev moves_of : Soundness → OwnerMoves
moves_of soundness = record { of_free = free_move soundness; of_own = Counts; of_another = Waits }

pub free_counts : (soundness : Soundness) → free_move soundness ≡ Counts → ⊥
free_counts Consistent e = cc
free_counts Inconsistent e = cc
free_counts Unrecoverable e = cc

own_counts : (b : Bool) → (if b then Counts else Waits) ≡ Counts → b ≡ true
own_counts true e = refl
own_counts false e = absurd (let no : ⊥ = cc in no)

owner_counts : (owner : Owner) (k : ℕ) (soundness : Soundness) → owner_move owner k (moves_of soundness) ≡ Counts → is_owner k owner ≡ true
owner_counts Free k soundness e = absurd (free_counts soundness e)
owner_counts Abandoned k soundness e = absurd (let no : ⊥ = cc in no)
owner_counts (OwnedBy u) k soundness e = own_counts (u == k) e

-- a re-lock counts up for the owner alone
pub counts_owner : (k : ℕ) (x : Mutex) → relock_move k (Some x) ≡ Counts → is_owner k x.owner ≡ true
counts_owner k x e = owner_counts x.owner k x.soundness e

counts_of : (owner : Owner) (k : ℕ) (soundness : Soundness) → is_owner k owner ≡ true → owner_move owner k (moves_of soundness) ≡ Counts
counts_of Free k soundness e = absurd (false≢true e)
counts_of Abandoned k soundness e = absurd (false≢true e)
counts_of (OwnedBy u) k soundness e = ap (λ b. if b then Counts else Waits) e

-- so an owner's count is below the limit where there is room
pub room_owner : (k : ℕ) (x : Mutex) → HasRoom k (Some x) → is_owner k x.owner ≡ true → x.count < COUNT_LIMIT
room_owner k x room e = room (counts_of x.owner k x.soundness e)

-- ---- changes that leave room

-- the owner stays, and the count does not go up (own)
pub record IsLighter (before after : Mutex) : Type 0 where
  pub owner : after.owner ≡ before.owner
  pub count : after.count ≤ before.count

pub roomy_lighter : (f : Mutex → Mutex) → ((x : Mutex) → IsLighter x (f x)) → IsRoomy f
roomy_lighter f lighter x k room counts =
    let light : IsLighter x (f x) = lighter x in
    let lt : x.count < COUNT_LIMIT = room_owner k x room (ap (is_owner k) (sym light.owner) ∙ counts_owner k (f x) counts) in
    let le : (f x).count ≤ x.count = light.count in
    omega (arith, lt, le)

pub roomy_soundness : (soundness : Soundness) → IsRoomy (λ (x : Mutex). record x { soundness = soundness })
roomy_soundness soundness = roomy_lighter (λ (x : Mutex). record x { soundness = soundness }) (λ x. record { owner = refl; count = omega arith })

pub roomy_down : IsRoomy (λ (x : Mutex). record x { count = x.count - 1 })
roomy_down = roomy_lighter (λ (x : Mutex). record x { count = x.count - 1 }) (λ x. record { owner = refl; count = omega arith })

pub roomy_joined : (t : ℕ) → IsRoomy (joined_by t)
roomy_joined t = roomy_lighter (joined_by t) (λ x. record { owner = refl; count = omega arith })

pub roomy_left : (t : ℕ) → IsRoomy (left_by t)
roomy_left t = roomy_lighter (left_by t) (λ x. record { owner = refl; count = omega arith })

pub roomy_take : (t : ℕ) → IsRoomy (λ (x : Mutex). record x { owner = OwnedBy t; count = 1 })
roomy_take t x k room counts = omega arith

pub roomy_free : IsRoomy (λ (x : Mutex). record x { owner = Free; count = 0 })
roomy_free x k room counts = omega arith

pub roomy_abandoned : IsRoomy (λ (x : Mutex). record x { owner = Abandoned })
roomy_abandoned x k room counts = absurd (let no : ⊥ = cc in no)
