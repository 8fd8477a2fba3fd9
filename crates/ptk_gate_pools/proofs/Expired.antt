-- A deadline that comes: what it does is the model's.
use Rattle.std.proofs.Common.{◌≡◌, ℕ, refl, sym, ◌∙◌, ap}
use Rattle.std.specs.Prelude.{true, Option, Some, None, is_some, option_map}
use Rattle.ptk_words.specs.declared.threads.Wait.{Wait}
use Rattle.ptk_words.specs.declared.threads.Wait.TheVariants.{InputWait, SleepWait, JoinWait, MutexWait, ConditionWait, RelockWait}
use Rattle.ptk_words_model.specs.State.{Syncs, Part, with_syncs}
use Rattle.ptk_words_model.specs.Priority.{thread_at}
use Rattle.ptk_words_model.specs.Mutex.{wait_of}
use Rattle.ptk_words_model.specs.Withdrawal.{Expiry, after_timeout, deadlines_of}
use Rattle.ptk_words_sync_invariant.specs.Expiries.{next_expiry}
use Rattle.ptk_threads.specs.Table.{thread_in}
use Rattle.ptk_cond.specs.Tables.{syncs_by}
use Rattle.ptk_cond.specs.Timeouts.{after_sync_timeout}
use Rattle.ptk_gate_pools.specs.declared.pools.Pools.TheInside.{Inside}
use Rattle.ptk_gate_pools.specs.Kept.{part_at}
use Rattle.ptk_gate_pools.specs.Pooled.{kept_of}
use Rattle.ptk_gate_pools.specs.Expired.{after_one_expiry}

-- ---- the model's move

-- what the move reads and changes
pub timeout_syncs : (t : ℕ) (wait : Option Wait) (s : Part) → after_timeout t wait s ≡ with_syncs (after_sync_timeout t wait) s
timeout_syncs t None s = refl
timeout_syncs t (Some InputWait) s = refl
timeout_syncs t (Some (SleepWait deadline)) s = refl
timeout_syncs t (Some (JoinWait u)) s = refl
timeout_syncs t (Some (MutexWait m deadline)) s = refl
timeout_syncs t (Some (ConditionWait c m deadline)) s = refl
timeout_syncs t (Some (RelockWait m reply)) s = refl

-- ---- the tables after an expiry

-- what a partition's calls read and change (own)
abbrev syncs_in : ℕ → Inside → Syncs
syncs_in p a = syncs_by p a.roster.table a.roster.lines a.roster.mutexes a.roster.conditions

-- what is left of it once the deadline of a thread's wait came (own)
abbrev pub expired_syncs : ℕ → ℕ → Inside → Syncs
expired_syncs p t a = after_sync_timeout t (wait_of (thread_in a.roster.table p t)) (syncs_in p a)

one_expired : (p t : ℕ) (a : Inside) (o : Option Expiry) → Some t ≡ option_map (λ (x : Expiry). x.thread) o → with_syncs (λ _. expired_syncs p t a) (part_at p (kept_of a)) ≡ after_one_expiry o (part_at p (kept_of a))
one_expired p t a None e = absurd (let no : ⊥ = cc in no)
one_expired p t a (Some x) e =
    let same : t ≡ x.thread = cc in
    let s : Part = part_at p (kept_of a) in
    ap (λ (u : ℕ). with_syncs (λ _. expired_syncs p u a) s) same ∙ sym (timeout_syncs x.thread (wait_of (thread_at s.locks x.thread)) s)

-- it is the model's move
pub expired_move : (p t tick : ℕ) (a : Inside) → Some t ≡ option_map (λ (x : Expiry). x.thread) (next_expiry tick (deadlines_of (part_at p (kept_of a)).locks))
    → with_syncs (λ _. expired_syncs p t a) (part_at p (kept_of a)) ≡ after_one_expiry (next_expiry tick (deadlines_of (part_at p (kept_of a)).locks)) (part_at p (kept_of a))
expired_move p t tick a told = one_expired p t a (next_expiry tick (deadlines_of (part_at p (kept_of a)).locks)) told

-- ---- whether one is due

pub some_mapped : {A B : Type 0} (f : A → B) (y : B) (o : Option A) → Some y ≡ option_map f o → true ≡ is_some o
some_mapped f y None e = absurd (let no : ⊥ = cc in no)
some_mapped f y (Some x) e = refl

pub none_mapped : {A B : Type 0} (f : A → B) (o : Option A) → None ≡ option_map f o → o ≡ None
none_mapped f None e = refl
none_mapped f (Some x) e = absurd (let no : ⊥ = cc in no)
