-- What lock and unlock do with a mutex that nobody else wants.
use Rattle.std.proofs.Common.{◌≡◌, ℕ, ◌-◌, ◌<◌, Bool, true, false, not, ◌&&◌, List, [], ◌∷◌, length, refl, ap, ◌∙◌, arith}
use Rattle.std.specs.Prelude.{◌==◌, Option, Some, None, is_some, nat_lt, if◌then◌else◌}
use Rattle.std.proofs.lemmas.Bool.{ne_eqb, eqb-true}
use Rattle.ptk_words.specs.Calls.{call_of}
use Rattle.ptk_words.specs.Pools.{first_of_greatest}
use Rattle.ptk_words.specs.Processor.{Processor, register, with_register}
use Rattle.ptk_words.specs.Words.{word_at}
use Rattle.ptk_words.specs.declared.TheConstants.{A0, A7}
use Rattle.ptk_words.specs.declared.calls.Call.{Call}
use Rattle.ptk_words.specs.declared.calls.Call.TheVariants.{MutexLock, MutexUnlock}
use Rattle.ptk_words.specs.declared.faults.Errno.TheVariants.{EPERM, EFAULT, EINVAL}
use Rattle.ptk_words.specs.declared.sections.Limits.{Limits}
use Rattle.ptk_words.specs.declared.mutexes.Protocol.{Protocol}
use Rattle.ptk_words.specs.declared.mutexes.Protocol.TheVariants.{NoProtocol, Inherit, Protect}
use Rattle.ptk_words.specs.declared.mutexes.Soundness.{Soundness}
use Rattle.ptk_words.specs.declared.mutexes.Soundness.TheVariants.{Consistent, Inconsistent, Unrecoverable}
use Rattle.ptk_words.specs.declared.mutexes.Owner.{Owner}
use Rattle.ptk_words.specs.declared.mutexes.Owner.TheVariants.{Free, Abandoned, OwnedBy}
use Rattle.ptk_words_model.specs.declared.Invocation.{Invocation}
use Rattle.ptk_words_model.specs.declared.LockMove.{LockMove}
use Rattle.ptk_words_model.specs.declared.LockMove.TheVariants as moves
use Rattle.ptk_words_model.specs.State.{Mutex, Locks, Part, with_locks}
use Rattle.ptk_words_model.specs.Priority.{is_owner, assigned_priority, effective_priority}
use Rattle.ptk_words_model.specs.Mutex.{mutex_at, with_mutex, is_free, is_raising, is_above_ceiling, owner_move, free_move, own_lock_move, lock_move, owns, waiters_of, count_of, soundness_of, after_take, after_free, after_hand_over_to, after_last_unlock, after_unlock}
use Rattle.ptk_words_model.specs.MutexCalls.{is_locked, mutex_lock, mutex_unlock, make_move}
use Rattle.ptk_words_model.specs.Calls.{Answer, replied, refusal, success, is_pointer}
use Rattle.ptk_words_model.specs.CallTable.{answer_to}
use Rattle.ptk_words_model.specs.Steps.{Row, readable, mutex_named}
use Rattle.ptk_words_model.specs.Decision.{with_thread_cpu, invocation}
use Rattle.ptk_words_invariant.specs.Rests.{lock_by, unlock_named}
use Rattle.ptk_roster.specs.Plain.{is_sound, is_takeable, is_releasable}
use Rattle.ptk_roster.proofs.Plain.{takeable_plain, releasable_plain}
use Rattle.ptk_rv32i.specs.Effects.{at_pc}
use Rattle.ptk_gate_moves.specs.Held.{Held, limits_here}
use Rattle.ptk_gate_steps.specs.Replies.{Takes, Releases, IsMade, IsPut, caught_up}
use Rattle.ptk_gate_steps.specs.Steady.{is_contended}

-- ---- the moves

-- a lock of such a mutex takes it
takes_by : (priority t : ℕ) (own : LockMove) (protocol : Protocol) (soundness : Soundness) (owner : Owner) → (not (is_raising protocol) && is_sound soundness && is_free owner) ≡ true
    → (if is_above_ceiling priority protocol then moves.Refuses EINVAL else owner_move owner t (record { of_free = free_move soundness; of_own = own; of_another = moves.Waits })) ≡ moves.Takes
takes_by priority t own NoProtocol Consistent Free e = refl
takes_by priority t own NoProtocol Consistent Abandoned e = absurd (cc e)
takes_by priority t own NoProtocol Consistent (OwnedBy u) e = absurd (cc e)
takes_by priority t own NoProtocol Inconsistent owner e = absurd (cc e)
takes_by priority t own NoProtocol Unrecoverable owner e = absurd (cc e)
takes_by priority t own Inherit soundness owner e = absurd (cc e)
takes_by priority t own (Protect ceiling) soundness owner e = absurd (cc e)

takes : (locks : Locks) (t : ℕ) (x : Option Mutex) → is_takeable x ≡ true → lock_move locks t x ≡ moves.Takes
takes locks t None e = absurd (cc e)
takes locks t (Some m) e = takes_by (assigned_priority locks t) t (own_lock_move m.kind m.count) m.protocol m.soundness m.owner e

-- what is known of a mutex that its owner frees
record IsLast (t : ℕ) (x : Option Mutex) : Type 0 where
  owned : owns t x ≡ true
  once : count_of x ≡ 1
  sound : soundness_of x ≡ Consistent
  alone : waiters_of x ≡ []

one_by : (n : ℕ) → (n == 1) ≡ true → n ≡ 1
one_by n e = eqb-true n 1 e

nil_by : (ts : List ℕ) → (length ts == 0) ≡ true → ts ≡ []
nil_by [] e = refl
nil_by (t ∷ ts) e = let none : length (t ∷ ts) ≡ 0 = eqb-true (length (t ∷ ts)) 0 e in absurd (omega (arith, none))

sound_by : (soundness : Soundness) → is_sound soundness ≡ true → soundness ≡ Consistent
sound_by Consistent e = refl
sound_by Inconsistent e = absurd (cc e)
sound_by Unrecoverable e = absurd (cc e)

last_by : (t : ℕ) (m : Mutex) (raises sound owned once alone : Bool) → (not raises && sound && owned && once && alone) ≡ true
    → (sound ≡ true) × (owned ≡ true) × (once ≡ true) × (alone ≡ true)
last_by t m false true true true true e = (refl, refl, refl, refl)
last_by t m true sound owned once alone e = absurd (cc e)
last_by t m false false owned once alone e = absurd (cc e)
last_by t m false true false once alone e = absurd (cc e)
last_by t m false true true false alone e = absurd (cc e)
last_by t m false true true true false e = absurd (cc e)

last : (t : ℕ) (x : Option Mutex) → is_releasable t x ≡ true → IsLast t x
last t None e = absurd (cc e)
last t (Some m) e =
    let all = last_by t m (is_raising m.protocol) (is_sound m.soundness) (is_owner t m.owner) (m.count == 1) (length m.waiters == 0) e in
    record { owned = all.1; once = one_by m.count all.2; sound = sound_by m.soundness all.0; alone = nil_by m.waiters all.3 }

-- its unlock frees it, and wakes nobody
freed : (t m : ℕ) (locks : Locks) → IsLast t (mutex_at locks m) → after_unlock m locks ≡ after_free m locks
freed t m locks is =
    ap (λ (n : ℕ). if nat_lt 1 n then with_mutex m (λ mutex. record mutex { count = mutex.count - 1 }) locks else after_last_unlock (soundness_of (mutex_at locks m)) m locks) is.once
    ∙ (ap (λ (soundness : Soundness). after_last_unlock soundness m locks) is.sound
    ∙ ap (λ (ts : List ℕ). after_hand_over_to (first_of_greatest (effective_priority locks) ts) m locks) is.alone)

-- ---- the mutexes that threads wait for

free_by : (owner : Owner) (some : Bool) → is_free owner ≡ true → (not (is_free owner) && some) ≡ false
free_by Free some e = refl
free_by Abandoned some e = absurd (cc e)
free_by (OwnedBy t) some e = absurd (cc e)

last_and : (a b c : Bool) → (a && b && c) ≡ true → c ≡ true
last_and true true true e = refl
last_and true true false e = absurd (cc e)
last_and true false c e = absurd (cc e)
last_and false b c e = absurd (cc e)

-- the mutex that a lock takes is not owned
takeable_alone : (x : Option Mutex) → is_takeable x ≡ true → is_contended x ≡ false
takeable_alone None e = absurd (cc e)
takeable_alone (Some m) e = free_by m.owner (nat_lt 0 (length m.waiters)) (last_and (not (is_raising m.protocol)) (is_sound m.soundness) (is_free m.owner) e)

alone_by : (locked : Bool) (ts : List ℕ) → ts ≡ [] → (locked && nat_lt 0 (length ts)) ≡ false
alone_by true ts e = ap (λ (us : List ℕ). nat_lt 0 (length us)) e
alone_by false ts e = refl

-- none waits for the mutex that an unlock frees
releasable_alone : (t : ℕ) (x : Option Mutex) → is_releasable t x ≡ true → is_contended x ≡ false
releasable_alone t x e = alone_by (is_locked x) (waiters_of x) (last t x e).alone

-- ---- the mutex of a word

-- the word at the pointer is the number of a mutex in use (own)
record IsNamed (pointer m : ℕ) (s : Part) : Type 0 where
  pointed : is_pointer s pointer 4 ≡ true
  word : word_at s.memory pointer ≡ m
  some : 0 < m
  used : is_some (mutex_at s.locks m) ≡ true

named_by : (word m : ℕ) (made other : Answer) (rest : ℕ → Part → Answer) (s : Part) → word ≡ m → 0 < m → is_some (mutex_at s.locks m) ≡ true
    → (if word == 0 then made else if not (is_some (mutex_at s.locks word)) then other else rest word s) ≡ rest m s
named_by word m made other rest s e lt used =
    ap (λ (w : ℕ). if w == 0 then made else if not (is_some (mutex_at s.locks w)) then other else rest w s) e
    ∙ (ap (λ (b : Bool). if b then made else if not (is_some (mutex_at s.locks m)) then other else rest m s) (ne_eqb m 0 (λ z. absurd (omega (arith, z, lt))))
    ∙ ap (λ (b : Bool). if not b then other else rest m s) used)

-- so the call goes on with that mutex
named_row : (m : ℕ) (rest : ℕ → Row) (i : Invocation) (s : Part) → IsNamed i.a0 m s → readable i.a0 4 (mutex_named i.a0 rest) i s ≡ rest m i s
named_row m rest i s is =
    ap (λ (b : Bool). if not b then refusal EFAULT i s else mutex_named i.a0 rest i s) is.pointed
    ∙ named_by (word_at s.memory i.a0) m _ (refusal EINVAL i s) (λ k u. rest k i u) s is.word is.some is.used

-- ---- the calls

used_by : (x : Option Mutex) → is_takeable x ≡ true → is_some x ≡ true
used_by None e = absurd (cc e)
used_by (Some m) e = refl

used_last : (t : ℕ) (x : Option Mutex) → is_releasable t x ≡ true → is_some x ≡ true
used_last t None e = absurd (cc e)
used_last t (Some m) e = refl

-- a lock
lock_row : (m : ℕ) (i : Invocation) (s : Part) → IsNamed i.a0 m s → is_takeable (mutex_at s.locks m) ≡ true → (mutex_lock i s).part ≡ replied i.caller (0 ∷ []) (with_locks (after_take i.caller m) s)
lock_row m i s is free =
    ap (λ (a : Answer). a.part) (named_row m (lock_by None) i s is)
    ∙ ap (λ (move : LockMove). (make_move move m None i s).part) (takes s.locks i.caller (mutex_at s.locks m) free)

-- an unlock
unlock_row : (m : ℕ) (i : Invocation) (s : Part) → IsNamed i.a0 m s → is_releasable i.caller (mutex_at s.locks m) ≡ true → (mutex_unlock i s).part ≡ replied i.caller (0 ∷ []) (with_locks (after_free m) s)
unlock_row m i s is free =
    let known : IsLast i.caller (mutex_at s.locks m) = last i.caller (mutex_at s.locks m) free in
    ap (λ (a : Answer). a.part) (named_row m unlock_named i s is)
    ∙ (ap (λ (b : Bool). (if not b then refusal EPERM i s else success [] i (with_locks (after_unlock m) s)).part) known.owned
    ∙ ap (λ (locks : Locks). replied i.caller (0 ∷ []) (with_locks (λ _. locks) s)) (freed i.caller m s.locks known))

-- the state that the thread's registers are of names the same mutex
named_with : (t m pointer : ℕ) (cpu : Processor) (s : Part) → IsNamed pointer m s → IsNamed pointer m (with_thread_cpu t cpu s)
named_with t m pointer cpu s is = record { pointed = is.pointed; word = is.word; some = is.some; used = is.used }

-- pthread_mutex_lock
lock_put : (limits : Limits) (t m : ℕ) (before after : Processor) (s : Part) → call_of (register before A7) ≡ Some MutexLock → is_pointer s (register before A0) 4 ≡ true → word_at s.memory (register before A0) ≡ m → 0 < m
    → is_takeable (mutex_at s.locks m) ≡ true → after ≡ with_register before A0 0 → IsPut limits t before after (Takes m) s
lock_put limits t m before after s e pointed word some free left = record {
  values = 0 ∷ [];
  replies = λ tick.
      let named : IsNamed (register before A0) m s = record { pointed = pointed; word = word; some = some; used = used_by (mutex_at s.locks m) free } in
      ap (λ (o : Option Call). (answer_to o (invocation limits tick t before) (with_thread_cpu t before s)).part) e
      ∙ lock_row m (invocation limits tick t before) (with_thread_cpu t before s) (named_with t m (register before A0) before s named) free;
  left = left;
  plain = (takeable_plain (mutex_at s.locks m) free, takeable_alone (mutex_at s.locks m) free);
}

-- pthread_mutex_unlock
unlock_put : (limits : Limits) (t m : ℕ) (before after : Processor) (s : Part) → call_of (register before A7) ≡ Some MutexUnlock → is_pointer s (register before A0) 4 ≡ true → word_at s.memory (register before A0) ≡ m → 0 < m
    → is_releasable t (mutex_at s.locks m) ≡ true → after ≡ with_register before A0 0 → IsPut limits t before after (Releases m) s
unlock_put limits t m before after s e pointed word some free left = record {
  values = 0 ∷ [];
  replies = λ tick.
      let named : IsNamed (register before A0) m s = record { pointed = pointed; word = word; some = some; used = used_last t (mutex_at s.locks m) free } in
      ap (λ (o : Option Call). (answer_to o (invocation limits tick t before) (with_thread_cpu t before s)).part) e
      ∙ unlock_row m (invocation limits tick t before) (with_thread_cpu t before s) (named_with t m (register before A0) before s named) free;
  left = left;
  plain = (releasable_plain t (mutex_at s.locks m) free, releasable_alone t (mutex_at s.locks m) free);
}

-- ---- the calls made, whatever the registers, the used ticks and the last step are

pub lock_made : (t m : ℕ) (before after : Processor) (h g : Held) → call_of (register before A7) ≡ Some MutexLock → is_pointer h.here (register before A0) 4 ≡ true → word_at h.here.memory (register before A0) ≡ m → 0 < m
    → is_takeable (mutex_at h.here.locks m) ≡ true → after ≡ with_register before A0 0 → g ≡ record h { here = with_locks (after_take t m) h.here } → IsMade t before after h g
lock_made t m before after h g e pointed word some free left moved = record {
  effect = Takes m;
  moved = moved;
  put = λ pc n cpu last. lock_put (limits_here h) t m (at_pc pc before) (at_pc pc after) (caught_up t n cpu last h.here) e pointed word some free (ap (at_pc pc) left);
}

pub unlock_made : (t m : ℕ) (before after : Processor) (h g : Held) → call_of (register before A7) ≡ Some MutexUnlock → is_pointer h.here (register before A0) 4 ≡ true → word_at h.here.memory (register before A0) ≡ m → 0 < m
    → is_releasable t (mutex_at h.here.locks m) ≡ true → after ≡ with_register before A0 0 → g ≡ record h { here = with_locks (after_free m) h.here } → IsMade t before after h g
unlock_made t m before after h g e pointed word some free left moved = record {
  effect = Releases m;
  moved = moved;
  put = λ pc n cpu last. unlock_put (limits_here h) t m (at_pc pc before) (at_pc pc after) (caught_up t n cpu last h.here) e pointed word some free (ap (at_pc pc) left);
}

pub ruleset locks = (lock_made, unlock_made, takeable_plain, releasable_plain)
