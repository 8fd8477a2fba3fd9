-- A mutex that is neither INHERIT nor PROTECT raises nobody, whoever owns it.
use Rattle.std.proofs.Common.{◌≡◌, ℕ, Bool, true, false, not, ◌&&◌, length, refl, ◌∙◌, ap}
use Rattle.std.specs.Prelude.{◌==◌, Option, Some, None, option_map}
use Rattle.ptk_words.specs.declared.mutexes.Protocol.{Protocol}
use Rattle.ptk_words.specs.declared.mutexes.Protocol.TheVariants.{NoProtocol, Inherit, Protect}
use Rattle.ptk_words.specs.declared.mutexes.Owner.{Owner}
use Rattle.ptk_words.proofs.Options.{zero_either_way}
use Rattle.ptk_words_model.specs.State.{Mutex}
use Rattle.ptk_words_model.specs.Priority.{is_owner, ceiling_of, ceiling_for, inheritor, inheritor_of}
use Rattle.ptk_words_model.specs.Mutex.{is_free, is_raising}
use Rattle.ptk_roster.specs.Plain.{is_raising_at, is_sound, is_takeable, is_releasable}

inherits_by : (protocol : Protocol) (owner : Owner) → is_raising protocol ≡ false → inheritor protocol owner ≡ None
inherits_by NoProtocol owner e = refl
inherits_by Inherit owner e = absurd (cc e)
inherits_by (Protect ceiling) owner e = absurd (cc e)

ceiling_by : (protocol : Protocol) → is_raising protocol ≡ false → ceiling_of protocol ≡ 0
ceiling_by NoProtocol e = refl
ceiling_by Inherit e = absurd (cc e)
ceiling_by (Protect ceiling) e = absurd (cc e)

-- its waiters raise nobody
pub plain_inherits : (x : Option Mutex) → is_raising_at x ≡ false → inheritor_of x ≡ None
plain_inherits None e = refl
plain_inherits (Some m) e = inherits_by m.protocol m.owner e

-- nor does it give its owner a ceiling
pub plain_ceiling : (u : ℕ) (x : Option Mutex) → is_raising_at x ≡ false → ceiling_for u x ≡ 0
plain_ceiling u None e = refl
plain_ceiling u (Some m) e = zero_either_way (is_owner u m.owner) (ceiling_of m.protocol) (ceiling_by m.protocol e)

-- the protocol that stays
pub raising-kept : (f : Mutex → Mutex) (x : Option Mutex) → ((m : Mutex) → (f m).protocol ≡ m.protocol) → is_raising_at (option_map f x) ≡ is_raising_at x
raising-kept f None same = refl
raising-kept f (Some m) same = ap is_raising (same m)

-- so with another owner
pub plain_kept : (f : Mutex → Mutex) (x : Option Mutex) → ((m : Mutex) → (f m).protocol ≡ m.protocol) → is_raising_at x ≡ false → is_raising_at (option_map f x) ≡ false
plain_kept f x same e = raising-kept f x same ∙ e

plain_by : (raises sound rest : Bool) → (not raises && sound && rest) ≡ true → raises ≡ false
plain_by false sound rest e = refl
plain_by true sound rest e = absurd (cc e)

last_plain : (raises sound owned once alone : Bool) → (not raises && sound && owned && once && alone) ≡ true → raises ≡ false
last_plain false sound owned once alone e = refl
last_plain true sound owned once alone e = absurd (cc e)

-- a mutex that a lock takes so
pub takeable_plain : (x : Option Mutex) → is_takeable x ≡ true → is_raising_at x ≡ false
takeable_plain None e = refl
takeable_plain (Some m) e = plain_by (is_raising m.protocol) (is_sound m.soundness) (is_free m.owner) e

-- or an unlock gives
pub releasable_plain : (t : ℕ) (x : Option Mutex) → is_releasable t x ≡ true → is_raising_at x ≡ false
releasable_plain t None e = refl
releasable_plain t (Some m) e = last_plain (is_raising m.protocol) (is_sound m.soundness) (is_owner t m.owner) (m.count == 1) (length m.waiters == 0) e
