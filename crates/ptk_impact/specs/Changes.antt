-- What differs between two partitions.
use Rattle.std.specs.Prelude.{◌≡◌, ◌≢◌, ◌↔◌, ℕ, ◌<◌, List, slice_get, Option, IfSome, IsNone, IsSome, IsSomeAnd, MatchOption}
use Rattle.ptk_words.specs.declared.sections.Arrival.{Arrival}
use Rattle.ptk_words.specs.declared.sections.Limits.{Limits}
use Rattle.ptk_system.specs.Missing.{image_in}
use Rattle.ptk_impact.specs.Agreement.{Agree, IsFirstDifference}
use Rattle.ptk_impact.specs.declared.changes.Changes.{Changes}
use Rattle.ptk_impact.specs.declared.image.ImageChange.{ImageChange}
use Rattle.ptk_impact.specs.declared.image.ImageChange.TheVariants.{Added, Removed, Bytes}
use Rattle.ptk_impact.specs.declared.input.InputChange.{InputChange}
use Rattle.ptk_impact.specs.declared.limits.LimitChange.{LimitChange}
use Rattle.ptk_impact.specs.declared.limits.LimitChanges.{LimitChanges}
use Rattle.ptk_impact.specs.declared.subject.Subject.{Subject}
use Rattle.ptk_impact.specs.Views.{section_of}

-- the place is the least at which the lists differ: one of them may end there (own)
pub record IsFirstOther {A : Type 0} (xs ys : List A) (place : ℕ) : Type 0 where
  pub before : (k : ℕ) → k < place → slice_get xs k ≡ slice_get ys k
  pub other : slice_get xs place ≢ slice_get ys place

-- none if the two numbers are the same, both if they differ (own)
abbrev pub IsNumberChange : ℕ → ℕ → Option LimitChange → Type 0
IsNumberChange old new change = MatchOption change (old ≡ new) (λ c. (old ≢ new) × (c.old ≡ old) × (c.new ≡ new))

-- for each limit none if it is the same, and both numbers if it differs (own)
pub record AreLimitChanges (old new : Limits) (changes : LimitChanges) : Type 0 where
  pub memory : IsNumberChange old.memory new.memory changes.memory
  pub threads : IsNumberChange old.threads new.threads changes.threads
  pub stack : IsNumberChange old.stack new.stack changes.stack
  pub mutexes : IsNumberChange old.mutexes new.mutexes changes.mutexes
  pub conditions : IsNumberChange old.conditions new.conditions changes.conditions
  pub keys : IsNumberChange old.keys new.keys changes.keys
  pub interval : IsNumberChange old.interval new.interval changes.interval
  pub ring : IsNumberChange old.ring new.ring changes.ring
  pub output : IsNumberChange old.output new.output changes.output
  pub trace : IsNumberChange old.trace new.trace changes.trace

-- how the bytes of two images differ: only the new partition has one, only the old one has, or both have and the bytes differ first at this offset (own)
abbrev pub IsImageChange : Option (List ℕ) → Option (List ℕ) → ImageChange → Type 0
IsImageChange old new Added = IsNone old × IsSome new
IsImageChange old new Removed = IsSome old × IsNone new
IsImageChange old new (Bytes offset) = IsSomeAnd old (λ before. IsSomeAnd new (λ after. IsFirstOther before after offset))

-- the first place at which the arrivals differ, with both (own)
pub record IsInputChange (old new : List Arrival) (change : InputChange) : Type 0 where
  pub first : IsFirstOther old new change.place
  pub is_old : change.old ≡ slice_get old change.place
  pub is_new : change.new ≡ slice_get new change.place

-- each difference is named, and what is named differs: nothing is named if and only if nothing differs (own)
pub record AreChanges (old new : Subject) (changes : Changes) : Type 0 where
  pub same_windows : IsNone changes.windows ↔ ((t : ℕ) → Agree old.config.now.plan old.partition new.config.now.plan new.partition t)
  pub windows : IfSome changes.windows (IsFirstDifference old.config.now.plan old.partition new.config.now.plan new.partition)
  pub limits : AreLimitChanges (section_of old).limits (section_of new).limits changes.limits
  pub image : MatchOption changes.image
      (image_in old.files.now (section_of old).image ≡ image_in new.files.now (section_of new).image)
      (IsImageChange (image_in old.files.now (section_of old).image) (image_in new.files.now (section_of new).image))
  pub input : MatchOption changes.input ((section_of old).input ≡ (section_of new).input)
      (IsInputChange (section_of old).input (section_of new).input)
