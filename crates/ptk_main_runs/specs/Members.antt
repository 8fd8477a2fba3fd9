-- The members of JSON objects, as values, and as what they send to a writer of JSON (RFC 8259 section 4).
use Rattle.std.specs.Prelude.{◌≡◌, ℕ, List, [], ◌∷◌, ◌++◌, Option, Some, None, ⊤, flat_map}
use Rattle.std.specs.Borrow.{Bor}
use Rattle.serde.specs.Event.{Event, Log, unsigned, text, nothing, map_begins, map_ends, field_key}
use Rattle.serde.specs.declared.name.Case.TheVariants.{AsIs}
use Rattle.serde_json.specs.Data.{Data, Members, no_members, member}
use Rattle.ptk_main_runs.specs.declared.members.Value.{Value}
use Rattle.ptk_main_runs.specs.declared.members.Value.TheVariants.{Number, Word, Null}

-- the members of an object, each a value under a key (RFC 8259 section 4)
abbrev pub members_of : List (List ℕ × Data) → Members
members_of [] = no_members
members_of (m ∷ ms) = member m.0 m.1 (members_of ms)

-- a number, null where there is none (own)
abbrev pub optional_value : Option ℕ → Value
optional_value (Some number) = Number number
optional_value None = Null

-- what a value sends (RFC 8259 section 3)
abbrev pub value_event : Value → Event
value_event (Number number) = unsigned number
value_event (Word word) = text word.now
value_event Null = nothing

-- what members send: each its key, and then its value (RFC 8259 section 4)
abbrev pub member_events : List (Bor (List ℕ) × Value) → List Event
member_events members = flat_map (λ member. field_key member.0.now AsIs ∷ value_event member.1 ∷ []) members

-- what an object of these members under a key sends (RFC 8259 section 4)
abbrev pub object_events : List ℕ → List (Bor (List ℕ) × Value) → List Event
object_events key members = field_key key AsIs ∷ map_begins None ∷ member_events members ++ (map_ends ∷ [])

-- a member with a value (RFC 8259 section 4)
abbrev pub value_member : List ℕ → Value → List Event
value_member key value = field_key key AsIs ∷ value_event value ∷ []

-- a member that is a number (RFC 8259 section 6)
abbrev pub number_member : List ℕ → ℕ → List Event
number_member key number = field_key key AsIs ∷ unsigned number ∷ []

-- a member that is a word (RFC 8259 section 7)
abbrev pub word_member : List ℕ → List ℕ → List Event
word_member key word = field_key key AsIs ∷ text word ∷ []

-- members one behind the other (RFC 8259 section 4)
abbrev pub all_members : List (List Event) → List Event
all_members members = flat_map (λ member. member) members

-- an object with this inside (RFC 8259 section 4)
abbrev pub object : List Event → List Event
object members = map_begins None ∷ members ++ (map_ends ∷ [])

-- a member that is an object with this inside (RFC 8259 section 4)
abbrev pub object_member : List ℕ → List Event → List Event
object_member key members = field_key key AsIs ∷ object members

-- where what was sent before is known, these come behind it (own)
abbrev pub SendsAll : List Event → Log → Log → Type 0
SendsAll events None new = ⊤
SendsAll events (Some before) new = new ≡ Some (before ++ events)
