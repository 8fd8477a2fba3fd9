-- What a value of a document states, or the fault that it is read with.
use Rattle.std.specs.Prelude.{ℕ, ◌+◌, ℤ, pos, negsuc, List, [], ◌∷◌, ◌++◌, Bool, true, nat_le, ◌&&◌, if◌then◌else◌, ok_or, Result, Ok, Err, ◌≡◌, ◌≢◌}
use Rattle.std.specs.List.{list_any}
use Rattle.std.specs.Str.{bytes_eq}
use Rattle.toml.specs.Data.{Data, as_integer, as_str, as_array, as_table, Items, no_items, item, Members, no_members, member, get_member}
pub use Rattle.ptk_words.specs.Results.{◌>>=◌}
use Rattle.ptk_config.specs.declared.fault.ConfigFault.{ConfigFault}
use Rattle.ptk_config.specs.declared.fault.ConfigFault.TheVariants.{MissingKey, WrongType, OutOfRange, UnknownKey, Memory}

-- a value, or the first fault
abbrev pub Checked : Type 0 → Type 0
Checked A = Result A ConfigFault

-- what the value is seen as, or the same fault
abbrev pub seen : {A B : Type 0} → (A → B) → Checked A → Checked B
seen view (Ok a) = Ok (view a)
seen view (Err e) = Err e

-- the result is seen as this value or is this fault, unless memory ran out
abbrev pub MemoryAside : {A B : Type 0} → (A → B) → Checked A → Checked B → Type 0
MemoryAside view (Ok a) d = d ≡ Ok (view a)
MemoryAside view (Err e) d = e ≢ Memory → d ≡ Err e

-- the value, or this fault where the test fails
abbrev pub tested : {A : Type 0} → Bool → ConfigFault → A → Checked A
tested b e a = if b then Ok a else Err e

-- the number, if it lies within these bounds
abbrev pub within : ℕ → ℕ → ℤ → Checked ℕ
within low high (pos n) = tested (nat_le low n && nat_le n high) OutOfRange n
within low high (negsuc n) = Err OutOfRange

-- the number within these bounds that a value states
abbrev pub integer : ℕ → ℕ → Data → Checked ℕ
integer low high d = ok_or (as_integer d) WrongType >>= within low high

-- the text that a value states
abbrev pub text : Data → Checked (List ℕ)
text d = ok_or (as_str d) WrongType

-- the array that a value states
abbrev pub items : Data → Checked Items
items d = ok_or (as_array d) WrongType

-- the table that a value states
abbrev pub members : Data → Checked Members
members d = ok_or (as_table d) WrongType

-- how many items there are
abbrev pub count_of : Items → ℕ
count_of no_items = 0
count_of (item d ds) = 1 + count_of ds

-- the value at a key that may not be missing
abbrev pub required : List ℕ → Members → Checked Data
required key t = ok_or (get_member key t) MissingKey

-- the number at a key
abbrev pub number : List ℕ → ℕ → ℕ → Members → Checked ℕ
number key low high t = required key t >>= integer low high

-- the items, if their number is within these bounds
abbrev pub counted : ℕ → ℕ → Items → Checked Items
counted low high ds = tested (nat_le low (count_of ds) && nat_le (count_of ds) high) OutOfRange ds

-- the array at a key, of a number of items within these bounds
abbrev pub array : List ℕ → ℕ → ℕ → Members → Checked Items
array key low high t = required key t >>= items >>= counted low high

-- each item in turn, read in view of what was read before it
abbrev pub each_after : {A : Type 0} → (List A → Data → Checked A) → List A → Items → Checked (List A)
each_after f done no_items = Ok done
each_after f done (item d ds) = f done d >>= (λ a. each_after f (done ++ a ∷ []) ds)

-- each key of the table is one of these
abbrev pub are_known : List (List ℕ) → Members → Bool
are_known keys no_members = true
are_known keys (member k d ms) = list_any (bytes_eq k) keys && are_known keys ms

-- the value, if each key of the table is one of these
abbrev pub only : {A : Type 0} → List (List ℕ) → Members → A → Checked A
only keys t a = tested (are_known keys t) UnknownKey a
