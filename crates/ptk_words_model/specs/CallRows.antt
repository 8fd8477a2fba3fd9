-- A row of the call table, its steps, and how one step follows another.
use Rattle.ptk_words_model.specs.State.{Part}
use Rattle.ptk_words_model.specs.declared.Invocation.{Invocation}
use Rattle.ptk_words_model.specs.Calls.{Answer}

-- a row of the call table: the answer of a call, by its registers and the state
abbrev pub Row : Type 0
Row = Invocation → Part → Answer

-- one step of a call, before the rest of it
abbrev pub Step : Type 0
Step = Row → Row

-- a step that gives the rest a value
abbrev pub Gives : Type 0 → Type 0
Gives A = (A → Row) → Row

infixl 10 ◌passed_to◌
infixl 10 ◌>>◌
-- the step, then the rest with its value: a file whose `do` blocks are rows imports this as its bind
abbrev pub ◌passed_to◌ : {A : Type 0} → Gives A → (A → Row) → Row
step passed_to rest = step rest

-- the step, then the rest
abbrev pub ◌>>◌ : Step → Row → Row
step >> rest = step rest
