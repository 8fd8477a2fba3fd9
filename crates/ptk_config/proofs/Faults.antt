-- The faults that a document's table can state: neither that of the text nor want of memory.
use Rattle.std.proofs.Common.{ok_or, ◌≡◌, ◌≢◌, ◌∙◌, refl, ℕ, ◌+◌, ℤ, pos, negsuc, List, [], ◌∷◌, ◌++◌, Bool, true, false, Option, Some, None, Ok, Err, subst}
use Rattle.std.specs.Prelude.{codes, length, IfErr}
use Rattle.ptk_words.specs.declared.TheConstants.{LAST_TICK}
use Rattle.toml.specs.Data.{Data, Items, no_items, item, Members, as_integer, as_str, as_array, as_table, get_member}
use Rattle.ptk_words_model.specs.declared.fault.WindowFault.{WindowFault}
use Rattle.ptk_words_model.specs.declared.fault.WindowFault.TheVariants.{OutOfOrder}
use Rattle.ptk_words_model.specs.WindowFaults.{plan_fault}
use Rattle.ptk_config.specs.declared.fault.ConfigFault.{ConfigFault}
use Rattle.ptk_config.specs.declared.fault.ConfigFault.TheVariants.{Text, MissingKey, WrongType, OutOfRange, UnknownKey, DoubledName, Window, Memory}
use Rattle.ptk_config.specs.Reading.{Checked, MemoryAside, ◌>>=◌, tested, within, integer, text, items, members, required, number, counted, array, each_after, only}
use Rattle.ptk_config.specs.Inputs.{bytes_in, input, input_in, inputs_of, input_of}
use Rattle.ptk_config.specs.Sections.{Section, name, image_of, sixteens, stack, limits, section, section_keys, sections_in}
use Rattle.ptk_config.specs.Windows.{number_of, window, windows_in, last_from, stage, stage_in, stages_of}
use Rattle.ptk_config.specs.Configuration.{Configuration, configuration, fault_or}
use Rattle.ptk_config.proofs.Order.{IsOfWindows, tested-ok, of_plan_fault, in_order, stages_of-later}

-- a fault of what a document states: neither of its text, nor of the host's memory, nor of its stages' numbers, which are read in order
abbrev pub IsOfDocument : ConfigFault → Type 0
IsOfDocument Text = ⊥
IsOfDocument MissingKey = Unit {0}
IsOfDocument WrongType = Unit {0}
IsOfDocument OutOfRange = Unit {0}
IsOfDocument UnknownKey = Unit {0}
IsOfDocument DoubledName = Unit {0}
IsOfDocument (Window e) = IsOfWindows (Some e)
IsOfDocument Memory = ⊥

abbrev fault_in : {A : Type 0} → Checked A → Type 0
fault_in (Ok a) = Unit {0}
fault_in (Err e) = IsOfDocument e

-- the fault, if there is one, is of the document
pub record HasDocumentFault {A : Type 0} (c : Checked A) : Type 0 where
  pub fault : fault_in c

bind : {A B : Type 0} (c : Checked A) (f : A → Checked B) → HasDocumentFault c → ((a : A) → HasDocumentFault (f a)) → HasDocumentFault (c >>= f)
bind (Ok a) f here next = next a
bind (Err e) f here next = record { fault = here.fault }

-- the next check may rest on what the one before read
bind_read : {A B : Type 0} (c : Checked A) (f : A → Checked B) → HasDocumentFault c → ((a : A) → c ≡ Ok a → HasDocumentFault (f a)) → HasDocumentFault (c >>= f)
bind_read (Ok a) f here next = next a refl
bind_read (Err e) f here next = record { fault = here.fault }

of_ok_or : {A : Type 0} (o : Option A) (e : ConfigFault) → IsOfDocument e → HasDocumentFault (ok_or o e)
of_ok_or (Some a) e is = record { fault = tt }
of_ok_or None e is = record { fault = is }

of_tested : {A : Type 0} (b : Bool) (e : ConfigFault) (a : A) → IsOfDocument e → HasDocumentFault (tested b e a)
of_tested true e a is = record { fault = tt }
of_tested false e a is = record { fault = is }

of_within : (low high : ℕ) (z : ℤ) → HasDocumentFault (within low high z)
of_within low high (pos n) = of_tested _ OutOfRange n tt
of_within low high (negsuc n) = record { fault = tt }

of_integer : (low high : ℕ) (d : Data) → HasDocumentFault (integer low high d)
of_integer low high d = bind _ _ (of_ok_or (as_integer d) WrongType tt) (of_within low high)

of_text : (d : Data) → HasDocumentFault (text d)
of_text d = of_ok_or (as_str d) WrongType tt

of_items : (d : Data) → HasDocumentFault (items d)
of_items d = of_ok_or (as_array d) WrongType tt

of_members : (d : Data) → HasDocumentFault (members d)
of_members d = of_ok_or (as_table d) WrongType tt

of_required : (key : List ℕ) (t : Members) → HasDocumentFault (required key t)
of_required key t = of_ok_or (get_member key t) MissingKey tt

of_number : (key : List ℕ) (low high : ℕ) (t : Members) → HasDocumentFault (number key low high t)
of_number key low high t = bind _ _ (of_required key t) (of_integer low high)

of_counted : (low high : ℕ) (ds : Items) → HasDocumentFault (counted low high ds)
of_counted low high ds = of_tested _ OutOfRange ds tt

of_array : (key : List ℕ) (low high : ℕ) (t : Members) → HasDocumentFault (array key low high t)
of_array key low high t = bind _ _ (bind _ _ (of_required key t) of_items) (of_counted low high)

of_each_after : {A : Type 0} (f : List A → Data → Checked A) → ((done : List A) (d : Data) → HasDocumentFault (f done d)) → (done : List A) (ds : Items) → HasDocumentFault (each_after f done ds)
of_each_after f each done no_items = record { fault = tt }
of_each_after f each done (item d ds) = bind _ _ (each done d) (λ a. of_each_after f each (done ++ a ∷ []) ds)

of_only : {A : Type 0} (keys : List (List ℕ)) (t : Members) (a : A) → HasDocumentFault (only keys t a)
of_only keys t a = of_tested _ UnknownKey a tt

of_bytes_in : (ds : Items) → HasDocumentFault (bytes_in ds)
of_bytes_in ds = of_each_after (λ _. integer 0 255) (λ _ d. of_integer 0 255 d) [] ds

of_input : (low room : ℕ) (d : Data) → HasDocumentFault (input low room d)
of_input low room d =
    bind _ _ (of_members d) (λ t.
    bind _ _ (of_number (codes "at") low LAST_TICK t) (λ tick.
    bind _ _ (of_array (codes "bytes") 0 room t) (λ values.
    bind _ _ (of_bytes_in values) (λ bytes.
    of_only (codes "at" ∷ codes "bytes" ∷ []) t (record { tick = tick; bytes = bytes })))))

of_inputs_of : (value : Option Data) → HasDocumentFault (inputs_of value)
of_inputs_of None = record { fault = tt }
of_inputs_of (Some d) = bind _ _ (of_items d) (of_each_after input_in (λ done d. of_input _ _ d) [])

of_input_of : (value : Option Data) → HasDocumentFault (input_of value)
of_input_of value = bind _ _ (of_inputs_of value) (λ is. record { fault = tt })

of_name : (t : Members) → HasDocumentFault (name t)
of_name t = bind _ _ (bind _ _ (of_required (codes "name") t) of_text) (λ s. of_tested _ OutOfRange s tt)

of_image_of : (value : Option Data) → HasDocumentFault (image_of value)
of_image_of None = record { fault = tt }
of_image_of (Some d) = bind _ _ (of_text d) (λ s. of_tested _ OutOfRange (Some s) tt)

of_sixteens : (key : List ℕ) (low high : ℕ) (t : Members) → HasDocumentFault (sixteens key low high t)
of_sixteens key low high t = bind _ _ (of_number key low high t) (λ n. of_tested _ OutOfRange n tt)

of_stack : (memory threads : ℕ) (t : Members) → HasDocumentFault (stack memory threads t)
of_stack memory threads t = bind _ _ (of_sixteens (codes "stack") 16 65536 t) (λ n. of_tested _ OutOfRange n tt)

of_limits : (t : Members) → HasDocumentFault (limits t)
of_limits t =
    bind _ _ (of_sixteens (codes "memory") 4096 1048576 t) (λ memory.
    bind _ _ (of_number (codes "threads") 1 32 t) (λ threads.
    bind _ _ (of_stack memory threads t) (λ stack.
    bind _ _ (of_number (codes "mutexes") 0 64 t) (λ mutexes.
    bind _ _ (of_number (codes "conds") 0 32 t) (λ conditions.
    bind _ _ (of_number (codes "keys") 0 32 t) (λ keys.
    bind _ _ (of_number (codes "interval") 1 1000000 t) (λ interval.
    bind _ _ (of_number (codes "ring") 1 256 t) (λ ring.
    bind _ _ (of_number (codes "output") 0 65536 t) (λ output.
    bind _ _ (of_number (codes "trace") 0 1024 t) (λ trace. record { fault = tt }))))))))))

of_section : (d : Data) → HasDocumentFault (section d)
of_section d =
    bind _ _ (of_members d) (λ t.
    bind _ _ (of_name t) (λ name.
    bind _ _ (of_image_of (get_member (codes "image") t)) (λ image.
    bind _ _ (of_limits t) (λ limits.
    bind _ _ (of_input_of (get_member (codes "input") t)) (λ input.
    of_only section_keys t (record { name = name; image = image; limits = limits; input = input }))))))

of_sections_in : (ds : Items) → HasDocumentFault (sections_in ds)
unfolding sections_in
of_sections_in ds = of_each_after (λ _. section) (λ _ d. of_section d) [] ds

of_window : (sections : List Section) (d : Data) → HasDocumentFault (window sections d)
of_window sections d =
    bind _ _ (of_members d) (λ t.
    bind _ _ (of_number (codes "start") 0 999999 t) (λ start.
    bind _ _ (of_number (codes "length") 1 1000000 t) (λ length.
    bind _ _ (bind _ _ (of_required (codes "partition") t) of_text) (λ name.
    of_only (codes "start" ∷ codes "length" ∷ codes "partition" ∷ []) t
    (record { start = start; length = length; partition = number_of sections name })))))

of_windows_in : (sections : List Section) (ds : Items) → HasDocumentFault (windows_in sections ds)
unfolding windows_in
of_windows_in sections ds = of_each_after (λ _. window sections) (λ _ d. of_window sections d) [] ds

of_stage : (sections : List Section) (low : ℕ) (d : Data) → HasDocumentFault (stage sections low d)
of_stage sections low d =
    bind _ _ (of_members d) (λ t.
    bind _ _ (of_number (codes "from") low 68719476736 t) (λ from.
    bind _ _ (of_array (codes "window") 0 64 t) (λ values.
    bind _ _ (of_windows_in sections values) (λ windows.
    of_only (codes "from" ∷ codes "window" ∷ []) t (record { from = from; windows = windows })))))

of_stages_of : (sections : List Section) (value : Option Data) → HasDocumentFault (stages_of sections value)
unfolding stages_of
of_stages_of sections None = record { fault = tt }
of_stages_of sections (Some d) =
    bind _ _ (bind _ _ (of_items d) (of_counted 0 15)) (of_each_after (stage_in sections) (λ done d. of_stage sections (last_from done + 1) d) [])

of_fault_or : {A : Type 0} (o : Option WindowFault) (a : A) → IsOfWindows o → HasDocumentFault (fault_or o a)
of_fault_or (Some e) a is = record { fault = is }
of_fault_or None a is = record { fault = tt }

of_configuration : (t : Members) → HasDocumentFault (configuration t)
of_configuration t =
    bind _ _ (of_number (codes "frame") 16 1000000 t) (λ frame.
    bind _ _ (of_array (codes "partition") 1 8 t) (λ values.
    bind _ _ (of_sections_in values) (λ sections.
    bind _ _ (of_array (codes "window") 0 64 t) (λ values.
    bind _ _ (of_windows_in sections values) (λ windows.
    bind_read _ _ (of_stages_of sections (get_member (codes "plan") t)) (λ later read.
    let config : Configuration = record { sections = sections; plan = record { frame = frame; stages = record { from = 0; windows = windows } ∷ later } } in
    bind_read _ _ (of_only (codes "frame" ∷ codes "partition" ∷ codes "window" ∷ codes "plan" ∷ []) t config) (λ known is_known.
    bind_read _ _ (of_tested _ DoubledName known tt) (λ distinct is_distinct.
    let same : distinct ≡ config = (tested-ok _ DoubledName known distinct is_distinct).1 ∙ (tested-ok _ UnknownKey config known is_known).1 in
    let fault : IsOfWindows (plan_fault frame (length sections) distinct.plan.stages) =
    rw same (of_plan_fault frame (length sections) config.plan.stages (in_order windows later (stages_of-later sections (get_member (codes "plan") t) later read))) in
    of_fault_or _ distinct fault))))))))

of_fault : (t : Members) (e : ConfigFault) → configuration t ≡ Err e → IsOfDocument e
of_fault t e is = subst (λ (c : Checked Configuration). fault_in c) is (of_configuration t).fault

-- a table's result is not the fault of a text
pub never_text : (P : Type 0) (t : Members) (r : Checked Configuration) → MemoryAside (λ a. a) r (configuration t) → IfErr r (λ e. e ≡ Text → P)
never_text P t (Ok config) aside = tt
never_text P t (Err e) aside =
    λ text.
    let stated : configuration t ≡ Err e = aside (λ memory. cc) in
    absurd (subst IsOfDocument text (of_fault t e stated))

-- a table's result is not the fault of the stages' numbers
pub never_order : (t : Members) (r : Checked Configuration) → MemoryAside (λ a. a) r (configuration t) → IfErr r (λ e. e ≢ Window OutOfOrder)
never_order t (Ok config) aside = tt
never_order t (Err e) aside =
    λ order.
    let stated : configuration t ≡ Err e = aside (λ memory. cc) in
    let numbers : IsOfWindows (Some OutOfOrder) = subst IsOfDocument order (of_fault t e stated) in
    numbers.is
