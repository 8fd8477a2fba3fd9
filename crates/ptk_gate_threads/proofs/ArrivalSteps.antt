-- Input bytes taken one by one, in place of all that come at a tick.
use Rattle.std.proofs.Common.{arith, ◌≡◌, ℕ, suc, ◌+◌, Bool, true, false, List, [], ◌∷◌, ◌++◌, length, drop, take, refl, sym, ◌∙◌, ap, cond}
use Rattle.std.specs.Prelude.{Option, Some, None, IsSome, option_map, slice_get, fold, nat_lt, if◌then◌else◌, not, ◌&&◌, is_none}
use Rattle.std.specs.List.{take_while}
use Rattle.std.proofs.lemmas.Bool.{false≢true, false_from_ne_true}
use Rattle.std.proofs.lemmas.List.Sums.{take_while-cons}
use Rattle.ptk_words.specs.declared.threads.Thread.{Thread}
use Rattle.ptk_words.specs.declared.threads.Wait.{Wait}
use Rattle.ptk_words.specs.declared.threads.Wait.TheVariants.{InputWait}
use Rattle.ptk_words.proofs.Lists.{first_in}
use Rattle.ptk_words_model.specs.Mutex.{wait_of}
use Rattle.ptk_words.specs.Threads.{is_ended}
use Rattle.ptk_words.specs.declared.sections.Arrival.{Arrival}
use Rattle.ptk_words.specs.declared.sections.Limits.{Limits}
use Rattle.ptk_words_model.specs.State.{Console, Part, with_console}
use Rattle.ptk_words_model.specs.Console.{arriving, is_due_at, without_arriving}
use Rattle.ptk_words_model.specs.Priority.{thread_at, effective_priority}
use Rattle.ptk_words_model.specs.Decision.{after_arrival_for, first_waiter, after_arrival, after_arrivals}
use Rattle.ptk_words_sync_invariant.specs.Locks.{is_ready}
use Rattle.ptk_words_sync_invariant.proofs.Threads.{waits_used}
use Rattle.ptk_words_invariant.specs.Well.{IsWell}
use Rattle.ptk_words.specs.Pools.{is_in}
use Rattle.ptk_words_invariant.proofs.Parts.{well_console}
use Rattle.ptk_words_invariant.proofs.Waits.{well_arrival_for}
use Rattle.ptk_words_invariant.proofs.Decisions.{arrival_coming}
use Rattle.ptk_console.specs.ConsoleTable.{next_byte, without_next}
use Rattle.ptk_console.proofs.Arrivals.{arriving-without_next, without_arriving-without_next}
use Rattle.ptk_gate_moves.specs.Moves.{with_next_taken}
use Rattle.ptk_words_sync_invariant.specs.Conditions.{IsNoWaiter}
use Rattle.ptk_gate_moves.proofs.NoWaiters.{reader_apart}
use Rattle.ptk_gate_threads.specs.Arrivals.{after_byte}

-- a byte goes to the waiter or into the ring, and it makes no difference whether it goes there before or after the input is taken out
input_apart : (limit byte tick : ℕ) (console : Console) (b : Bool) (coming : List Arrival)
    → (record (if b then record console { ring = console.ring ++ byte ∷ [] } else record console { dropped = console.dropped + 1 }) { coming = coming })
    ≡ (if b then record console { coming = coming; ring = console.ring ++ byte ∷ [] } else record console { coming = coming; dropped = console.dropped + 1 })
input_apart limit byte tick console true coming = refl
input_apart limit byte tick console false coming = refl

arrival_apart : (o : Option ℕ) (limit byte tick : ℕ) (coming : List Arrival) (s : Part)
    → with_console (λ console. record console { coming = coming }) (after_arrival_for o limit byte s) ≡ after_arrival_for o limit byte (with_console (λ console. record console { coming = coming }) s)
arrival_apart (Some t) limit byte tick coming s = refl
arrival_apart None limit byte tick coming s = ap (λ (console : Console). record s { console = console }) (input_apart limit byte tick s.console (nat_lt (length s.console.ring) limit) coming)

-- what comes at the tick depends on the input to come alone
arriving_same : (tick : ℕ) (a b : Console) → a.coming ≡ b.coming → arriving tick a ≡ arriving tick b
arriving_same tick a b e = ap (λ (coming : List Arrival). arriving tick (record a { coming = coming })) e

fold_one : (limit byte : ℕ) (a : Part) (xs : List Arrival) → option_map (λ (arrival : Arrival). arrival.byte) (slice_get xs 0) ≡ Some byte
    → fold (after_arrival limit) (after_byte limit byte a) (drop 1 xs) ≡ fold (after_arrival limit) a xs
fold_one limit byte a [] e = absurd (cc e)
fold_one limit byte a (x ∷ xs) e = let same : byte ≡ x.byte = cc e in ap (λ b. fold (after_arrival limit) (after_byte limit b a) xs) same

-- one byte taken and brought to its place, then the others
pub arrivals_step : (limits : Limits) (tick byte : ℕ) (s : Part) → next_byte tick s.console ≡ Some byte
    → after_arrivals limits tick (after_byte limits.ring byte (with_next_taken tick s)) ≡ after_arrivals limits tick s
arrivals_step limits tick byte s e =
    let u : Part = with_next_taken tick s in
    let v : Part = after_byte limits.ring byte (with_next_taken tick s) in
    let stays : v.console.coming ≡ u.console.coming = arrival_coming (first_waiter u) limits.ring byte u in
    let due_same : arriving tick v.console ≡ arriving tick u.console = arriving_same tick v.console u.console stays in
    let due_rest : arriving tick u.console ≡ drop 1 (arriving tick s.console) = arriving-without_next tick s.console in
    let left : List Arrival = drop (length (arriving tick u.console)) u.console.coming in
    let left_same : drop (length (arriving tick v.console)) v.console.coming ≡ left =
    ap (λ (xs : List Arrival). drop (length xs) v.console.coming) due_same ∙ ap (λ (coming : List Arrival). drop (length (arriving tick u.console)) coming) stays in
    let taken : with_console (without_arriving tick) v ≡ with_console (λ console. record console { coming = left }) v =
    ap (λ (coming : List Arrival). with_console (λ console. record console { coming = coming }) v) left_same in
    let before : with_console (without_arriving tick) u ≡ with_console (without_arriving tick) s =
    ap (λ (console : Console). record s { console = console }) (without_arriving-without_next tick s.console) in
    let apart : with_console (without_arriving tick) v ≡ after_byte limits.ring byte (with_console (without_arriving tick) s) =
    taken ∙ arrival_apart (first_waiter u) limits.ring byte tick left u ∙ ap (after_byte limits.ring byte) before in
    ap (λ (a : Part). fold (after_arrival limits.ring) a (arriving tick v.console)) apart
    ∙ ap (λ (xs : List Arrival). fold (after_arrival limits.ring) (after_byte limits.ring byte (with_console (without_arriving tick) s)) xs) (due_same ∙ due_rest)
    ∙ fold_one limits.ring byte (with_console (without_arriving tick) s) (arriving tick s.console) e

none_due : (limit : ℕ) (s : Part) (xs : List Arrival) → option_map (λ (arrival : Arrival). arrival.byte) (slice_get xs 0) ≡ None
    → fold (after_arrival limit) (with_console (λ console. record console { coming = drop (length xs) console.coming }) s) xs ≡ s
none_due limit s [] e = refl
none_due limit s (x ∷ xs) e = absurd (cc e)

-- no byte is due
pub arrivals_end : (limits : Limits) (tick : ℕ) (s : Part) → next_byte tick s.console ≡ None → after_arrivals limits tick s ≡ s
arrivals_end limits tick s e = none_due limits.ring s (arriving tick s.console) e

-- ---- what stays

-- the state stays whole
pub next_well : (limits : Limits) (tick : ℕ) (s : Part) → IsWell limits s → IsWell limits (with_next_taken tick s)
next_well limits tick s well = well_console limits (without_next tick s.console) s refl well.ring well.output well

pub byte_well : (limits : Limits) (byte : ℕ) (s : Part) → IsWell limits s → IsWell limits (after_byte limits.ring byte s)
byte_well limits byte s well = well_arrival_for limits (first_waiter s) byte s (λ t e. first_in (effective_priority s.locks) t s.console.waiters e) well

ready_wait : (b : Bool) (o : Option Wait) → o ≡ Some InputWait → (is_none o && b) ≡ false
ready_wait b o e = rw e refl

waits_idle : (o : Option Thread) → wait_of o ≡ Some InputWait → is_ready o ≡ false
waits_idle None e = refl
waits_idle (Some thread) e = ready_wait (not (is_ended thread.phase)) thread.wait e

waiter_waits : (limits : Limits) (s : Part) (t : ℕ) (o : Option ℕ) → IsWell limits s → o ≡ first_waiter s → o ≡ Some t → wait_of (thread_at s.locks t) ≡ Some InputWait
waiter_waits limits s t o well first is = well.waiters_wait t (first_in (effective_priority s.locks) t s.console.waiters (sym first ∙ is))

-- the waiter is in use
pub waiter_in_use : (limits : Limits) (s : Part) (t : ℕ) (o : Option ℕ) → IsWell limits s → o ≡ first_waiter s → o ≡ Some t → IsSome (thread_at s.locks t)
waiter_in_use limits s t o well first is = waits_used InputWait (thread_at s.locks t) (waiter_waits limits s t o well first is)

-- and not in the line
pub waiter_fresh : (limits : Limits) (s : Part) (t : ℕ) (o : Option ℕ) → IsWell limits s → o ≡ first_waiter s → o ≡ Some t → is_in t s.line ≡ false
waiter_fresh limits s t o well first is =
    false_from_ne_true (is_in t s.line) (λ lined. false≢true (sym (waits_idle (thread_at s.locks t) (waiter_waits limits s t o well first is)) ∙ well.line_ready t lined))

-- and in no list of waiters of a mutex or a condition variable
pub waiter_apart : (limits : Limits) (s : Part) (t : ℕ) (o : Option ℕ) → IsWell limits s → o ≡ first_waiter s → o ≡ Some t → IsNoWaiter t s.mutexes s.conditions
waiter_apart limits s t o well first is = reader_apart limits t s well (waiter_waits limits s t o well first is)

pub ruleset waiters = (waiter_in_use, waiter_fresh, waiter_apart)

-- ---- the count of lost bytes

fewer : (p : Arrival → Bool) (coming : List Arrival) (byte : ℕ) → option_map (λ (arrival : Arrival). arrival.byte) (slice_get (take_while p coming) 0) ≡ Some byte
    → length (drop (length (take 1 (take_while p coming))) coming) + 1 ≡ length coming
fewer p [] byte = λ e. absurd (let no : ⊥ = cc e in no)
fewer p (x ∷ xs) byte =
    let Q : List Arrival → Type 0 = λ ys. option_map (λ (arrival : Arrival). arrival.byte) (slice_get ys 0) ≡ Some byte → length (drop (length (take 1 ys)) (x ∷ xs)) + 1 ≡ length (x ∷ xs) in
    let M : Bool → Type 0 = λ b. Q (cond b (x ∷ take_while p xs) []) in
    let cases : Q (cond (p x) (x ∷ take_while p xs) []) =
    elim (p x) as M [ true ↦ λ f. (let size : length xs + 1 ≡ suc (length xs) = omega arith in size) | false ↦ λ f. absurd (let no : ⊥ = cc f in no) ]
    in
    rw take_while-cons cases

-- one byte less is to come
pub next_fewer : (tick byte : ℕ) (console : Console) → next_byte tick console ≡ Some byte → length (without_next tick console).coming + 1 ≡ length console.coming
next_fewer tick byte console e = fewer (is_due_at tick) console.coming byte e
