-- Ticks in a row.
use Rattle.std.proofs.Common.{◌≡◌, ℕ, zero, suc, ◌+◌, ◌-◌, ◌≤◌, ◌<◌, eq-eqb, Bool, true, false, List, [], ◌∷◌, ◌++◌, refl, ap, ◌∙◌, arith, append_assoc}
use Rattle.std.specs.Prelude.{Option, Some, None, if◌then◌else◌}
use Rattle.ptk_words.specs.declared.faults.Status.{Status}
use Rattle.ptk_words.specs.declared.sections.Arrival.{Arrival}
use Rattle.ptk_words.specs.declared.sections.Entry.{Entry}
use Rattle.ptk_words.specs.declared.sections.Limits.{Limits}
use Rattle.ptk_words.specs.declared.threads.Thread.{Thread}
use Rattle.ptk_words_model.specs.PlainSteps.{Core, is_plain, plain_step, plain_steps, plain_entry, entry_after, plain_entries}
use Rattle.ptk_words_model.specs.Windows.{OwnTicks, WindowPlan, own_ticks, IsFirstOwn, IsOwnUntil}
use Rattle.ptk_words_model.proofs.OwnLaws.{end_of_window, own_from, window_whole}
use Rattle.ptk_words_model.proofs.NextLaws.{next_one}
use Rattle.ptk_words_model.specs.State.{Part, Account, State}
use Rattle.ptk_words_model.specs.Run.{last_of, next_from, is_at, decided, after_tick, after_tick_until, alone}
use Rattle.ptk_words.specs.Faults.{is_active}
use Rattle.ptk_words_model.proofs.Last.{last_more}
use Rattle.ptk_words_laws.specs.Quiet.{IsQuiet, ArePlain, AreOwn, core_of, with_row, after_row, thread_after, counted_row, row_state, after_ticks}
use Rattle.ptk_words_laws.specs.QuietLaws.{RowIsTicks, RowsJoin, OthersStay, AloneGoesOn, WindowIsOwn}
use Rattle.ptk_words_laws.proofs.PlainRows.{row_more}
use Rattle.ptk_words_laws.proofs.PlainDecisions.{plain_decided}
use Rattle.ptk_words_laws.proofs.QuietRows.{row_stays}

-- ---- a tick at which nothing is due

pub idle_tick : (ticks : OwnTicks) (limits : Limits) (tick : ℕ) (o : Option ℕ) (s : State) → is_at tick s.account.next ≡ false → after_tick_until o ticks limits tick s ≡ s
idle_tick ticks limits tick None s e = refl
idle_tick ticks limits tick (Some end) s e = ap (λ (b : Bool). if b then decided ticks limits tick (end - tick) s else s) e

-- ---- one part after another

pub join : (ticks : OwnTicks) (limits : Limits) (tick n m : ℕ) (s : State) → RowsJoin ticks limits tick n m s
unfolding after_ticks
join ticks limits tick n zero s =
    let none : n + 0 ≡ n = omega arith in
    ap (λ (k : ℕ). after_ticks ticks limits tick k s) none
join ticks limits tick n (suc m) s =
    let one : n + suc m ≡ suc (n + m) = omega arith in
    let same : tick + (n + m) ≡ tick + n + m = omega arith in
    ap (λ (k : ℕ). after_ticks ticks limits tick k s) one
    ∙ (ap (after_tick ticks limits (tick + (n + m))) (join ticks limits tick n m s)
    ∙ ap (λ (k : ℕ). after_tick ticks limits k (after_ticks ticks limits (tick + n) m (after_ticks ticks limits tick n s))) same)

pub others : (ticks : OwnTicks) (limits : Limits) (tick n : ℕ) (s : State) → OthersStay ticks limits tick n s
unfolding after_ticks
others ticks limits tick zero s none = refl
others ticks limits tick (suc n) s none =
    ap (after_tick ticks limits (tick + n)) (others ticks limits tick n s (λ k le lt. none k le (omega (arith, lt))))
    ∙ ap (λ (o : Option ℕ). after_tick_until o ticks limits (tick + n) s) (none (tick + n) (omega arith) (omega arith))

pub alone_on : (ticks : OwnTicks) (limits : Limits) (image : Option (List ℕ)) (input : List Arrival) (m n : ℕ) → AloneGoesOn ticks limits image input m n
unfolding after_ticks
alone_on ticks limits image input m zero =
    let none : m + 0 ≡ m = omega arith in
    ap (alone ticks limits image input) none
alone_on ticks limits image input m (suc n) =
    let one : m + suc n ≡ suc (m + n) = omega arith in
    ap (alone ticks limits image input) one ∙ ap (after_tick ticks limits (m + n)) (alone_on ticks limits image input m n)

-- ---- own ticks

until_by : (plan : WindowPlan) (p tick end : ℕ) → (own_ticks plan p).end_at tick ≡ Some end → IsOwnUntil plan p tick end
until_by plan p tick end e = rw e at (end_of_window plan p tick)

-- a tick with an end is the first own one from itself on
pub first_by : (plan : WindowPlan) (p tick end : ℕ) → (own_ticks plan p).end_at tick ≡ Some end → IsFirstOwn plan p tick tick
first_by plan p tick end e =
    record {
      own = own_from plan p tick end (until_by plan p tick end e);
      not_before = omega arith;
      least = λ k le lt. absurd (omega (arith, le, lt));
    }

pub window_own : (plan : WindowPlan) (p tick end : ℕ) → WindowIsOwn plan p tick end
window_own plan p tick end is e =
    let whole = (window_whole plan p tick end is e).2 in
    record {
      end = λ k le lt. (end, whole k le lt, lt);
      next = λ k le lt. next_one plan p k k is (first_by plan p k end (whole k le lt));
    }

-- ---- a row

-- a tick at which the next decision is due, in a quiet state with a plain step next
tick_plain : (ticks : OwnTicks) (limits : Limits) (tick stop end t : ℕ) (thread : Thread) (s : State) → ticks.end_at tick ≡ Some end → tick < end → s.account.next ≡ Some tick
    → IsQuiet limits tick stop t thread s.part → tick < stop → is_plain (core_of thread s.part) ≡ true → after_tick ticks limits tick s ≡ row_state ticks limits tick t 1 thread s
tick_plain ticks limits tick stop end t thread s own before due quiet lt plain =
    let room : 1 ≤ end - tick = omega (arith, before) in
    let at : is_at tick s.account.next ≡ true = ap (is_at tick) due ∙ eq-eqb tick tick refl in
    ap (λ (o : Option ℕ). after_tick_until o ticks limits tick s) own
    ∙ (ap (λ (b : Bool). if b then decided ticks limits tick (end - tick) s else s) at
    ∙ plain_decided ticks limits tick stop (end - tick) t thread s quiet lt room plain)

pub part_more : (tick t n : ℕ) (thread : Thread) (s : Part) → after_row (tick + n) t 1 (thread_after n thread s) (after_row tick t n thread s) ≡ after_row tick t (suc n) thread s
unfolding plain_steps
part_more tick t n thread s =
    let a : Core = plain_steps n (core_of thread s) in
    let now : tick + n + 0 ≡ tick + n = omega arith in
    ap (λ (k : ℕ). with_row t 1 (plain_step a) (Some (plain_entry k t a (plain_step a))) (after_row tick t n thread s)) now
    ∙ row_more t n a (plain_step a) (after_row tick t n thread s).last (Some (entry_after tick t n (core_of thread s))) s

trace_more : (tick t n count : ℕ) (c : Core) (trace : List Entry)
    → last_of count (last_of count (trace ++ plain_entries tick t n c) ++ plain_entries (tick + n) t 1 (plain_steps n c)) ≡ last_of count (trace ++ plain_entries tick t (suc n) c)
unfolding plain_entries plain_steps
trace_more tick t n count c trace =
    let now : tick + n + 0 ≡ tick + n = omega arith in
    let entries : List Entry = plain_entries tick t n c in
    let entry : List Entry = entry_after tick t n c ∷ [] in
    ap (λ (k : ℕ). last_of count (last_of count (trace ++ entries) ++ plain_entry k t (plain_steps n c) (plain_step (plain_steps n c)) ∷ [])) now
    ∙ (last_more count (trace ++ entries) entry ∙ ap (last_of count) (append_assoc trace entries entry))

account_more : (ticks : OwnTicks) (limits : Limits) (tick t n : ℕ) (c : Core) (status : Status) (account : Account)
    → counted_row ticks limits (tick + n) 1 (plain_entries (tick + n) t 1 (plain_steps n c)) status (counted_row ticks limits tick n (plain_entries tick t n c) status account)
    ≡ counted_row ticks limits tick (suc n) (plain_entries tick t (suc n) c) status account
account_more ticks limits tick t n c status account =
    let later : tick + n + 1 ≡ tick + suc n = omega arith in
    let steps : account.steps + n + 1 ≡ account.steps + suc n = omega arith in
    let counted : ℕ → ℕ → List Entry → Account = λ next count trace. record account { next = next_from ticks status next; steps = count; trace = trace } in
    let trace : List Entry = last_of limits.trace (last_of limits.trace (account.trace ++ plain_entries tick t n c) ++ plain_entries (tick + n) t 1 (plain_steps n c)) in
    ap (λ (next : ℕ). counted next (account.steps + n + 1) trace) later
    ∙ (ap (λ (count : ℕ). counted (tick + suc n) count trace) steps
    ∙ ap (counted (tick + suc n) (account.steps + suc n)) (trace_more tick t n limits.trace c account.trace))

state_more : (ticks : OwnTicks) (limits : Limits) (tick t n : ℕ) (thread : Thread) (s : State)
    → row_state ticks limits (tick + n) t 1 (thread_after n thread s.part) (row_state ticks limits tick t n thread s) ≡ row_state ticks limits tick t (suc n) thread s
state_more ticks limits tick t n thread s =
    let before : State = row_state ticks limits tick t n thread s in
    let c : Core = core_of thread s.part in
    let account : Account = counted_row ticks limits (tick + n) 1 (plain_entries (tick + n) t 1 (plain_steps n c)) s.part.status before.account in
    let state : Part → Account → State = λ part account. record { part = part; account = account } in
    ap (λ (part : Part). state part account) (part_more tick t n thread s.part)
    ∙ ap (state (after_row tick t (suc n) thread s.part)) (account_more ticks limits tick t n c s.part.status s.account)

-- the next decision of a partition that is not halted, from an own tick on, is at that tick
pub next_own : (ticks : OwnTicks) (status : Status) (tick : ℕ) → is_active status ≡ true → ticks.next_of tick ≡ Some tick → next_from ticks status tick ≡ Some tick
next_own ticks status tick active own = ap (λ (b : Bool). if b then ticks.next_of tick else None) active ∙ own

ticks_by : (ticks : OwnTicks) (limits : Limits) (tick stop t n : ℕ) (thread : Thread) (s : State) → IsQuiet limits tick stop t thread s.part → s.account.next ≡ Some tick → AreOwn ticks tick stop
    → 1 ≤ n → tick + n ≤ stop → ArePlain n (core_of thread s.part) → after_ticks ticks limits tick n s ≡ row_state ticks limits tick t n thread s
unfolding after_ticks plain_steps
ticks_by ticks limits tick stop t zero thread s quiet due own le within plain = absurd (omega (arith, le))
ticks_by ticks limits tick stop t (suc zero) thread s quiet due own le within plain =
    let lt : tick < stop = omega (arith, within) in
    let end = own.end tick (omega arith) lt in
    let none : tick + 0 ≡ tick = omega arith in
    ap (λ (k : ℕ). after_tick ticks limits k s) none
    ∙ tick_plain ticks limits tick stop end.0 t thread s end.1 end.2 due quiet lt (plain 0 (omega arith))
ticks_by ticks limits tick stop t (suc (suc n)) thread s quiet due own le within plain =
    let now : ℕ = tick + suc n in
    let lt : now < stop = omega (arith, within) in
    let end = own.end now (omega arith) lt in
    let fewer : ArePlain (suc n) (core_of thread s.part) = λ k below. plain k (omega (arith, below)) in
    let before : State = row_state ticks limits tick t (suc n) thread s in
    let u : Thread = thread_after (suc n) thread s.part in
    let stays : IsQuiet limits now stop t u before.part = row_stays limits tick stop t (suc n) thread s.part quiet (omega arith) (omega (arith, lt)) fewer in
    let next : before.account.next ≡ Some now = next_own ticks s.part.status now quiet.active (own.next now (omega arith) lt) in
    ap (after_tick ticks limits now) (ticks_by ticks limits tick stop t (suc n) thread s quiet due own (omega arith) (omega (arith, lt)) fewer)
    ∙ (tick_plain ticks limits now stop end.0 t u before end.1 end.2 next stays lt (plain (suc n) (omega arith))
    ∙ state_more ticks limits tick t (suc n) thread s)

pub row_ticks : (ticks : OwnTicks) (limits : Limits) (tick stop t n : ℕ) (thread : Thread) (s : State) → RowIsTicks ticks limits tick stop t n thread s
row_ticks ticks limits tick stop t n thread s quiet due own le within plain = ticks_by ticks limits tick stop t n thread s quiet due own le within plain
