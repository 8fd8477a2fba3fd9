-- No call depends on the trace's length, and none but a byte of output on the output's limit.
use Rattle.std.proofs.Common.{◌≡◌, ℕ, ◌≤◌, Bool, true, false, ◌⊎◌, inl, inr, List, [], ◌∷◌, length, Option, Some, None, refl, ap, cond, arith}
use Rattle.std.proofs.lemmas.Bool.{leb-true, le-leb, lt-leb}
use Rattle.std.proofs.lemmas.List.{length_push}
use Rattle.std.specs.Prelude.{Result, Ok, Err, ◌%◌, nat_le, option_map, unwrap_or}
use Rattle.ptk_words.specs.declared.calls.Call.{Call}
use Rattle.ptk_words.specs.declared.calls.Call.TheVariants as call
use Rattle.ptk_words.specs.declared.faults.Errno.{Errno}
use Rattle.ptk_words.specs.declared.faults.Errno.TheVariants.{EAGAIN}
use Rattle.ptk_words.specs.declared.threads.Cleanup.{Cleanup}
use Rattle.ptk_words.specs.declared.sections.Limits.{Limits}
use Rattle.ptk_words_model.specs.declared.Invocation.{Invocation}
use Rattle.ptk_words_model.specs.State.{Part, with_console}
use Rattle.ptk_words_model.specs.Console.{is_full, with_output}
use Rattle.ptk_words_model.specs.Calls.{Answer, refusal, success, told, is_cancelled, cancellation_answer}
use Rattle.ptk_words_model.specs.Steps.{Row, valid}
use Rattle.ptk_words_model.specs.ConsoleCalls.{take_input, console_put}
use Rattle.ptk_words_model.specs.CancellationCalls.{cleanup_pop_answer}
use Rattle.ptk_words_model.specs.CallTable.{answer_of, answer_to}

-- the limits with these lengths of output and trace
abbrev pub others : ℕ → ℕ → Limits → Limits
others output kept limits = record limits { output = output; trace = kept }

-- the call under these lengths of output and trace
abbrev pub under : ℕ → ℕ → Invocation → Invocation
under output kept i = record i { limits = others output kept i.limits }

-- the row answers alike under these lengths
abbrev IsSameRow : Row → Type 0
IsSameRow row = (output kept : ℕ) (i : Invocation) (s : Part) → row (under output kept i) s ≡ row i s

-- ---- steps

told_same : (reply : Option ℕ) → IsSameRow (told reply)
told_same None output kept i s = refl
told_same (Some word) output kept i s = refl

take_same : (ring : List ℕ) → IsSameRow (take_input ring)
take_same [] output kept i s = refl
take_same (byte ∷ ring) output kept i s = refl

pop_same : (cleanups : List Cleanup) → IsSameRow (cleanup_pop_answer cleanups)
pop_same [] output kept i s = refl
pop_same (cleanup ∷ cleanups) output kept i s = refl

either_same : (b : Bool) (x x' y y' : Answer) → x ≡ x' → y ≡ y' → cond b x y ≡ cond b x' y'
either_same true x x' y y' one other = one
either_same false x x' y y' one other = other

valid_same : {A : Type 0} (found : Result A Errno) (rest rest' : A → Row) (output kept : ℕ) (i : Invocation) (s : Part) → ((a : A) → rest a (under output kept i) s ≡ rest' a i s)
    → valid found rest (under output kept i) s ≡ valid found rest' i s
valid_same (Ok a) rest rest' output kept i s same = same a
valid_same (Err e) rest rest' output kept i s same = refl

given_same : {A : Type 0} (o : Option A) (next next' : A → Answer) (none none' : Answer) → none ≡ none' → ((a : A) → next a ≡ next' a)
    → unwrap_or (option_map next o) none ≡ unwrap_or (option_map next' o) none'
given_same None next next' none none' one other = one
given_same (Some a) next next' none none' one other = other a

ruleset steps = (told_same, take_same, pop_same, either_same, valid_same, given_same)

-- ---- the table

-- before the call the output is full under both limits or under neither, or after it it is no longer than the smaller limit
abbrev pub IsAlike : ℕ → ℕ → List ℕ → List ℕ → Type 0
IsAlike output limit before after = (nat_le output (length before) ≡ nat_le limit (length before)) ⊎ ((output ≤ limit) × (length after ≤ output))

-- the answer to a byte of output, by whether its caller is cancelled and the output is full
abbrev put_by : Bool → Bool → Invocation → Part → Answer
put_by cancelled full i s = cond cancelled (cancellation_answer i s) (cond full (refusal EAGAIN i s) (success [] i (with_console (with_output (i.a0 % 256)) s)))

put_within : (cancelled full : Bool) (output limit : ℕ) (i : Invocation) (s : Part) → nat_le limit (length s.console.output) ≡ full → output ≤ limit
    → length (put_by cancelled full i s).part.console.output ≤ output → put_by cancelled (nat_le output (length s.console.output)) i s ≡ put_by cancelled full i s
put_within true full output limit i s is le room = refl
put_within false true output limit i s is le room =
    let past : limit ≤ length s.console.output = leb-true limit (length s.console.output) is in
    ap (λ (full : Bool). put_by false full i s) (le-leb output (length s.console.output) (omega (arith, le, past)))
put_within false false output limit i s is le room =
    ap (λ (full : Bool). put_by false full i s) (lt-leb output (length s.console.output) (omega (arith, room, length_push s.console.output (i.a0 % 256))))

put_same : (output kept : ℕ) (i : Invocation) (s : Part) → IsAlike output i.limits.output s.console.output (console_put i s).part.console.output → console_put (under output kept i) s ≡ console_put i s
put_same output kept i s (inl same) = ap (λ (full : Bool). put_by (is_cancelled s i.caller) full i s) same
put_same output kept i s (inr (le, room)) = put_within (is_cancelled s i.caller) (is_full i.limits.output s.console) output i.limits.output i s refl le room

row_same : (c : Call) (output kept : ℕ) (i : Invocation) (s : Part) → IsAlike output i.limits.output s.console.output (answer_of c i s).part.console.output
    → answer_of c (under output kept i) s ≡ answer_of c i s
row_same call.Exit output kept i s same = refl
row_same call.ConsolePut output kept i s same = put_same output kept i s same
row_same call.ConsoleGet output kept i s same = search steps
row_same call.ClockGettime output kept i s same = refl
row_same call.ClockNanosleep output kept i s same = refl
row_same call.PthreadCreate output kept i s same = search steps
row_same call.PthreadExit output kept i s same = refl
row_same call.PthreadJoin output kept i s same = refl
row_same call.PthreadDetach output kept i s same = refl
row_same call.PthreadSelf output kept i s same = refl
row_same call.SchedYield output kept i s same = refl
row_same call.PthreadSetschedparam output kept i s same = refl
row_same call.PthreadGetschedparam output kept i s same = refl
row_same call.PthreadSetschedprio output kept i s same = refl
row_same call.MutexInit output kept i s same = refl
row_same call.MutexDestroy output kept i s same = search steps
row_same call.MutexLock output kept i s same = search steps
row_same call.MutexTrylock output kept i s same = search steps
row_same call.MutexTimedlock output kept i s same = search steps
row_same call.MutexUnlock output kept i s same = search steps
row_same call.MutexConsistent output kept i s same = search steps
row_same call.CondInit output kept i s same = refl
row_same call.CondDestroy output kept i s same = search steps
row_same call.CondWait output kept i s same = search steps depth 16
row_same call.CondTimedwait output kept i s same = search steps depth 16
row_same call.CondSignal output kept i s same = search steps
row_same call.CondBroadcast output kept i s same = search steps
row_same call.PthreadCancel output kept i s same = refl
row_same call.PthreadSetcancelstate output kept i s same = refl
row_same call.PthreadSetcanceltype output kept i s same = refl
row_same call.PthreadTestcancel output kept i s same = refl
row_same call.CleanupPush output kept i s same = refl
row_same call.CleanupPop output kept i s same = search steps
row_same call.KeyCreate output kept i s same = refl
row_same call.KeyDelete output kept i s same = refl
row_same call.PthreadSetspecific output kept i s same = refl
row_same call.PthreadGetspecific output kept i s same = refl

-- the answer to any number
pub answer_same : (o : Option Call) (output kept : ℕ) (i : Invocation) (s : Part) → IsAlike output i.limits.output s.console.output (answer_to o i s).part.console.output
    → answer_to o (under output kept i) s ≡ answer_to o i s
answer_same None output kept i s same = refl
answer_same (Some c) output kept i s same = row_same c output kept i s same
