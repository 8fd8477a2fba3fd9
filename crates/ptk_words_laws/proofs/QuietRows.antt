-- Plain steps leave a quiet state quiet.
use Rattle.std.proofs.Common.{◌≡◌, ℕ, zero, suc, ◌+◌, ◌≤◌, ◌<◌, true, List, [], ◌∷◌, length, refl, ap, subst, ◌∙◌, arith}
use Rattle.std.specs.Prelude.{Option, Some, None, option_map, option_and_then, fold, map, max, filter, filter_map, nat_le}
use Rattle.std.specs.List.{enumerate_from}
use Rattle.ptk_words.specs.Pools.{pool_get, pool_changed, first_of_greatest}
use Rattle.ptk_words.specs.Processor.{Processor}
use Rattle.ptk_words.specs.declared.sections.Entry.{Entry}
use Rattle.ptk_words.specs.declared.sections.Limits.{Limits}
use Rattle.ptk_words.specs.declared.threads.Policy.{Policy}
use Rattle.ptk_words.specs.declared.threads.Policy.TheVariants.{Fifo, RoundRobin}
use Rattle.ptk_words.specs.declared.threads.Thread.{Thread}
use Rattle.ptk_words.proofs.Pools.{changed_own, length-changed}
use Rattle.ptk_words_model.specs.PlainSteps.{Core, is_plain, plain_step, plain_steps, entry_after}
use Rattle.ptk_words_model.specs.State.{Part, Mutex}
use Rattle.ptk_words_model.specs.Chain.{greatest_leading}
use Rattle.ptk_words_model.specs.Priority.{awaited, inheritor_of, ceiling_for, next_in_chain, held_of, effective_of}
use Rattle.ptk_words_model.specs.Schedule.{is_round_robin}
use Rattle.ptk_words_model.specs.Withdrawal.{expiry_of, due}
use Rattle.ptk_words_sync_invariant.proofs.Threads.{changed_same}
use Rattle.ptk_words_sync_invariant.proofs.Raising.{level_of}
use Rattle.ptk_words_sync_invariant.proofs.Deadlines.{deadline_at}
use Rattle.ptk_words_laws.specs.Quiet.{stays_before, IsQuiet, ArePlain, core_of, used_after, computed, with_row, after_row, thread_after}
use Rattle.ptk_words_laws.specs.QuietLaws.{RowStaysQuiet}
use Rattle.ptk_words_laws.proofs.PlainSteps.{plain_length}
use Rattle.ptk_words_laws.proofs.PlainRows.{computed_more, row_more}

-- ---- priorities

computed_waits : (n : ℕ) (cpu : Processor) (o : Option Thread) → awaited (option_map (computed n cpu) o) ≡ awaited o
computed_waits n cpu None = refl
computed_waits n cpu (Some thread) = refl

computed_level : (n : ℕ) (cpu : Processor) (o : Option Thread) → level_of (option_map (computed n cpu) o) ≡ level_of o
computed_level n cpu None = refl
computed_level n cpu (Some thread) = refl

-- registers and used ticks do not enter a priority
pub same_rank : (t n : ℕ) (cpu : Processor) (threads : List (Option Thread)) (mutexes : List (Option Mutex))
    → effective_of (pool_changed t (computed n cpu) threads) mutexes ≡ effective_of threads mutexes
same_rank t n cpu threads mutexes =
    let new : List (Option Thread) = pool_changed t (computed n cpu) threads in
    let waits : (u : ℕ) → awaited (pool_get new u) ≡ awaited (pool_get threads u) = changed_same awaited t (computed n cpu) threads (computed_waits n cpu (pool_get threads t)) in
    let levels : (u : ℕ) → level_of (pool_get new u) ≡ level_of (pool_get threads u) = changed_same level_of t (computed n cpu) threads (computed_level n cpu (pool_get threads t)) in
    let next : next_in_chain new mutexes ≡ next_in_chain threads mutexes = λ i u. option_and_then (λ m. inheritor_of (pool_get mutexes m)) (waits u i) in
    let held : held_of new mutexes ≡ held_of threads mutexes = λ i u. fold (λ most m. max most (ceiling_for u m)) (levels u i) mutexes in
    λ i u. greatest_leading (length-changed t (computed n cpu) threads i) (next i) (held i) u

-- ---- deadlines

computed_deadline : (n : ℕ) (cpu : Processor) (o : Option Thread) → deadline_at (option_map (computed n cpu) o) ≡ deadline_at o
computed_deadline n cpu None = refl
computed_deadline n cpu (Some thread) = refl

deadlines_at : (i n : ℕ) (cpu : Processor) (threads : List (Option Thread)) → map deadline_at (pool_changed (suc i) (computed n cpu) threads) ≡ map deadline_at threads
deadlines_at i n cpu [] = refl
deadlines_at zero n cpu (o ∷ threads) = ap (λ (d : Option ℕ). d ∷ map deadline_at threads) (computed_deadline n cpu o)
deadlines_at (suc i) n cpu (o ∷ threads) = ap (λ (ds : List (Option ℕ)). deadline_at o ∷ ds) (deadlines_at i n cpu threads)

same_deadlines : (t n : ℕ) (cpu : Processor) (threads : List (Option Thread)) → map deadline_at (pool_changed t (computed n cpu) threads) ≡ map deadline_at threads
same_deadlines zero n cpu threads = refl
same_deadlines (suc i) n cpu threads = deadlines_at i n cpu threads

pub same_due : (k t n : ℕ) (c : Core) (last : Option Entry) (s : Part) → due k (with_row t n c last s) ≡ due k s
same_due k t n c last s = ap (λ (deadlines : List (Option ℕ)). filter (λ a. nat_le a.deadline k) (filter_map expiry_of (enumerate_from 1 deadlines))) (same_deadlines t n c.cpu s.threads)

-- ---- one step

within_more : (policy : Policy) (used stop interval tick : ℕ) → (is_round_robin policy ≡ true → used + stop < interval + tick) → is_round_robin policy ≡ true → used_after policy used 1 + stop < interval + (tick + 1)
within_more Fifo used stop interval tick h e = absurd (let no : ⊥ = cc in no)
within_more RoundRobin used stop interval tick h e = let lt : used + stop < interval + tick = h e in omega (arith, lt)

step_quiet : (limits : Limits) (tick stop t : ℕ) (thread : Thread) (last : Option Entry) (s : Part) → IsQuiet limits tick stop t thread s → is_plain (core_of thread s) ≡ true
    → IsQuiet limits (tick + 1) stop t (computed 1 (plain_step (core_of thread s)).cpu thread) (with_row t 1 (plain_step (core_of thread s)) last s)
step_quiet limits tick stop t thread last s quiet plain =
    let next : Core = plain_step (core_of thread s) in
    record {
      active = quiet.active;
      none_comes = quiet.none_comes;
      none_expires = λ k lt. same_due k t 1 next last s ∙ quiet.none_expires k lt;
      chosen = ap (λ (rank : ℕ → ℕ). stays_before rank t (first_of_greatest rank s.line)) (same_rank t 1 next.cpu s.threads s.mutexes) ∙ quiet.chosen;
      running = quiet.running;
      in_use = changed_own t (computed 1 next.cpu) s.threads ∙ ap (option_map (computed 1 next.cpu)) quiet.in_use;
      lives = quiet.lives;
      goes_on = quiet.goes_on;
      within = within_more thread.policy thread.used stop limits.interval tick quiet.within;
      gate = let same : length next.memory ≡ length s.memory = plain_length (core_of thread s) plain in rw same quiet.gate;
    }

-- ---- a row

row_quiet_by : (limits : Limits) (tick stop t n : ℕ) (thread : Thread) (s : Part) → IsQuiet limits tick stop t thread s → 1 ≤ n → ArePlain n (core_of thread s) → IsQuiet limits (tick + n) stop t (thread_after n thread s) (after_row tick t n thread s)
unfolding plain_steps
row_quiet_by limits tick stop t zero thread s quiet le plain = absurd (omega (arith, le))
row_quiet_by limits tick stop t (suc zero) thread s quiet le plain =
    let c : Core = core_of thread s in
    step_quiet limits tick stop t thread (Some (entry_after tick t 0 c)) s quiet (plain 0 (omega arith))
row_quiet_by limits tick stop t (suc (suc n)) thread s quiet le plain =
    let a : Core = plain_steps (suc n) (core_of thread s) in
    let b : Core = plain_step a in
    let last : Option Entry = Some (entry_after tick t (suc n) (core_of thread s)) in
    let u : Thread = thread_after (suc n) thread s in
    let v : Part = after_row tick t (suc n) thread s in
    let before : IsQuiet limits (tick + suc n) stop t u v = row_quiet_by limits tick stop t (suc n) thread s quiet (omega arith) (λ k lt. plain k (omega (arith, lt))) in
    let one : IsQuiet limits (tick + suc n + 1) stop t (computed 1 b.cpu u) (with_row t 1 b last v) = step_quiet limits (tick + suc n) stop t u last v before (plain (suc n) (omega arith)) in
    let later : tick + suc n + 1 ≡ tick + suc (suc n) = omega arith in
    subst (λ (k : ℕ). IsQuiet limits k stop t (computed (suc (suc n)) b.cpu thread) (with_row t (suc (suc n)) b last s)) later
    (subst (λ (w : Thread). IsQuiet limits (tick + suc n + 1) stop t w (with_row t (suc (suc n)) b last s)) (computed_more (suc n) a.cpu b.cpu thread)
    (subst (λ (w : Part). IsQuiet limits (tick + suc n + 1) stop t (computed 1 b.cpu u) w) (row_more t (suc n) a b v.last last s) one))

pub row_stays : (limits : Limits) (tick stop t n : ℕ) (thread : Thread) (s : Part) → RowStaysQuiet limits tick stop t n thread s
row_stays limits tick stop t n thread s quiet le more plain = row_quiet_by limits tick stop t n thread s quiet le plain
