-- The stored priorities choose as the effective ones do, and what the line's choice is.
use Rattle.std.proofs.Common.{◌≡◌, ℕ, List, refl, sym, ◌∙◌, ap, subst}
use Rattle.std.specs.Prelude.{Option, Some, None, IsSome}
use Rattle.std.proofs.lemmas.List.{set-get_or}
use Rattle.ptk_words.specs.Pools.{pool_get, first_of_greatest}
use Rattle.ptk_words.specs.declared.threads.Thread.{Thread}
use Rattle.ptk_words.proofs.Pools.{used_number}
use Rattle.ptk_words.specs.Parts.{part_of}
use Rattle.ptk_words_model.specs.State.{Mutex, Part}
use Rattle.ptk_words_model.specs.Decision.{first_waiter}
use Rattle.ptk_words_model.specs.Schedule.{first_ready, after_choice_between}
use Rattle.ptk_words_model.specs.Priority.{effective_of}
use Rattle.ptk_threads.specs.Table.{stored_of}
use Rattle.ptk_cond.proofs.Locked.{stored_at, first_same, ranks_same}
use Rattle.ptk_gate_pools.specs.Kept.{Kept, AreStored, AreInUse, part_at, put_part}

-- the stored priority of a thread in use is its effective one
pub stored_rank : (p t : ℕ) (stored : List (List ℕ)) (threads : List (List (Option Thread))) (mutexes : List (List (Option Mutex))) → AreStored stored threads mutexes → IsSome (pool_get (part_of threads p) t)
    → stored_of (part_of stored p) t ≡ effective_of (part_of threads p) (part_of mutexes p) t
stored_rank p t stored threads mutexes are used =
    let number = used_number t (part_of threads p) used in
    stored_at (part_of threads p) (part_of mutexes p) (part_of stored p) t (are.each p) number.0 number.1

-- so the first of the greatest is the same
stored_choice : (p : ℕ) (ts : List ℕ) (stored : List (List ℕ)) (threads : List (List (Option Thread))) (mutexes : List (List (Option Mutex))) → AreStored stored threads mutexes → AreInUse (part_of threads p) ts
    → first_of_greatest (stored_of (part_of stored p)) ts ≡ first_of_greatest (effective_of (part_of threads p) (part_of mutexes p)) ts
stored_choice p ts stored threads mutexes are used =
    first_same (stored_of (part_of stored p)) (effective_of (part_of threads p) (part_of mutexes p)) ts
    (ranks_same (stored_of (part_of stored p)) (effective_of (part_of threads p) (part_of mutexes p)) ts (λ t i. stored_rank p t stored threads mutexes are (used t i)))

pub stored_first : (p : ℕ) (o : Option ℕ) (ts : List ℕ) (stored : List (List ℕ)) (threads : List (List (Option Thread))) (mutexes : List (List (Option Mutex))) → o ≡ first_of_greatest (stored_of (part_of stored p)) ts → AreStored stored threads mutexes
    → AreInUse (part_of threads p) ts → o ≡ first_ready (record { threads = part_of threads p; line = ts; mutexes = part_of mutexes p })
stored_first p o ts stored threads mutexes e are used = e ∙ stored_choice p ts stored threads mutexes are used

-- the first waiter by the stored priorities
pub stored_waiter : (p : ℕ) (o : Option ℕ) (s : Part) (ws : List ℕ) (stored : List (List ℕ)) (threads : List (List (Option Thread))) (mutexes : List (List (Option Mutex))) → o ≡ first_of_greatest (stored_of (part_of stored p)) ws → ws ≡ s.console.waiters → AreStored stored threads mutexes
    → s.threads ≡ part_of threads p → s.mutexes ≡ part_of mutexes p → AreInUse s.threads s.console.waiters → o ≡ first_waiter s
stored_waiter p o s ws stored threads mutexes e ws_is are same pool used =
    e ∙ ap (first_of_greatest (stored_of (part_of stored p))) ws_is
    ∙ stored_choice p s.console.waiters stored threads mutexes are (subst (λ (ts : List (Option Thread)). AreInUse ts s.console.waiters) same used)
    ∙ ap (λ (ts : List (Option Thread)). first_of_greatest (effective_of ts (part_of mutexes p)) s.console.waiters) (sym same)
    ∙ ap (λ (ms : List (Option Mutex)). first_of_greatest (effective_of s.threads ms) s.console.waiters) (sym pool)

pub ruleset ranks = (stored_rank, stored_first)

-- a part put back as it was
pub put_same : (p : ℕ) (kept : Kept) → kept ≡ put_part p (part_at p kept) kept
put_same p kept =
    rw (
      set-get_or kept.memory p _,
      set-get_or kept.threads p _,
      set-get_or kept.lines p _,
      set-get_or kept.mutexes p _,
      set-get_or kept.conditions p _,
      set-get_or kept.running p _,
      set-get_or kept.cancellations p _,
      set-get_or kept.cleanups p _,
      set-get_or kept.destructors p _,
      set-get_or kept.values p _,
      set-get_or kept.rounds p _,
      set-get_or kept.consoles p _,
      set-get_or kept.statuses p _,
      set-get_or kept.lasts p _,
    ) refl

-- an empty line changes nothing
pub choice_none : (p : ℕ) (running o : Option ℕ) (kept : Kept) → o ≡ None → kept ≡ put_part p (after_choice_between running o (part_at p kept)) kept
choice_none p running None kept e = put_same p kept
choice_none p running (Some t) kept e = absurd (let no : ⊥ = cc in no)

pub ruleset same = (put_same, choice_none)
