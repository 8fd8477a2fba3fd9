use Rattle.std.proofs.Common.{◌≡◌, ◌∙◌, List, ap, sym, subst, length}
use Rattle.std.specs.Prelude.{Option, None, is_some, option_map}
use Rattle.ptk_words.specs.declared.threads.Thread.{Thread}
use Rattle.ptk_words.specs.Parts.{part_of}
use Rattle.ptk_words_model.specs.State.{Part}
use Rattle.ptk_words_model.specs.Withdrawal.{Expiry, deadlines_of}
use Rattle.ptk_words_sync_invariant.specs.Expiries.{next_expiry}
use Rattle.ptk_gate_pools.specs.Kept.{put_part, part_at, deadlines_in}
use Rattle.ptk_gate_pools.specs.Expired.{after_one_expiry}
use Rattle.ptk_cond.specs.Timeouts.{IsBlocked}
use Rattle.ptk_gate_pools.specs.Held.{Held, held, limits_here}
use Rattle.ptk_gate_pools.specs.Pooled.{kept_of}
use Rattle.ptk_gate_pools.proofs.Hands.{held-put}
use Rattle.ptk_gate_pools.proofs.Opened.{parts_of}
use Rattle.ptk_gate_pools.proofs.Changed.{tables_pooled, tables_put}
use Rattle.ptk_gate_pools.proofs.Expired.{expired_syncs, expired_move, some_mapped, none_mapped}
use Rattle.ptk_gate_pools.proofs.Synced.{synced_is, blocked_of}
use Rattle.ptk_gate_pools.proofs.pools.Pools.expire_next.Goals as goal

pub invariant_of-self : goal.invariant_of-self
invariant_of-self c =
    tables_pooled c.self.inside.hand (expired_syncs c.self.inside.hand c.in-Some.t c.self.inside) c.self.inside c.time_out.new.roster c.time_out.new.mutexes
    c.self.invariant.in_hand
    c.time_out.ensures.roster
    c.self.invariant

pub time_out-requires-clause-ready : goal.time_out-requires-clause-ready
time_out-requires-clause-ready c =
    let a = c.self.inside in
    let old = c.self.invariant in
    synced_is a.hand _ (limits_here c.args.self.now) c.args.self.now.here a.roster.table a.roster.lines a.roster.mutexes a.roster.conditions old.in_hand
    old.threads old.priorities old.lines old.mutexes old.conditions old.stored (ap (λ (pools : Held). pools.here.syncs) (sym c.self.view_is)) c.requires.well

pub time_out-requires-clause-blocked : goal.time_out-requires-clause-blocked
time_out-requires-clause-blocked c =
    subst (λ (pools : Held). IsBlocked pools.here.syncs c.in-Some.t) (sym c.self.view_is) (blocked_of (limits_here c.args.self.now) c.args.self.now.here c.in-Some.t c.requires.well)

pub returns-in-Some-clause-told : goal.returns-in-Some-clause-told
returns-in-Some-clause-told c =
    let due : c.first_due.result ≡ option_map (λ (x : Expiry). x.thread) (next_expiry c.args.tick (deadlines_of (part_at c.self.inside.hand (kept_of c.self.inside)).locks)) =
    c.first_due.ensures ∙ ap (λ (l : List (List (Option Thread))). option_map (λ (x : Expiry). x.thread) (next_expiry c.args.tick (deadlines_in (part_of l c.self.inside.hand)))) c.threads.ensures.threads in
    rw (← c.self.view_is) (some_mapped (λ (x : Expiry). x.thread) c.in-Some.t _ (sym c.in-Some.is ∙ due))

pub returns-in-Some-clause-moved : goal.returns-in-Some-clause-moved
returns-in-Some-clause-moved c =
    let due : c.first_due.result ≡ option_map (λ (x : Expiry). x.thread) (next_expiry c.args.tick (deadlines_of (part_at c.self.inside.hand (kept_of c.self.inside)).locks)) =
    c.first_due.ensures ∙ ap (λ (l : List (List (Option Thread))). option_map (λ (x : Expiry). x.thread) (next_expiry c.args.tick (deadlines_in (part_of l c.self.inside.hand)))) c.threads.ensures.threads in
    rw (← c.self.view_is)
    (
    ap (held c.self.inside.hand) (tables_put c.self.inside.hand (expired_syncs c.self.inside.hand c.in-Some.t c.self.inside) c.self.inside c.time_out.new.roster c.time_out.new.mutexes
    c.time_out.ensures.roster
    ∙ ap (λ (s : Part). put_part c.self.inside.hand s (kept_of c.self.inside)) (expired_move c.self.inside.hand c.in-Some.t c.args.tick c.self.inside (sym c.in-Some.is ∙ due)))
    ∙ held-put (length c.self.inside.limits.items) c.self.inside.hand _ (kept_of c.self.inside) (parts_of c.self.inside c.self.invariant) c.self.invariant.in_hand)

pub returns-in-None-clause-told : goal.returns-in-None-clause-told
returns-in-None-clause-told c =
    let due : c.first_due.result ≡ option_map (λ (x : Expiry). x.thread) (next_expiry c.args.tick (deadlines_of (part_at c.self.inside.hand (kept_of c.self.inside)).locks)) =
    c.first_due.ensures ∙ ap (λ (l : List (List (Option Thread))). option_map (λ (x : Expiry). x.thread) (next_expiry c.args.tick (deadlines_in (part_of l c.self.inside.hand)))) c.threads.ensures.threads in
    let none : next_expiry c.args.tick (deadlines_of (part_at c.self.inside.hand (kept_of c.self.inside)).locks) ≡ None = none_mapped (λ (x : Expiry). x.thread) _ (sym c.in-None.is ∙ due) in
    rw (← c.self.view_is) (ap is_some (sym none))

pub returns-in-None-clause-moved : goal.returns-in-None-clause-moved
returns-in-None-clause-moved c =
    let due : c.first_due.result ≡ option_map (λ (x : Expiry). x.thread) (next_expiry c.args.tick (deadlines_of (part_at c.self.inside.hand (kept_of c.self.inside)).locks)) =
    c.first_due.ensures ∙ ap (λ (l : List (List (Option Thread))). option_map (λ (x : Expiry). x.thread) (next_expiry c.args.tick (deadlines_in (part_of l c.self.inside.hand)))) c.threads.ensures.threads in
    let none : next_expiry c.args.tick (deadlines_of (part_at c.self.inside.hand (kept_of c.self.inside)).locks) ≡ None = none_mapped (λ (x : Expiry). x.thread) _ (sym c.in-None.is ∙ due) in
    rw (← c.self.view_is)
    (ap (λ (o : Option Expiry). record (held c.self.inside.hand (kept_of c.self.inside)) { here = after_one_expiry o (part_at c.self.inside.hand (kept_of c.self.inside)) }) (sym none))
