use Rattle.std.proofs.Common.{sym, ◌∙◌}
use Rattle.ptk_gate_moves.specs.Held.{limits_here}
use Rattle.ptk_gate_moves.proofs.Ready.{running_in_use}
use Rattle.ptk_words_invariant.specs.Rests.{timedwait_named}
use Rattle.ptk_gate_sync.proofs.Carried.{told_on, moved_on}
use Rattle.ptk_gate_sync.proofs.Namings.{timed_row}
use Rattle.ptk_gate_sync.proofs.waiting.cond_timedwait.Goals as goal

pub is_used_cancelled-requires : goal.is_used_cancelled-requires
is_used_cancelled-requires c = record { in_use = running_in_use (limits_here c.args.pools.now) c.args.pools.now.here c.args.i.now.caller c.requires.well c.requires.running }

pub returns-in-Ok-clause-told : goal.returns-in-Ok-clause-told
returns-in-Ok-clause-told c =
    told_on _ _ c.timedwait_named.result
    (timed_row c.args.i.now c.args.pools.now.here timedwait_named _ (sym c.is_pointer.ensures ∙ c.if-not-is_pointer.false) (sym c.is_pointer-2.ensures ∙ c.if-not-is_pointer-2.false) (sym c.is_pointer-3.ensures ∙ c.if-not-is_pointer-3.false) (sym c.is_used_cancelled.ensures ∙ c.if-is_used_cancelled.false) (c.in-Ok.ensures.call timedwait_named))
    c.timedwait_named.ensures.told

pub returns-in-Ok-clause-moved : goal.returns-in-Ok-clause-moved
returns-in-Ok-clause-moved c =
    moved_on c.named_both.new.pools.here _ _ c.args.pools.now c.named_both.new.pools c.timedwait_named.new.pools
    (timed_row c.args.i.now c.args.pools.now.here timedwait_named _ (sym c.is_pointer.ensures ∙ c.if-not-is_pointer.false) (sym c.is_pointer-2.ensures ∙ c.if-not-is_pointer-2.false) (sym c.is_pointer-3.ensures ∙ c.if-not-is_pointer-3.false) (sym c.is_used_cancelled.ensures ∙ c.if-is_used_cancelled.false) (c.in-Ok.ensures.call timedwait_named))
    c.in-Ok.ensures.moved c.timedwait_named.ensures.moved

pub returns-in-Err-clause-told : goal.returns-in-Err-clause-told
returns-in-Err-clause-told c =
    told_on _ _ c.refuse-in-Err.result
    (timed_row c.args.i.now c.args.pools.now.here timedwait_named _ (sym c.is_pointer.ensures ∙ c.if-not-is_pointer.false) (sym c.is_pointer-2.ensures ∙ c.if-not-is_pointer-2.false) (sym c.is_pointer-3.ensures ∙ c.if-not-is_pointer-3.false) (sym c.is_used_cancelled.ensures ∙ c.if-is_used_cancelled.false) (c.in-Err.ensures.call timedwait_named))
    c.refuse-in-Err.ensures.told

pub returns-in-Err-clause-moved : goal.returns-in-Err-clause-moved
returns-in-Err-clause-moved c =
    moved_on c.named_both.new.pools.here _ _ c.args.pools.now c.named_both.new.pools c.refuse-in-Err.new.pools
    (timed_row c.args.i.now c.args.pools.now.here timedwait_named _ (sym c.is_pointer.ensures ∙ c.if-not-is_pointer.false) (sym c.is_pointer-2.ensures ∙ c.if-not-is_pointer-2.false) (sym c.is_pointer-3.ensures ∙ c.if-not-is_pointer-3.false) (sym c.is_used_cancelled.ensures ∙ c.if-is_used_cancelled.false) (c.in-Err.ensures.call timedwait_named))
    c.in-Err.ensures.moved c.refuse-in-Err.ensures.moved
