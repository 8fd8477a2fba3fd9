use Rattle.std.proofs.Common.{◌≡◌, length, refl, sym, ◌∙◌, ap, subst, arith, ◌+◌, get_or}
use Rattle.ptk_words.specs.Parts.{part_of}
use Rattle.ptk_roster.specs.Rosters.{Rostered}
use Rattle.ptk_roster.proofs.Rosters.{level_at, pasted_more, pasted_all}
use Rattle.ptk_roster.proofs.roster.Roster.store_each.Goals as goal

pub store_one-requires-clause-in_range : goal.store_one-requires-clause-in_range
store_one-requires-clause-in_range c = level_at c.args.priorities.now c.loop-i.i (λ k. c.requires.levels.greatest k) c.loop-i-test.true

pub loop-i-preserved : goal.loop-i-preserved
loop-i-preserved c = record {
  table =
      pasted_more c.args.p c.loop-i.i c.new.result (get_or c.args.priorities.now c.loop-i.i 0) (c.loop-i.i + 1) c.args.priorities.now c.args.self.now.table c.loop-i.self.table c.store_one.new.self.table c.loop-i.invariant.table c.store_one.ensures.table (c.new.ensures ∙ omega arith)
      refl (subst (λ (n : Rostered). length (part_of n.table.stored c.args.p) ≡ length (part_of n.table.threads c.args.p)) c.self.view_is (sym (ap length c.stored-stored.ensures.priorities) ∙ c.stored-stored.ensures.same) ∙ sym c.requires.same)
      c.loop-i-test.true (omega arith);
  lines = c.store_one.ensures.lines ∙ c.loop-i.invariant.lines;
  mutexes = c.store_one.ensures.mutexes ∙ c.loop-i.invariant.mutexes;
  conditions = c.store_one.ensures.conditions ∙ c.loop-i.invariant.conditions;
}

pub returns-clause-table : goal.returns-clause-table
returns-clause-table c = c.loop-i.invariant.table ∙ pasted_all c.args.p c.loop-i.i c.args.priorities.now c.args.self.now.table (omega (arith, c.loop-i.auto.i-end, c.loop-i-test.false))
    (subst (λ (n : Rostered). length (part_of n.table.stored c.args.p) ≡ length (part_of n.table.threads c.args.p)) c.self.view_is (sym (ap length c.stored-stored.ensures.priorities) ∙ c.stored-stored.ensures.same) ∙ sym c.requires.same)
