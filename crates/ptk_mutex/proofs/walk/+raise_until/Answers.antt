use Rattle.std.proofs.Common.{◌≡◌, ◌-◌, ℕ, sym, ◌∙◌, ap, subst, arith}
use Rattle.std.specs.Prelude.{Option}
use Rattle.ptk_words.specs.Parts.{part_of}
use Rattle.ptk_mutex.specs.Visits.{reads}
use Rattle.ptk_mutex.specs.Rosters.{next_at}
use Rattle.ptk_mutex.proofs.Rosters.{walked, set_at, walk_stops, walk_goes, counts_on}
use Rattle.ptk_mutex.proofs.walk.+raise_until.Goals as goal

pub returns-then-visit-priority-clause-stored : goal.returns-then-visit-priority-clause-stored
returns-then-visit-priority-clause-stored t c =
    walk_stops (next_at c.args.p c.args.roster.now) c.args.priority c.args.fuel c.args.u c.args.p c.args.roster.now (omega (arith, c.visit.ensures.told, c.if-visit-priority.true))

pub returns-in-Some-clause-stored : goal.returns-in-Some-clause-stored
returns-in-Some-clause-stored t c =
    let mid : c.set_priority.new.self ≡ set_at c.args.p c.args.u c.args.priority c.args.roster.now = c.set_priority.ensures ∙ ap (λ l. set_at c.args.p c.args.u l c.args.roster.now) c.new.ensures in
    let same : next_at c.args.p c.set_priority.new.self ≡ next_at c.args.p c.args.roster.now = ap (next_at c.args.p) mid in
    walk_goes (next_at c.args.p c.args.roster.now) c.args.priority c.args.fuel c.args.u c.in-Some.v c.args.p c.args.roster.now c.set_priority.new.self c.raise_until.new.roster
    (omega (arith, c.if-fuel-eq0.false)) (omega (arith, c.visit.ensures.told, c.if-visit-priority.false))
    (sym (c.next_in.ensures ∙ ap (λ (next : ℕ → Option ℕ). next c.args.u) same) ∙ c.in-Some.is) mid
    (subst (λ (next : ℕ → Option ℕ). c.raise_until.new.roster ≡ walked next c.args.priority (c.args.fuel - 1) c.in-Some.v c.args.p c.set_priority.new.self) same c.raise_until.ensures.stored)

pub returns-in-Some-clause-visited : goal.returns-in-Some-clause-visited
returns-in-Some-clause-visited t c =
    let mid : c.set_priority.new.self ≡ set_at c.args.p c.args.u c.args.priority c.args.roster.now = c.set_priority.ensures ∙ ap (λ l. set_at c.args.p c.args.u l c.args.roster.now) c.new.ensures in
    let same : next_at c.args.p c.set_priority.new.self ≡ next_at c.args.p c.args.roster.now = ap (next_at c.args.p) mid in
    let on = counts_on (next_at c.args.p c.args.roster.now) c.args.priority c.args.fuel c.args.u c.in-Some.v c.args.p c.args.roster.now c.set_priority.new.self
    (omega (arith, c.if-fuel-eq0.false)) (omega (arith, c.visit.ensures.told, c.if-visit-priority.false))
    (sym (c.next_in.ensures ∙ ap (λ (next : ℕ → Option ℕ). next c.args.u) same) ∙ c.in-Some.is) mid in
    let rest = ap (λ (next : ℕ → Option ℕ). reads next c.args.priority (c.args.fuel - 1) c.in-Some.v (part_of c.set_priority.new.self.table.stored c.args.p)) same in
    omega (arith, c.raise_until.ensures.visited, c.visit.ensures.counted, on, rest)
