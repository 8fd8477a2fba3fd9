use Rattle.std.proofs.Common.{◌≡◌, ◌+◌, ◌<◌, ◌≤◌, Some, inl, inr, sym, subst, arith}
use Rattle.std.proofs.lemmas.Bool.{cases_lt}
use Rattle.ptk_words_laws.specs.Idle.{IsIdle}
use Rattle.ptk_system.specs.World.{state_of}
use Rattle.ptk_system.proofs.Stays.{jump_unseen, next_unseen, stays_jump, stays_next}
use Rattle.ptk_system.proofs.system.System.stays_until.Goals as goal

pub returns-then-ticks-clause-stays : goal.returns-then-ticks-clause-stays
returns-then-ticks-clause-stays c = λ k from le.
    let due : (state_of c.args.self.now c.args.p).account.next ≡ Some c.in-Some.next = cc in
    let before : c.in-Some.next < c.idle_from-until.result = omega arith in
    let idle = c.idle_from-until.ensures.idle before in
    stays_jump c.args.self.now c.args.p c.in-Some.next c.idle_from-until.result k _ c.states_are_alone.ensures.configured c.states_are_alone.ensures.all c.requires
    due (c.tables.ensures.states c.args.p c.requires) idle.1 before (λ j at below. c.first_own.ensures.others j at (omega (arith, below, le))) from

pub returns-then-ticks-clause-latest : goal.returns-then-ticks-clause-latest
returns-then-ticks-clause-latest c = λ early k le unchanged.
    let due : (state_of c.args.self.now c.args.p).account.next ≡ Some c.in-Some.next = cc in
    let before : c.in-Some.next < c.idle_from-until.result = omega arith in
    let idle = c.idle_from-until.ensures.idle before in
    elim (cases_lt c.first_own.result k) [
      | inl beyond ↦
          let own = c.first_own.ensures.own early (omega (arith, beyond, le)) in
          let found : IsIdle (c.first_own.result + 1) (state_of c.args.self.now c.args.p).part =
          jump_unseen c.args.self.now c.args.p c.in-Some.next c.idle_from-until.result c.first_own.result k _ c.states_are_alone.ensures.configured c.states_are_alone.ensures.all c.requires
          due (c.tables.ensures.states c.args.p c.requires) idle.1 before c.first_own.ensures.from c.first_own.ensures.others own beyond unchanged in
          let again : c.first_own.result + 1 ≤ c.idle_from-until.result =
          c.idle_from-until.ensures.full (c.first_own.result + 1) (omega (arith, beyond, le)) (subst (IsIdle (c.first_own.result + 1)) (sym (c.tables.ensures.states c.args.p c.requires)) found) in
          absurd (omega (arith, again, c.first_own.ensures.from))
      | inr within ↦ within
    ]

pub returns-then-ticks-2-clause-stays : goal.returns-then-ticks-2-clause-stays
returns-then-ticks-2-clause-stays c = λ k from le.
    stays_next c.args.self.now c.args.p k c.states_are_alone.ensures.all c.requires (λ j e. let same : c.in-Some.next ≡ j = cc in omega (arith, same, le)) from

pub returns-then-ticks-2-clause-latest : goal.returns-then-ticks-2-clause-latest
returns-then-ticks-2-clause-latest c = λ early k le unchanged.
    let due : (state_of c.args.self.now c.args.p).account.next ≡ Some c.in-Some.next = cc in
    elim (cases_lt c.in-Some.next k) [
      | inl beyond ↦
          let found : IsIdle (c.in-Some.next + 1) (state_of c.args.self.now c.args.p).part =
          next_unseen c.args.self.now c.args.p c.in-Some.next k c.states_are_alone.ensures.configured c.states_are_alone.ensures.all c.requires due beyond unchanged in
          let again : c.in-Some.next + 1 ≤ c.idle_from-until.result =
          c.idle_from-until.ensures.full (c.in-Some.next + 1) (omega (arith, beyond, le)) (subst (IsIdle (c.in-Some.next + 1)) (sym (c.tables.ensures.states c.args.p c.requires)) found) in
          absurd (omega (arith, again, c.if-ticks.false))
      | inr within ↦ within
    ]

pub returns-else-ticks-2-clause-stays : goal.returns-else-ticks-2-clause-stays
returns-else-ticks-2-clause-stays c = λ k from le.
    stays_next c.args.self.now c.args.p k c.states_are_alone.ensures.all c.requires (λ j e. let same : c.in-Some.next ≡ j = cc in omega (arith, same, le, c.if-ticks-2.false)) from

pub returns-in-None-clause-stays : goal.returns-in-None-clause-stays
returns-in-None-clause-stays c = λ k from le.
    stays_next c.args.self.now c.args.p k c.states_are_alone.ensures.all c.requires (λ j e. absurd cc) from
