use Rattle.std.proofs.Common.{◌≡◌, ℕ, ◌+◌, refl, sym, ap, ◌∙◌, arith}
use Rattle.ptk_words_model.specs.PlainSteps.{Core, core, is_plain, plain_steps}
use Rattle.ptk_words_model.proofs.PlainJoins.{plain_joined}
use Rattle.ptk_rv32i.proofs.RowsOfSteps.{none_yet}
use Rattle.ptk_words_laws.specs.Quiet.{last_after}
use Rattle.ptk_gate_memory.specs.TracedRows.{traced}
use Rattle.ptk_gate_memory.proofs.RowsTraced.{moved_joined, traced_joined, last_joined, none_traced}
use Rattle.ptk_gate_memory.proofs.traced.run_rest.Goals as goal

pub loop-steps-init : goal.loop-steps-init
loop-steps-init c =
    record {
      decoded = c.requires.decoded;
      few = omega arith;
      plain = λ k lt. absurd (omega (arith, lt));
      moved = none_yet _;
      traced = none_traced c.args.tick c.args.thread (core c.args.cpu.now c.args.memory.now) c.args.trace.now (omega (arith, c.capacity-capacity.ensures.within, c.capacity-capacity.ensures.value));
      last = refl;
    }

pub returns-then-more-lt-LEAST_PIECE-clause-plain : goal.returns-then-more-lt-LEAST_PIECE-clause-plain
returns-then-more-lt-LEAST_PIECE-clause-plain c =
    plain_joined c.loop-steps.steps c.run_piece-more.result (core c.args.cpu.now c.args.memory.now) c.loop-steps.invariant.plain (λ k lt. ap (λ (a : Core). is_plain (plain_steps k a)) (sym c.loop-steps.invariant.moved) ∙ c.run_piece-more.ensures.plain k lt)

pub returns-then-more-lt-LEAST_PIECE-clause-moved : goal.returns-then-more-lt-LEAST_PIECE-clause-moved
returns-then-more-lt-LEAST_PIECE-clause-moved c =
    moved_joined c.loop-steps.steps c.run_piece-more.result (core c.args.cpu.now c.args.memory.now) (core c.loop-steps.cpu c.loop-steps.memory) (core c.run_piece-more.new.cpu c.run_piece-more.new.memory) c.loop-steps.invariant.moved c.run_piece-more.ensures.moved

pub returns-then-more-lt-LEAST_PIECE-clause-traced : goal.returns-then-more-lt-LEAST_PIECE-clause-traced
returns-then-more-lt-LEAST_PIECE-clause-traced c =
    let when : c.new-now.result ≡ c.args.tick + c.loop-steps.steps = omega (arith, c.new-now.ensures, c.ticks.ensures, c.from.ensures) in
    traced_joined c.args.tick c.args.thread c.loop-steps.steps c.run_piece-more.result (core c.args.cpu.now c.args.memory.now) (core c.loop-steps.cpu c.loop-steps.memory) c.args.trace.now c.loop-steps.trace c.run_piece-more.new.trace c.loop-steps.invariant.moved c.loop-steps.invariant.traced
    (c.run_piece-more.ensures.traced ∙ ap (λ (k : ℕ). traced k c.args.thread c.run_piece-more.result (core c.loop-steps.cpu c.loop-steps.memory) c.loop-steps.trace) when)

pub returns-then-more-lt-LEAST_PIECE-clause-last : goal.returns-then-more-lt-LEAST_PIECE-clause-last
returns-then-more-lt-LEAST_PIECE-clause-last c =
    let when : c.new-now.result ≡ c.args.tick + c.loop-steps.steps = omega (arith, c.new-now.ensures, c.ticks.ensures, c.from.ensures) in
    last_joined c.args.tick c.args.thread c.loop-steps.steps c.run_piece-more.result (core c.args.cpu.now c.args.memory.now) (core c.loop-steps.cpu c.loop-steps.memory) c.args.last.now c.loop-steps.last c.run_piece-more.new.last c.loop-steps.invariant.moved c.loop-steps.invariant.last
    (c.run_piece-more.ensures.last ∙ ap (λ (k : ℕ). last_after k c.args.thread c.run_piece-more.result (core c.loop-steps.cpu c.loop-steps.memory) c.loop-steps.last) when)

pub loop-steps-preserved : goal.loop-steps-preserved
loop-steps-preserved c =
    let when : c.new-now.result ≡ c.args.tick + c.loop-steps.steps = omega (arith, c.new-now.ensures, c.ticks.ensures, c.from.ensures) in
    record {
      decoded = c.run_piece-more.ensures.decoded;
      few = omega (arith, c.run_piece-more.ensures.few, c.loop-steps-test.true);
      plain = plain_joined c.loop-steps.steps c.run_piece-more.result (core c.args.cpu.now c.args.memory.now) c.loop-steps.invariant.plain (λ k lt. ap (λ (a : Core). is_plain (plain_steps k a)) (sym c.loop-steps.invariant.moved) ∙ c.run_piece-more.ensures.plain k lt);
      moved = moved_joined c.loop-steps.steps c.run_piece-more.result (core c.args.cpu.now c.args.memory.now) (core c.loop-steps.cpu c.loop-steps.memory) (core c.run_piece-more.new.cpu c.run_piece-more.new.memory) c.loop-steps.invariant.moved c.run_piece-more.ensures.moved;
      traced = traced_joined c.args.tick c.args.thread c.loop-steps.steps c.run_piece-more.result (core c.args.cpu.now c.args.memory.now) (core c.loop-steps.cpu c.loop-steps.memory) c.args.trace.now c.loop-steps.trace c.run_piece-more.new.trace c.loop-steps.invariant.moved c.loop-steps.invariant.traced
          (c.run_piece-more.ensures.traced ∙ ap (λ (k : ℕ). traced k c.args.thread c.run_piece-more.result (core c.loop-steps.cpu c.loop-steps.memory) c.loop-steps.trace) when);
      last = last_joined c.args.tick c.args.thread c.loop-steps.steps c.run_piece-more.result (core c.args.cpu.now c.args.memory.now) (core c.loop-steps.cpu c.loop-steps.memory) c.args.last.now c.loop-steps.last c.run_piece-more.new.last c.loop-steps.invariant.moved c.loop-steps.invariant.last
          (c.run_piece-more.ensures.last ∙ ap (λ (k : ℕ). last_after k c.args.thread c.run_piece-more.result (core c.loop-steps.cpu c.loop-steps.memory) c.loop-steps.last) when);
    }
