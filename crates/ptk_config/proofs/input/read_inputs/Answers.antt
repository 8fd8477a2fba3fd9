use Rattle.std.proofs.Common.{◌≡◌, ◌≤◌, ◌-◌, ap, arith, Err}
use Rattle.toml.specs.View.{view}
use Rattle.ptk_config.specs.Inputs.{Input, byte_count, input, input_in}
use Rattle.ptk_config.proofs.Walks.{each_after-end, each_after-fault, passed_on}
use Rattle.ptk_config.proofs.Inputs.{inputs, IsInOrder-more, IsInput-arrivals_of}
use Rattle.ptk_config.proofs.input.read_inputs.Goals as goal

pub loop-value-preserved : goal.loop-value-preserved
loop-value-preserved c =
    let tick : c.input.inside.tick ≡ c.in_ok-input.input.tick = ap (λ (i : Input). i.tick) c.input.view_is in
    record {
      walk = grind (arith, inputs);
      last = grind (arith, inputs);
      count = grind (arith, inputs);
      room = grind (arith, inputs);
      in_time = grind (arith, inputs);
      order =
          IsInOrder-more c.loop-value.last c.input.inside.tick c.loop-value.inputs.items c.push.new.self.items c.in_ok-input.input
          c.loop-value.invariant.order (omega (arith, c.in_ok-input.ensures.from)) tick c.in_ok-push.ensures.items;
    }

pub returns-clause-value : goal.returns-clause-value
returns-clause-value c =
    each_after-end input_in c.loop-value.inputs.items c.args.values.now c.loop-value.value-index _ c.loop-value-test.false c.loop-value.invariant.walk

pub returns-clause-ranges : goal.returns-clause-ranges
returns-clause-ranges c =
    let few : byte_count c.loop-value.inputs.items ≤ 65536 = omega (arith, c.loop-value.invariant.count, c.loop-value.invariant.room) in
    IsInput-arrivals_of c.loop-value.last c.loop-value.inputs.items c.loop-value.invariant.order c.loop-value.invariant.in_time few

pub returns-in_err-input-clause-value : goal.returns-in_err-input-clause-value
returns-in_err-input-clause-value c =
    passed_on _ c.from_residual.result c.in_err-input.field-0.0 _ c.from_residual.ensures.1
    (λ other.
    let read : input c.loop-value.last (65536 - c.loop-value.count) (view c.value-item.result) ≡ Err c.in_err-input.field-0.0 = c.in_err-input.ensures.value other in
    each_after-fault input_in c.loop-value.inputs.items c.in_err-input.field-0.0 c.args.values.now c.loop-value.value-index c.value-item.result _
    c.loop-value-test.true c.value-item.is (rw (c.loop-value.invariant.last, c.loop-value.invariant.count) at read) c.loop-value.invariant.walk)
