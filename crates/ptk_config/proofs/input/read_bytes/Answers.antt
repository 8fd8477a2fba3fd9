use Rattle.std.proofs.Common.{sym, arith}
use Rattle.ptk_config.specs.Reading.{integer}
use Rattle.ptk_config.proofs.Walks.{each_after-more, each_after-end}
use Rattle.ptk_config.proofs.input.read_bytes.Goals as goal

pub loop-value-preserved : goal.loop-value-preserved
loop-value-preserved c =
    record {
      walk = rw c.in_ok-push.ensures.items
          (each_after-more (λ _. integer 0 255) c.loop-value.bytes.items c.in_ok-byte.byte c.args.values.now c.loop-value.value-index c.value-item.result _
          c.loop-value-test.true c.value-item.is (sym c.in_ok-byte.ensures.value) c.loop-value.invariant.walk);
      count = omega (arith, c.in_ok-push.ensures.len, c.loop-value.invariant.count);
    }

pub returns-clause-value : goal.returns-clause-value
returns-clause-value c =
    each_after-end (λ _. integer 0 255) c.loop-value.bytes.items c.args.values.now c.loop-value.value-index _ c.loop-value-test.false c.loop-value.invariant.walk
