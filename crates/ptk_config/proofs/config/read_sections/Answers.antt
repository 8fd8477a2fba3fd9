use Rattle.std.proofs.Common.{arith}
use Rattle.ptk_config.proofs.Sections.{sections, AreInRange-more}
use Rattle.ptk_config.proofs.config.read_sections.Goals as goal

pub loop-value-preserved : goal.loop-value-preserved
loop-value-preserved c =
    record {
      walk = grind (arith, sections);
      count = grind (arith, sections);
      ranges =
          AreInRange-more c.loop-value.sections.items c.push.new.self.items c.in_ok-read_section.field-0
          c.loop-value.invariant.ranges c.in_ok-read_section.ensures.limits c.in_ok-read_section.ensures.input c.in_ok-push.ensures.items;
    }
