use Rattle.ptk_ready.proofs.Partitions.{built_empty, built_filed}
use Rattle.ptk_ready.proofs.linked_line.LinkedLine.build.Goals as goal

pub returns-clause-empty : goal.returns-clause-empty
returns-clause-empty g c = λ table same unused.
    built_empty g.row.LIMIT c.args.parts c.in_ok-entries.entries.items c.new.result table (c.in_ok-entries.ensures.items_if_clones_equal (λ y e. e)) unused

pub returns-clause-sound : goal.returns-clause-sound
returns-clause-sound g c = λ table same unused.
    built_filed g.row.LIMIT c.args.parts c.in_ok-entries.entries.items c.new.result table (c.in_ok-entries.ensures.items_if_clones_equal (λ y e. e)) same unused c.new.ensures
