use Rattle.toml.specs.View.{table_view}
use Rattle.ptk_config.proofs.Faults.{never_text, never_order}
use Rattle.ptk_config.proofs.config.read_text.Goals as goal

pub returns-in-Ok-clause-text : goal.returns-in-Ok-clause-text
returns-in-Ok-clause-text c = never_text _ (table_view c.in-Ok.table) c.read_table.result c.read_table.ensures

pub returns-in-Ok-clause-order : goal.returns-in-Ok-clause-order
returns-in-Ok-clause-order c = never_order (table_view c.in-Ok.table) c.read_table.result c.read_table.ensures
