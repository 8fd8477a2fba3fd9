use Rattle.ptk_words_model.specs.Instructions.{instruction_table}
use Rattle.ptk_words_model.proofs.RowLaws.{pairs_apart, table_apart}
use Rattle.ptk_words_model.proofs.instruction_laws.no_word_agrees_twice.Goals as goal

pub returns : goal.returns
returns c = pairs_apart instruction_table table_apart
