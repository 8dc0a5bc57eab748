use Rattle.record_read.proofs.GrammarRows.{rows_are_the_grammar}
use Rattle.record_read.proofs.laws.rows_are_the_grammar.Goals as goal

pub returns : goal.returns
returns c = rows_are_the_grammar
