use Rattle.record_read.proofs.GrammarRows.{one_record_of_a_row}
use Rattle.record_read.proofs.laws.one_record_of_a_row.Goals as goal

pub returns : goal.returns
returns c = one_record_of_a_row
