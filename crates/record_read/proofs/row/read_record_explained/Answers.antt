use Rattle.record_read.proofs.FirstFaults.{explains_column, explains_refusal}
use Rattle.record_read.proofs.row.read_record_explained.Goals as goal

pub returns-clause-refused : goal.returns-clause-refused
returns-clause-refused c = explains_refusal c.args.format c.args.next c.args.fields.now c.read_record.result c.read_record.ensures.refused

pub returns-clause-column : goal.returns-clause-column
returns-clause-column c = explains_column c.args.format c.args.next c.args.fields.now c.read_record.result c.read_record.ensures.refused
