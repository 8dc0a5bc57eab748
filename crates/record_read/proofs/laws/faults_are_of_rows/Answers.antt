use Rattle.record_read.proofs.FirstFaults.{faults_are_of_rows}
use Rattle.record_read.proofs.laws.faults_are_of_rows.Goals as goal

pub returns : goal.returns
returns c = faults_are_of_rows
