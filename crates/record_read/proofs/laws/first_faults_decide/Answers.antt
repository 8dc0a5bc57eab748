use Rattle.record_read.proofs.FirstFaults.{first_faults_decide}
use Rattle.record_read.proofs.laws.first_faults_decide.Goals as goal

pub returns : goal.returns
returns c = first_faults_decide
