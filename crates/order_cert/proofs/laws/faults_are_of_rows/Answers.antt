use Rattle.std.proofs.Common.{subst}
use Rattle.order_cert.proofs.RowFaults.{HasFaultOfRow, item_read}
use Rattle.order_cert.proofs.laws.faults_are_of_rows.Goals as goal

pub returns : goal.returns
returns c = λ number fields fault e. subst HasFaultOfRow e (item_read number fields)
