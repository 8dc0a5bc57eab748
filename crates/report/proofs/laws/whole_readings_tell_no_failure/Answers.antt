use Rattle.report.proofs.Failures.{no_failure_is_reported}
use Rattle.report.proofs.laws.whole_readings_tell_no_failure.Goals as goal

pub returns : goal.returns
returns c = no_failure_is_reported
