-- A wait for a time does not time out.
use Rattle.run_numbers.proofs.Ended.{no_time_out}
use Rattle.run_numbers.proofs.waits.times_out.Goals as goal

pub returns-in_default : goal.returns-in_default
returns-in_default c = no_time_out c.args.is_tick c.args.wait c.in_default.not-Suspended c.in_default.not-At c.in_default.not-ForLock
