-- PERIODIC_WAIT, REPLENISH and STOP_SELF end the work of their caller.
use Rattle.run_numbers.proofs.Worked.{no_end}
use Rattle.run_numbers.proofs.releases.observe_end.Goals as goal

pub returns-in_default : goal.returns-in_default
returns-in_default c =
    no_end c.args.now c.args.process.now c.args.call.now c.args.operation.now c.args.observed.now.items c.in_default.not-PeriodicWait c.in_default.not-Replenish c.in_default.not-StopSelf
