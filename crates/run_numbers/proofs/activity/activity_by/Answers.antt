-- A process that waits for something waits, unless it suspended itself.
use Rattle.run_numbers.proofs.Doing.{doing_by}
use Rattle.run_numbers.proofs.activity.activity_by.Goals as goal

pub returns-in_default : goal.returns-in_default
returns-in_default c = doing_by c.args.wait c.in_default.not-Nothing c.in_default.not-Suspended
