use Rattle.verdict_merge.proofs.Refusing.{verdict_is_of_the_machine}
use Rattle.verdict_merge.proofs.laws.verdict_is_of_the_machine.Goals as goal

pub returns : goal.returns
returns c = verdict_is_of_the_machine
