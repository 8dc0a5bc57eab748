use Rattle.core_intake.proofs.Relays.{begins}
use Rattle.core_intake.proofs.channel.channel_of.Goals as goal

pub bounded_with-requires-clause-rule : goal.bounded_with-requires-clause-rule
bounded_with-requires-clause-rule c = begins
