use Rattle.std.proofs.Common.{rules}
use Rattle.channel.proofs.queuing.QueuingChannel.apply.Goals as goal
use Rattle.channel.proofs.queuing.QueuingChannel.apply.Goals.{in-Send, in-Receive, in-Clear}

pub returns-clause-after : goal.returns-clause-after
returns-clause-after c =
    elim c.match-operation.branch [
      | in-Send w ↦ search rules
      | in-Receive w ↦ search rules
      | in-Clear w ↦ search rules
    ]
