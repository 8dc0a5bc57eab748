use Rattle.std.proofs.Common.{rules}
use Rattle.channel.proofs.queuing.QueuingChannel.answer.Goals as goal

pub returns-in-Send : goal.returns-in-Send
returns-in-Send c = let given = c.answer_to_send.ensures c.in-Send.message in search (rules, given)
