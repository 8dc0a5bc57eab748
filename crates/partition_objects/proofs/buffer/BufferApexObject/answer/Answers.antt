use Rattle.std.proofs.Common.{rules}
use Rattle.partition_objects.proofs.buffer.BufferApexObject.answer.Goals as goal

pub returns-in-Send : goal.returns-in-Send
returns-in-Send c = let given = c.answer_to_send.ensures c.in-Send.message in search (rules, given)
