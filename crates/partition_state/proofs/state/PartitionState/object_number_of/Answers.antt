-- Each kind has a table of its own.
use Rattle.std.proofs.Common.{rules}
use Rattle.partition_state.proofs.state.PartitionState.object_number_of.Goals as goal

pub returns-in-Buffer : goal.returns-in-Buffer
returns-in-Buffer c = rw c.in-Buffer.is (search rules)

pub returns-in-Blackboard : goal.returns-in-Blackboard
returns-in-Blackboard c = rw c.in-Blackboard.is (search rules)

pub returns-in-Semaphore : goal.returns-in-Semaphore
returns-in-Semaphore c = rw c.in-Semaphore.is (search rules)

pub returns-in-Event : goal.returns-in-Event
returns-in-Event c = rw c.in-Event.is (search rules)

pub returns-in-Mutex : goal.returns-in-Mutex
returns-in-Mutex c = rw c.in-Mutex.is (search rules)

pub returns-in-SamplingPort : goal.returns-in-SamplingPort
returns-in-SamplingPort c = rw c.in-SamplingPort.is (search rules)

pub returns-in-QueuingPort : goal.returns-in-QueuingPort
returns-in-QueuingPort c = rw c.in-QueuingPort.is (search rules)
