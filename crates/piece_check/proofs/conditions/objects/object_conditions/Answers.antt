-- The conditions are those of the kind of the object.
use Rattle.std.proofs.Common.{rules}
use Rattle.piece_check.proofs.conditions.objects.object_conditions.Goals as goal

pub returns-in-Buffer : goal.returns-in-Buffer
returns-in-Buffer c = λ configuration now. search (rules, c.buffer_conditions.ensures configuration now)

pub returns-in-Blackboard : goal.returns-in-Blackboard
returns-in-Blackboard c = λ configuration now. search (rules, c.blackboard_conditions.ensures configuration now)

pub returns-in-Semaphore : goal.returns-in-Semaphore
returns-in-Semaphore c = λ configuration now. search (rules, c.semaphore_conditions.ensures configuration now)

pub returns-in-Event : goal.returns-in-Event
returns-in-Event c = λ configuration now. search (rules, c.event_conditions.ensures configuration now)

pub returns-in-Mutex : goal.returns-in-Mutex
returns-in-Mutex c = λ configuration now. search (rules, c.mutex_conditions.ensures configuration now)
