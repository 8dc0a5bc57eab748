-- A process that waits at an object has an entry in only one of its sets.
use Rattle.apex_types.specs.declared.object_kind.ObjectKind.TheVariants as kind
use Rattle.partition_state.proofs.Leavers.{left_at, port_left}
use Rattle.partition_state.proofs.state.PartitionState.leave_object.Goals as goal

pub returns-in-Buffer : goal.returns-in-Buffer
returns-in-Buffer c =
    let objects = rw (← c.self.view_is) at c.requires.objects in
    let alone = rw (← c.self.view_is) at c.requires.alone in
    rw (← c.self.view_is)
    (left_at kind.Buffer c.args.who c.args.wanted _ _ objects alone c.in-Buffer.is c.leave.ensures)

pub returns-in-Blackboard : goal.returns-in-Blackboard
returns-in-Blackboard c =
    let objects = rw (← c.self.view_is) at c.requires.objects in
    let alone = rw (← c.self.view_is) at c.requires.alone in
    rw (← c.self.view_is)
    (left_at kind.Blackboard c.args.who c.args.wanted _ _ objects alone c.in-Blackboard.is c.leave-in-Blackboard.ensures)

pub returns-in-Semaphore : goal.returns-in-Semaphore
returns-in-Semaphore c =
    let objects = rw (← c.self.view_is) at c.requires.objects in
    let alone = rw (← c.self.view_is) at c.requires.alone in
    rw (← c.self.view_is)
    (left_at kind.Semaphore c.args.who c.args.wanted _ _ objects alone c.in-Semaphore.is c.leave-in-Semaphore.ensures)

pub returns-in-Event : goal.returns-in-Event
returns-in-Event c =
    let objects = rw (← c.self.view_is) at c.requires.objects in
    let alone = rw (← c.self.view_is) at c.requires.alone in
    rw (← c.self.view_is)
    (left_at kind.Event c.args.who c.args.wanted _ _ objects alone c.in-Event.is c.leave-in-Event.ensures)

pub returns-in-Mutex : goal.returns-in-Mutex
returns-in-Mutex c =
    let objects = rw (← c.self.view_is) at c.requires.objects in
    let alone = rw (← c.self.view_is) at c.requires.alone in
    rw (← c.self.view_is)
    (left_at kind.Mutex c.args.who c.args.wanted _ _ objects alone c.in-Mutex.is c.leave-in-Mutex.ensures)

pub returns-in-SamplingPort : goal.returns-in-SamplingPort
returns-in-SamplingPort c =
    let objects = rw (← c.self.view_is) at c.requires.objects in
    let alone = rw (← c.self.view_is) at c.requires.alone in
    rw (← c.self.view_is) (port_left c.args.who c.args.wanted _ objects alone c.in-SamplingPort.is)
