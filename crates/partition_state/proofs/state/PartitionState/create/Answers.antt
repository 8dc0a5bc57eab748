-- What is demanded of a creation is demanded of its kind, and what is created comes after the others of its kind.
use Rattle.std.proofs.Common.{ap, rules}
use Rattle.std.proofs.lemmas.Int.{to_z-of_z}
use Rattle.std.proofs.lemmas.Result.{on_ok_weaker}
use mir.Syntax.{w64}
use mir.Val.{SFits}
use Rattle.partition_state.specs.contracts.state.PartitionState.{the_view}
use Rattle.partition_state.proofs.state.PartitionState.create.Goals as goal

pub returns-in-Buffer-clause-ok : goal.returns-in-Buffer-clause-ok
returns-in-Buffer-clause-ok c = rw (← c.self.view_is, c.in-Buffer.is) c.add_created.ensures.ok

pub returns-in-Buffer-clause-refused : goal.returns-in-Buffer-clause-refused
returns-in-Buffer-clause-refused c = rw (← c.self.view_is, c.in-Buffer.is) c.add_created.ensures.refused

pub returns-in-Buffer-clause-after : goal.returns-in-Buffer-clause-after
returns-in-Buffer-clause-after c =
    let size_fits : SFits w64 c.in-Buffer.size = search rules in
    let capacity_fits : SFits w64 c.in-Buffer.capacity = search rules in
    let discipline_fits : SFits w64 c.in-Buffer.discipline = search rules in
    rw (← c.self.view_is, c.in-Buffer.is)
    (on_ok_weaker c.add_created.result (ap (λ buffers. record (the_view c.self.inside) { buffers = buffers })) (c.add_created.ensures.after _ (simp to_z-of_z at c.new_buffer-made.ensures.made)))

pub returns-in-Blackboard-clause-ok : goal.returns-in-Blackboard-clause-ok
returns-in-Blackboard-clause-ok c = rw (← c.self.view_is, c.in-Blackboard.is) c.add_created-in-Blackboard.ensures.ok

pub returns-in-Blackboard-clause-refused : goal.returns-in-Blackboard-clause-refused
returns-in-Blackboard-clause-refused c = rw (← c.self.view_is, c.in-Blackboard.is) c.add_created-in-Blackboard.ensures.refused

pub returns-in-Blackboard-clause-after : goal.returns-in-Blackboard-clause-after
returns-in-Blackboard-clause-after c =
    let size_fits : SFits w64 c.in-Blackboard.size = search rules in
    rw (← c.self.view_is, c.in-Blackboard.is)
    (on_ok_weaker c.add_created-in-Blackboard.result (ap (λ blackboards. record (the_view c.self.inside) { blackboards = blackboards })) (c.add_created-in-Blackboard.ensures.after _ (simp to_z-of_z at c.new_blackboard.ensures.made)))

pub returns-in-Semaphore-clause-ok : goal.returns-in-Semaphore-clause-ok
returns-in-Semaphore-clause-ok c = rw (← c.self.view_is, c.in-Semaphore.is) c.add_created-in-Semaphore.ensures.ok

pub returns-in-Semaphore-clause-refused : goal.returns-in-Semaphore-clause-refused
returns-in-Semaphore-clause-refused c = rw (← c.self.view_is, c.in-Semaphore.is) c.add_created-in-Semaphore.ensures.refused

pub returns-in-Semaphore-clause-after : goal.returns-in-Semaphore-clause-after
returns-in-Semaphore-clause-after c =
    let value_fits : SFits w64 c.in-Semaphore.value = search rules in
    let maximum_fits : SFits w64 c.in-Semaphore.maximum = search rules in
    let discipline_fits : SFits w64 c.in-Semaphore.discipline = search rules in
    rw (← c.self.view_is, c.in-Semaphore.is)
    (on_ok_weaker c.add_created-in-Semaphore.result (ap (λ semaphores. record (the_view c.self.inside) { semaphores = semaphores })) (c.add_created-in-Semaphore.ensures.after _ (simp to_z-of_z at c.new_semaphore-made.ensures.made)))

pub returns-in-Event-clause-ok : goal.returns-in-Event-clause-ok
returns-in-Event-clause-ok c = rw (← c.self.view_is, c.in-Event.is) c.add_created-in-Event.ensures.ok

pub returns-in-Event-clause-refused : goal.returns-in-Event-clause-refused
returns-in-Event-clause-refused c = rw (← c.self.view_is, c.in-Event.is) c.add_created-in-Event.ensures.refused

pub returns-in-Event-clause-after : goal.returns-in-Event-clause-after
returns-in-Event-clause-after c =
    rw (← c.self.view_is, c.in-Event.is)
    (on_ok_weaker c.add_created-in-Event.result (ap (λ events. record (the_view c.self.inside) { events = events })) (c.add_created-in-Event.ensures.after _ c.new_event.ensures.made))

pub returns-in-Mutex-clause-ok : goal.returns-in-Mutex-clause-ok
returns-in-Mutex-clause-ok c = rw (← c.self.view_is, c.in-Mutex.is) c.add_created-in-Mutex.ensures.ok

pub returns-in-Mutex-clause-refused : goal.returns-in-Mutex-clause-refused
returns-in-Mutex-clause-refused c = rw (← c.self.view_is, c.in-Mutex.is) c.add_created-in-Mutex.ensures.refused

pub returns-in-Mutex-clause-after : goal.returns-in-Mutex-clause-after
returns-in-Mutex-clause-after c =
    let priority_fits : SFits w64 c.in-Mutex.priority = search rules in
    let discipline_fits : SFits w64 c.in-Mutex.discipline = search rules in
    rw (← c.self.view_is, c.in-Mutex.is)
    (on_ok_weaker c.add_created-in-Mutex.result (ap (λ mutexes. record (the_view c.self.inside) { mutexes = mutexes })) (c.add_created-in-Mutex.ensures.after _ (simp to_z-of_z at c.new_mutex-made.ensures.made)))

pub returns-in-Some-clause-ok : goal.returns-in-Some-clause-ok
returns-in-Some-clause-ok c = rw (← c.self.view_is, c.in-SamplingPort.is) c.create.ensures.ok

pub returns-in-Some-clause-refused : goal.returns-in-Some-clause-refused
returns-in-Some-clause-refused c = rw (← c.self.view_is, c.in-SamplingPort.is) c.create.ensures.refused

pub returns-in-Some-queuing_port-clause-ok : goal.returns-in-Some-queuing_port-clause-ok
returns-in-Some-queuing_port-clause-ok c = rw (← c.self.view_is, c.in-QueuingPort.is) c.create-in-QueuingPort.ensures.ok

pub returns-in-Some-queuing_port-clause-refused : goal.returns-in-Some-queuing_port-clause-refused
returns-in-Some-queuing_port-clause-refused c = rw (← c.self.view_is, c.in-QueuingPort.is) c.create-in-QueuingPort.ensures.refused

pub returns-in-Some-clause-after : goal.returns-in-Some-clause-after
returns-in-Some-clause-after c =
    rw (← c.self.view_is, c.in-SamplingPort.is, ← c.sampling_port.ensures, c.in-Some.is)
    (on_ok_weaker c.create.result (ap (λ ports. record (the_view c.self.inside) { sampling_ports = ports })) (rw c.settings_of-settings.ensures at c.create.ensures.created))

pub returns-in-Some-queuing_port-clause-after : goal.returns-in-Some-queuing_port-clause-after
returns-in-Some-queuing_port-clause-after c =
    rw (← c.self.view_is, c.in-QueuingPort.is, ← c.queuing_port.ensures, c.in-Some-queuing_port.is)
    (on_ok_weaker c.create-in-QueuingPort.result (ap (λ ports. record (the_view c.self.inside) { queuing_ports = ports })) (rw c.settings_of-settings-in-QueuingPort.ensures at c.create-in-QueuingPort.ensures.created))
