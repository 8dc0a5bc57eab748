-- What an object gives is what the service gives, and the one object changes as its operation leaves it.
use Rattle.std.proofs.Common.{ap, rules, ◌∙◌}
use Rattle.std.proofs.lemmas.Int.{to_z-of_z}
use mir.Syntax.{w64}
use mir.Val.{SFits}
use Rattle.apex_types.specs.declared.operation.ObjectOperation.TheVariants as on
use Rattle.apex_types.specs.declared.request.Request.TheVariants as request
use Rattle.partition_state.specs.contracts.state.PartitionState.{the_view}
use Rattle.partition_state.proofs.Clear.{at_work}
use Rattle.partition_state.proofs.MutexTransfers.{mutex_accepted}
use Rattle.partition_state.proofs.ObjectCalls.{blackboard_new, blackboards_served, buffer_new, buffers_served, event_new, events_served, in_any, mutex_new, mutexes_served, semaphore_new, semaphores_served}
use Rattle.partition_state.proofs.state.PartitionState.use_one.Goals as goal

pub use_object-requires-clause-new : goal.use_object-requires-clause-new
use_object-requires-clause-new c =
    let fits : SFits w64 c.args.number = search rules in
    let ready = rw (← c.self.view_is) at c.requires.ready in
    simp to_z-of_z (rw c.caller_of-caller.ensures (buffer_new c.args.place _ c.args.call.now c.args.number (at_work _ _ _ _ _ _ ready.3)))

pub returns-in-Buffer-clause-ok : goal.returns-in-Buffer-clause-ok
returns-in-Buffer-clause-ok c =
    let fits : SFits w64 c.args.number = search rules in
    rw (← c.self.view_is, c.in-Buffer.is) (simp to_z-of_z at (rw c.caller_of-caller.ensures at c.use_object.ensures.ok))

pub returns-in-Buffer-clause-after : goal.returns-in-Buffer-clause-after
returns-in-Buffer-clause-after c =
    let fits : SFits w64 c.args.number = search rules in
    let ready = rw (← c.self.view_is) at c.requires.ready in
    rw (← c.self.view_is, c.in-Buffer.is)
    (in_any ready.0 c.args.place c.args.call.now c.args.number (on.Buffer c.in-Buffer.operation) (the_view c.self.inside) _ c.use_object.result
    (buffers_served ready.0 ready.1 c.args.place ready.2 _ c.args.call.now c.args.number c.in-Buffer.operation ready.3 (c.requires.asked ∙ ap (λ one. request.Object c.args.number one) c.in-Buffer.is) c.use_object.result _
    (simp to_z-of_z at (rw c.caller_of-caller.ensures at c.use_object.ensures.ok)) (simp to_z-of_z at (rw c.caller_of-caller.ensures at c.use_object.ensures.after))))

pub returns-in-Buffer-clause-refused : goal.returns-in-Buffer-clause-refused
returns-in-Buffer-clause-refused c =
    let fits : SFits w64 c.args.number = search rules in
    rw (← c.self.view_is, c.in-Buffer.is) (simp to_z-of_z at (rw c.caller_of-caller.ensures at c.use_object.ensures.refused))

pub use_object-requires-in-Blackboard-clause-new : goal.use_object-requires-in-Blackboard-clause-new
use_object-requires-in-Blackboard-clause-new c =
    let fits : SFits w64 c.args.number = search rules in
    let ready = rw (← c.self.view_is) at c.requires.ready in
    simp to_z-of_z (rw c.caller_of-caller.ensures (blackboard_new c.args.place _ c.args.call.now c.args.number (at_work _ _ _ _ _ _ ready.3)))

pub returns-in-Blackboard-clause-ok : goal.returns-in-Blackboard-clause-ok
returns-in-Blackboard-clause-ok c =
    let fits : SFits w64 c.args.number = search rules in
    rw (← c.self.view_is, c.in-Blackboard.is) (simp to_z-of_z at (rw c.caller_of-caller.ensures at c.use_object-in-Blackboard.ensures.ok))

pub returns-in-Blackboard-clause-after : goal.returns-in-Blackboard-clause-after
returns-in-Blackboard-clause-after c =
    let fits : SFits w64 c.args.number = search rules in
    let ready = rw (← c.self.view_is) at c.requires.ready in
    rw (← c.self.view_is, c.in-Blackboard.is)
    (in_any ready.0 c.args.place c.args.call.now c.args.number (on.Blackboard c.in-Blackboard.operation) (the_view c.self.inside) _ c.use_object-in-Blackboard.result
    (blackboards_served ready.0 ready.1 c.args.place ready.2 _ c.args.call.now c.args.number c.in-Blackboard.operation ready.3 (c.requires.asked ∙ ap (λ one. request.Object c.args.number one) c.in-Blackboard.is) c.use_object-in-Blackboard.result _
    (simp to_z-of_z at (rw c.caller_of-caller.ensures at c.use_object-in-Blackboard.ensures.ok)) (simp to_z-of_z at (rw c.caller_of-caller.ensures at c.use_object-in-Blackboard.ensures.after))))

pub returns-in-Blackboard-clause-refused : goal.returns-in-Blackboard-clause-refused
returns-in-Blackboard-clause-refused c =
    let fits : SFits w64 c.args.number = search rules in
    rw (← c.self.view_is, c.in-Blackboard.is) (simp to_z-of_z at (rw c.caller_of-caller.ensures at c.use_object-in-Blackboard.ensures.refused))

pub use_object-requires-in-Semaphore-clause-new : goal.use_object-requires-in-Semaphore-clause-new
use_object-requires-in-Semaphore-clause-new c =
    let fits : SFits w64 c.args.number = search rules in
    let ready = rw (← c.self.view_is) at c.requires.ready in
    simp to_z-of_z (rw c.caller_of-caller.ensures (semaphore_new c.args.place _ c.args.call.now c.args.number (at_work _ _ _ _ _ _ ready.3)))

pub returns-in-Semaphore-clause-ok : goal.returns-in-Semaphore-clause-ok
returns-in-Semaphore-clause-ok c =
    let fits : SFits w64 c.args.number = search rules in
    rw (← c.self.view_is, c.in-Semaphore.is) (simp to_z-of_z at (rw c.caller_of-caller.ensures at c.use_object-in-Semaphore.ensures.ok))

pub returns-in-Semaphore-clause-after : goal.returns-in-Semaphore-clause-after
returns-in-Semaphore-clause-after c =
    let fits : SFits w64 c.args.number = search rules in
    let ready = rw (← c.self.view_is) at c.requires.ready in
    rw (← c.self.view_is, c.in-Semaphore.is)
    (in_any ready.0 c.args.place c.args.call.now c.args.number (on.Semaphore c.in-Semaphore.operation) (the_view c.self.inside) _ c.use_object-in-Semaphore.result
    (semaphores_served ready.0 ready.1 c.args.place ready.2 _ c.args.call.now c.args.number c.in-Semaphore.operation ready.3 (c.requires.asked ∙ ap (λ one. request.Object c.args.number one) c.in-Semaphore.is) c.use_object-in-Semaphore.result _
    (simp to_z-of_z at (rw c.caller_of-caller.ensures at c.use_object-in-Semaphore.ensures.ok)) (simp to_z-of_z at (rw c.caller_of-caller.ensures at c.use_object-in-Semaphore.ensures.after))))

pub returns-in-Semaphore-clause-refused : goal.returns-in-Semaphore-clause-refused
returns-in-Semaphore-clause-refused c =
    let fits : SFits w64 c.args.number = search rules in
    rw (← c.self.view_is, c.in-Semaphore.is) (simp to_z-of_z at (rw c.caller_of-caller.ensures at c.use_object-in-Semaphore.ensures.refused))

pub use_object-requires-in-Event-clause-new : goal.use_object-requires-in-Event-clause-new
use_object-requires-in-Event-clause-new c =
    let fits : SFits w64 c.args.number = search rules in
    let ready = rw (← c.self.view_is) at c.requires.ready in
    simp to_z-of_z (rw c.caller_of-caller.ensures (event_new c.args.place _ c.args.call.now c.args.number (at_work _ _ _ _ _ _ ready.3)))

pub returns-in-Event-clause-ok : goal.returns-in-Event-clause-ok
returns-in-Event-clause-ok c =
    let fits : SFits w64 c.args.number = search rules in
    rw (← c.self.view_is, c.in-Event.is) (simp to_z-of_z at (rw c.caller_of-caller.ensures at c.use_object-in-Event.ensures.ok))

pub returns-in-Event-clause-after : goal.returns-in-Event-clause-after
returns-in-Event-clause-after c =
    let fits : SFits w64 c.args.number = search rules in
    let ready = rw (← c.self.view_is) at c.requires.ready in
    rw (← c.self.view_is, c.in-Event.is)
    (in_any ready.0 c.args.place c.args.call.now c.args.number (on.Event c.in-Event.operation) (the_view c.self.inside) _ c.use_object-in-Event.result
    (events_served ready.0 ready.1 c.args.place ready.2 _ c.args.call.now c.args.number c.in-Event.operation ready.3 (c.requires.asked ∙ ap (λ one. request.Object c.args.number one) c.in-Event.is) c.use_object-in-Event.result _
    (simp to_z-of_z at (rw c.caller_of-caller.ensures at c.use_object-in-Event.ensures.ok)) (simp to_z-of_z at (rw c.caller_of-caller.ensures at c.use_object-in-Event.ensures.after))))

pub returns-in-Event-clause-refused : goal.returns-in-Event-clause-refused
returns-in-Event-clause-refused c =
    let fits : SFits w64 c.args.number = search rules in
    rw (← c.self.view_is, c.in-Event.is) (simp to_z-of_z at (rw c.caller_of-caller.ensures at c.use_object-in-Event.ensures.refused))

pub use_object-requires-in-Mutex-clause-new : goal.use_object-requires-in-Mutex-clause-new
use_object-requires-in-Mutex-clause-new c =
    let fits : SFits w64 c.args.number = search rules in
    let ready = rw (← c.self.view_is) at c.requires.ready in
    simp to_z-of_z (rw c.caller_of-caller.ensures (mutex_new c.args.place _ c.args.call.now c.args.number (at_work _ _ _ _ _ _ ready.3)))

pub returns-in-Mutex-clause-ok : goal.returns-in-Mutex-clause-ok
returns-in-Mutex-clause-ok c =
    let fits : SFits w64 c.args.number = search rules in
    rw (← c.self.view_is, c.in-Mutex.is) (simp to_z-of_z at (rw c.caller_of-caller.ensures at c.use_object-in-Mutex.ensures.ok))

pub returns-in-Mutex-clause-after : goal.returns-in-Mutex-clause-after
returns-in-Mutex-clause-after c =
    let fits : SFits w64 c.args.number = search rules in
    let ready = rw (← c.self.view_is) at c.requires.ready in
    rw (← c.self.view_is, c.in-Mutex.is)
    (in_any ready.0 c.args.place c.args.call.now c.args.number (on.Mutex c.in-Mutex.operation) (the_view c.self.inside) _ c.use_object-in-Mutex.result
    (mutexes_served ready.0 ready.1 c.args.place ready.2 _ c.args.call.now c.args.number c.in-Mutex.operation ready.3 (c.requires.asked ∙ ap (λ one. request.Object c.args.number one) c.in-Mutex.is) c.use_object-in-Mutex.result _
    (simp to_z-of_z at (rw c.caller_of-caller.ensures at c.use_object-in-Mutex.ensures.ok)) (simp to_z-of_z at (rw c.caller_of-caller.ensures at c.use_object-in-Mutex.ensures.after))))

pub returns-in-Mutex-clause-refused : goal.returns-in-Mutex-clause-refused
returns-in-Mutex-clause-refused c =
    let fits : SFits w64 c.args.number = search rules in
    rw (← c.self.view_is, c.in-Mutex.is) (simp to_z-of_z at (rw c.caller_of-caller.ensures at c.use_object-in-Mutex.ensures.refused))

pub returns-in-Mutex-clause-transfer : goal.returns-in-Mutex-clause-transfer
returns-in-Mutex-clause-transfer c =
    let fits : SFits w64 c.args.number = search rules in
    let ready = rw (← c.self.view_is) at c.requires.ready in
    rw (← c.self.view_is, c.in-Mutex.is)
    (mutex_accepted _ _ _ _ _ _ c.args.number c.in-Mutex.operation ready.3 (c.requires.asked ∙ ap (λ one. request.Object c.args.number one) c.in-Mutex.is) c.use_object-in-Mutex.result
    (simp to_z-of_z at (rw c.caller_of-caller.ensures at c.use_object-in-Mutex.ensures.transfer)))
