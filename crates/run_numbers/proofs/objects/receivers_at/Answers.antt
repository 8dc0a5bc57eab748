-- Those who wait for what another process gives, at the object, if there is one.
use Rattle.std.proofs.Common.{◌∙◌, length, ap}
use Rattle.apex_types.specs.declared.object_kind.ObjectKind.TheVariants as kind
use Rattle.apex_types.specs.declared.shape.End.TheVariants.{Receivers}
use Rattle.apex_machine.specs.State.{Blackboard, Buffer, Event, Mutex, Semaphore, item_at}
use Rattle.run_numbers.proofs.Joined.{at_kind, none_wait, some_wait}
use Rattle.run_numbers.proofs.objects.receivers_at.Goals as goal

pub returns-in-Some : goal.returns-in-Some
returns-in-Some c =
    at_kind c.args.state.now c.args.kind kind.Buffer c.args.number c.len.result Receivers c.in-Buffer.is
    (some_wait (λ (buffer : Buffer). buffer.receivers) (item_at c.args.state.now.buffers c.args.number) c.in-Some.buffer.now c.len.result (rw c.buffers.ensures at c.in-Some.ensures)
    (c.len.ensures.len ∙ ap (λ set. length set.entries) c.receivers.ensures ∙ ap (λ (buffer : Buffer). length buffer.receivers) c.queue.ensures.queue))

pub returns-in-None : goal.returns-in-None
returns-in-None c =
    at_kind c.args.state.now c.args.kind kind.Buffer c.args.number 0 Receivers c.in-Buffer.is
    (none_wait (λ (buffer : Buffer). buffer.receivers) (item_at c.args.state.now.buffers c.args.number) (rw c.buffers.ensures at c.in-None.ensures))

pub returns-in-Some-at : goal.returns-in-Some-at
returns-in-Some-at c =
    at_kind c.args.state.now c.args.kind kind.Blackboard c.args.number c.len-in-Some-at.result Receivers c.in-Blackboard.is
    (some_wait (λ (board : Blackboard). board.readers) (item_at c.args.state.now.blackboards c.args.number) c.in-Some-at.board.now c.len-in-Some-at.result (rw c.blackboards.ensures at c.in-Some-at.ensures)
    (c.len-in-Some-at.ensures.len ∙ ap length c.readers.ensures))

pub returns-in-None-at : goal.returns-in-None-at
returns-in-None-at c =
    at_kind c.args.state.now c.args.kind kind.Blackboard c.args.number 0 Receivers c.in-Blackboard.is
    (none_wait (λ (board : Blackboard). board.readers) (item_at c.args.state.now.blackboards c.args.number) (rw c.blackboards.ensures at c.in-None-at.ensures))

pub returns-in-Some-at-2 : goal.returns-in-Some-at-2
returns-in-Some-at-2 c =
    at_kind c.args.state.now c.args.kind kind.Semaphore c.args.number c.len-in-Some-at-2.result Receivers c.in-Semaphore.is
    (some_wait (λ (semaphore : Semaphore). semaphore.waiters) (item_at c.args.state.now.semaphores c.args.number) c.in-Some-at-2.semaphore.now c.len-in-Some-at-2.result (rw c.semaphores.ensures at c.in-Some-at-2.ensures)
    (c.len-in-Some-at-2.ensures.len ∙ ap length c.waiters.ensures.entries))

pub returns-in-None-at-2 : goal.returns-in-None-at-2
returns-in-None-at-2 c =
    at_kind c.args.state.now c.args.kind kind.Semaphore c.args.number 0 Receivers c.in-Semaphore.is
    (none_wait (λ (semaphore : Semaphore). semaphore.waiters) (item_at c.args.state.now.semaphores c.args.number) (rw c.semaphores.ensures at c.in-None-at-2.ensures))

pub returns-in-Some-at-3 : goal.returns-in-Some-at-3
returns-in-Some-at-3 c =
    at_kind c.args.state.now c.args.kind kind.Event c.args.number c.len-in-Some-at-3.result Receivers c.in-Event.is
    (some_wait (λ (event : Event). event.waiters) (item_at c.args.state.now.events c.args.number) c.in-Some-at-3.event.now c.len-in-Some-at-3.result (rw c.events.ensures at c.in-Some-at-3.ensures)
    (c.len-in-Some-at-3.ensures.len ∙ ap length c.waiters-in-Some-at-3.ensures))

pub returns-in-None-at-3 : goal.returns-in-None-at-3
returns-in-None-at-3 c =
    at_kind c.args.state.now c.args.kind kind.Event c.args.number 0 Receivers c.in-Event.is
    (none_wait (λ (event : Event). event.waiters) (item_at c.args.state.now.events c.args.number) (rw c.events.ensures at c.in-None-at-3.ensures))

pub returns-in-Some-at-4 : goal.returns-in-Some-at-4
returns-in-Some-at-4 c =
    at_kind c.args.state.now c.args.kind kind.Mutex c.args.number c.len-in-Some-at-4.result Receivers c.in-Mutex.is
    (some_wait (λ (mutex : Mutex). mutex.waiters) (item_at c.args.state.now.mutexes c.args.number) c.in-Some-at-4.mutex.now c.len-in-Some-at-4.result (rw c.mutexes.ensures at c.in-Some-at-4.ensures)
    (c.len-in-Some-at-4.ensures.len ∙ ap length c.waiters-in-Some-at-4.ensures.entries))

pub returns-in-None-at-4 : goal.returns-in-None-at-4
returns-in-None-at-4 c =
    at_kind c.args.state.now c.args.kind kind.Mutex c.args.number 0 Receivers c.in-Mutex.is
    (none_wait (λ (mutex : Mutex). mutex.waiters) (item_at c.args.state.now.mutexes c.args.number) (rw c.mutexes.ensures at c.in-None-at-4.ensures))
