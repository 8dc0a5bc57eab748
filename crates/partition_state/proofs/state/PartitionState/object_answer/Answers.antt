use Rattle.std.proofs.Common.{rules}
use Rattle.std.proofs.lemmas.Int.{to_z-of_z}
use mir.Syntax.{w64}
use mir.Val.{SFits}
use Rattle.partition_state.proofs.state.PartitionState.object_answer.Goals as goal

pub returns-in-Buffer : goal.returns-in-Buffer
returns-in-Buffer c =
    let fits : SFits w64 c.args.number = search rules in
    λ configuration cores core. rw (← c.self.view_is, c.in-Buffer.is) (simp to_z-of_z at c.answer_by.ensures)

pub returns-in-Blackboard : goal.returns-in-Blackboard
returns-in-Blackboard c =
    let fits : SFits w64 c.args.number = search rules in
    λ configuration cores core. rw (← c.self.view_is, c.in-Blackboard.is) (simp to_z-of_z at c.answer_by-in-Blackboard.ensures)

pub returns-in-Semaphore : goal.returns-in-Semaphore
returns-in-Semaphore c =
    let fits : SFits w64 c.args.number = search rules in
    λ configuration cores core. rw (← c.self.view_is, c.in-Semaphore.is) (simp to_z-of_z at c.answer_by-in-Semaphore.ensures)

pub returns-in-Event : goal.returns-in-Event
returns-in-Event c =
    let fits : SFits w64 c.args.number = search rules in
    λ configuration cores core. rw (← c.self.view_is, c.in-Event.is) (simp to_z-of_z at c.answer_by-in-Event.ensures)

pub returns-in-Mutex : goal.returns-in-Mutex
returns-in-Mutex c =
    let fits : SFits w64 c.args.number = search rules in
    λ configuration cores core. rw (← c.self.view_is, c.in-Mutex.is) (simp to_z-of_z at c.answer_by-in-Mutex.ensures)
