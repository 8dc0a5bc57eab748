use Rattle.std.proofs.Common.{rules}
use Rattle.std.proofs.lemmas.Int.{to_z-of_z}
use mir.Syntax.{w64}
use mir.Val.{SFits}
use Rattle.apex_machine.specs.State.{time_of}
use Rattle.partition_state.proofs.Created.{created_changes}
use Rattle.partition_state.proofs.Locks.{lock_needed, lock_new}
use Rattle.partition_state.proofs.ObjectCalls.{of_any}
use Rattle.partition_state.proofs.Served.{lock_is_served}
use Rattle.partition_state.proofs.Sounds.{names_core}
use Rattle.partition_state.proofs.state.PartitionState.operate.Goals as goal

pub returns-in_ok-create-in-Create-clause-ok : goal.returns-in_ok-create-in-Create-clause-ok
returns-in_ok-create-in-Create-clause-ok c = rw c.in-Create.is c.in_ok-create-in-Create.ensures.ok

pub returns-in-Object-clause-ok : goal.returns-in-Object-clause-ok
returns-in-Object-clause-ok c =
    let fits : SFits w64 c.in-Object.number = search rules in
    rw c.in-Object.is (simp to_z-of_z at c.use_one.ensures.ok)

pub returns-in-Object-clause-refused : goal.returns-in-Object-clause-refused
returns-in-Object-clause-refused c =
    let fits : SFits w64 c.in-Object.number = search rules in
    rw c.in-Object.is (simp to_z-of_z at c.use_one.ensures.refused)

pub returns-in-Object-clause-transfer : goal.returns-in-Object-clause-transfer
returns-in-Object-clause-transfer c =
    let fits : SFits w64 c.in-Object.number = search rules in
    rw c.in-Object.is (simp to_z-of_z at c.use_one.ensures.transfer)

pub returns-in_ok-create-in-Create-clause-after : goal.returns-in_ok-create-in-Create-clause-after
returns-in_ok-create-in-Create-clause-after c =
    rw c.in-Create.is
    (created_changes c.args.config.now c.args.moment.now.place c.args.call.now c.in-Create.name c.in-Create.object _ _ c.in_ok-create-in-Create.ensures.ok c.in_ok-create-in-Create.ensures.after)

pub returns-in-Object-clause-after : goal.returns-in-Object-clause-after
returns-in-Object-clause-after c =
    let fits : SFits w64 c.in-Object.number = search rules in
    rw c.in-Object.is
    (of_any c.args.config.now c.args.moment.now.place c.args.call.now c.in-Object.number c.in-Object.operation _ _ c.use_one.result (simp to_z-of_z at c.use_one.ensures.after))

pub use_lock-requires-clause-new : goal.use_lock-requires-clause-new
use_lock-requires-clause-new c =
    let a = c.args in
    rw c.caller_of-caller.ensures
    (rw (← c.self-in-Preemption.view_is) at (lock_new a.config.now a.moment.now.cores.now a.moment.now.place a.moment.now.core a.self.now a.call.now c.requires.clear))

pub use_lock-requires-clause-needed : goal.use_lock-requires-clause-needed
use_lock-requires-clause-needed c =
    let a = c.args in
    rw c.caller_of-caller.ensures
    (rw (← c.self-in-Preemption.view_is) at (lock_needed a.config.now _ a.self.now a.moment.now.place a.call.now c.in-Preemption.operation c.requires.clear.conditions c.in-Preemption.is))

pub returns-in-Preemption-clause-ok : goal.returns-in-Preemption-clause-ok
returns-in-Preemption-clause-ok c =
    rw (← c.self-in-Preemption.view_is, c.in-Preemption.is) (rw c.caller_of-caller.ensures at c.use_lock.ensures.ok)

pub returns-in-Preemption-clause-refused : goal.returns-in-Preemption-clause-refused
returns-in-Preemption-clause-refused c =
    rw (← c.self-in-Preemption.view_is, c.in-Preemption.is) (rw c.caller_of-caller.ensures at c.use_lock.ensures.refused)

pub returns-in-Preemption-clause-after : goal.returns-in-Preemption-clause-after
returns-in-Preemption-clause-after c =
    rw c.in-Preemption.is
    (lock_is_served c.args.config.now c.args.moment.now.place c.args.call.now c.in-Preemption.operation _ c.args.self.now _ c.use_lock.result c.self-in-Preemption.view_is
    (rw c.caller_of-caller.ensures at c.use_lock.ensures.after))

pub change_errors-requires : goal.change_errors-requires
change_errors-requires c =
    let a = c.args in
    names_core a.config.now (time_of a.moment.now.cores.now a.moment.now.core) a.call.now.who a.self.now c.in-Health.operation
    c.keeps_limits.ensures.limits.cores.most c.keeps_limits.ensures.cores (rw c.in-Health.is at c.requires.clear.conditions)
