-- An error of the caller is the handler's that takes it.
use Rattle.partition_state.proofs.Takers.{raised_changes, raised_stays, reported_stays}
use Rattle.partition_state.proofs.errors.raised_change.Goals as goal

pub returns-in-Some-clause-processes : goal.returns-in-Some-clause-processes
returns-in-Some-clause-processes c = λ partition caller some none.
    let taken = rw c.in-Some.is at some in
    raised_changes partition caller c.args.operation.now _ _ _ c.in-Some.handler c.in-RaiseError.is taken.0 taken.1

pub returns-in-None-clause-processes : goal.returns-in-None-clause-processes
returns-in-None-clause-processes c = λ partition caller some none.
    raised_stays partition caller c.args.operation.now _ _ _ c.in-RaiseError.is (rw c.in-None.is at none)

pub returns-in_default-clause-processes : goal.returns-in_default-clause-processes
returns-in_default-clause-processes c = λ partition caller some none. reported_stays partition caller c.args.operation.now c.in_default.not-RaiseError
