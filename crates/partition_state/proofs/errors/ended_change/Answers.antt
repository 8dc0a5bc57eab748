-- The handler's STOP_SELF ends its work.
use Rattle.std.proofs.Common.{◌∙◌}
use Rattle.partition_state.proofs.Takers.{ended_changes, ended_more, going_no_more, going_stays, stopped_no_more, stopped_stays}
use Rattle.partition_state.proofs.errors.ended_change.Goals as goal

pub returns-then-handles-clause-processes : goal.returns-then-handles-clause-processes
returns-then-handles-clause-processes c = λ partition caller is same.
    let ends = is ∙ c.if-handles.true in
    let left = (rw c.in-StopSelf.is at same) ends in
    rw c.in-StopSelf.is (λ place number process. ended_changes place partition caller _ number process ends left)

pub returns-then-handles-clause-more : goal.returns-then-handles-clause-more
returns-then-handles-clause-more c = λ partition caller is same.
    let ends = is ∙ c.if-handles.true in
    let left = (rw c.in-StopSelf.is at same) ends in
    rw c.in-StopSelf.is (ended_more partition caller _ ends left)

pub returns-else-handles-clause-processes : goal.returns-else-handles-clause-processes
returns-else-handles-clause-processes c = λ partition caller is same.
    rw c.in-StopSelf.is (λ place number process. stopped_stays place partition caller number process (is ∙ c.if-handles.false))

pub returns-else-handles-clause-more : goal.returns-else-handles-clause-more
returns-else-handles-clause-more c = λ partition caller is same. rw c.in-StopSelf.is (stopped_no_more partition caller (is ∙ c.if-handles.false))

pub returns-in_default-clause-processes : goal.returns-in_default-clause-processes
returns-in_default-clause-processes c = λ partition caller is same. going_stays partition caller c.args.operation.now c.in_default.not-StopSelf

pub returns-in_default-clause-more : goal.returns-in_default-clause-more
returns-in_default-clause-more c = λ partition caller is same. going_no_more partition caller c.args.operation.now c.in_default.not-StopSelf
