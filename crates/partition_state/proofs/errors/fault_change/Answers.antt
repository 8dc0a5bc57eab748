-- Only requests of two kinds change who is faulted.
use Rattle.std.proofs.Common.{sym}
use Rattle.partition_state.proofs.Takers.{others_no_more, others_stay}
use Rattle.partition_state.proofs.errors.fault_change.Goals as goal

pub returns-in-Health-clause-processes : goal.returns-in-Health-clause-processes
returns-in-Health-clause-processes c = λ partition some none is same.
    rw c.in-Health.is (c.raised_change.ensures.processes partition c.args.call.now.who.proc some none)

pub returns-in-Health-clause-more : goal.returns-in-Health-clause-more
returns-in-Health-clause-more c = λ partition is same. rw c.in-Health.is (sym c.raised_change.ensures.more)

pub returns-in-Caller-clause-processes : goal.returns-in-Caller-clause-processes
returns-in-Caller-clause-processes c = λ partition some none is same.
    rw c.in-Caller.is (c.ended_change.ensures.processes partition c.args.call.now.who.proc is (rw c.in-Caller.is at same))

pub returns-in-Caller-clause-more : goal.returns-in-Caller-clause-more
returns-in-Caller-clause-more c = λ partition is same.
    rw c.in-Caller.is (c.ended_change.ensures.more partition c.args.call.now.who.proc is (rw c.in-Caller.is at same))

pub returns-in_default-clause-processes : goal.returns-in_default-clause-processes
returns-in_default-clause-processes c = λ partition some none is same.
    others_stay partition c.args.call.now.who.proc c.args.call.now.request c.in_default.not-Health c.in_default.not-Caller

pub returns-in_default-clause-more : goal.returns-in_default-clause-more
returns-in_default-clause-more c = λ partition is same. others_no_more partition c.args.call.now.who.proc c.args.call.now.request c.in_default.not-Caller
