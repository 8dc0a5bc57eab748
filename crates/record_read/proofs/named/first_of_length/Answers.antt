use Rattle.record_read.proofs.Lengths.{can_begin_at}
use Rattle.record_read.proofs.named.first_of_length.Goals as goal

pub returns-in-Some-clause-bound : goal.returns-in-Some-clause-bound
returns-in-Some-clause-bound c = let found = c.in-Some.ensures.lookup in (can_begin_at c.args.len c.in-Some.first.now found.0 found.1).0

pub returns-in-Some-clause-earlier : goal.returns-in-Some-clause-earlier
returns-in-Some-clause-earlier c = let found = c.in-Some.ensures.lookup in (can_begin_at c.args.len c.in-Some.first.now found.0 found.1).1
