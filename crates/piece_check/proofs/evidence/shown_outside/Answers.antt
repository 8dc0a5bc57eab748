-- What is shown of a process that a request names is so whoever calls.
use Rattle.std.proofs.Common.{rules}
use Rattle.piece_check.proofs.evidence.shown_outside.Goals as goal

pub returns-in-Process : goal.returns-in-Process
returns-in-Process c = search (rules, c.shown_target.ensures c.args.who)
