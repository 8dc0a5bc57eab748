use Rattle.std.proofs.Common.{ap, ◌∙◌}
use Rattle.std.specs.Option.{is_some}
use Rattle.wait_set.proofs.Leaving.{entry_of-is_member}
use Rattle.wait_set.proofs.set.WaitSet.leave.Goals as goal

pub returns-clause-stood : goal.returns-clause-stood
returns-clause-stood c = c.is_some.ensures ∙ ap is_some c.take.ensures.taken ∙ entry_of-is_member c.args.who c.args.self.now.entries
