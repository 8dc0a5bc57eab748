use Rattle.std.proofs.Common.{sym, ◌∙◌}
use Rattle.wait_set.proofs.WaitersOf.{is_member-named}
use Rattle.wait_set.proofs.ended.Ended.has.Goals as goal

pub returns-in-All : goal.returns-in-All
returns-in-All c = rw c.in-All.is (c.has.ensures ∙ sym (is_member-named c.args.who _))
