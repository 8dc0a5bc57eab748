use Rattle.std.proofs.Common.{inr}
use Rattle.apexorder.proofs.files.propose_for.Goals as goal

pub returns-in-Ok : goal.returns-in-Ok
returns-in-Ok g c = inr (inr (c.in-Ok.opened, _, _, c.in-Ok.ensures.opened, c.propose.ensures))
