use Rattle.wait_set.proofs.WaiterLists.{once-rising}
use Rattle.wait_set.proofs.named.names_nobody_twice.Goals as goal

pub returns-then-rises : goal.returns-then-rises
returns-then-rises c = (λ is. once-rising c.args.named.now (c.rises.ensures.0 is), λ once. c.if-rises.true)
