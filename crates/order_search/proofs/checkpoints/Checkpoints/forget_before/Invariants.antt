use Rattle.std.proofs.Common.{vec_len}
use Rattle.order_search.proofs.checkpoints.Checkpoints.forget_before.Given as goal

abbrev pub decreases-loop-self : goal.decreases-loop-self
decreases-loop-self l = vec_len l.self.list
