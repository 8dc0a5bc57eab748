use Rattle.std.proofs.Common.{vec_len}
use Rattle.order_search.proofs.checkpoints.Checkpoints.forget_after.Given as goal

abbrev pub decreases-loop-level : goal.decreases-loop-level
decreases-loop-level l = vec_len l.self.list
