use Rattle.std.specs.VecDeque.{deque_len}
use Rattle.order_search.proofs.touches.Touches.forget_before.Given as goal

abbrev pub decreases-loop-level : goal.decreases-loop-level
decreases-loop-level g l = deque_len l.self.list
