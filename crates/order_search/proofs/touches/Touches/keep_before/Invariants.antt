use Rattle.std.specs.VecDeque.{deque_len}
use Rattle.order_search.proofs.touches.Touches.keep_before.Given as goal

abbrev pub decreases-loop-last : goal.decreases-loop-last
decreases-loop-last g l = deque_len l.self.list
