-- Below each step is one step less.
use Rattle.apexcheck.proofs.+reserve_stack.Given as goal

abbrev pub decreases-reserve_stack : goal.decreases-reserve_stack
decreases-reserve_stack g l = l.steps
