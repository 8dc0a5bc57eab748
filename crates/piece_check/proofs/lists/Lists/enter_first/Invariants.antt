use Rattle.piece_check.specs.Touching.{IsPut, list_of, is_touched_first}
use Rattle.piece_check.proofs.lists.Lists.enter_first.Given as goal

abbrev pub invariant-pieces : goal.invariant-pieces
invariant-pieces l = IsPut l.index (is_touched_first l.config l.piece l.ordered) (list_of l.fn.self) (list_of l.self)
