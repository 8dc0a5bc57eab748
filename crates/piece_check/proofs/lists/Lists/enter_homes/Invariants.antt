use Rattle.std.proofs.Common.{take}
use Rattle.piece_check.specs.Touching.{IsPut, list_of, is_home_of}
use Rattle.piece_check.proofs.lists.Lists.enter_homes.Given as goal

abbrev pub invariant-loop-who : goal.invariant-loop-who
invariant-loop-who l = IsPut l.index (is_home_of (take l.who-index l.named)) (list_of l.fn.self) (list_of l.self)
