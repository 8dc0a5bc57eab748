use Rattle.shown_run.proofs.Taking.{HaveTaken}
use Rattle.shown_run.proofs.walk.take_in_turn.Given as goal

-- the pieces with smaller numbers have taken the record
abbrev pub invariant-loop-number : goal.invariant-loop-number
invariant-loop-number l = HaveTaken l.config l.ordered l.number l.fn.pieces l.pieces
