use Rattle.std.proofs.Common.{[]}
use Rattle.verdict_merge.specs.Contents.{content_of, parts_held}
use Rattle.round_tests.proofs.workers.refuse_in_round.Given as goal

-- the round is of what is lent to these pieces
abbrev pub ghosts-refuse_all : goal.ghosts-refuse_all
ghosts-refuse_all a = record { round = content_of a.lent.now [] (parts_held a.pieces.items) }
