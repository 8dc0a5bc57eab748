use Rattle.user_rules.specs.Rules.{relations_of}
use Rattle.verdict_merge.specs.Contents.{content_of, parts_held}
use Rattle.verdict_merge.proofs.workers.run_round.Given as goal

-- the round is of what is lent to these pieces
abbrev pub ghosts-judge_named : goal.ghosts-judge_named
ghosts-judge_named g a = record { round = content_of a.lent.now (relations_of a.rules.now) (parts_held a.pieces.items) }
