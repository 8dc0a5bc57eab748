use Rattle.user_rules.specs.Rules.{relations_of}
use Rattle.verdict_merge.proofs.RoundPieces.{all_going, all_judged_over}
use Rattle.verdict_merge.proofs.workers.run_round.Goals as goal

pub judge_named-requires-clause-going : goal.judge_named-requires-clause-going
judge_named-requires-clause-going g c κs within = all_going c.args.lent.now.config.now c.args.lent.now.first c.args.pieces.items c.requires.going

pub returns-in-Ok-clause-judged : goal.returns-in-Ok-clause-judged
returns-in-Ok-clause-judged g c = all_judged_over c.args.lent.now (relations_of c.args.rules.now) c.args.pieces.items c.in-Ok.judged.items c.in-Ok.ensures
