use Rattle.user_rules.specs.Rules.{requirements_of}
use Rattle.verdict_merge.specs.Rounds.{parts_of}
use Rattle.order_run.proofs.Onward.{tested_within}
use Rattle.order_run.proofs.run.judge_round.Goals as goal

pub returns-in-None-clause-within : goal.returns-in-None-clause-within
returns-in-None-clause-within g c =
    tested_within c.args.config.now (requirements_of c.args.memories.now c.args.base.now.kept c.args.rules.now) (parts_of c.args.base.now) c.args.records.now
    c.judge-in-None.result c.judge-in-None.new.self.kept c.judge-in-None.ensures.tested
