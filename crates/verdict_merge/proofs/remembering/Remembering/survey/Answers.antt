use Rattle.std.proofs.Common.{◌∙◌, sym}
use Rattle.std.proofs.lemmas.Result.{IfOk-weaker}
use Rattle.user_rules.specs.Rules.{relations_of}
use Rattle.verdict_merge.specs.Memories.{tested_at_once}
use Rattle.verdict_merge.proofs.Surveying.{surveyed_alone}
use Rattle.verdict_merge.proofs.remembering.Remembering.survey.Goals as goal

pub survey_in_order-requires-clause-outcome : goal.survey_in_order-requires-clause-outcome
survey_in_order-requires-clause-outcome g c = (tested_at_once c.args.memories.now (relations_of c.args.rules.now), c.requires.outcome.0, c.requires.outcome.1, c.requires.outcome.2)

pub gather_round-requires-clause-outcome : goal.gather_round-requires-clause-outcome
gather_round-requires-clause-outcome g c = (tested_at_once c.args.memories.now (relations_of c.args.rules.now), c.requires.outcome.0, c.requires.outcome.1, c.requires.outcome.2)

pub returns-then-lent : goal.returns-then-lent
returns-then-lent g c = λ old going over. c.survey_in_order.ensures (tested_at_once c.args.memories.now (relations_of c.args.rules.now)) old going over

pub returns-else-lent : goal.returns-else-lent
returns-else-lent g c = λ old going over.
    let lent = c.args.lent.now in
    let relations = relations_of c.args.rules.now in
    IfOk-weaker c.gather_round.result _ _
    (λ survey is. surveyed_alone lent.config.now lent.first lent.records.now c.args.memories.now c.args.self.now relations old survey (sym c.requires.keeps ∙ c.if-lent.false) is)
    (c.gather_round.ensures (tested_at_once c.args.memories.now relations) old going over)
