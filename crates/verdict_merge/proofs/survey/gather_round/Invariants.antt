use Rattle.std.proofs.Common.{List}
use Rattle.piece_check.specs.Parts.{Holding}
use Rattle.user_rules.specs.declared.relation.Relation.{Relation}
use Rattle.verdict_merge.specs.Rounds.{AreGoing, AreJudgedOver}
use Rattle.verdict_merge.proofs.Gathered.{AreTakenIn}
use Rattle.verdict_merge.proofs.survey.gather_round.Given as goal

abbrev pub invariant-pieces : goal.invariant-pieces
invariant-pieces l =
    (relations : List Relation) (old : List Holding) → AreGoing l.lent.config.now l.lent.first old → AreJudgedOver l.lent.config.now l.lent.first l.lent.records.now relations l.lent.keeps old l.judged.items
    → AreTakenIn l.lent.config.now l.lent.records.now relations old l.judged.items l.number l.gathering.found l.gathering.breach
