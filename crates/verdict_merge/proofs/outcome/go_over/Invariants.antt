use Rattle.std.proofs.Common.{◌≡◌, ◌++◌, ℕ, List, length}
use Rattle.piece_check.specs.Parts.{piece_at}
use Rattle.piece_check.specs.Touching.{reached, touching}
use Rattle.user_rules.specs.Rules.{relations_of}
use Rattle.verdict_merge.specs.declared.breach.Seen.{Seen}
use Rattle.verdict_merge.specs.Views.{IsFirstBreach}
use Rattle.verdict_merge.proofs.Coming.{HasCome}
use Rattle.verdict_merge.proofs.outcome.go_over.Given as goal

abbrev pub invariant-loop-index : goal.invariant-loop-index
invariant-loop-index g l =
    (seen : List Seen)
    × (outcome : List ℕ)
    × (touching l.lent.config.now (piece_at l.lent.config.now l.number) 0 l.lent.records.now ≡ outcome ++ l.index-iterator)
    × HasCome l.lent.config.now l.number l.fn.piece l.lent.records.now l.piece seen
    (reached l.lent.config.now (piece_at l.lent.config.now l.number) l.lent.records.now (length outcome))
    × IsFirstBreach (relations_of l.rules) seen l.breach
