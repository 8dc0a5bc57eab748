use Rattle.std.proofs.Common.{subst, sym}
use Rattle.user_rules.specs.Rules.{requirements_of}
use Rattle.verdict_merge.specs.declared.verdict.Verdict.TheVariants.{Yes}
use Rattle.verdict_merge.specs.Rounds.{parts_of}
use Rattle.report.specs.Outcome.{answer_with}
use Rattle.report.specs.Rounds.{IsLastAnswer, LeavesItsBreach, LeavesItsPiece}
use Rattle.report.proofs.Going.{last_decided, last_undecided}
use Rattle.report.proofs.Breaking.{leaves_no_breach}
use Rattle.report.proofs.Rejecting.{leaves_all}
use Rattle.report.proofs.rounds.judge_last.Goals as goal

pub returns-in-Ok-Some-clause-answer : goal.returns-in-Ok-Some-clause-answer
returns-in-Ok-Some-clause-answer g c =
    last_decided c.args.terms.now.config.now (requirements_of c.args.terms.now.memories.now c.args.judge.now.kept c.args.terms.now.rules.now) c.args.judge.now c.judge_round.new.judge c.args.round.now c.args.end c.in-Ok-Some.verdict
    (rw c.in-Ok-Some.field-0-is at c.in-Ok-Some.ensures.decided)

pub returns-in-Ok-Some-clause-leaves : goal.returns-in-Ok-Some-clause-leaves
returns-in-Ok-Some-clause-leaves g c = let decided = rw c.in-Ok-Some.field-0-is at c.in-Ok-Some.ensures.decided in decided.2

pub returns-in-Ok-Some-clause-breach : goal.returns-in-Ok-Some-clause-breach
returns-in-Ok-Some-clause-breach g c = rw c.in-Ok-Some.field-0-is at c.in-Ok-Some.ensures.breach

pub returns-in-Ok-None-clause-answer : goal.returns-in-Ok-None-clause-answer
returns-in-Ok-None-clause-answer g c =
    subst (λ answer. IsLastAnswer c.args.terms.now.config.now (requirements_of c.args.terms.now.memories.now c.args.judge.now.kept c.args.terms.now.rules.now) c.args.judge.now c.args.round.now c.args.end answer) (sym c.answer_at.ensures)
    (subst (λ count. IsLastAnswer c.args.terms.now.config.now (requirements_of c.args.terms.now.memories.now c.args.judge.now.kept c.args.terms.now.rules.now) c.args.judge.now c.args.round.now c.args.end (answer_with (Yes count) c.args.end)) (sym c.count.ensures)
    (last_undecided c.args.terms.now.config.now (requirements_of c.args.terms.now.memories.now c.args.judge.now.kept c.args.terms.now.rules.now) c.args.judge.now c.judge_round.new.judge c.args.round.now c.args.end (rw c.in-Ok-None.field-0-is at c.in-Ok-None.ensures.decided)))

pub returns-in-Ok-None-clause-leaves : goal.returns-in-Ok-None-clause-leaves
returns-in-Ok-None-clause-leaves g c =
    subst (λ answer. LeavesItsPiece c.args.terms.now.config.now c.args.judge.now c.args.round.now answer c.judge_round.new.judge) (sym c.answer_at.ensures)
    (subst (λ count. LeavesItsPiece c.args.terms.now.config.now c.args.judge.now c.args.round.now (answer_with (Yes count) c.args.end) c.judge_round.new.judge) (sym c.count.ensures)
    (leaves_all c.args.terms.now.config.now c.args.judge.now c.judge_round.new.judge c.args.round.now c.judge_round.new.judge.count c.args.end))

pub returns-in-Ok-None-clause-breach : goal.returns-in-Ok-None-clause-breach
returns-in-Ok-None-clause-breach g c =
    let requirements = requirements_of c.args.terms.now.memories.now c.args.judge.now.kept c.args.terms.now.rules.now in
    subst (λ answer. LeavesItsBreach c.args.terms.now.config.now requirements c.args.judge.now c.args.round.now answer c.judge_round.new.judge) (sym c.answer_at.ensures)
    (leaves_no_breach c.args.terms.now.config.now requirements (parts_of c.args.judge.now) c.args.judge.now.count c.args.round.now c.count.result c.args.end c.judge_round.new.judge.breach c.judge_round.new.judge.kept)
