use Rattle.std.proofs.Common.{◌≡◌, sym, subst}
use Rattle.user_rules.specs.Rules.{requirements_of}
use Rattle.verdict_merge.specs.Rounds.{IsTested, parts_of}
use Rattle.verdict_merge.specs.Verdicts.{against}
use Rattle.verdict_merge.specs.Views.{broken_of}
use Rattle.verdict_merge.proofs.Ruled.{breach_within}
use Rattle.report.proofs.Breaking.{round_leaves}
use Rattle.report.proofs.Going.{round_decides}
use Rattle.report.proofs.rounds.judge_round.Goals as goal

pub against-requires : goal.against-requires
against-requires g c =
    let config = c.args.terms.now.config.now in
    let requirements = requirements_of c.args.terms.now.memories.now c.args.judge.now.kept c.args.terms.now.rules.now in
    let kept = c.round.new.self.kept in
    let parts = parts_of c.args.judge.now in
    let tested : IsTested config requirements parts c.args.round.now c.in-Ok.found c.breach.result kept =
    subst (λ breach. IsTested config requirements parts c.args.round.now c.in-Ok.found breach kept) (sym c.breach.ensures) c.in-Ok.ensures.tested in
    breach_within config requirements parts c.args.round.now c.in-Ok.found c.breach.result kept tested

pub returns-in-Ok-clause-decided : goal.returns-in-Ok-clause-decided
returns-in-Ok-clause-decided g c =
    let config = c.args.terms.now.config.now in
    let requirements = requirements_of c.args.terms.now.memories.now c.args.judge.now.kept c.args.terms.now.rules.now in
    let kept = c.round.new.self.kept in
    let parts = parts_of c.args.judge.now in
    let tested : IsTested config requirements parts c.args.round.now c.in-Ok.found c.breach.result kept =
    subst (λ breach. IsTested config requirements parts c.args.round.now c.in-Ok.found breach kept) (sym c.breach.ensures) c.in-Ok.ensures.tested in
    round_decides config requirements c.args.judge.now c.round.new.self c.args.round.now c.in-Ok.found c.breach.result c.requires.may c.in-Ok.ensures.judged
    tested c.against.result (c.against.ensures c.args.judge.now.count c.requires.may.placed)

pub returns-in-Ok-clause-breach : goal.returns-in-Ok-clause-breach
returns-in-Ok-clause-breach g c =
    let config = c.args.terms.now.config.now in
    let requirements = requirements_of c.args.terms.now.memories.now c.args.judge.now.kept c.args.terms.now.rules.now in
    let kept = c.round.new.self.kept in
    let judging = c.args.judge.now in
    let judged = c.round.new.self in
    let decides : c.against.result ≡ against judging.count c.in-Ok.found (broken_of judged.breach) =
    subst (λ breach. c.against.result ≡ against judging.count c.in-Ok.found (broken_of breach)) c.breach.ensures (c.against.ensures judging.count c.requires.may.placed) in
    round_leaves config requirements judging judged c.args.round.now c.in-Ok.found judged.breach kept c.requires.may.placed c.in-Ok.ensures.judged c.in-Ok.ensures.tested c.against.result decides
