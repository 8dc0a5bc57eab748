-- What the records of a round decide, and what the witness is shown of it.
use Rattle.std.proofs.Common.{◌+◌, ◌∙◌, Ok, Option, Some, length, subst, sym}
use Rattle.user_rules.specs.Rules.{required_of, requirements_of}
use Rattle.report.specs.Rounds.{IsDecided}
use Rattle.report.specs.Shown.{StillBreaks, StillRejects}
use Rattle.verdict_merge.proofs.Ruled.{breach_within}
use Rattle.verdict_merge.specs.declared.verdict.Verdict.{Verdict}
use Rattle.verdict_merge.specs.Rounds.{parts_in}
use Rattle.shown_run.specs.Judged.{judging_of, judging_with}
use Rattle.shown_run.proofs.Judging.{breaks_there, judged_round, rejects_there}
use Rattle.shown_run.proofs.run.Run.judge.Goals as goal

pub against-verdict-requires : goal.against-verdict-requires
against-verdict-requires g c =
    let run = c.args.self.now in
    let taken = c.in-Ok.taken in
    breach_within run.config.now (requirements_of run.memories.now run.kept run.rules.now) (parts_in run.walk) c.args.records.now taken.found taken.breach c.take.new.self.kept c.in-Ok.ensures.tested

pub tell-requires-clause-rejects : goal.tell-requires-clause-rejects
tell-requires-clause-rejects g c =
    let run = c.args.self.now in
    let config = run.config.now in
    let requirements = requirements_of run.memories.now run.kept run.rules.now in
    let kept = c.take.new.self.kept in
    let taken = c.in-Ok.taken in
    let records = c.args.records.now in
    let new = c.take.new.self.walk in
    let decided : IsDecided config requirements (judging_of c.args.first run.walk run.kept) records (Some c.in-Some.verdict) (judging_of (c.args.first + length records) new kept) =
    subst (λ (decides : Option Verdict). IsDecided config requirements (judging_of c.args.first run.walk run.kept) records decides (judging_of (c.args.first + length records) new kept)) c.in-Some.is
    (judged_round config requirements c.args.first run.walk new run.kept kept records taken.found taken.breach c.requires.going c.requires.placed c.requires.cores c.in-Ok.ensures.outcome
    c.in-Ok.ensures.tested c.in-Ok.ensures.going c.against-verdict.result (c.against-verdict.ensures c.args.first c.requires.placed)) in
    subst (λ keeps. StillRejects config records (Ok c.in-Some.verdict) (judging_of c.args.first new keeps)) (sym c.recollection.ensures)
    (rejects_there config requirements c.args.first run.walk new run.kept kept c.requires.reached.0 records c.in-Some.verdict c.requires.reached.1 c.requires.reached.3 c.requires.placed decided)

pub tell-requires-clause-breaks : goal.tell-requires-clause-breaks
tell-requires-clause-breaks g c =
    let run = c.args.self.now in
    let taken = c.in-Ok.taken in
    let required = required_of run.memories.now run.rules.now in
    let kept = c.take.new.self.kept in
    subst (λ keeps. StillBreaks run.config.now required c.args.records.now (Ok c.in-Some.verdict) (judging_with c.args.first c.take.new.self.walk keeps taken.breach)) (sym c.recollection.ensures)
    (breaks_there run.config.now required c.args.first run.walk c.take.new.self.walk run.kept kept c.requires.reached.0 c.args.records.now taken.found taken.breach c.in-Some.verdict
    c.requires.reached.1 c.requires.reached.2 c.requires.reached.3 c.requires.placed c.in-Ok.ensures.outcome c.in-Ok.ensures.tested c.in-Ok.ensures.going
    (sym (c.against-verdict.ensures c.args.first c.requires.placed) ∙ c.in-Some.is))

pub returns-clause-decided : goal.returns-clause-decided
returns-clause-decided g c =
    let run = c.args.self.now in
    let taken = c.in-Ok.taken in
    judged_round run.config.now (requirements_of run.memories.now run.kept run.rules.now) c.args.first run.walk c.take.new.self.walk run.kept c.take.new.self.kept c.args.records.now taken.found taken.breach c.requires.going c.requires.placed
    c.requires.cores c.in-Ok.ensures.outcome c.in-Ok.ensures.tested c.in-Ok.ensures.going c.against-verdict.result (c.against-verdict.ensures c.args.first c.requires.placed)
