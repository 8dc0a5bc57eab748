-- Round by round, up to the answer.
use Rattle.std.proofs.Common.{◌≡◌, ◌+◌, ◌∙◌, ◌++◌, List, [], Some, inl, inr, length, refl, subst, sym}
use Rattle.placement.specs.Reading.{CanFail}
use Rattle.report.proofs.Going.{filled_on}
use Rattle.report.specs.Rounds.{IsDecided}
use Rattle.user_rules.specs.Remembered.{with_kept}
use Rattle.user_rules.specs.Rules.{required_of}
use Rattle.verdict_merge.specs.Rounds.{AreGoing}
use Rattle.shown_run.specs.Judged.{IsGatheredOf, answer_after, filled_of, judging_of}
use Rattle.shown_run.specs.Stretches.{with_accepted}
use Rattle.apex_machine.specs.Runs.{AreOfCores, ArePlaced}
use Rattle.shown_run.proofs.Judging.{goes_on, hold_nothing, have_taken, hold_on, lead_on, ready_on, round_answer, round_shown, whenever}
use Rattle.shown_run.proofs.UpTo.{gathered_same}
use Rattle.shown_run.proofs.gathered.gather_all.Goals as goal

pub rounds-init : goal.rounds-init
rounds-init g c = record {
  going = c.requires.going;
  config = refl;
  memories = refl;
  rules = refl;
  lanes = c.requires.cores;
  place = c.requires.first;
  pieces = c.requires.pieces;
  asked = refl;
  outcome = ([], (λ honest scanned ahead. ahead), hold_nothing c.args.run.now.config.now (required_of c.args.run.now.memories.now c.args.run.now.rules.now) c.args.run.now.walk c.args.run.now.kept c.requires.cold c.requires.kept, c.requires.gathered);
}

pub returns-in-Some-clause-shown : goal.returns-in-Some-clause-shown
returns-in-Some-clause-shown g c = λ honest.
    let can_fail : CanFail = record { recordings = g.S.TextSource.can_fail; certificate = g.C.TextSource.can_fail } in
    let config = c.args.run.now.config.now in
    let required = required_of c.args.run.now.memories.now c.args.run.now.rules.now in
    let is = c.rounds.invariant in
    let outcome = is.outcome in
    let round = c.in-Ok.round in
    let records = round.records.items in
    let next = c.rounds.first + length records in
    let honest_then = c.end_with.ensures.honest honest in
    let answered : answer_after next round.end c.in-Ok-judge.verdict ≡ Some c.in-Some.answer =
    subst (λ place. answer_after place round.end c.in-Ok-judge.verdict ≡ Some c.in-Some.answer) c.in-Ok.ensures.next (sym c.answer-answer.ensures ∙ c.in-Some.is) in
    let decided : IsDecided config (with_kept required c.rounds.run.kept) (judging_of c.rounds.first c.rounds.run.walk c.rounds.run.kept) records c.in-Ok-judge.verdict (judging_of next c.judge.new.self.walk c.judge.new.self.kept) =
    rw (c.deref.ensures.value, is.config, is.memories, is.rules) at c.in-Ok-judge.ensures.decided in
    let ahead = round_answer can_fail config required c.args.placer.now c.next_round.new.placer c.rounds.first next c.rounds.run.walk c.judge.new.self.walk c.rounds.run.kept c.judge.new.self.kept outcome.0 records round.end
    c.in-Ok-judge.verdict c.in-Some.answer answered
    (filled_on can_fail c.args.placer.now c.rounds.placer c.next_round.new.placer outcome.0 records (filled_of round.end) (outcome.1 (c.next_round.ensures.honest honest_then)) (c.in-Ok.ensures.filled honest_then))
    outcome.2 decided in
    let gathered = c.in-Ok-add.ensures.gathered config outcome.0 outcome.3 (c.in-Ok.ensures.first ∙ outcome.2.2) (subst (λ place. ArePlaced place records) outcome.2.2 c.in-Ok.ensures.placed)
    (subst (λ cores. AreOfCores cores records) is.lanes c.in-Ok.ensures.cores)
    (have_taken config required c.rounds.first c.rounds.run.walk c.judge.new.self.walk c.rounds.run.kept c.judge.new.self.kept outcome.0 records c.in-Ok-judge.verdict outcome.2 c.in-Ok.ensures.placed decided) in
    let shown = round_shown can_fail config required c.args.placer.now c.rounds.first next c.rounds.run.walk c.judge.new.self.walk c.rounds.run.kept c.judge.new.self.kept outcome.0 records round.end
    c.in-Ok-judge.verdict c.in-Some.answer c.end_with.new.gathering answered refl outcome.2 c.in-Ok.ensures.placed decided
    (gathered_same config (with_accepted outcome.0 records c.in-Ok-judge.verdict) c.add.new.self c.end_with.new.gathering c.end_with.ensures.same gathered) ahead in
    elim c.end_with.ensures.answer [
      | inl same ↦ subst (λ answer. IsGatheredOf can_fail config required c.args.placer.now answer c.end_with.new.gathering) (sym same) shown
      | inr memory ↦ inl memory
    ]

pub returns-in-Some-clause-gathered : goal.returns-in-Some-clause-gathered
returns-in-Some-clause-gathered g c =
    let config = c.args.run.now.config.now in
    let required = required_of c.args.run.now.memories.now c.args.run.now.rules.now in
    let is = c.rounds.invariant in
    let outcome = is.outcome in
    let records = c.in-Ok.round.records.items in
    let decided : IsDecided config (with_kept required c.rounds.run.kept) (judging_of c.rounds.first c.rounds.run.walk c.rounds.run.kept) records c.in-Ok-judge.verdict (judging_of (c.rounds.first + length records) c.judge.new.self.walk c.judge.new.self.kept) =
    rw (c.deref.ensures.value, is.config, is.memories, is.rules) at c.in-Ok-judge.ensures.decided in
    let gathered = c.in-Ok-add.ensures.gathered config outcome.0 outcome.3 (c.in-Ok.ensures.first ∙ outcome.2.2) (subst (λ place. ArePlaced place records) outcome.2.2 c.in-Ok.ensures.placed)
    (subst (λ cores. AreOfCores cores records) is.lanes c.in-Ok.ensures.cores)
    (have_taken config required c.rounds.first c.rounds.run.walk c.judge.new.self.walk c.rounds.run.kept c.judge.new.self.kept outcome.0 records c.in-Ok-judge.verdict outcome.2 c.in-Ok.ensures.placed decided) in
    let all = with_accepted outcome.0 records c.in-Ok-judge.verdict in
    whenever c.end_with.result _ (all, gathered_same config all c.add.new.self c.end_with.new.gathering c.end_with.ensures.same gathered)

pub returns-in-Some-clause-asked : goal.returns-in-Some-clause-asked
returns-in-Some-clause-asked g c = whenever c.end_with.result _ (c.end_with.ensures.same.1 ∙ c.in-Ok-add.ensures.asked ∙ c.rounds.invariant.asked)

pub rounds-preserved : goal.rounds-preserved
rounds-preserved g c =
    let can_fail : CanFail = record { recordings = g.S.TextSource.can_fail; certificate = g.C.TextSource.can_fail } in
    let config = c.args.run.now.config.now in
    let required = required_of c.args.run.now.memories.now c.args.run.now.rules.now in
    let is = c.rounds.invariant in
    let outcome = is.outcome in
    let round = c.in-Ok.round in
    let records = round.records.items in
    let none = goes_on round.next round.end c.in-Ok-judge.verdict (sym c.answer-answer.ensures ∙ c.in_default-answer.is) in
    let decided : IsDecided config (with_kept required c.rounds.run.kept) (judging_of c.rounds.first c.rounds.run.walk c.rounds.run.kept) records c.in-Ok-judge.verdict (judging_of (c.rounds.first + length records) c.judge.new.self.walk c.judge.new.self.kept) =
    rw (c.deref.ensures.value, is.config, is.memories, is.rules) at c.in-Ok-judge.ensures.decided in
    let pieces : AreGoing config (c.rounds.first + length records) c.judge.new.self.walk =
    ready_on config (with_kept required c.rounds.run.kept) c.rounds.first (c.rounds.first + length records) c.rounds.run.walk c.judge.new.self.walk c.rounds.run.kept c.judge.new.self.kept records c.in-Ok-judge.verdict none.1 decided in
    record {
      going = c.in-Ok.ensures.going none.0;
      config = c.judge.ensures.same ∙ is.config;
      memories = c.judge.ensures.memories ∙ is.memories;
      rules = c.judge.ensures.rules ∙ is.rules;
      lanes = c.next_round.ensures.lanes ∙ is.lanes;
      place = c.in-Ok.ensures.place none.0;
      pieces = subst (λ place. AreGoing config place c.judge.new.self.walk) (sym c.in-Ok.ensures.next) pieces;
      asked = c.in-Ok-add.ensures.asked ∙ is.asked;
      outcome = (
        outcome.0 ++ records,
        (λ honest. lead_on can_fail c.args.placer.now c.rounds.placer c.next_round.new.placer outcome.0 records round.end none.0 (outcome.1 (c.next_round.ensures.honest honest)) (c.in-Ok.ensures.filled honest)),
        hold_on config required c.rounds.first round.next c.rounds.run.walk c.judge.new.self.walk c.rounds.run.kept c.judge.new.self.kept outcome.0 records c.in-Ok-judge.verdict none.1 c.in-Ok.ensures.next outcome.2 decided,
        c.in-Ok-add.ensures.goes_on config outcome.0 outcome.3 (c.in-Ok.ensures.first ∙ outcome.2.2) (subst (λ place. ArePlaced place records) outcome.2.2 c.in-Ok.ensures.placed)
            (subst (λ cores. AreOfCores cores records) is.lanes c.in-Ok.ensures.cores)
            (have_taken config required c.rounds.first c.rounds.run.walk c.judge.new.self.walk c.rounds.run.kept c.judge.new.self.kept outcome.0 records c.in-Ok-judge.verdict outcome.2 c.in-Ok.ensures.placed decided)
            none.1 none.0,
      );
    }
