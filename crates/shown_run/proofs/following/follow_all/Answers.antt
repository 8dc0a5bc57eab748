-- Record by record, up to the answer.
use Rattle.std.proofs.Common.{◌≡◌, ◌+◌, ◌∙◌, ◌++◌, [], Some, length, refl, subst, sym}
use Rattle.placement.specs.Reading.{CanFail}
use Rattle.report.proofs.Going.{filled_on}
use Rattle.report.specs.Rounds.{IsDecided}
use Rattle.user_rules.specs.Remembered.{with_kept}
use Rattle.user_rules.specs.Rules.{required_of}
use Rattle.verdict_merge.specs.Rounds.{AreGoing}
use Rattle.shown_run.specs.Judged.{answer_after, filled_of, judging_of}
use Rattle.shown_run.proofs.Judging.{answer_ahead, goes_on, hold_nothing, hold_on, is_followed, lead_on, ready_on, round_answer}
use Rattle.shown_run.proofs.following.follow_all.Goals as goal

pub records-init : goal.records-init
records-init g c = record {
  going = c.requires.going;
  config = refl;
  memories = refl;
  rules = refl;
  lanes = c.requires.cores;
  place = c.requires.first;
  pieces = c.requires.pieces;
  outcome = ([], (λ honest scanned ahead. ahead), hold_nothing c.args.run.now.config.now (required_of c.args.run.now.memories.now c.args.run.now.rules.now) c.args.run.now.walk c.args.run.now.kept c.requires.cold c.requires.kept);
}

pub returns-in-Some : goal.returns-in-Some
returns-in-Some g c = λ honest.
    let can_fail : CanFail = record { recordings = g.S.TextSource.can_fail; certificate = g.C.TextSource.can_fail } in
    let config = c.args.run.now.config.now in
    let required = required_of c.args.run.now.memories.now c.args.run.now.rules.now in
    let is = c.records.invariant in
    let outcome = is.outcome in
    let round = c.in-Ok.round in
    let records = round.records.items in
    let next = c.records.first + length records in
    let answered : answer_after next round.end c.in-Ok-judge.verdict ≡ Some c.in-Some.answer =
    subst (λ place. answer_after place round.end c.in-Ok-judge.verdict ≡ Some c.in-Some.answer) c.in-Ok.ensures.next (sym c.answer.ensures ∙ c.in-Some.is) in
    let decided : IsDecided config (with_kept required c.records.run.kept) (judging_of c.records.first c.records.run.walk c.records.run.kept) records c.in-Ok-judge.verdict (judging_of next c.judge.new.self.walk c.judge.new.self.kept) =
    rw (c.deref.ensures.value, is.config, is.memories, is.rules) at c.in-Ok-judge.ensures.decided in
    rw c.followed.ensures (is_followed _ can_fail config required c.args.placer.now c.in-Some.answer
    (answer_ahead can_fail config required c.args.placer.now (outcome.0 ++ records) c.in-Some.answer
    (round_answer can_fail config required c.args.placer.now c.next_round.new.placer c.records.first next c.records.run.walk c.judge.new.self.walk c.records.run.kept c.judge.new.self.kept outcome.0 records round.end
    c.in-Ok-judge.verdict c.in-Some.answer answered
    (filled_on can_fail c.args.placer.now c.records.placer c.next_round.new.placer outcome.0 records (filled_of round.end) (outcome.1 (c.next_round.ensures.honest honest)) (c.in-Ok.ensures.filled honest))
    outcome.2 decided)))

pub records-preserved : goal.records-preserved
records-preserved g c =
    let can_fail : CanFail = record { recordings = g.S.TextSource.can_fail; certificate = g.C.TextSource.can_fail } in
    let config = c.args.run.now.config.now in
    let required = required_of c.args.run.now.memories.now c.args.run.now.rules.now in
    let is = c.records.invariant in
    let outcome = is.outcome in
    let round = c.in-Ok.round in
    let records = round.records.items in
    let none = goes_on round.next round.end c.in-Ok-judge.verdict (sym c.answer.ensures ∙ c.in_default-answer.is) in
    let decided : IsDecided config (with_kept required c.records.run.kept) (judging_of c.records.first c.records.run.walk c.records.run.kept) records c.in-Ok-judge.verdict (judging_of (c.records.first + length records) c.judge.new.self.walk c.judge.new.self.kept) =
    rw (c.deref.ensures.value, is.config, is.memories, is.rules) at c.in-Ok-judge.ensures.decided in
    let pieces : AreGoing config (c.records.first + length records) c.judge.new.self.walk =
    ready_on config (with_kept required c.records.run.kept) c.records.first (c.records.first + length records) c.records.run.walk c.judge.new.self.walk c.records.run.kept c.judge.new.self.kept records c.in-Ok-judge.verdict none.1 decided in
    record {
      going = c.in-Ok.ensures.going none.0;
      config = c.judge.ensures.same ∙ is.config;
      memories = c.judge.ensures.memories ∙ is.memories;
      rules = c.judge.ensures.rules ∙ is.rules;
      lanes = c.next_round.ensures.lanes ∙ is.lanes;
      place = c.in-Ok.ensures.place none.0;
      pieces = subst (λ place. AreGoing config place c.judge.new.self.walk) (sym c.in-Ok.ensures.next) pieces;
      outcome = (
        outcome.0 ++ records,
        (λ honest. lead_on can_fail c.args.placer.now c.records.placer c.next_round.new.placer outcome.0 records round.end none.0 (outcome.1 (c.next_round.ensures.honest honest)) (c.in-Ok.ensures.filled honest)),
        hold_on config required c.records.first round.next c.records.run.walk c.judge.new.self.walk c.records.run.kept c.judge.new.self.kept outcome.0 records c.in-Ok-judge.verdict none.1 c.in-Ok.ensures.next outcome.2 decided,
      );
    }
