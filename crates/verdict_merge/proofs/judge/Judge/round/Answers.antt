use Rattle.std.proofs.Common.{refl, subst, sym}
use Rattle.user_rules.specs.Rules.{requirements_of}
use Rattle.verdict_merge.specs.Rounds.{IsReady, IsRound, IsTested, Judging, parts_of}
use Rattle.verdict_merge.proofs.Ruled.{round_is}
use Rattle.verdict_merge.proofs.judge.Judge.round.Goals as goal

pub returns-clause-judged : goal.returns-clause-judged
returns-clause-judged g c =
    let config = c.args.config.now in
    let surveyed = c.in-Ok-survey.surveyed in
    let old : Judging = record { count = c.self.inside.count; pieces = c.self.inside.pieces.items; breach = c.self.inside.breach; kept = c.self.inside.remembering } in
    let new : Judging = record { count = c.place_after-self-inside.result; pieces = surveyed.pieces.items; breach = surveyed.breach; kept = c.survey.new.self } in
    let ready : IsReady config old = subst (IsReady config) (sym c.self.view_is) c.requires.ready in
    let over = rw (c.keeping-lent.ensures.config, c.keeping-lent.ensures.first, c.keeping-lent.ensures.records, c.with_windows-lent.ensures.config, c.with_windows-lent.ensures.first, c.with_windows-lent.ensures.records, c.replace-pieces.ensures.value, c.tested_at_once-at_once.ensures) at c.in-Ok.ensures.judged in
    let gathered = rw (c.keeping-lent.ensures.config, c.keeping-lent.ensures.first, c.keeping-lent.ensures.records, c.with_windows-lent.ensures.config, c.with_windows-lent.ensures.first, c.with_windows-lent.ensures.records) at c.in-Ok-survey.ensures in
    let is = gathered old.pieces ready over in
    subst (λ judging. IsRound config judging c.args.records.now surveyed.found new) c.self.view_is
    (round_is config old new c.args.records.now surveyed c.place_after-self-inside.ensures is.outcome is.going refl)

pub returns-clause-tested : goal.returns-clause-tested
returns-clause-tested g c =
    let config = c.args.config.now in
    let surveyed = c.in-Ok-survey.surveyed in
    let old : Judging = record { count = c.self.inside.count; pieces = c.self.inside.pieces.items; breach = c.self.inside.breach; kept = c.self.inside.remembering } in
    let ready : IsReady config old = subst (IsReady config) (sym c.self.view_is) c.requires.ready in
    let over = rw (c.keeping-lent.ensures.config, c.keeping-lent.ensures.first, c.keeping-lent.ensures.records, c.with_windows-lent.ensures.config, c.with_windows-lent.ensures.first, c.with_windows-lent.ensures.records, c.replace-pieces.ensures.value, c.tested_at_once-at_once.ensures) at c.in-Ok.ensures.judged in
    let gathered = rw (c.keeping-lent.ensures.config, c.keeping-lent.ensures.first, c.keeping-lent.ensures.records, c.with_windows-lent.ensures.config, c.with_windows-lent.ensures.first, c.with_windows-lent.ensures.records) at c.in-Ok-survey.ensures in
    subst (λ judging. IsTested config (requirements_of c.args.memories.now judging.kept c.args.rules.now) (parts_of judging) c.args.records.now surveyed.found surveyed.breach c.survey.new.self) c.self.view_is
    (gathered old.pieces ready over).tested
