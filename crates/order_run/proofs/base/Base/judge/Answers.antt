use Rattle.std.proofs.Common.{None, refl, subst, sym}
use Rattle.user_rules.specs.Rules.{requirements_of}
use Rattle.verdict_merge.specs.Rounds.{IsReady, IsRound, IsTested, Judging, parts_of}
use Rattle.verdict_merge.proofs.Ruled.{round_is}
use Rattle.order_run.proofs.base.Base.judge.Goals as goal

pub returns : goal.returns
returns g c =
    let config = c.args.config.now in
    let surveyed = c.in_ok-surveyed.surveyed in
    let kept = c.survey.new.self in
    let old : Judging = record { count = c.self.inside.count; pieces = c.self.inside.pieces.items; breach = None; kept = c.self.inside.remembering } in
    let new : Judging = record { count = c.place_after-self-inside.result; pieces = surveyed.pieces.items; breach = None; kept = kept } in
    let ready : IsReady config old = subst (IsReady config) (sym c.self.view_is) c.requires.ready in
    let over = rw (c.keeping-lent.ensures.config, c.keeping-lent.ensures.first, c.keeping-lent.ensures.records, c.new-lent.ensures.config, c.new-lent.ensures.first, c.new-lent.ensures.records, c.replace-pieces.ensures.value, c.tested_at_once-at_once.ensures) at c.in-Ok.ensures in
    let gathered = rw (c.keeping-lent.ensures.config, c.keeping-lent.ensures.first, c.keeping-lent.ensures.records, c.new-lent.ensures.config, c.new-lent.ensures.first, c.new-lent.ensures.records) at c.in_ok-surveyed.ensures in
    let made = gathered old.pieces ready over in
    record {
      round = subst (λ judging. IsRound config judging c.args.records.now surveyed.found new) c.self.view_is
          (round_is config old new c.args.records.now surveyed c.place_after-self-inside.ensures made.outcome made.going refl);
      tested = subst (λ judging. IsTested config (requirements_of c.args.memories.now judging.kept c.args.rules.now) (parts_of judging) c.args.records.now surveyed.found surveyed.breach kept) c.self.view_is made.tested;
    }
