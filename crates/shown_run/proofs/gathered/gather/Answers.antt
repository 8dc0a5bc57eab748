-- The stretch that comes with a verdict is that of the records that were gathered.
use Rattle.std.proofs.Common.{◌≡◌, ◌∙◌, ap}
use Rattle.placement.specs.Reading.{CanFail}
use Rattle.user_rules.specs.Rules.{required_of}
use Rattle.shown_run.specs.declared.stretch.Asked.{Asked}
use Rattle.shown_run.proofs.Judging.{stretch_shown}
use Rattle.shown_run.proofs.gathered.gather.Goals as goal

pub returns-in-Ok-end-clause-shown : goal.returns-in-Ok-end-clause-shown
returns-in-Ok-end-clause-shown g c = λ honest.
    let can_fail : CanFail = record { recordings = g.S.TextSource.can_fail; certificate = g.C.TextSource.can_fail } in
    let asked : c.gather_all.new.gathering.asked.at ≡ c.args.asked.at = ap (λ (one : Asked). one.at) (c.in-Ok-gather_all.ensures.asked ∙ c.in-Ok-start.ensures.asked) in
    stretch_shown can_fail c.args.config.now (required_of c.args.memories.now c.args.rules.now) c.args.placer.now c.args.asked.at c.in-Ok-gather_all.verdict c.gather_all.new.gathering c.in-Ok-end.stretch asked
    c.in-Ok-end.ensures.kept (rw (c.in-Ok.ensures.config, c.in-Ok.ensures.memories, c.in-Ok.ensures.rules) at (c.in-Ok-gather_all.ensures.shown honest))
