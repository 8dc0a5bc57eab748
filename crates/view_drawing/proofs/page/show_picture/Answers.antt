use Rattle.shown_run.specs.Stretches.{answer_of}
use Rattle.user_rules.specs.Rules.{required_of}
use Rattle.view_drawing.proofs.Ends.{shown_as}
use Rattle.view_drawing.proofs.page.show_picture.Goals as goal

pub returns-clause-shown : goal.returns-clause-shown
returns-clause-shown g c =
    λ honest. shown_as (record { recordings = g.S.TextSource.can_fail; certificate = g.C.TextSource.can_fail }) c.args.shown.now.config.now (required_of c.args.memories.now c.args.rules.now) c.args.placer.now (answer_of c.gather-gathered.result)
    c.end_picture.result c.end_picture.ensures.end (c.gather-gathered.ensures.answer honest)
