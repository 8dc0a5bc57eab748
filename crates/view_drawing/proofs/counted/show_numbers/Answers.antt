use Rattle.user_rules.specs.Rules.{required_of}
use Rattle.view_drawing.proofs.Ends.{followed_shown}
use Rattle.view_drawing.proofs.counted.show_numbers.Goals as goal

pub returns : goal.returns
returns g c =
    λ honest. followed_shown (record { recordings = g.S.TextSource.can_fail; certificate = g.C.TextSource.can_fail }) c.args.shown.now.config.now (required_of c.args.memories.now c.args.rules.now) c.args.placer.now c.follow-followed.result c.end_numbers.result
    c.end_numbers.ensures (c.follow-followed.ensures honest)
