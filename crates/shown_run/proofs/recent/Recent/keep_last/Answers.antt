-- The first records of a round are kept after those of the earlier span.
use Rattle.std.proofs.Common.{◌∙◌, refl}
use Rattle.shown_run.proofs.Kept.{recent_last}
use Rattle.shown_run.proofs.recent.Recent.keep_last.Goals as goal

pub returns-clause-recent : goal.returns-clause-recent
returns-clause-recent c = λ configuration taken are placed cores run.
    recent_last configuration c.args.self.now _ taken c.args.count c.args.records.items refl refl (c.from.ensures.0 ∙ c.in_ok-left.ensures.items) c.requires.begun are placed cores
    run
