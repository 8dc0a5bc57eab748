use Rattle.shown_run.proofs.Kept.{joined}
use Rattle.shown_run.proofs.recent.Recent.into_span.Goals as goal

pub returns : goal.returns
returns c = λ configuration taken are. joined configuration taken c.args.self c.append.new.self.items c.in_ok-append.ensures.items are
