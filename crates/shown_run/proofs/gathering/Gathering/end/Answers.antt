-- The stretch is cut from the records that are kept.
use Rattle.std.proofs.Common.{List}
use Rattle.apex_types.specs.declared.record.Ordered.{Ordered}
use Rattle.shown_run.specs.Stretches.{IsGathered, up_to}
use Rattle.shown_run.proofs.gathering.Gathering.end.Goals as goal

pub shorten-requires : goal.shorten-requires
shorten-requires c = (up_to c.args.self.asked.at c.requires.0, c.in-Ok.ensures c.args.config.now (up_to c.args.self.asked.at c.requires.0) c.requires.1)

pub returns : goal.returns
returns c =
    let kept = λ (taken : List Ordered) (are : IsGathered c.args.config.now taken c.args.self).
    c.in-Ok-shorten.ensures.kept (up_to c.args.self.asked.at taken) (c.in-Ok.ensures c.args.config.now (up_to c.args.self.asked.at taken) are) in
    record { kept = kept; whole = (up_to c.args.self.asked.at c.requires.0, kept c.requires.0 c.requires.1) }
