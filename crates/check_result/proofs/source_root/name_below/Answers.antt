use Rattle.std.proofs.Common.{◌∙◌}
use Rattle.check_result.proofs.Below.{below-no, below-yes}
use Rattle.check_result.proofs.source_root.name_below.Goals as goal

pub returns-in-Some : goal.returns-in-Some
returns-in-Some c =
    let cut = c.in-Some.ensures.cases in
    c.after_slash.ensures ∙ below-yes c.args.root.now c.args.whole.now c.in-Some.rest.now cut.0 cut.1 cut.2

pub returns-in-None : goal.returns-in-None
returns-in-None c = below-no c.args.root.now c.args.whole.now c.in-None.ensures.cases
