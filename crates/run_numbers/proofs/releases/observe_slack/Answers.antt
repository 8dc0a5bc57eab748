-- The ticks that are left, if there is a deadline.
use Rattle.std.proofs.Common.{◌∙◌, ◌++◌, ◌∷◌, [], ap, sym}
use Rattle.std.proofs.lemmas.Result.{on_ok_weaker}
use Rattle.run_numbers.specs.declared.figure.Figure.TheVariants.{Slack}
use Rattle.run_numbers.specs.declared.observation.Observation.TheVariants.{Value}
use Rattle.run_numbers.specs.Releases.{slack_left}
use Rattle.run_numbers.proofs.releases.observe_slack.Goals as goal

pub returns : goal.returns
returns c =
    let old = c.args.observed.now.items in
    on_ok_weaker c.add.result
    (λ is. is ∙ ap (λ left. old ++ Value (Slack c.args.who.now) left ∷ []) c.saturating_sub-left.ensures
    ∙ ap (λ deadline. old ++ slack_left c.args.now c.args.who.now deadline) (sym c.in-Some.is)) c.add.ensures
