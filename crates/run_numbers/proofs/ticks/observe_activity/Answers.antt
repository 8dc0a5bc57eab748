-- What the process does, if the tick is of its own core.
use Rattle.std.proofs.Common.{◌∙◌, ◌++◌, ap, nat_eq}
use Rattle.std.proofs.lemmas.Result.{on_ok_weaker}
use Rattle.run_numbers.specs.declared.figure.Figure.TheVariants.{Spent}
use Rattle.run_numbers.specs.declared.observation.Observation.TheVariants.{Value}
use Rattle.run_numbers.specs.Activities.{activity_of}
use Rattle.run_numbers.specs.Observed.{when}
use Rattle.run_numbers.proofs.ticks.observe_activity.Goals as goal

pub returns : goal.returns
returns c =
    let old = c.args.observed.now.items in
    let who = c.args.who.now in
    on_ok_weaker c.add_if.result
    (λ is. is ∙ ap (λ test. old ++ when test (Value (Spent who c.activity_of-activity.result) 1)) c.eq-is_own.ensures
    ∙ ap (λ one. old ++ when (nat_eq c.args.process.now.affinity c.args.core) (Value (Spent who one) 1)) (c.activity_of-activity.ensures ∙ ap (λ occupant. activity_of occupant who c.args.process.now) c.on.ensures))
    c.add_if.ensures
