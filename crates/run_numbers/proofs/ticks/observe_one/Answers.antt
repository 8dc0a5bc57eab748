-- What the process gives, if there is one.
use Rattle.std.proofs.Common.{◌∙◌, ◌++◌, ℕ, [], Option, ap}
use Rattle.std.proofs.lemmas.Result.{on_ok_weaker}
use Rattle.std.specs.Option.{option_map_or}
use Rattle.apex_machine.specs.declared.state.Process.{Process}
use Rattle.run_numbers.specs.Activities.{spent}
use Rattle.run_numbers.proofs.Added.{none_added}
use Rattle.run_numbers.proofs.ticks.observe_one.Goals as goal

pub returns-in_default : goal.returns-in_default
returns-in_default c =
    let old = c.args.observed.now.items in
    none_added old ∙ ap (λ (one : Option (ℕ × Process)). old ++ option_map_or (spent c.args.part c.args.clock.now.cores c.args.core) one []) c.in_default.ensures

pub returns : goal.returns
returns c =
    let old = c.args.observed.now.items in
    on_ok_weaker c.observe_activity.result
    (λ is. is ∙ ap (λ (one : Option (ℕ × Process)). old ++ option_map_or (spent c.args.part c.args.clock.now.cores c.args.core) one []) c.in-Some.ensures) c.observe_activity.ensures
