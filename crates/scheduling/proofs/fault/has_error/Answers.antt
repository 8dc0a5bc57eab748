-- Whether one of the listed errors is of the process.
use Rattle.std.proofs.Common.{nat_eq, rules, tests, sym, ◌∙◌}
use Rattle.std.proofs.lemmas.Iterator.{YieldsList-from_slice}
use Rattle.std.proofs.lemmas.Iterator.Search.{any_from_yields_List}
use Rattle.apex_machine.specs.declared.state.ListedError.{ListedError}
use Rattle.scheduling.proofs.Faults.{has_error-any}
use Rattle.scheduling.proofs.fault.has_error.Goals as goal

pub returns : goal.returns
returns c =
    any_from_yields_List (λ (error : ListedError). nat_eq error.process c.args.number) _ _ _ c.any.ensures.ran (YieldsList-from_slice c.args.listed.now cc) (λ x b q k. search (rules, tests))
    ∙ sym (has_error-any c.args.number c.args.listed.now)
