use Rattle.std.proofs.Common.{rules, tests, sym, ◌∙◌}
use Rattle.std.proofs.lemmas.Iterator.Consumers.{YieldsList-from_rest}
use Rattle.std.proofs.lemmas.Iterator.Search.{any_from_yields_List}
use Rattle.std.specs.Str.{bytes_eq}
use Rattle.apex_machine.specs.declared.state.Process.{Process}
use Rattle.scheduling.proofs.Searches.{is_taken-any}
use Rattle.scheduling.proofs.table.ProcTable.named.Goals as goal

pub returns : goal.returns
returns c =
    rw (← c.self.view_is)
    (any_from_yields_List (λ (process : Process). bytes_eq c.args.name.now process.name) _ _ _ c.any.ensures.ran (YieldsList-from_rest _ c.values.ensures.rest) (λ x b q k. search (rules, tests))
    ∙ sym (is_taken-any c.args.name.now c.self.inside.processes.entries))
