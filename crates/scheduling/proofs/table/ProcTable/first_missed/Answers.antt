-- The search finds the first process that has missed its deadline.
use Rattle.std.proofs.Common.{rules, tests}
use Rattle.std.proofs.lemmas.Iterator.Consumers.{YieldsList-from_rest}
use Rattle.std.proofs.lemmas.Iterator.Search.{find_from_yields_List}
use Rattle.apex_machine.specs.Deadlines.{has_missed}
use Rattle.scheduling.proofs.table.ProcTable.first_missed.Goals as goal

pub returns : goal.returns
returns c =
    rw (← c.self.view_is)
    (find_from_yields_List (λ entry. has_missed c.args.core c.args.now entry.1) _ _ c.find.result c.find.ensures.ran (YieldsList-from_rest _ c.iter.ensures.rest)
    (λ x b q k. search (rules, tests)))
