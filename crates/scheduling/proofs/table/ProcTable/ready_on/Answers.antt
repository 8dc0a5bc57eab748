-- The first rank of the core is that of the choice.
use Rattle.std.proofs.Common.{◌≡◌, Some, None, ap, sym, refl, ◌∙◌}
use Rattle.scheduling.specs.Firsts.{first_on}
use Rattle.scheduling.specs.Orders.{keys_in}
use Rattle.scheduling.specs.Ranks.{rank_before, rank_of}
use Rattle.scheduling.proofs.Firsts.{choice-first}
use Rattle.scheduling.proofs.table.ProcTable.ready_on.Goals as goal

pub returns-in-Some : goal.returns-in-Some
returns-in-Some c =
    let first : first_on c.args.core (keys_in rank_before rank_of c.self.inside.processes.entries) ≡ Some c.in-Some.proc
    = ap (first_on c.args.core) (sym c.self.invariant.ranks) ∙ sym c.first_on.ensures ∙ c.in-Some.is in
    rw (← c.self.view_is, choice-first c.args.part c.args.core c.self.inside.processes.entries, first) refl

pub returns-in-None : goal.returns-in-None
returns-in-None c =
    let first : first_on c.args.core (keys_in rank_before rank_of c.self.inside.processes.entries) ≡ None
    = ap (first_on c.args.core) (sym c.self.invariant.ranks) ∙ sym c.first_on.ensures ∙ c.in-None.is in
    rw (← c.self.view_is, choice-first c.args.part c.args.core c.self.inside.processes.entries, first) refl
