use Rattle.std.proofs.Common.{List, ap, ◌∙◌}
use Rattle.apex_machine.specs.declared.state.Entry.{Entry}
use Rattle.apex_machine.specs.Waiting.{first_waiter}
use Rattle.wait_set.specs.Sets.{Waiters, without_named}
use Rattle.wait_set.proofs.Leaving.{without-named_first}
use Rattle.wait_set.proofs.set.WaitSet.release_first.Goals as goal

pub returns-clause-left : goal.returns-clause-left
returns-clause-left c =
    let old : Waiters = c.args.self.now in
    let left : Waiters → Waiters = λ set. record set { entries = without_named c.args.named.now set.entries } in
    let whole : List Entry → Waiters = λ entries. record old { entries = entries } in
    c.release.ensures ∙ ap left c.take_first-first.ensures.taken
    ∙ ap whole (without-named_first (first_waiter old.discipline old.entries) c.args.named.now old.entries c.requires)
