use Rattle.std.proofs.Common.{List, sym, ◌∙◌, true≢false}
use Rattle.std.proofs.lemmas.Map.Entries.{length-values_of}
use Rattle.std.specs.Map.{values_of}
use Rattle.apex_machine.specs.declared.state.Entry.{Entry}
use Rattle.wait_set.proofs.WaiterLists.{all-listed, waiter_list-exact, waiter_list-length, listed-all, is_member-exact}
use Rattle.wait_set.proofs.set.WaitSet.is_exactly.Goals as goal

pub returns-then-named-len : goal.returns-then-named-len
returns-then-named-len c =
    let entries : List Entry = values_of c.self.inside.entries.entries in
    rw (← c.self.view_is) (
      λ is. absurd (true≢false (sym is)),
      λ waiter_list. absurd (c.if-named-len.true (waiter_list-length entries c.args.named.now c.self.invariant.once waiter_list.0 waiter_list.1
          ∙ length-values_of c.self.inside.entries.entries ∙ sym c.len.ensures.len)),
    )

pub returns-then-names_nobody_twice : goal.returns-then-names_nobody_twice
returns-then-names_nobody_twice c =
    let entries : List Entry = values_of c.self.inside.entries.entries in
    let once = c.names_nobody_twice.ensures.0 c.if-names_nobody_twice.true in
    let all = rw (← c.self.view_is) at c.all_have_entries.ensures in
    rw (← c.self.view_is) (
      λ is. (
        waiter_list-exact entries c.args.named.now c.self.invariant.once once
            (c.if-named-len.false ∙ c.len.ensures.len ∙ sym (length-values_of c.self.inside.entries.entries))
            (all-listed entries c.args.named.now (sym all ∙ is)),
        once,
      ),
      λ waiter_list. all ∙ listed-all entries c.args.named.now (is_member-exact entries c.args.named.now waiter_list.0),
    )
