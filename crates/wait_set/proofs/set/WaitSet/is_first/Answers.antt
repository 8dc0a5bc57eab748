use Rattle.std.proofs.Common.{List, ap, min, rules, tests, sym, ◌∙◌, true≢false}
use Rattle.std.proofs.lemmas.Iterator.{YieldsList-from_slice}
use Rattle.std.proofs.lemmas.Iterator.Search.{all_from_yields_List}
use Rattle.std.proofs.lemmas.Map.Entries.{length-values_of}
use Rattle.std.specs.Map.{values_of}
use Rattle.apex_machine.specs.declared.state.Entry.{Entry}
use Rattle.apex_machine.specs.Answer.{waiters_of}
use Rattle.apex_machine.specs.State.{is_named}
use Rattle.apex_machine.specs.Waiting.{first_waiters}
use Rattle.wait_set.proofs.FirstRanks.{all_members, firsts_length, firsts_once}
use Rattle.wait_set.proofs.WaiterLists.{all-listed, waiter_list-exact, waiter_list-length, listed-all, is_member-exact}
use Rattle.wait_set.proofs.set.WaitSet.is_first.Goals as goal

pub returns-then-named-min : goal.returns-then-named-min
returns-then-named-min c =
    let entries : List Entry = values_of c.self.inside.entries.entries in
    let firsts : List Entry = first_waiters c.self.inside.discipline c.args.count entries in
    let size = firsts_length c.self.inside.discipline c.args.count entries c.self.invariant.once
    ∙ ap (min c.args.count) (length-values_of c.self.inside.entries.entries ∙ sym c.len.ensures.len) ∙ sym c.min.ensures in
    rw (← c.self.view_is) (
      λ is. absurd (true≢false (sym is)),
      λ waiter_list. absurd (c.if-named-min.true (waiter_list-length firsts c.args.named.now
          (firsts_once c.self.inside.discipline c.args.count entries c.self.invariant.once) waiter_list.0 waiter_list.1 ∙ size)),
    )

pub returns-then-names_nobody_twice : goal.returns-then-names_nobody_twice
returns-then-names_nobody_twice c =
    let entries : List Entry = values_of c.self.inside.entries.entries in
    let firsts : List Entry = first_waiters c.self.inside.discipline c.args.count entries in
    let firsts_are_once = firsts_once c.self.inside.discipline c.args.count entries c.self.invariant.once in
    let size = firsts_length c.self.inside.discipline c.args.count entries c.self.invariant.once
    ∙ ap (min c.args.count) (length-values_of c.self.inside.entries.entries ∙ sym c.len.ensures.len) ∙ sym c.min.ensures in
    let once = c.names_nobody_twice.ensures.0 c.if-names_nobody_twice.true in
    let all = all_from_yields_List (λ who. is_named who (waiters_of firsts)) _ _ _ c.all.ensures.ran (YieldsList-from_slice c.args.named.now cc)
    (λ x b q k. rw (← c.self.view_is) (search (rules, tests)))
    ∙ all_members firsts c.args.named.now in
    rw (← c.self.view_is) (
      λ is. (
        waiter_list-exact firsts c.args.named.now firsts_are_once once (c.if-named-min.false ∙ sym size) (all-listed firsts c.args.named.now (sym all ∙ is)),
        once,
      ),
      λ waiter_list. all ∙ listed-all firsts c.args.named.now (is_member-exact firsts c.args.named.now waiter_list.0),
    )
