use Rattle.std.proofs.Common.{◌≡◌, ap, sym, ◌∙◌, Option, Some, None, Bor, IfSome}
use Rattle.std.specs.Map.{values_of}
use Rattle.apex_machine.specs.declared.state.Entry.{Entry}
use Rattle.apex_machine.specs.Waiting.{first_waiter}
use Rattle.wait_set.specs.Sets.{entry_of}
use Rattle.std.specs.Option.{option_copied}
use Rattle.wait_set.proofs.Firsts.{first_is_its_own, first_of_least, first_of_none}
use Rattle.wait_set.proofs.set.WaitSet.first.Goals as goal

pub returns-in_err-rank-clause-first : goal.returns-in_err-rank-clause-first
returns-in_err-rank-clause-first c =
    rw (← c.self.view_is)
    (ap option_copied c.from_residual.ensures
    ∙ sym (first_of_none c.self.inside.discipline c.self.inside.entries.entries _ _ c.self.invariant c.in_err-rank.ensures.variant.1))

pub returns-clause-first : goal.returns-clause-first
returns-clause-first c =
    rw (← c.self.view_is)
    (c.get.ensures.value
    ∙ first_of_least c.self.inside.discipline c.self.inside.entries.entries _ _ c.in_ok-rank.rank.now c.self.invariant c.in_ok-rank.ensures.member
    c.in_ok-rank.ensures.least)

pub returns-clause-own : goal.returns-clause-own
returns-clause-own c =
    rw (← c.self.view_is)
    (by c.get.result (c.get.ensures.value
    ∙ first_of_least c.self.inside.discipline c.self.inside.entries.entries _ _ c.in_ok-rank.rank.now c.self.invariant c.in_ok-rank.ensures.member
    c.in_ok-rank.ensures.least))
  where
    by : (found : Option (Bor Entry)) → option_copied found ≡ first_waiter c.self.inside.discipline (values_of c.self.inside.entries.entries)
        → IfSome found (λ entry. entry_of entry.now.who (values_of c.self.inside.entries.entries) ≡ Some entry.now)
    by None is = tt
    by (Some entry) is = first_is_its_own c.self.inside.discipline (values_of c.self.inside.entries.entries) entry.now c.self.invariant.once (sym is)
