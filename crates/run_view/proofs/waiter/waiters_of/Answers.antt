-- Each turn adds the process whose wait ends first.
use Rattle.std.proofs.Common.{◌≡◌, ◌+◌, ◌-◌, ◌<◌, ◌∙◌, ◌∷◌, ◌++◌, [], List, Some, None, length, ap, subst, arith}
use Rattle.apex_types.specs.declared.discipline.Discipline.{Discipline}
use Rattle.apex_machine.specs.declared.state.Entry.{Entry}
use Rattle.apex_machine.specs.Waiting.{first_waiter}
use Rattle.wait_set.specs.Sets.{Waiters, without_first}
use Rattle.run_view.specs.declared.waiter.Waiter.{Waiter}
use Rattle.run_view.specs.Waiters.{first_in_turn, in_turn, shown}
use Rattle.run_view.proofs.Turns.{next_turn, no_turn}
use Rattle.run_view.proofs.waiter.waiters_of.Goals as goal

pub returns-in_default : goal.returns-in_default
returns-in_default c =
    let discipline = c.args.set.now.discipline in
    let entries = c.waiters.left.entries in
    let first : None ≡ first_waiter c.waiters.left.discipline entries = cc (c.in_default.ensures.first, c.in_default.is) in
    let none : None ≡ first_waiter discipline entries = subst (λ (one : Discipline). None ≡ first_waiter one entries) c.waiters.invariant.discipline first in
    no_turn c.waiters.waiters.items (length c.args.set.now.entries - c.waiters._turn) discipline entries (in_turn c.args.set.now) none c.waiters.invariant.shown

pub waiters-preserved : goal.waiters-preserved
waiters-preserved c =
    let set = c.args.set.now in
    let discipline = c.args.set.now.discipline in
    let entries = c.waiters.left.entries in
    let entry = c.in-Some.entry in
    let count = length c.args.set.now.entries - (c.waiters._turn + 1) in
    let less : c.waiters._turn < length c.args.set.now.entries = omega (arith, c.waiters-test.true, c.len-turn-end.ensures.len) in
    let first : Some entry ≡ first_waiter discipline entries =
    subst (λ (one : Discipline). Some entry ≡ first_waiter one entries) c.waiters.invariant.discipline c.in-Some.ensures.first in
    let rest : c.take_first.new.self.entries ≡ without_first discipline entries =
    subst (λ (one : Discipline). c.take_first.new.self.entries ≡ without_first one entries) c.waiters.invariant.discipline
    (ap (λ (one : Waiters). one.entries) c.in-Some.ensures.taken) in
    record {
      discipline = ap (λ (one : Waiters). one.discipline) c.in-Some.ensures.taken ∙ c.waiters.invariant.discipline;
      shown =
          ap (λ (items : List Waiter). items ++ first_in_turn count discipline c.take_first.new.self.entries) c.in_ok-push.ensures.items
          ∙ ap (λ (left : List Entry). (c.waiters.waiters.items ++ shown entry ∷ []) ++ first_in_turn count discipline left) rest
          ∙ next_turn c.waiters.waiters.items (length c.args.set.now.entries) c.waiters._turn discipline entries entry (in_turn c.args.set.now) less first
          c.waiters.invariant.shown;
    }
