-- The processes that a list names, and that wait in one set.
use Rattle.std.proofs.Common.{◌↔◌, ℕ, Bool, List, [], ◌∷◌, ◌||◌, not, nat_eq, IsTrue, refl, arith}
use Rattle.std.proofs.lemmas.Bool.Decides.{nat_tests}
use Rattle.std.specs.List.{list_all}
use Rattle.apex_types.specs.declared.record.Who.{Who}
use Rattle.apex_machine.specs.declared.state.WaitingSet.{WaitingSet}
use Rattle.apex_machine.specs.Demands.{AllWaitAt}
use Rattle.apex_machine.specs.State.{Table, item_at}
use Rattle.apex_machine.specs.Waiting.{waits_at}

-- whether one who is named is of another partition, or waits in this set
abbrev pub waits_if_here : WaitingSet → ℕ → Table → Who → Bool
waits_if_here wanted part table who = not (nat_eq who.part part) || waits_at wanted (item_at table who.proc)

pub AllWaitAt_all : (wanted : WaitingSet) (part : ℕ) (table : Table) (named : List Who)
    → IsTrue (list_all (waits_if_here wanted part table) named) ↔ AllWaitAt wanted part table named
AllWaitAt_all wanted part table [] = (λ _. tt, λ _. refl)
AllWaitAt_all wanted part table (who ∷ named) =
    let rest : IsTrue (list_all (waits_if_here wanted part table) named) ↔ AllWaitAt wanted part table named = AllWaitAt_all wanted part table named in
    grind (arith, nat_tests, rest)
