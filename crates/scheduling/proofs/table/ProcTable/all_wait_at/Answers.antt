-- The test passes at each process that is named exactly if all wait in the set.
use Rattle.std.proofs.Common.{rules, tests}
use Rattle.std.proofs.lemmas.Iterator.{YieldsList-from_slice}
use Rattle.std.proofs.lemmas.Iterator.Search.{all_from_yields_List}
use Rattle.scheduling.proofs.Waiters.{AllWaitAt_all, waits_if_here}
use Rattle.scheduling.proofs.table.ProcTable.all_wait_at.Goals as goal

pub returns : goal.returns
returns c =
    let a = c.args in
    let is = all_from_yields_List (waits_if_here a.wanted a.part a.self.now.table) _ _ _ c.all.ensures.ran (YieldsList-from_slice a.woken.now cc) (λ x b q k. search (rules, tests)) in
    rw is (AllWaitAt_all a.wanted a.part a.self.now.table a.woken.now)
