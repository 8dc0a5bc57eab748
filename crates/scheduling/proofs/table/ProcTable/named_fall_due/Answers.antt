use Rattle.std.proofs.Common.{rules, tests}
use Rattle.std.proofs.lemmas.Iterator.{YieldsList-from_slice}
use Rattle.std.proofs.lemmas.Iterator.Search.{all_from_yields_List}
use Rattle.scheduling.proofs.Due.{all_named_fall_due, is_rightly_named, named_fall_due}
use Rattle.scheduling.proofs.table.ProcTable.named_fall_due.Goals as goal

pub returns : goal.returns
returns c =
    let a = c.args in
    let is = all_from_yields_List (is_rightly_named a.part a.core a.time a.self.now.table) _ _ _ c.all.ensures.ran (YieldsList-from_slice a.woken.now cc) (λ x b q k. search (rules, tests)) in
    rw is (named_fall_due a.part a.core a.time a.self.now.table a.woken.now, all_named_fall_due a.part a.core a.time a.self.now.table a.woken.now)
