-- The handler becomes ready, and the process that has the error is faulted if it is another.
use Rattle.std.proofs.Common.{◌≡◌, false, nat_eq, rules, tests, arith}
use Rattle.std.proofs.lemmas.Bool.Decides.{nat_tests}
use Rattle.apex_machine.specs.Errors.{faulted, handler_started}
use Rattle.scheduling.proofs.Faults.{handed-other, handed-own}
use Rattle.scheduling.proofs.table.ProcTable.hand_over.Goals as goal

pub returns-then-ne : goal.returns-then-ne
returns-then-ne c =
    let a = c.args in
    let own = c.new-own.ensures in
    let differ = c.ne.ensures in
    let is = c.if-ne.true in
    let other : nat_eq a.failed 0 ≡ false = first_of (grind (arith, nat_tests), search (rules, tests)) in
    let started = c.change.ensures (handler_started a.place a.handler) (λ old new ran. search rules) in
    handed-other a.place a.handler a.failed a.self.now c.change.new.self _ other (rw own at started) (c.change-then-ne.ensures faulted (λ old new ran. search rules))

pub returns-else-ne : goal.returns-else-ne
returns-else-ne c =
    let a = c.args in
    let own = c.new-own.ensures in
    let differ = c.ne.ensures in
    let is = c.if-ne.false in
    let same : a.failed ≡ 0 = first_of (grind (arith, nat_tests), search (rules, tests)) in
    let started = c.change.ensures (handler_started a.place a.handler) (λ old new ran. search rules) in
    handed-own a.place a.handler a.failed a.self.now _ same (rw own at started)
