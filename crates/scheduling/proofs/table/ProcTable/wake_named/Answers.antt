-- Each process of this partition that is named gets one copy of the message.
use Rattle.std.proofs.Common.{sym, ◌∙◌, true, arith}
use Rattle.apex_machine.specs.Processes.{woken_by}
use Rattle.scheduling.proofs.HandedOver.{handed-more, handed-same}
use Rattle.scheduling.proofs.Ticks.{let-none-yet}
use Rattle.scheduling.proofs.table.ProcTable.wake_named.Goals as goal
use Rattle.scheduling.proofs.table.ProcTable.wake_named.Goals.{then-is_of+in-Some, then-is_of+in_default, else-is_of}

pub loop-who-init : goal.loop-who-init
loop-who-init c = record {
  named = let-none-yet c.args.part (λ number. true) (woken_by c.args.place c.args.message.now) c.args.self.now;
  alike = c.in_ok-messages.ensures.alike;
  enough = omega (arith, c.in_ok-messages.ensures.length);
}

pub loop-who-preserved : goal.loop-who-preserved
loop-who-preserved c =
    let a = c.args in
    let woken = c.as_slice-woken.result.now in
    elim c.if-is_of.branch [
      | then-is_of+in-Some w ↦ rw (w.self-is, w.messages-is)
          (handed-more a.part (λ number. true) woken c.loop-who.who-index a.place _ w.in-Some.message _ _ _ _ c.who-item.result a.self.now c.loop-who.self _ c.loop-who.invariant
          c.as_slice-woken.ensures.rising c.loop-who-test.true c.who-item.is (sym c.is_of.ensures ∙ w.if-is_of.true)
          w.in-Some.ensures.items (omega (arith, w.in-Some.ensures.cases)) w.wake.ensures)
      | then-is_of+in_default w ↦
          let empty = rw w.in_default.is at w.pop.ensures.cases in
          absurd (omega (arith, empty.0, c.loop-who.invariant.enough, c.loop-who-test.true))
      | else-is_of w ↦ rw (w.self-is, w.messages-is)
          (handed-same a.part (λ number. true) woken c.loop-who.who-index a.place _ _ _ c.who-item.result a.self.now c.loop-who.self c.loop-who.invariant
          c.loop-who-test.true c.who-item.is (sym c.is_of.ensures ∙ w.if-is_of.false))
    ]
