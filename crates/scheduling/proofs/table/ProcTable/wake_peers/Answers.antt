-- Each peer that is named and not stopped gets one copy of the message.
use Rattle.std.proofs.Common.{ap, sym, ◌∙◌, length, arith}
use Rattle.apex_machine.specs.Processes.{woken_by}
use Rattle.scheduling.specs.Peers.{wakes}
use Rattle.scheduling.proofs.HandedOver.{handed-more, handed-same}
use Rattle.scheduling.proofs.Ticks.{let-none-yet}
use Rattle.scheduling.proofs.table.ProcTable.wake_peers.Goals as goal
use Rattle.scheduling.proofs.table.ProcTable.wake_peers.Goals.{then-wakes+in-Some, then-wakes+in_default, else-wakes}
use Rattle.apex_machine.specs.Waiting.{message_of}

pub loop-who-init : goal.loop-who-init
loop-who-init c = record {
  named = let-none-yet c.args.call.now.who.part (wakes c.args.call.now) (woken_by c.args.place (message_of c.args.call.now.request)) c.args.self.now;
  alike = c.requires.alike;
  enough = omega (arith, c.requires.enough, ap length c.as_slice-woken.ensures.list);
}

pub loop-who-preserved : goal.loop-who-preserved
loop-who-preserved c =
    let a = c.args in
    let woken = c.as_slice-woken.result.now in
    elim c.if-wakes.branch [
      | then-wakes+in-Some w ↦ rw (w.self-is, w.messages-is)
          (handed-more a.call.now.who.part (wakes a.call.now) woken c.loop-who.who-index a.place _ w.in-Some.message _ _ _ _ c.who-item.result a.self.now c.loop-who.self _ c.loop-who.invariant
          c.as_slice-woken.ensures.rising c.loop-who-test.true c.who-item.is (sym c.wakes.ensures ∙ w.if-wakes.true)
          w.in-Some.ensures.items (omega (arith, w.in-Some.ensures.cases)) w.wake.ensures)
      | then-wakes+in_default w ↦
          let empty = rw w.in_default.is at w.pop.ensures.cases in
          absurd (omega (arith, empty.0, c.loop-who.invariant.enough, c.loop-who-test.true))
      | else-wakes w ↦ rw (w.self-is, w.messages-is)
          (handed-same a.call.now.who.part (wakes a.call.now) woken c.loop-who.who-index a.place _ _ _ c.who-item.result a.self.now c.loop-who.self c.loop-who.invariant
          c.loop-who-test.true c.who-item.is (sym c.wakes.ensures ∙ w.if-wakes.false))
    ]
