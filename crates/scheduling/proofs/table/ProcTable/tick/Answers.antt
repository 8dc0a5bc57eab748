-- The wait of each process of this partition that is named ends, once.
use Rattle.std.proofs.Common.{sym, ◌∙◌, true}
use Rattle.apex_machine.specs.Processes.{released}
use Rattle.scheduling.proofs.Ticks.{let-more, let-none-yet, let-same}
use Rattle.scheduling.proofs.table.ProcTable.tick.Goals as goal
use Rattle.scheduling.proofs.table.ProcTable.tick.Goals.{then-is_of, else-is_of}

pub loop-who-init : goal.loop-who-init
loop-who-init c = let-none-yet c.args.part (λ number. true) (released c.args.place) c.args.self.now

pub loop-who-preserved : goal.loop-who-preserved
loop-who-preserved c =
    let a = c.args in
    elim c.if-is_of.branch [
      | then-is_of w ↦ rw (w.self-is, w.release.ensures, c.loop-who.invariant)
          (let-more a.part (λ number. true) c.as_slice-named.result.now c.loop-who.who-index c.who-item.result (released a.place) a.self.now
          c.as_slice-named.ensures.rising c.loop-who-test.true c.who-item.is (sym c.is_of.ensures ∙ w.if-is_of.true))
      | else-is_of w ↦ rw (w.self-is, c.loop-who.invariant)
          (let-same a.part (λ number. true) c.as_slice-named.result.now c.loop-who.who-index c.who-item.result (released a.place) a.self.now
          c.loop-who-test.true c.who-item.is (sym c.is_of.ensures ∙ w.if-is_of.false))
    ]
