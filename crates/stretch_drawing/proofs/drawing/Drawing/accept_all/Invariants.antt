use Rattle.std.proofs.Common.{List}
use Rattle.apex_types.specs.declared.record.Ordered.{Ordered}
use Rattle.shown_run.specs.Kept.{IsKept}
use Rattle.stretch_drawing.proofs.drawing.Drawing.accept_all.Given as goal

abbrev pub invariant-records : goal.invariant-records
invariant-records l = (taken : List Ordered) × IsKept l.self.config.now taken l.self.walk l.kept.items
