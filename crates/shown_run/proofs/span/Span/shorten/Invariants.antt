use Rattle.std.proofs.Common.{◌≤◌, ℕ, List, length}
use Rattle.apex_types.specs.declared.record.Ordered.{Ordered}
use Rattle.shown_run.specs.Kept.{IsKept}
use Rattle.shown_run.proofs.span.Span.shorten.Given as goal

abbrev pub invariant-records : goal.invariant-records
invariant-records l = record {
  kept : (taken : List Ordered) → IsKept l.config taken l.fn.self.before l.fn.self.records.items → IsKept l.config taken l.self.before l.self.records.items;
  many : l.most ≤ length l.fn.self.records.items → l.most ≤ length l.self.records.items;
}

abbrev pub decreases-records : goal.decreases-records
decreases-records l = length l.self.records.items
