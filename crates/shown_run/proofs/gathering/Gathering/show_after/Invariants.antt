use Rattle.std.proofs.Common.{◌≡◌}
use Rattle.shown_run.specs.Stretches.{KeepsSame}
use Rattle.shown_run.proofs.gathering.Gathering.show_after.Given as goal

abbrev pub invariant-records : goal.invariant-records
invariant-records l = record {
  same : KeepsSame l.fn.self l.self;
  ended : l.self.has_ended ≡ l.fn.self.has_ended;
}
