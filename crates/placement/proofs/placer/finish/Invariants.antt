use Rattle.std.proofs.Common.{◌≡◌, length}
use Rattle.placement.specs.Lanes.{AreHonest}
use Rattle.placement.proofs.Ends.{HaveEnded}
use Rattle.placement.proofs.placer.finish.Given as goal

abbrev pub invariant-cores : goal.invariant-cores
invariant-cores g l = record {
  count : length l.intake ≡ length l.fn.intake;
  below : AreHonest g.R.TextSource.can_fail l.intake → HaveEnded l.fn.intake l.core l.intake;
  honest : AreHonest g.R.TextSource.can_fail l.intake → AreHonest g.R.TextSource.can_fail l.fn.intake;
}
