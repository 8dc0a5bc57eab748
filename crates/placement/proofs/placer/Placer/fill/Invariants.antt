use Rattle.std.proofs.Common.{◌≡◌, ◌≤◌, ◌+◌, ◌-◌, length, false}
use Rattle.apex_machine.specs.Runs.{ArePlaced, AreOfCores}
use Rattle.order_cert.specs.Kept.{place_of}
use Rattle.placement.specs.Lanes.{AreHonest, Lead}
use Rattle.placement.proofs.placer.Placer.fill.Given as goal

abbrev pub invariant-records : goal.invariant-records
invariant-records g l = record {
  lead : AreHonest g.R.TextSource.can_fail l.self.lanes → Lead (record { recordings = g.R.TextSource.can_fail; certificate = g.C.TextSource.can_fail }) l.fn.self l.round.items l.self;
  honest : AreHonest g.R.TextSource.can_fail l.self.lanes → AreHonest g.R.TextSource.can_fail l.fn.self.lanes;
  placed : ArePlaced (place_of l.fn.self.kept) l.round.items;
  of_cores : AreOfCores (length l.fn.self.lanes) l.round.items;
  place : place_of l.self.kept ≡ place_of l.fn.self.kept + length l.round.items;
  few : length l.round.items ≤ l.size;
  going : l.self.ended ≡ false;
  lanes : length l.self.lanes ≡ length l.fn.self.lanes;
}

abbrev pub decreases-records : goal.decreases-records
decreases-records g l = l.size - length l.round.items
