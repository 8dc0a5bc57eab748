use Rattle.std.proofs.Common.{◌≡◌, drop}
use Rattle.wait_set.specs.Sets.{without_named}
use Rattle.wait_set.proofs.set.WaitSet.release.Given as goal

-- once those who are still to be named have left, all who are named have
abbrev pub invariant-loop-who : goal.invariant-loop-who
invariant-loop-who l = record {
  discipline : l.self.discipline ≡ l.fn.self.discipline;
  entries : without_named (drop l.who-index l.named) l.self.entries ≡ without_named l.named l.fn.self.entries;
}
