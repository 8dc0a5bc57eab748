use Rattle.std.proofs.Common.{◌≡◌, length}
use Rattle.wait_set.specs.Sets.{without_part}
use Rattle.wait_set.proofs.set.WaitSet.leave_all.Given as goal

-- once those of the partition who still wait have left, all have
abbrev pub invariant-members : goal.invariant-members
invariant-members l = record {
  discipline : l.self.discipline ≡ l.fn.self.discipline;
  entries : without_part l.part l.self.entries ≡ without_part l.part l.fn.self.entries;
}

abbrev pub decreases-members : goal.decreases-members
decreases-members l = length l.self.entries
