-- The next release of a caller of PERIODIC_WAIT.
use Rattle.std.specs.Prelude.{◌≡◌}
use Rattle.apex_machine.specs.declared.state.Process.{Process}
use Rattle.apex_machine.specs.Deadlines.{release_deadline}
use Rattle.apex_machine.specs.DueTimes.{next_release}
use Rattle.scheduling.specs.declared.process.NextRelease.{NextRelease}

-- the next release of a process, with the deadline that it gives
pub record IsNextOf (release : NextRelease) (process : Process) : Type 0 where
  pub time : next_release process ≡ release.time
  pub deadline : release_deadline process ≡ release.deadline
