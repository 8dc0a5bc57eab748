-- The end of a wait for a release is one.
use Rattle.run_numbers.proofs.Ended.{not_released}
use Rattle.run_numbers.proofs.releases.observe_release.Goals as goal

pub returns-in_default : goal.returns-in_default
returns-in_default c = not_released c.args.who.now c.args.wait c.args.observed.now.items c.in_default.not-FirstRelease c.in_default.not-PeriodicRelease
