-- A process that waits for something is not ready.
use Rattle.std.proofs.Common.{◌≡◌, true, false, rules}
use Rattle.run_view.proofs.ProcessStates.{waiting_is_not_ready}
use Rattle.run_view.proofs.process.state_of.Goals as goal

pub returns-in_default : goal.returns-in_default
returns-in_default c =
    let process = c.args.process.now in
    let alive : process.alive ≡ true = search rules in
    let sound : process.faulted ≡ false = search rules in
    let free : process.suspended ≡ false = search rules in
    rw (alive, sound, free) (waiting_is_not_ready process.wait c.in_default.not-Nothing)
