-- A lock is in the part of its partition.
use Rattle.std.proofs.Common.{subst}
use Rattle.apex_machine.specs.State.{Lock}
use Rattle.run_view.specs.Things.{ShowsLock}
use Rattle.run_view.proofs.Showing.{lock_in}
use Rattle.run_view.proofs.thing.owned_view.Goals as goal

pub returns-in_ok-lock_view-in-Partition : goal.returns-in_ok-lock_view-in-Partition
returns-in_ok-lock_view-in-Partition c =
    λ part. lock_in c.args.piece.now.part _ _ c.in-Partition.state part c.in_ok-lock_view-in-Partition.field-0 c.in-Partition.ensures
    (subst (λ (one : Lock). ShowsLock one c.in_ok-lock_view-in-Partition.field-0) c.lock.ensures c.in_ok-lock_view-in-Partition.ensures)
