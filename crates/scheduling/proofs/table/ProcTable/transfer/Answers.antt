-- Who no longer owns the mutex, and then who owns it.
use Rattle.std.proofs.Common.{◌≡◌, ◌∙◌}
use Rattle.scheduling.specs.Changes.{with_each}
use Rattle.scheduling.specs.Transfers.{freed}
use Rattle.scheduling.proofs.Transfers.{freed-none, freed-some, granted-none, granted-some}
use Rattle.scheduling.proofs.table.ProcTable.transfer.Goals as goal
use Rattle.scheduling.proofs.table.ProcTable.transfer.Goals.{in-Some, in_default}

pub returns-in-Some-to : goal.returns-in-Some-to
returns-in-Some-to c =
    let a = c.args in
    let middle : c.match-transfer.self ≡ with_each (freed a.transfer) a.self.now = elim c.match-transfer.branch [
      | in-Some w ↦ freed-some a.transfer w.in-Some.owner a.self.now c.match-transfer.self w.in-Some.is (w.self-is ∙ w.ungrant.ensures)
      | in_default w ↦ freed-none a.transfer a.self.now c.match-transfer.self w.in_default.is w.self-is
    ] in
    granted-some a.transfer c.in-Some-to.owner a.self.now c.match-transfer.self c.grant.new.self c.in-Some-to.is middle c.grant.ensures

pub returns-in_default-to : goal.returns-in_default-to
returns-in_default-to c =
    let a = c.args in
    let middle : c.match-transfer.self ≡ with_each (freed a.transfer) a.self.now = elim c.match-transfer.branch [
      | in-Some w ↦ freed-some a.transfer w.in-Some.owner a.self.now c.match-transfer.self w.in-Some.is (w.self-is ∙ w.ungrant.ensures)
      | in_default w ↦ freed-none a.transfer a.self.now c.match-transfer.self w.in_default.is w.self-is
    ] in
    granted-none a.transfer a.self.now c.match-transfer.self c.in_default-to.is middle
