-- What becomes of the owner of an object.
use Rattle.std.specs.Prelude.{◌≡◌, ℕ}
use Rattle.apex_machine.specs.declared.state.Process.{Process}
use Rattle.apex_machine.specs.Objects.{is_owner}
use Rattle.apex_machine.specs.Processes.{on_ownership}
use Rattle.scheduling.specs.declared.transfer.Transfer.{Transfer}
use Rattle.scheduling.specs.Transfers.{transferred}
use Rattle.wait_set.specs.declared.object.Owners.{Owners}

-- a transfer changes each process as the owners of the object before and after say
abbrev pub TransfersBetween : Owners → Transfer → Type 0
TransfersBetween owners transfer = (number : ℕ) (process : Process)
    → on_ownership (is_owner owners.before number) (is_owner owners.after number) owners.priority process ≡ transferred transfer number process
