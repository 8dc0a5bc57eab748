-- In which waiting sets a process that leaves has an entry.
use Rattle.std.specs.Prelude.{◌≡◌, Some, IsTrue}
use Rattle.apex_types.specs.declared.record.Who.{Who}
use Rattle.apex_machine.specs.declared.state.Process.{Process}
use Rattle.apex_machine.specs.declared.state.Wait.{Wait}
use Rattle.apex_machine.specs.declared.state.WaitingSet.{WaitingSet}
use Rattle.apex_machine.specs.Demands.{has_entry_in}
use Rattle.apex_machine.specs.State.{Partition, item_at}
use Rattle.apex_machine.specs.Waiting.{is_in}
use Rattle.apex_laws.specs.Laws.{entries_at}

-- a process has an entry in no waiting set of a partition but the one that this wait names
abbrev pub HasEntryOnlyAt : Who → Wait → Partition → Type 0
HasEntryOnlyAt who wait partition = (wanted : WaitingSet) → IsTrue (has_entry_in who (entries_at partition wanted)) → IsTrue (is_in wanted wait)

-- a process, if it is one of the partition's, has an entry in no waiting set but the one in which it waits
abbrev pub HasEntryWhereItWaits : Who → Partition → Type 0
HasEntryWhereItWaits who partition = (process : Process) → item_at partition.table who.proc ≡ Some process → HasEntryOnlyAt who process.wait partition
