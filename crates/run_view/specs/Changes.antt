-- What is reported of a change.
use Rattle.std.specs.Prelude.{◌≡◌, ℕ, ◌++◌, List, All, Contains}
use Rattle.apex_machine.specs.declared.state.CoreState.{CoreState}
use Rattle.apex_machine.specs.declared.state.Process.{Process}
use Rattle.apex_machine.specs.Configuration.{Configuration}
use Rattle.apex_machine.specs.Pieces.{Part, ChannelPart, ModulePart, PartitionPart}
use Rattle.apex_machine.specs.State.{Partition}
use Rattle.piece_check.specs.Parts.{Holding}
use Rattle.run_view.specs.declared.change.Change.{Change}
use Rattle.run_view.specs.declared.change.Change.TheVariants as change
use Rattle.run_view.specs.declared.thing.ThingKey.TheVariants as key
use Rattle.run_view.specs.Cores.{shown_core}
use Rattle.run_view.specs.Objects.{numbers_in, numbers_of}
use Rattle.run_view.specs.Processes.{shown_process}

-- a change of a core: it is shown as the clock has it
abbrev pub IsOfCores : Configuration → List CoreState → Change → Type 0
IsOfCores configuration cores (change.Core view) = view ≡ shown_core configuration cores view.core
IsOfCores configuration cores other = ⊥

-- a change of a partition: its mode; a process as it is in its table, or the end of one that is not in it; an object that is in its table,
-- or the end of one that is not in it; its lock
abbrev pub IsOfPartition : ℕ → Partition → Change → Type 0
IsOfPartition number partition (change.Mode part mode) = (part ≡ number) × (mode ≡ partition.mode)
IsOfPartition number partition (change.Process who view) =
    (process : Process) × Contains partition.table (who.proc, process) × (who.part ≡ number) × (view ≡ shown_process process)
IsOfPartition number partition (change.Ended who) = (who.part ≡ number) × ¬ Contains (numbers_in partition.table) who.proc
IsOfPartition number partition (change.Thing (key.Object part kind object)) = (part ≡ number) × Contains (numbers_of kind partition) object
IsOfPartition number partition (change.Removed (key.Object part kind object)) = (part ≡ number) × ¬ Contains (numbers_of kind partition) object
IsOfPartition number partition (change.Thing (key.Lock part)) = part ≡ number
IsOfPartition number partition other = ⊥

-- a change of a channel
abbrev pub IsOfChannel : ℕ → Change → Type 0
IsOfChannel number (change.Thing (key.Channel channel)) = channel ≡ number
IsOfChannel number other = ⊥

-- a change of what a part holds
abbrev pub IsOfPart : Configuration → Part → Change → Type 0
IsOfPart configuration (ModulePart cores) change = IsOfCores configuration cores change
IsOfPart configuration (PartitionPart number cores partition) change = IsOfPartition number partition change
IsOfPart configuration (ChannelPart number times channel) change = IsOfChannel number change

-- a change of what one of the pieces holds
abbrev pub IsOfOne : Configuration → List Holding → Change → Type 0
IsOfOne configuration holdings change = (holding : Holding) × Contains holdings holding × IsOfPart configuration holding.part change

-- what is added to these changes is so
pub record AddsOnly (IsSo : Change → Type 0) (old new : List Change) : Type 0 where
  pub added : List Change
  pub after : new ≡ old ++ added
  pub so : All IsSo added
