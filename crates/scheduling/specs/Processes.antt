-- The mode and the processes of a partition: the part of it that a table holds.
use Rattle.apex_machine.specs.declared.state.Mode.{Mode}
use Rattle.apex_machine.specs.State.{Partition, Table}

-- a partition's mode, and its processes under their numbers
pub record Processes : Type 0 where
  pub mode : Mode
  pub table : Table

-- the processes of this mode and this table
abbrev pub processes_in : Mode → Table → Processes
processes_in mode table = record { mode = mode; table = table }

-- the processes of a partition, whatever its objects and ports are
abbrev pub processes_of : Partition → Processes
processes_of partition = processes_in partition.mode partition.table
