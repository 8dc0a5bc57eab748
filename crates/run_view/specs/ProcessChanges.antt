-- What is reported of the processes of a partition.
use Rattle.std.specs.Prelude.{◌≡◌, ◌⊎◌, ℕ, List, Contains}
use Rattle.run_view.specs.declared.change.Change.{Change}
use Rattle.run_view.specs.declared.change.Change.TheVariants as variant
use Rattle.run_view.specs.declared.seen_process.SeenProcess.{SeenProcess}
use Rattle.run_view.specs.Adds.{IsOfAny}

-- one of these processes has this number
abbrev pub HasNumber : ℕ → List SeenProcess → Type 0
HasNumber number seen = (process : SeenProcess) × Contains seen process × (process.number ≡ number)

-- the change of a process that was not seen as it is now: it is new, or no longer as it was
abbrev pub IsItsChange : ℕ → List SeenProcess → SeenProcess → Change → Type 0
IsItsChange part before process change =
    (¬ Contains before process) × (change ≡ variant.Process (record { part = part; proc = process.number }) process.view)

-- the end of a process that was seen: no process of its number is seen now
abbrev pub IsItsEnd : ℕ → List SeenProcess → SeenProcess → Change → Type 0
IsItsEnd part after process change =
    (¬ HasNumber process.number after) × (change ≡ variant.Ended (record { part = part; proc = process.number }))

-- a change of the processes of a partition, by those that were seen before and those that are seen now
abbrev pub IsFoundInProcesses : ℕ → List SeenProcess → List SeenProcess → Change → Type 0
IsFoundInProcesses part before after change =
    IsOfAny (IsItsChange part before) after change ⊎ IsOfAny (IsItsEnd part after) before change
