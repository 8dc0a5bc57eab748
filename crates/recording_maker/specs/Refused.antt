-- Why no run is made.
use Rattle.std.specs.Prelude.{◌≡◌, ℕ, List, IsSome, Err}
use Rattle.module_config.specs.Reading.{configuration_of}
use Rattle.recording_maker.specs.declared.fault.MakeFault.{MakeFault}
use Rattle.recording_maker.specs.declared.fault.MakeFault.TheVariants as make
use Rattle.recording_walk.specs.declared.walk_fault.WalkFault.{WalkFault}
use Rattle.recording_walk.specs.declared.walk_fault.WalkFault.TheVariants as walk
use Rattle.recording_walk.specs.declared.walking.WalkPlan.{WalkPlan}

-- the fault that a fault of the walk means
abbrev pub fault_of_walk : WalkFault → MakeFault
fault_of_walk walk.Memory = make.Memory
fault_of_walk walk.Stuck = make.Stuck

-- what a fault shows: the text of the configuration has it; or a record was to be spoilt
abbrev pub IsShown : List ℕ → WalkPlan → MakeFault → Type 0
IsShown config plan (make.Config fault) = configuration_of config ≡ Err fault
IsShown config plan make.NotSpoilt = IsSome plan.spoil
IsShown config plan _ = Unit {0}
