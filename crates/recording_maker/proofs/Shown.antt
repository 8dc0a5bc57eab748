-- A fault of the walk shows nothing of the configuration.
use Rattle.std.proofs.Common.{ℕ, List}
use Rattle.recording_walk.specs.declared.walk_fault.WalkFault.{WalkFault}
use Rattle.recording_walk.specs.declared.walk_fault.WalkFault.TheVariants as walk
use Rattle.recording_walk.specs.declared.walking.WalkPlan.{WalkPlan}
use Rattle.recording_maker.specs.Refused.{IsShown, fault_of_walk}

pub of_walk : (config : List ℕ) (plan : WalkPlan) (fault : WalkFault) → IsShown config plan (fault_of_walk fault)
of_walk config plan walk.Memory = tt
of_walk config plan walk.Stuck = tt
