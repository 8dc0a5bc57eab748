-- What a configuration keeps that is not refused.
use Rattle.std.proofs.Common.{◌≡◌, Some, None, Bool, true, false, not, refl, ◌%◌}
use Rattle.std.specs.Prelude.{All, AllPairs, if◌then◌else◌}
use Rattle.apex_machine.specs.Configuration.{Configuration, WindowsAreConfigured}
use Rattle.module_config.specs.declared.fault.ConfigFault.TheVariants.{TooMany, Duplicate, CoreNotOfPartition, Overlap, ChannelEnds}
use Rattle.module_config.specs.Ends.{are_joined}
use Rattle.module_config.specs.Whole.{are_of_partitions, has_overlap, is_given_twice, is_too_large, whole_fault}
use Rattle.module_config.specs.Limits.{BeginsNoLater, HasTick, IsOrdered, IsConsistent}
use Rattle.module_config.proofs.Numbered.{IsRising-from_ordered, once}
use Rattle.module_config.proofs.Found.{window_among-found}
use Rattle.module_config.proofs.Windows.{is_timetable}

-- if nothing is refused, each test passed
passed : (large twice fit meet joined : Bool)
    → (if large then Some TooMany else if twice then Some Duplicate else if not fit then Some CoreNotOfPartition else if meet then Some Overlap else if not joined then Some ChannelEnds else None) ≡ None
    → (large ≡ false) × (twice ≡ false) × (fit ≡ true) × (meet ≡ false) × (joined ≡ true)
passed true twice fit meet joined is = cc
passed false true fit meet joined is = cc
passed false false false meet joined is = cc
passed false false true true joined is = cc
passed false false true false false is = cc
passed false false true false true is = (refl, refl, refl, refl, refl)

-- a configuration whose parts go together is consistent
pub IsConsistent-from_none : (configuration : Configuration) → IsOrdered configuration.partitions → AllPairs BeginsNoLater configuration.windows → All HasTick configuration.windows → whole_fault configuration ≡ None → IsConsistent configuration
IsConsistent-from_none configuration ordered by_start ticks none =
    let (large, twice, fit, meet, joined) = passed (is_too_large configuration) (is_given_twice configuration)
    (are_of_partitions configuration.partitions configuration.windows) (has_overlap configuration.windows) (are_joined configuration) none in
    let numbers = (once configuration twice).0 in
    record {
      not_too_large = large;
      once = twice;
      rising = IsRising-from_ordered configuration.partitions ordered numbers;
      of_partitions = fit;
      apart = meet;
      timetable = is_timetable configuration.windows by_start ticks meet;
      joined = joined;
    }

-- in a consistent configuration each window is of a configured partition
pub windows_are_configured : (configuration : Configuration) → IsConsistent configuration → WindowsAreConfigured configuration
windows_are_configured configuration consistent core time partition is =
    window_among-found configuration.partitions core (time % configuration.frame) configuration.windows partition consistent.of_partitions is
