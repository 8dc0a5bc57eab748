-- What every configuration satisfies.
use Rattle.std.specs.Prelude.{◌≡◌, ℕ, ◌+◌, ◌≤◌, ◌<◌, List, length, map, All, AllPairs, IsTrue, true, false}
use Rattle.apex_types.specs.declared.limits.TheConstants.{GREATEST_CHANNEL, GREATEST_PARTITION, GREATEST_SPAN, LONGEST_MESSAGE, MOST_CORES, MOST_MESSAGES, MOST_PROCESSES}
use Rattle.apex_machine.specs.Configuration.{Configuration, PartitionLimits, QueuingChannel, SamplingChannel, Window, has_core, limits_of}
use Rattle.module_config.specs.declared.described.ModuleSize.{ModuleSize}
use Rattle.module_config.specs.Ends.{are_joined}
use Rattle.module_config.specs.Whole.{are_of_partitions, has_overlap, is_given_twice, is_too_large}

-- a number is from a lower to an upper limit
pub record IsFrom (low high number : ℕ) : Type 0 where
  pub least : low ≤ number
  pub most : number ≤ high

-- a module has from 1 to the most cores
abbrev pub IsSize : ModuleSize → Type 0
IsSize size = IsFrom 1 MOST_CORES size.cores

-- a partition's number, period and processes are within their limits
pub record AreLimits (number period processes : ℕ) : Type 0 where
  pub number_most : number ≤ GREATEST_PARTITION
  pub period_range : IsFrom 1 GREATEST_SPAN period
  pub processes_most : processes ≤ MOST_PROCESSES

-- no partition's number is above a later one's
abbrev pub IsOrdered : List PartitionLimits → Type 0
IsOrdered partitions = AllPairs (λ limits other. limits.number ≤ other.number) partitions

-- each partition's number is below those of the later ones
abbrev pub IsRising : List PartitionLimits → Type 0
IsRising partitions = AllPairs (λ limits other. limits.number < other.number) partitions

-- a window is of an earlier core than another, or begins no later on the same core
pub record BeginsNoLater (window other : Window) : Type 0 where
  pub core : window.core ≤ other.core
  pub begins : window.core ≡ other.core → window.start ≤ other.start

-- a window is of an earlier core than another, or ends before the other begins
pub record EndsBefore (window other : Window) : Type 0 where
  pub core : window.core ≤ other.core
  pub ends : window.core ≡ other.core → window.start + window.span ≤ other.start

-- a window holds at least one tick
abbrev pub HasTick : Window → Type 0
HasTick window = 1 ≤ window.span

-- a partition's cores are among this many cores of a module
abbrev pub AreCoresOf : ℕ → PartitionLimits → Type 0
AreCoresOf count limits = All (λ core. core < count) limits.cores

-- a sampling channel's number, size and refresh period are within their limits
pub record AreSamplingLimits (channel : SamplingChannel) : Type 0 where
  pub number_most : channel.number ≤ GREATEST_CHANNEL
  pub size : IsFrom 1 LONGEST_MESSAGE channel.size
  pub refresh : IsFrom 1 GREATEST_SPAN channel.refresh

-- a queuing channel's number, size and capacity are within their limits
pub record AreQueuingLimits (channel : QueuingChannel) : Type 0 where
  pub number_most : channel.number ≤ GREATEST_CHANNEL
  pub size : IsFrom 1 LONGEST_MESSAGE channel.size
  pub capacity : IsFrom 1 MOST_MESSAGES channel.capacity

-- the numbers of a configuration are within their limits
pub record IsWithinLimits (configuration : Configuration) : Type 0 where
  pub cores : IsFrom 1 MOST_CORES configuration.cores
  pub frame : IsFrom 1 GREATEST_SPAN configuration.frame
  pub skew : IsFrom 1 GREATEST_SPAN configuration.skew
  pub some_partition : 1 ≤ length configuration.partitions
  pub own_cores : All (AreCoresOf configuration.cores) configuration.partitions
  pub sampling : All AreSamplingLimits configuration.sampling
  pub queuing : All AreQueuingLimits configuration.queuing

-- each core of a partition is one of the module's
abbrev pub CoresAreOfModule : Configuration → Type 0
CoresAreOfModule configuration = (number core : ℕ) → IsTrue (has_core core (limits_of configuration number)) → core < configuration.cores

-- the parts of a configuration are consistent: no number and no port is given twice, each window is on a core of its partition, no windows
-- overlap, each channel joins partitions; the windows are in the order of their cores and starts, each before those that begin after its
-- end
pub record IsConsistent (configuration : Configuration) : Type 0 where
  pub not_too_large : is_too_large configuration ≡ false
  pub once : is_given_twice configuration ≡ false
  pub rising : IsRising configuration.partitions
  pub of_partitions : are_of_partitions configuration.partitions configuration.windows ≡ true
  pub apart : has_overlap configuration.windows ≡ false
  pub timetable : AllPairs EndsBefore configuration.windows
  pub joined : are_joined configuration ≡ true

-- the numbers of the partitions, in the order of the configuration
abbrev pub partition_numbers : Configuration → List ℕ
partition_numbers configuration = map (λ limits. limits.number) configuration.partitions
