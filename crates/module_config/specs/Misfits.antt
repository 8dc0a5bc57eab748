-- What shows that the parts of a configuration are not consistent.
use Rattle.std.specs.Prelude.{◌≡◌, ◌≢◌, ◌⊎◌, ℕ, ◌+◌, ◌<◌, List, ◌∷◌, ◌++◌, length, count_by, Contains, Option, Some, None, Result, Ok, Err, Bool, true, false, nat_eq}
use Rattle.apex_types.specs.declared.limits.TheConstants.{MOST_CHANNELS, MOST_PARTITIONS, MOST_PORTS, MOST_WINDOWS}
use Rattle.apex_machine.specs.Channels.{channel_numbers, is_port}
use Rattle.apex_machine.specs.Configuration.{ChannelEnd, Configuration, Window}
use Rattle.module_config.specs.declared.fault.ConfigFault.{ConfigFault}
use Rattle.module_config.specs.declared.fault.ConfigFault.TheVariants as fault
use Rattle.module_config.specs.declared.misfit.Misfit.{Misfit}
use Rattle.module_config.specs.declared.misfit.Misfit.TheVariants as misfit
use Rattle.module_config.specs.declared.refusal.ConfigRefusal.{ConfigRefusal}
use Rattle.module_config.specs.declared.refusal.ExplainedRefusal.{ExplainedRefusal}
use Rattle.module_config.specs.Ends.{ends_of, is_queuing_joined, is_sampling_joined, queuing_ends, sampling_ends}
use Rattle.module_config.specs.Whole.{is_of_partition, shares_tick}

-- the fault that a misfit shows
abbrev pub fault_of : Misfit → ConfigFault
fault_of misfit.Partitions = fault.TooMany
fault_of misfit.Windows = fault.TooMany
fault_of misfit.Channels = fault.TooMany
fault_of (misfit.SamplingPorts partition) = fault.TooMany
fault_of (misfit.QueuingPorts partition) = fault.TooMany
fault_of (misfit.PartitionTwice number) = fault.Duplicate
fault_of (misfit.ChannelTwice number) = fault.Duplicate
fault_of (misfit.PortTwice partition name) = fault.Duplicate
fault_of (misfit.StrayWindow core start partition) = fault.CoreNotOfPartition
fault_of (misfit.Overlap core start later) = fault.Overlap
fault_of (misfit.StrayChannel number) = fault.ChannelEnds

-- more than this many ends are a partition's
abbrev pub HasMoreEnds : ℕ → ℕ → List ChannelEnd → Type 0
HasMoreEnds most partition places = most < count_by (λ place. nat_eq place.partition partition) places

-- a window of a list gives this core, from this time on, to this partition, which does not have the core
pub record HasStrayWindow (configuration : Configuration) (core start partition : ℕ) : Type 0 where
  pub window : Window
  pub configured : Contains configuration.windows window
  pub of_core : window.core ≡ core
  pub begins : window.start ≡ start
  pub of_partition : window.partition ≡ partition
  pub stray : is_of_partition configuration.partitions window ≡ false

-- a window of a list shares a tick with one that comes after it
pub record Overlaps (windows : List Window) (window later : Window) : Type 0 where
  pub before : List Window
  pub after : List Window
  pub listed : windows ≡ before ++ window ∷ after
  pub listed_later : Contains after later
  pub shares : shares_tick window later ≡ true

-- two windows of this core, which begin at these times, share a tick
pub record HasOverlap (windows : List Window) (core start later_start : ℕ) : Type 0 where
  pub window : Window
  pub later : Window
  pub overlaps : Overlaps windows window later
  pub of_core : window.core ≡ core
  pub begins : window.start ≡ start
  pub begins_later : later.start ≡ later_start

-- a channel of this number is in a list, and does not join configured partitions
pub record HasStray {Channel : Type 0} (number_of : Channel → ℕ) (is_joined : Channel → Bool) (channels : List Channel) (number : ℕ) : Type 0 where
  pub channel : Channel
  pub configured : Contains channels channel
  pub numbered : number_of channel ≡ number
  pub stray : is_joined channel ≡ false

-- a sampling channel of this number, or a queuing channel, does not join configured partitions
abbrev pub HasStrayChannel : Configuration → ℕ → Type 0
HasStrayChannel configuration number =
    HasStray (λ channel. channel.number) (is_sampling_joined configuration.partitions) configuration.sampling number
    ⊎ HasStray (λ channel. channel.number) (is_queuing_joined configuration.partitions) configuration.queuing number

-- a configuration has this misfit
abbrev pub HasMisfit : Configuration → Misfit → Type 0
HasMisfit configuration misfit.Partitions = MOST_PARTITIONS < length configuration.partitions
HasMisfit configuration misfit.Windows = MOST_WINDOWS < length configuration.windows
HasMisfit configuration misfit.Channels = MOST_CHANNELS < length configuration.sampling + length configuration.queuing
HasMisfit configuration (misfit.SamplingPorts partition) = HasMoreEnds MOST_PORTS partition (sampling_ends configuration.sampling)
HasMisfit configuration (misfit.QueuingPorts partition) = HasMoreEnds MOST_PORTS partition (queuing_ends configuration.queuing)
HasMisfit configuration (misfit.PartitionTwice number) = 1 < count_by (λ limits. nat_eq limits.number number) configuration.partitions
HasMisfit configuration (misfit.ChannelTwice number) = 1 < count_by (λ other. nat_eq other number) (channel_numbers configuration)
HasMisfit configuration (misfit.PortTwice partition name) = 1 < count_by (is_port partition name.items) (ends_of configuration.sampling configuration.queuing)
HasMisfit configuration (misfit.StrayWindow core start partition) = HasStrayWindow configuration core start partition
HasMisfit configuration (misfit.Overlap core start later) = HasOverlap configuration.windows core start later
HasMisfit configuration (misfit.StrayChannel number) = HasStrayChannel configuration number

-- what is found: nothing if a test finds no fault, and else a misfit that the configuration has, which shows this fault
abbrev pub Finds : Configuration → ConfigFault → Bool → Option Misfit → Type 0
Finds configuration fault is_refused None = is_refused ≡ false
Finds configuration fault is_refused (Some misfit) = (is_refused ≡ true) × (fault_of misfit ≡ fault) × HasMisfit configuration misfit

-- a misfit shows the fault of a configuration
abbrev pub IsShownBy : Configuration → ConfigFault → Option Misfit → Type 0
IsShownBy configuration fault None = ⊥
IsShownBy configuration fault (Some misfit) = (fault_of misfit ≡ fault) × HasMisfit configuration misfit

-- a refusal is explained, if this is what the keys configure: a misfit shows each fault of the whole configuration except a lack of memory,
-- and no other fault
abbrev pub IsExplained : Result Configuration ConfigRefusal → ExplainedRefusal → Type 0
IsExplained (Ok configuration) explained = explained.refusal.fault ≢ fault.Memory → IsShownBy configuration explained.refusal.fault explained.misfit
IsExplained (Err refusal) explained = explained.misfit ≡ None

-- a refusal without a misfit
abbrev pub unexplained : ConfigRefusal → ExplainedRefusal
unexplained refusal = record { refusal = refusal; misfit = None }

-- a reading without the misfit that shows its refusal
abbrev pub without_misfit : {A : Type 0} → Result A ExplainedRefusal → Result A ConfigRefusal
without_misfit (Ok value) = Ok value
without_misfit (Err explained) = Err explained.refusal
