-- The cores of a part: how many there are, and how their times grow.
use Rattle.std.proofs.Common.{◌≡◌, ◌∙◌, ℕ, zero, suc, ◌+◌, ◌≤◌, List, [], ◌∷◌, ◌++◌, ◌<◌, true, false, if◌then◌else◌, length, map, refl, ap, sym, arith, nat_eq}
use Rattle.std.proofs.lemmas.List.{length-map}
use Rattle.std.specs.Prelude.{replicate}
use Rattle.apex_types.specs.declared.limits.TheConstants.{PLACE_COUNT}
use Rattle.apex_types.specs.declared.record.Body.{Body}
use Rattle.apex_types.specs.declared.record.Body.TheVariants.{Arrive, Call, Depart, Ret, Disp, Tick, Error}
use Rattle.apex_types.specs.declared.record.Ordered.{Ordered}
use Rattle.apex_types.specs.declared.shape.End.TheVariants.{Senders, Receivers}
use Rattle.apex_machine.specs.declared.state.CoreState.{CoreState}
use Rattle.apex_machine.specs.declared.state.Entry.{Entry}
use Rattle.apex_machine.specs.declared.state.WaitingSet.{WaitingSet}
use Rattle.apex_machine.specs.Configuration.{Configuration}
use Rattle.apex_machine.specs.State.{time_of, at_core, cold_core, cold_partition, cold_state, is_named, channel_set}
use Rattle.apex_machine.specs.Waiting.{ends_wait, enters, entry_of, set_after, without}
use Rattle.apex_machine.specs.After.{cores_by}
use Rattle.apex_machine.specs.Pieces.{Module, OfChannel, OfPartition, Part, Piece, ChannelPart, ModulePart, PartitionPart, one_more, part, part_after, time_at, times_by, times_of}
use Rattle.scheduling.specs.Timely.{TimesFit}
use Rattle.apex_machine.specs.Demands.{AllHold, demands}
use Rattle.apex_laws.specs.Laws.{AllEntries}
use Rattle.apex_laws.specs.PartBounds.{PeriodFits}
use Rattle.apex_laws.proofs.BoundedParts.{part_stays_bounded}
use Rattle.apex_laws.proofs.SoundParts.{part_stays_sound}
use Rattle.apex_laws.proofs.Waiters.{all_push, all_weaker, all_without}
use Rattle.wait_set.specs.Laws.{AreBeforePlace}
use Rattle.piece_check.specs.Parts.{CallerFits, HasCores, HoldsBefore, IsKeptBefore, KeepsBefore, NoTimeAbove, EnteredBefore, core_at}

-- cold cores are at time 0
pub cold_time : (count core : ℕ) → time_of (replicate count cold_core) core ≤ 0
cold_time zero core = omega arith
cold_time (suc count) zero = omega arith
cold_time (suc count) (suc core) = cold_time count core

length-at_core : (change : CoreState → CoreState) (core : ℕ) (cores : List CoreState) → length (at_core change core cores) ≡ length cores
length-at_core change core [] = refl
length-at_core change zero (state ∷ cores) = refl
length-at_core change (suc core) (state ∷ cores) = ap suc (length-at_core change core cores)

length-cores_by : (core : ℕ) (body : Body) (cores : List CoreState) → length (cores_by core body cores) ≡ length cores
length-cores_by core (Call call) cores = refl
length-cores_by core (Ret ret) cores = refl
length-cores_by core (Arrive crossing) cores = refl
length-cores_by core (Depart crossing) cores = refl
length-cores_by core (Error report) cores = refl
length-cores_by core (Disp who) cores = length-at_core (λ state. record state { occupant = who }) core cores
length-cores_by core (Tick woken) cores = length-at_core (λ state. record state { time = state.time + 1 }) core cores

dispatch_time : (who : _) (at : ℕ) (cores : List CoreState) (core : ℕ) → time_of (at_core (λ state. record state { occupant = who }) at cores) core ≤ time_of cores core + 1
dispatch_time who at [] core = omega arith
dispatch_time who zero (state ∷ cores) zero = omega arith
dispatch_time who zero (state ∷ cores) (suc core) = omega arith
dispatch_time who (suc at) (state ∷ cores) zero = omega arith
dispatch_time who (suc at) (state ∷ cores) (suc core) = dispatch_time who at cores core

tick_time : (at : ℕ) (cores : List CoreState) (core : ℕ) → time_of (at_core (λ state. record state { time = state.time + 1 }) at cores) core ≤ time_of cores core + 1
tick_time at [] core = omega arith
tick_time zero (state ∷ cores) zero = omega arith
tick_time zero (state ∷ cores) (suc core) = omega arith
tick_time (suc at) (state ∷ cores) zero = omega arith
tick_time (suc at) (state ∷ cores) (suc core) = tick_time at cores core

time_by : (at : ℕ) (body : Body) (cores : List CoreState) (core : ℕ) → time_of (cores_by at body cores) core ≤ time_of cores core + 1
time_by at (Call call) cores core = omega arith
time_by at (Ret ret) cores core = omega arith
time_by at (Arrive crossing) cores core = omega arith
time_by at (Depart crossing) cores core = omega arith
time_by at (Error report) cores core = omega arith
time_by at (Disp who) cores core = dispatch_time who at cores core
time_by at (Tick woken) cores core = tick_time at cores core

length-one_more : (core : ℕ) (times : List ℕ) → length (one_more core times) ≡ length times
length-one_more core [] = refl
length-one_more zero (time ∷ times) = refl
length-one_more (suc core) (time ∷ times) = ap suc (length-one_more core times)

length-times_by : (core : ℕ) (body : Body) (times : List ℕ) → length (times_by core body times) ≡ length times
length-times_by core (Tick woken) times = length-one_more core times
length-times_by core _ times = refl

one_more_time : (at : ℕ) (times : List ℕ) (core : ℕ) → time_of (map core_at (one_more at times)) core ≤ time_of (map core_at times) core + 1
one_more_time at [] core = omega arith
one_more_time zero (time ∷ times) zero = omega arith
one_more_time zero (time ∷ times) (suc core) = omega arith
one_more_time (suc at) (time ∷ times) zero = omega arith
one_more_time (suc at) (time ∷ times) (suc core) = one_more_time at times core

times_by_time : (at : ℕ) (body : Body) (times : List ℕ) (core : ℕ) → time_of (map core_at (times_by at body times)) core ≤ time_of (map core_at times) core + 1
times_by_time at (Tick woken) times core = one_more_time at times core
times_by_time at _ times core = omega arith

-- a record leaves the number of cores, and adds to a time one at most
pub HasCores_after : (count : ℕ) (configuration : Configuration) (old : Part) (ordered : Ordered) → HasCores count old
    → HasCores count (part_after configuration old ordered)
HasCores_after count configuration (ModulePart cores) ordered has = length-cores_by ordered.core ordered.rec.body cores ∙ has
HasCores_after count configuration (PartitionPart number cores partition) ordered has = length-cores_by ordered.core ordered.rec.body cores ∙ has
HasCores_after count configuration (ChannelPart number times channel) ordered has =
    length-map (times_by ordered.core ordered.rec.body times) core_at ∙ length-times_by ordered.core ordered.rec.body times ∙ sym (length-map times core_at) ∙ has

NoTimeAbove_after : (place : ℕ) (configuration : Configuration) (old : Part) (ordered : Ordered) → NoTimeAbove place old
    → NoTimeAbove (place + 1) (part_after configuration old ordered)
NoTimeAbove_after place configuration (ModulePart cores) ordered holds_before =
    λ core. omega (arith, time_by ordered.core ordered.rec.body cores core, holds_before core)
NoTimeAbove_after place configuration (PartitionPart number cores partition) ordered holds_before =
    λ core. omega (arith, time_by ordered.core ordered.rec.body cores core, holds_before core)
NoTimeAbove_after place configuration (ChannelPart number times channel) ordered holds_before =
    λ core. omega (arith, times_by_time ordered.core ordered.rec.body times core, holds_before core)

-- so do the times of cold cores alone, and there are as many
cold_channel_time : (count core : ℕ) → time_of (map core_at (times_of (replicate count cold_core))) core ≤ 0
cold_channel_time zero core = omega arith
cold_channel_time (suc count) zero = omega arith
cold_channel_time (suc count) (suc core) = cold_channel_time count core

pub cold_times : (count : ℕ) → times_of (replicate count cold_core) ≡ replicate count 0
cold_times zero = refl
cold_times (suc count) = ap (λ (times : List ℕ). 0 ∷ times) (cold_times count)

cold_channel_cores : (count : ℕ) → length (map core_at (times_of (replicate count cold_core))) ≡ count
cold_channel_cores zero = refl
cold_channel_cores (suc count) = ap suc (cold_channel_cores count)

cold_cores_count : (count : ℕ) → length (replicate count cold_core) ≡ count
cold_cores_count zero = refl
cold_cores_count (suc count) = ap suc (cold_cores_count count)

-- a channel knows the time of a core as the others do
pub time_at_is : (times : List ℕ) (core : ℕ) → time_of (map core_at times) core ≡ time_at times core
time_at_is [] core = refl
time_at_is (time ∷ times) zero = refl
time_at_is (time ∷ times) (suc core) = time_at_is times core

-- times that are not above a place are those of a recording
pub TimesFit_before : (place : ℕ) (cores : List CoreState) → place < PLACE_COUNT → ((core : ℕ) → time_of cores core ≤ place) → TimesFit cores
TimesFit_before place [] below holds_before = tt
TimesFit_before place (state ∷ cores) below holds_before =
    (omega (arith, below, holds_before 0), TimesFit_before place cores below (λ core. holds_before (suc core)))

-- what a part keeps

-- a cold partition is sound and bounded
pub cold_kept : (configuration : Configuration) (number : ℕ) → IsKeptBefore number 0 (cold_partition configuration number)
cold_kept configuration number = record {
  sound = part_stays_sound.0 configuration number 0;
  bounded = part_stays_bounded.0 configuration number 0;
}

-- an entry before one place is one before each later place
before_later : (place later : ℕ) → place ≤ later → (entry : Entry) → EnteredBefore place entry → EnteredBefore later entry
before_later place later below entry before = record { earlier = omega (arith, below, before.earlier); number = before.number }

-- each piece starts with as many cores as the module has
pub cold_has_cores : (configuration : Configuration) (piece : Piece) → HasCores configuration.cores (part piece (cold_state configuration))
cold_has_cores configuration Module = cold_cores_count configuration.cores
cold_has_cores configuration (OfPartition number) = cold_cores_count configuration.cores
cold_has_cores configuration (OfChannel number) = cold_channel_cores configuration.cores

-- and after place 0
pub cold_holds_before : (configuration : Configuration) (piece : Piece) → HoldsBefore 0 (part piece (cold_state configuration))
cold_holds_before configuration Module = record { times = λ core. cold_time configuration.cores core; kept = tt }
cold_holds_before configuration (OfPartition number) = record { times = λ core. cold_time configuration.cores core; kept = cold_kept configuration number }
cold_holds_before configuration (OfChannel number) =
    record { times = λ core. cold_channel_time configuration.cores core; kept = record { senders = tt; receivers = tt } }

-- a set before one place is one before the next, whatever a record makes of it
set_before : (place : ℕ) (body : Body) (wanted : WaitingSet) (entries : List Entry) → CallerFits body → AllEntries (EnteredBefore place) entries
    → AllEntries (EnteredBefore (place + 1)) (set_after place body wanted entries)
set_before place (Disp who) wanted entries fits all = all_weaker (EnteredBefore place) (EnteredBefore (place + 1)) (before_later place (place + 1) (omega arith)) entries all
set_before place (Ret ret) wanted entries fits all = all_weaker (EnteredBefore place) (EnteredBefore (place + 1)) (before_later place (place + 1) (omega arith)) entries all
set_before place (Tick woken) wanted entries fits all =
    all_without (EnteredBefore place) (EnteredBefore (place + 1)) (λ who. is_named who woken) (λ entry stays before. before_later place (place + 1) (omega arith) entry before) entries all
set_before place (Arrive crossing) wanted entries fits all =
    all_without (EnteredBefore place) (EnteredBefore (place + 1)) (λ who. is_named who crossing.woken) (λ entry stays before. before_later place (place + 1) (omega arith) entry before) entries all
set_before place (Depart crossing) wanted entries fits all =
    all_without (EnteredBefore place) (EnteredBefore (place + 1)) (λ who. is_named who crossing.woken) (λ entry stays before. before_later place (place + 1) (omega arith) entry before) entries all
set_before place (Error report) wanted entries fits all =
    elim report.restarts
    as (λ restarts. AllEntries (EnteredBefore (place + 1)) (if restarts then without (λ who. nat_eq who.part report.who.part) entries else entries)) [
      | true ↦ all_without (EnteredBefore place) (EnteredBefore (place + 1)) (λ who. nat_eq who.part report.who.part) (λ entry stays before. before_later place (place + 1) (omega arith) entry before) entries all
      | false ↦ all_weaker (EnteredBefore place) (EnteredBefore (place + 1)) (before_later place (place + 1) (omega arith)) entries all
    ]
set_before place (Call call) wanted entries fits all =
    let stay = all_without (EnteredBefore place) (EnteredBefore (place + 1)) (ends_wait call) (λ entry stays before. before_later place (place + 1) (omega arith) entry before) entries all in
    elim (enters call wanted)
    as (λ enter. AllEntries (EnteredBefore (place + 1)) (if enter then without (ends_wait call) entries ++ entry_of place call ∷ [] else without (ends_wait call) entries)) [
      | true ↦ all_push (EnteredBefore (place + 1)) (without (ends_wait call) entries) (entry_of place call) stay (record { earlier = omega arith; number = fits })
      | false ↦ stay
    ]

-- so the places in it are below that place
pub are_before_place : (place : ℕ) (entries : List Entry) → AllEntries (EnteredBefore place) entries → AreBeforePlace place entries
are_before_place place [] all = tt
are_before_place place (entry ∷ entries) all = (all.0.earlier, are_before_place place entries all.1)

kept_after : (configuration : Configuration) (old : Part) (ordered : Ordered) → HoldsBefore ordered.pos old → AllHold (demands configuration old ordered)
    → PeriodFits ordered.rec.body → CallerFits ordered.rec.body → KeepsBefore (ordered.pos + 1) (part_after configuration old ordered)
kept_after configuration (ModulePart cores) ordered holds_before hold fits caller = tt
kept_after configuration (PartitionPart number cores partition) ordered holds_before hold fits caller = record {
  sound = part_stays_sound.1 configuration number cores partition ordered holds_before.kept.sound hold;
  bounded = part_stays_bounded.1 configuration number cores partition ordered holds_before.kept.sound holds_before.kept.bounded holds_before.times fits hold;
}
kept_after configuration (ChannelPart number times channel) ordered holds_before hold fits caller = record {
  senders = set_before ordered.pos ordered.rec.body (channel_set number Senders) channel.senders caller holds_before.kept.senders;
  receivers = set_before ordered.pos ordered.rec.body (channel_set number Receivers) channel.receivers caller holds_before.kept.receivers;
}

-- a record whose demands hold leaves a part after the next place
pub HoldsBefore_after : (configuration : Configuration) (old : Part) (ordered : Ordered) → HoldsBefore ordered.pos old → AllHold (demands configuration old ordered)
    → PeriodFits ordered.rec.body → CallerFits ordered.rec.body → HoldsBefore (ordered.pos + 1) (part_after configuration old ordered)
HoldsBefore_after configuration old ordered holds_before hold fits caller = record {
  times = NoTimeAbove_after ordered.pos configuration old ordered holds_before.times;
  kept = kept_after configuration old ordered holds_before hold fits caller;
}

kept_later : (place later : ℕ) (part : Part) → place ≤ later → KeepsBefore place part → KeepsBefore later part
kept_later place later (ModulePart cores) below kept = tt
kept_later place later (PartitionPart number cores partition) below kept = record {
  sound = part_stays_sound.2 number place later partition below kept.sound;
  bounded = part_stays_bounded.2 place later partition below kept.bounded;
}
kept_later place later (ChannelPart number times channel) below kept = record {
  senders = all_weaker (EnteredBefore place) (EnteredBefore later) (before_later place later below) channel.senders kept.senders;
  receivers = all_weaker (EnteredBefore place) (EnteredBefore later) (before_later place later below) channel.receivers kept.receivers;
}

-- a part that is after one place is after each later one
pub HoldsBefore_later : (place later : ℕ) (part : Part) → place ≤ later → HoldsBefore place part → HoldsBefore later part
HoldsBefore_later place later part below holds_before = record {
  times = λ core. omega (arith, below, holds_before.times core);
  kept = kept_later place later part below holds_before.kept;
}
