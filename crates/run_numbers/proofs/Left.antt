-- A record that uses no object and no channel gives nothing by what is held after it, and a return nothing by what is held before it.
use Rattle.std.proofs.Common.{◌≡◌, ◌∙◌, ◌++◌, ℕ, true, false, List, [], ◌∷◌, refl, ap}
use Rattle.apex_types.specs.declared.record.Body.{Body}
use Rattle.apex_types.specs.declared.record.Body.TheVariants.{Arrive, Call, Depart, Disp, Error, Ret, Tick}
use Rattle.apex_types.specs.declared.record.Ordered.{Ordered}
use Rattle.apex_machine.specs.Configuration.{Configuration}
use Rattle.apex_machine.specs.Pieces.{ChannelPart, ModulePart, Part, PartitionPart}
use Rattle.apex_machine.specs.declared.state.CoreState.{CoreState}
use Rattle.apex_machine.specs.State.{Channel, Partition}
use Rattle.piece_check.specs.Parts.{Holding}
use Rattle.run_numbers.specs.Channels.{used, used_after}
use Rattle.run_numbers.specs.Cores.{observed_of_cores}
use Rattle.run_numbers.specs.Partitions.{observed_of_partition}
use Rattle.run_numbers.specs.Run.{is_return, left_by, left_in_partition, may_use, observed_after, observed_before, observed_of}

none_in_partition : (number : ℕ) (partition : Partition) (body : Body) → may_use body ≡ false → left_in_partition number partition body ≡ []
none_in_partition number partition (Call call) none = cc
none_in_partition number partition (Ret ret) none = refl
none_in_partition number partition (Disp dispatched) none = refl
none_in_partition number partition (Tick woken) none = refl
none_in_partition number partition (Arrive crossing) none = refl
none_in_partition number partition (Depart crossing) none = refl
none_in_partition number partition (Error report) none = refl

none_in_channel : (number : ℕ) (channel : Channel) (body : Body) → may_use body ≡ false → used_after number channel body ≡ []
none_in_channel number channel (Call call) none = cc
none_in_channel number channel (Ret ret) none = refl
none_in_channel number channel (Disp dispatched) none = refl
none_in_channel number channel (Tick woken) none = refl
none_in_channel number channel (Arrive crossing) none = cc
none_in_channel number channel (Depart crossing) none = cc
none_in_channel number channel (Error report) none = refl

none_by : (part : Part) (ordered : Ordered) → may_use ordered.rec.body ≡ false → left_by part ordered ≡ []
none_by (ModulePart cores) ordered none = refl
none_by (PartitionPart number cores partition) ordered none = none_in_partition number partition ordered.rec.body none
none_by (ChannelPart number times channel) ordered none = none_in_channel number channel ordered.rec.body none

pub none_left : (ordered : Ordered) → may_use ordered.rec.body ≡ false → (holdings : List Holding) → observed_after holdings ordered ≡ []
none_left ordered none [] = refl
none_left ordered none (holding ∷ holdings) =
    ap (λ list. list ++ observed_after holdings ordered) (none_by holding.part ordered none) ∙ none_left ordered none holdings

returned_of_cores : (configuration : Configuration) (cores : List CoreState) (core : ℕ) (body : Body) → is_return body ≡ true → observed_of_cores configuration cores core body ≡ []
returned_of_cores configuration cores core (Ret ret) is = refl
returned_of_cores configuration cores core (Call call) is = cc
returned_of_cores configuration cores core (Disp dispatched) is = cc
returned_of_cores configuration cores core (Tick woken) is = cc
returned_of_cores configuration cores core (Arrive crossing) is = cc
returned_of_cores configuration cores core (Depart crossing) is = cc
returned_of_cores configuration cores core (Error report) is = cc

returned_of_partition : (part : ℕ) (cores : List CoreState) (core : ℕ) (partition : Partition) (body : Body) → is_return body ≡ true
    → observed_of_partition part cores core partition body ≡ []
returned_of_partition part cores core partition (Ret ret) is = refl
returned_of_partition part cores core partition (Call call) is = cc
returned_of_partition part cores core partition (Disp dispatched) is = cc
returned_of_partition part cores core partition (Tick woken) is = cc
returned_of_partition part cores core partition (Arrive crossing) is = cc
returned_of_partition part cores core partition (Depart crossing) is = cc
returned_of_partition part cores core partition (Error report) is = cc

returned_of_channel : (number : ℕ) (times : List ℕ) (channel : Channel) (core : ℕ) (body : Body) → is_return body ≡ true → used number times channel core body ≡ []
returned_of_channel number times channel core (Ret ret) is = refl
returned_of_channel number times channel core (Call call) is = cc
returned_of_channel number times channel core (Disp dispatched) is = cc
returned_of_channel number times channel core (Tick woken) is = cc
returned_of_channel number times channel core (Arrive crossing) is = cc
returned_of_channel number times channel core (Depart crossing) is = cc
returned_of_channel number times channel core (Error report) is = cc

returned_of : (configuration : Configuration) (part : Part) (ordered : Ordered) → is_return ordered.rec.body ≡ true → observed_of configuration part ordered ≡ []
returned_of configuration (ModulePart cores) ordered is = returned_of_cores configuration cores ordered.core ordered.rec.body is
returned_of configuration (PartitionPart number cores partition) ordered is = returned_of_partition number cores ordered.core partition ordered.rec.body is
returned_of configuration (ChannelPart number times channel) ordered is = returned_of_channel number times channel ordered.core ordered.rec.body is

pub none_before : (configuration : Configuration) (ordered : Ordered) → is_return ordered.rec.body ≡ true → (holdings : List Holding)
    → observed_before configuration holdings ordered ≡ []
none_before configuration ordered is [] = refl
none_before configuration ordered is (holding ∷ holdings) =
    ap (λ list. list ++ observed_before configuration holdings ordered) (returned_of configuration holding.part ordered is)
    ∙ none_before configuration ordered is holdings
