-- What a look at a part leaves as seen and finds, by what is seen of the part.
use Rattle.std.proofs.Common.{◌≡◌, ℕ, List, Result, sym, subst}
use Rattle.std.specs.Borrow.{Bor}
use Rattle.std.specs.Result.{OnOk}
use Rattle.apex_machine.specs.Configuration.{Configuration}
use Rattle.apex_machine.specs.Pieces.{Part}
use Rattle.apex_machine.specs.State.{Partition}
use Rattle.channel.specs.Held.{Held}
use Rattle.scheduling.specs.Clocks.{Clocks}
use Rattle.piece_check.specs.declared.seen.Seen.TheVariants as seen
use Rattle.piece_check.specs.Seen.{IsSeen}
use Rattle.run_view.specs.declared.change.Change.{Change}
use Rattle.run_view.specs.Adds.{Adds, IsOfAny}
use Rattle.run_view.specs.CoreChanges.{IsItsChange}
use Rattle.run_view.specs.Cores.{shown_cores}
use Rattle.run_view.specs.Seen.{IsFoundInChannel, IsFoundInPart, IsFoundInPartition, PieceSeen, Sees, SeesChannel, SeesPartition}
use Rattle.run_view.proofs.Parts.{channel_seen, module_seen, partition_seen}

pub sees_module : {T E : Type 0} (configuration : Configuration) (part : Part) (clock : Bor Clocks) (after : PieceSeen) (result : Result T E) → IsSeen part (seen.Module clock)
    → OnOk result (after.cores ≡ shown_cores configuration clock.now.cores) → OnOk result (Sees configuration part after)
sees_module configuration part clock after result is sees = subst (λ (one : Part). OnOk result (Sees configuration one after)) (sym (module_seen part clock is)) sees

pub found_in_module : {T E : Type 0} (part : Part) (clock : Bor Clocks) (before after : PieceSeen) (result : Result T E) (old new : List Change) → IsSeen part (seen.Module clock)
    → OnOk result (Adds (IsOfAny (IsItsChange before.cores) after.cores) old new) → OnOk result (Adds (IsFoundInPart part before after) old new)
found_in_module part clock before after result old new is found =
    subst (λ (one : Part). OnOk result (Adds (IsFoundInPart one before after) old new)) (sym (module_seen part clock is)) found

pub sees_partition : {T E : Type 0} (configuration : Configuration) (part : Part) (number : ℕ) (clock : Bor Clocks) (state : Bor Partition) (after : PieceSeen) (result : Result T E)
    → IsSeen part (seen.Partition number clock state) → OnOk result (SeesPartition state.now after) → OnOk result (Sees configuration part after)
sees_partition configuration part number clock state after result is sees =
    subst (λ (one : Part). OnOk result (Sees configuration one after)) (sym (partition_seen part number clock state is)) sees

pub found_in_partition : {T E : Type 0} (part : Part) (number : ℕ) (clock : Bor Clocks) (state : Bor Partition) (before after : PieceSeen) (result : Result T E) (old new : List Change)
    → IsSeen part (seen.Partition number clock state) → OnOk result (Adds (IsFoundInPartition number before after) old new)
    → OnOk result (Adds (IsFoundInPart part before after) old new)
found_in_partition part number clock state before after result old new is found =
    subst (λ (one : Part). OnOk result (Adds (IsFoundInPart one before after) old new)) (sym (partition_seen part number clock state is)) found

pub sees_channel : {T E : Type 0} (configuration : Configuration) (part : Part) (times : Bor (List ℕ)) (channel : Bor Held) (after : PieceSeen) (result : Result T E)
    → IsSeen part (seen.Channel times channel) → OnOk result (SeesChannel channel.now.channel after.channel) → OnOk result (Sees configuration part after)
sees_channel configuration part times channel after result is sees =
    subst (λ (one : Part). OnOk result (Sees configuration one after)) (sym (channel_seen part times channel is)) sees

pub found_in_channel : {T E : Type 0} (part : Part) (times : Bor (List ℕ)) (channel : Bor Held) (before after : PieceSeen) (result : Result T E) (old new : List Change)
    → IsSeen part (seen.Channel times channel) → OnOk result (Adds (IsFoundInChannel channel.now.number before.channel after.channel) old new)
    → OnOk result (Adds (IsFoundInPart part before after) old new)
found_in_channel part times channel before after result old new is found =
    subst (λ (one : Part). OnOk result (Adds (IsFoundInPart one before after) old new)) (sym (channel_seen part times channel is)) found
