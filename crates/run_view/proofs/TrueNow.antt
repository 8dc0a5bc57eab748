-- What a look finds is true of the pieces as they are.
use Rattle.std.proofs.Common.{◌≡◌, ◌∙◌, inl, inr, ℕ, List, Option, Some, refl, sym, ap, subst, map}
use Rattle.std.proofs.lemmas.List.Elements.{All-weaker}
use Rattle.std.specs.List.{Contains, range_with_len}
use Rattle.apex_types.specs.declared.object_kind.ObjectKind.{ObjectKind}
use Rattle.apex_types.specs.declared.record.Ordered.{Ordered}
use Rattle.apex_machine.specs.declared.state.CoreState.{CoreState}
use Rattle.apex_machine.specs.declared.state.Mode.{Mode}
use Rattle.apex_machine.specs.declared.state.Process.{Process}
use Rattle.apex_machine.specs.Configuration.{Configuration}
use Rattle.apex_machine.specs.Pieces.{Part, ChannelPart, ModulePart, PartitionPart}
use Rattle.apex_machine.specs.State.{Partition}
use Rattle.piece_check.specs.Parts.{Holding}
use Rattle.run_view.specs.declared.change.Change.{Change}
use Rattle.run_view.specs.declared.cores.CoreView.{CoreView}
use Rattle.run_view.specs.declared.last_seen.LastSeen.{LastSeen}
use Rattle.run_view.specs.declared.seen_process.SeenProcess.{SeenProcess}
use Rattle.run_view.specs.Adds.{Adds, IsOfAny}
use Rattle.run_view.specs.Changes.{AddsOnly, IsOfChannel, IsOfCores, IsOfOne, IsOfPart, IsOfPartition}
use Rattle.run_view.specs.CoreChanges.{IsItsChange}
use Rattle.run_view.specs.Cores.{shown_core, shown_cores}
use Rattle.run_view.specs.ObjectChanges as objects
use Rattle.run_view.specs.Objects.{ShowsKind, numbers_in, numbers_of}
use Rattle.run_view.specs.Plain.{PlainObject}
use Rattle.run_view.specs.ProcessChanges as processes
use Rattle.run_view.specs.Processes.{shown_entry}
use Rattle.run_view.specs.Seen.{IsFound, IsFoundInMode, IsFoundInPart, IsFoundInPartition, PieceSeen, Sees, SeesAllAfter, SeesPartition, objects_of}
use Rattle.run_view.proofs.Mapped.{contains_mapped, map_contains}
use Rattle.run_view.proofs.Parts.{contains_at}

-- the changes that are added are so, if each that is found is
pub adds_so : {IsSo AlsoIs : Change → Type 0} {old new : List Change} → ((change : Change) → IsSo change → AlsoIs change) → Adds IsSo old new → AddsOnly AlsoIs old new
adds_so {IsSo} {AlsoIs} {old} {new} also adds = record { added = adds.added; after = adds.after; so = All-weaker IsSo AlsoIs also adds.added adds.so }

true_of_cores : (configuration : Configuration) (cores : List CoreState) (before after : List CoreView) (change : Change) → after ≡ shown_cores configuration cores
    → IsOfAny (IsItsChange before) after change → IsOfCores configuration cores change
true_of_cores configuration cores before after change sees found =
    let view = found.0 in
    let there : Contains (map (shown_core configuration cores) (range_with_len 0 configuration.cores)) view = subst (λ list. Contains list view) sees found.1 in
    let core = contains_mapped (shown_core configuration cores) (range_with_len 0 configuration.cores) view there in
    let shown : view ≡ shown_core configuration cores view.core = sym core.2 ∙ ap (shown_core configuration cores) (ap (λ (one : CoreView). one.core) core.2) in
    subst (λ one. IsOfCores configuration cores one) (sym found.2.1) shown

true_of_mode : (number : ℕ) (partition : Partition) (before after : Option Mode) (change : Change) → after ≡ Some partition.mode → IsFoundInMode number before after change
    → IsOfPartition number partition change
true_of_mode number partition before after change sees found =
    let same : found.0 ≡ partition.mode = (let one = found.1 in cc) in
    subst (λ one. IsOfPartition number partition one) (sym found.3) (refl, same)

true_of_change : (number : ℕ) (partition : Partition) (before after : List SeenProcess) (change : Change) → after ≡ map shown_entry partition.table
    → IsOfAny (processes.IsItsChange number before) after change → IsOfPartition number partition change
true_of_change number partition before after change sees found =
    let process = found.0 in
    let there : Contains (map shown_entry partition.table) process = subst (λ list. Contains list process) sees found.1 in
    let entry = contains_mapped shown_entry partition.table process there in
    let numbered : entry.0.0 ≡ process.number = ap (λ (one : SeenProcess). one.number) entry.2 in
    let held : Contains partition.table (process.number, entry.0.1) = subst (λ one. Contains partition.table (one, entry.0.1)) numbered entry.1 in
    subst (λ one. IsOfPartition number partition one) (sym found.2.1) (entry.0.1, held, refl, sym (ap (λ (one : SeenProcess). one.view) entry.2))

true_of_end : (number : ℕ) (partition : Partition) (before after : List SeenProcess) (change : Change) → after ≡ map shown_entry partition.table
    → IsOfAny (processes.IsItsEnd number after) before change → IsOfPartition number partition change
true_of_end number partition before after change sees found =
    let process = found.0 in
    let gone = λ (there : Contains (numbers_in partition.table) process.number).
    (let entry = contains_mapped (λ (one : ℕ × Process). one.0) partition.table process.number there in
    let shown : Contains after (shown_entry entry.0) = subst (λ list. Contains list (shown_entry entry.0)) (sym sees) (map_contains shown_entry partition.table entry.0 entry.1) in
    found.2.0 (shown_entry entry.0, shown, entry.2)) in
    subst (λ one. IsOfPartition number partition one) (sym found.2.1) (refl, gone)

true_of_object : (number : ℕ) (kind : ObjectKind) (partition : Partition) (before after : List PlainObject) (change : Change) → ShowsKind kind partition after
    → objects.IsFoundInKind number kind before after change → IsOfPartition number partition change
true_of_object number kind partition before after change sees (inl found) =
    let object = found.0 in
    let there : Contains (numbers_of kind partition) object.number =
    subst (λ list. Contains list object.number) sees.numbers (map_contains (λ (one : PlainObject). one.number) after object found.1) in
    subst (λ one. IsOfPartition number partition one) (sym found.2.1) (refl, there)
true_of_object number kind partition before after change sees (inr found) =
    let object = found.0 in
    let gone = λ (there : Contains (numbers_of kind partition) object.number).
    (let one = contains_mapped (λ (one : PlainObject). one.number) after object.number (subst (λ list. Contains list object.number) (sym sees.numbers) there) in
    found.2.0 (one.0, one.1, one.2)) in
    subst (λ one. IsOfPartition number partition one) (sym found.2.1) (refl, gone)

true_of_partition : (number : ℕ) (partition : Partition) (before after : PieceSeen) (change : Change) → SeesPartition partition after → IsFoundInPartition number before after change
    → IsOfPartition number partition change
true_of_partition number partition before after change sees (inl found) = true_of_mode number partition before.mode after.mode change sees.mode found
true_of_partition number partition before after change sees (inr (inl (inl found))) = true_of_change number partition before.processes after.processes change sees.processes found
true_of_partition number partition before after change sees (inr (inl (inr found))) = true_of_end number partition before.processes after.processes change sees.processes found
true_of_partition number partition before after change sees (inr (inr (inl found))) = subst (λ one. IsOfPartition number partition one) (sym found.1) refl
true_of_partition number partition before after change sees (inr (inr (inr found))) =
    true_of_object number found.0 partition (objects_of before found.0) (objects_of after found.0) change (sees.objects found.0) found.1

-- what is found in a part that is seen as it is is true of it
pub true_of_part : (configuration : Configuration) (part : Part) (before after : PieceSeen) (change : Change) → Sees configuration part after → IsFoundInPart part before after change
    → IsOfPart configuration part change
true_of_part configuration (ModulePart cores) before after change sees found = true_of_cores configuration cores before.cores after.cores change sees found
true_of_part configuration (PartitionPart number cores partition) before after change sees found = true_of_partition number partition before after change sees found
true_of_part configuration (ChannelPart number times channel) before after change sees found = subst (λ one. IsOfChannel number one) (sym found.1) refl

-- what a look finds is true of one of the pieces
pub true_of_found : (configuration : Configuration) (holdings : List Holding) (ordered : Option Ordered) (before after : LastSeen) (change : Change)
    → SeesAllAfter configuration holdings ordered before after → IsFound configuration holdings ordered before after change → IsOfOne configuration holdings change
true_of_found configuration holdings ordered before after change sees found =
    let number = found.0 in
    let holding = found.1 in
    let looked = (sees number holding found.2).looked found.3.0 in
    (holding, contains_at holdings number holding (sym found.2), true_of_part configuration holding.part _ _ change looked found.3.1)
