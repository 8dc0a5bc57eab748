-- The objects of one kind of a partition, as they are shown.
use Rattle.std.specs.Prelude.{◌≡◌, ℕ, List, [], Some, All, map}
use Rattle.apex_types.specs.declared.object_kind.ObjectKind.{ObjectKind}
use Rattle.apex_types.specs.declared.object_kind.ObjectKind.TheVariants as kind
use Rattle.apex_machine.specs.State.{Partition}
use Rattle.run_view.specs.declared.thing.ThingView.{ThingView}
use Rattle.run_view.specs.Plain.{PlainObject, plain}
use Rattle.run_view.specs.Things.{ShowsObject}

-- the numbers under which things are
abbrev pub numbers_in : {Item : Type 0} → List (ℕ × Item) → List ℕ
numbers_in {Item} items = map (λ entry. entry.0) items

-- the numbers of the objects of a kind, in the order of their creation
abbrev pub numbers_of : ObjectKind → Partition → List ℕ
numbers_of kind.Buffer partition = numbers_in partition.buffers
numbers_of kind.Blackboard partition = numbers_in partition.blackboards
numbers_of kind.Semaphore partition = numbers_in partition.semaphores
numbers_of kind.Event partition = numbers_in partition.events
numbers_of kind.Mutex partition = numbers_in partition.mutexes
numbers_of kind.SamplingPort partition = []
numbers_of kind.QueuingPort partition = []

-- an object is shown as it is
abbrev pub IsShown : ObjectKind → Partition → PlainObject → Type 0
IsShown kind partition object = (view : ThingView) × (plain view ≡ object.thing) × ShowsObject kind object.number partition (Some view)

-- the objects of a kind are shown: those that there are, in the order of their creation, each as it is
pub record ShowsKind (kind : ObjectKind) (partition : Partition) (objects : List PlainObject) : Type 0 where
  pub numbers : map (λ object. object.number) objects ≡ numbers_of kind partition
  pub each : All (IsShown kind partition) objects
