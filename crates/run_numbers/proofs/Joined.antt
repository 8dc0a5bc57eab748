-- How many processes wait at an object.
use Rattle.std.proofs.Common.{◌≡◌, ◌∙◌, ℕ, List, [], ◌∷◌, Option, Some, None, true, length, sym, ap}
use Rattle.std.specs.Option.{option_map_or}
use Rattle.apex_types.specs.declared.object_kind.ObjectKind.{ObjectKind}
use Rattle.apex_types.specs.declared.object_kind.ObjectKind.TheVariants as kind
use Rattle.apex_types.specs.declared.operation.{ObjectOperation.ObjectOperation}
use Rattle.apex_types.specs.declared.record.Out.{Out}
use Rattle.apex_types.specs.declared.shape.AllowedWait.{AllowedWait}
use Rattle.apex_types.specs.declared.shape.End.{End}
use Rattle.apex_types.specs.Shapes.{kind_used, shape_on}
use Rattle.apex_machine.specs.declared.state.Entry.{Entry}
use Rattle.apex_machine.specs.State.{Partition, is_same_kind}
use Rattle.apex_machine.specs.Waiting.{is_waiting}
use Rattle.run_numbers.specs.declared.figure.Figure.TheVariants.{Waiters}
use Rattle.run_numbers.specs.declared.figure.Thing.{Thing}
use Rattle.run_numbers.specs.declared.observation.Observation.TheVariants.{Value}
use Rattle.run_numbers.specs.Figures.{thing_of}
use Rattle.run_numbers.specs.Held.{joined_at, joined_if, joined_object, waiters_at}
use Rattle.run_numbers.proofs.Given.{is_given}

-- at a buffer
pub at_buffer : (partition : Partition) (sort : ObjectKind) (number count : ℕ) (end : End) → is_same_kind sort kind.Buffer ≡ true → count ≡ waiters_at partition kind.Buffer number end
    → count ≡ waiters_at partition sort number end
at_buffer partition kind.Buffer number count end same is = is
at_buffer partition kind.Blackboard number count end same is = cc
at_buffer partition kind.Semaphore number count end same is = cc
at_buffer partition kind.Event number count end same is = cc
at_buffer partition kind.Mutex number count end same is = cc
at_buffer partition kind.SamplingPort number count end same is = cc
at_buffer partition kind.QueuingPort number count end same is = cc

-- at an object of a kind
pub at_kind : (partition : Partition) (sort other : ObjectKind) (number count : ℕ) (end : End) → sort ≡ other → count ≡ waiters_at partition other number end
    → count ≡ waiters_at partition sort number end
at_kind partition sort other number count end same is = is ∙ ap (λ one. waiters_at partition one number end) (sym same)

-- those who wait at an end of an object that is there, or that is not
pub some_wait : {Item : Type 0} (entries : Item → List Entry) (found : Option Item) (item : Item) (count : ℕ) → Some item ≡ found → count ≡ length (entries item)
    → count ≡ option_map_or (λ item. length (entries item)) found 0
some_wait {Item} entries found item count is counted = counted ∙ ap (λ (one : Option Item). option_map_or (λ item. length (entries item)) one 0) is

pub none_wait : {Item : Type 0} (entries : Item → List Entry) (found : Option Item) → None ≡ found → 0 ≡ option_map_or (λ item. length (entries item)) found 0
none_wait {Item} entries found none = ap (λ (one : Option Item). option_map_or (λ item. length (entries item)) one 0) none

-- what is given where the caller of an operation waits
pub joined_is : (part number waiting : ℕ) (partition : Partition) (operation : ObjectOperation) (claimed : Out) (sort : ObjectKind) (allowed : AllowedWait) (thing : Thing)
    → is_waiting claimed ≡ true → sort ≡ kind_used operation → (shape_on operation).wait ≡ Some allowed → thing_of part sort number ≡ Some thing
    → waiting ≡ waiters_at partition sort number allowed.end → Value (Waiters thing) waiting ∷ [] ≡ joined_object part partition number operation claimed
joined_is part number waiting partition operation claimed sort allowed thing waits sorts shape is counted =
    ap (λ one. Value (Waiters thing) one ∷ []) counted ∙ ap (joined_at (waiters_at partition sort number allowed.end)) (sym is)
    ∙ ap (λ one. joined_at (waiters_at partition one number allowed.end) (thing_of part one number)) sorts
    ∙ ap (λ (one : Option AllowedWait). joined_if part partition number (kind_used operation) one) (sym shape)
    ∙ is_given (is_waiting claimed) (joined_if part partition number (kind_used operation) (shape_on operation).wait) waits
