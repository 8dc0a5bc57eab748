-- What is reported of the objects of one kind of a partition.
use Rattle.std.specs.Prelude.{◌≡◌, ◌⊎◌, ℕ, List, Contains}
use Rattle.apex_types.specs.declared.object_kind.ObjectKind.{ObjectKind}
use Rattle.run_view.specs.declared.change.Change.{Change}
use Rattle.run_view.specs.declared.change.Change.TheVariants as variant
use Rattle.run_view.specs.declared.thing.ThingKey.TheVariants as key
use Rattle.run_view.specs.Adds.{IsOfAny}
use Rattle.run_view.specs.Plain.{PlainObject}

-- one of these objects has this number
abbrev pub HasObject : ℕ → List PlainObject → Type 0
HasObject number seen = (object : PlainObject) × Contains seen object × (object.number ≡ number)

-- the change of an object that was not seen as it is now: it is new, or no longer as it was
abbrev pub IsItsChange : ℕ → ObjectKind → List PlainObject → PlainObject → Change → Type 0
IsItsChange part kind before object change =
    (¬ Contains before object) × (change ≡ variant.Thing (key.Object part kind object.number))

-- the end of an object that was seen: no object of its number is seen now
abbrev pub IsItsEnd : ℕ → ObjectKind → List PlainObject → PlainObject → Change → Type 0
IsItsEnd part kind after object change =
    (¬ HasObject object.number after) × (change ≡ variant.Removed (key.Object part kind object.number))

-- a change of the objects of a kind, by those that were seen before and those that are seen now
abbrev pub IsFoundInKind : ℕ → ObjectKind → List PlainObject → List PlainObject → Change → Type 0
IsFoundInKind part kind before after change =
    IsOfAny (IsItsChange part kind before) after change ⊎ IsOfAny (IsItsEnd part kind after) before change
