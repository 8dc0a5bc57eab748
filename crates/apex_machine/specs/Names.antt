-- The numbers of processes, objects and ports by their names.
use Rattle.std.specs.Prelude.{ℕ, List, [], ◌∷◌, Option, Some, None, pos, is_none, if◌then◌else◌}
use Rattle.std.specs.Str.{bytes_eq}
use Rattle.apex_types.specs.declared.object_kind.NamedKind.{NamedKind}
use Rattle.apex_types.specs.declared.object_kind.NamedKind.TheVariants as named
use Rattle.apex_machine.specs.declared.condition.Condition.{Condition}
use Rattle.apex_machine.specs.declared.condition.Condition.TheVariants as condition
use Rattle.apex_machine.specs.declared.state.Process.{Process}
use Rattle.apex_machine.specs.Answer.{Nothing, Number, Value}
use Rattle.apex_machine.specs.Conditions.{when}
use Rattle.apex_machine.specs.State.{Partition, name_in, objects_of}

-- the number of the object that has this name, if one is created
abbrev pub number_named : {Item : Type 0} → (Item → List ℕ) → List ℕ → List (ℕ × Item) → Option ℕ
number_named name_of name [] = None
number_named name_of name (entry ∷ entries) = if bytes_eq name (name_of entry.1) then Some entry.0 else number_named name_of name entries

-- the number of the process, or of the object or port of a kind, that has this name, if one is created
abbrev pub number_of : Partition → NamedKind → List ℕ → Option ℕ
number_of partition named.Process name = number_named (λ (process : Process). process.name) name partition.table
number_of partition (named.Object kind) name = number_named (name_in kind) name (objects_of partition kind)

-- GET_PROCESS_ID, GET_BUFFER_ID and its counterparts: a process, or an object or port of the kind, has the name
abbrev pub get_id_conditions : Option ℕ → List Condition
get_id_conditions found = when (is_none found) condition.NoSuchName

-- the value with the number of what has the name
abbrev pub number_found : Option ℕ → Value
number_found None = Nothing
number_found (Some number) = Number (pos number)
