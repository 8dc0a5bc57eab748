-- The names of processes and objects.
use Rattle.std.specs.Prelude.{ℕ, List, Option, Some, None, Bool, option_map, if◌then◌else◌}
use Rattle.std.specs.Option.{option_and_then, option_map_or}
use Rattle.indexmap.specs.IndexMap.{get, keys}
use Rattle.apex_types.specs.declared.record.Body.{Body}
use Rattle.apex_types.specs.declared.record.Body.TheVariants as body
use Rattle.apex_types.specs.declared.record.Call.{Call as CallRecord}
use Rattle.apex_types.specs.declared.request.Request.{Request}
use Rattle.apex_types.specs.declared.request.Request.TheVariants as request
use Rattle.apex_types.specs.Requested.{kind_of}
use Rattle.apex_machine.specs.Waiting.{is_no_error}
use Rattle.partition_objects.specs.Numbers.{number_of}
use Rattle.run_numbers.specs.contracts.names.NamedPartialEq.TheImpl as named
use Rattle.run_numbers.specs.declared.names.Named.{Named}
use Rattle.run_numbers.specs.declared.names.Named.TheVariants as key
use Rattle.run_numbers.specs.declared.names.Names.{Names}
use Rattle.run_numbers.specs.Figures.{thing_of}

-- whether these are the same process or object
abbrev pub is_same_named : Named → Named → Bool
is_same_named one other = named.eq-value.it one other

-- the name of a process or an object, if it has one
abbrev pub name_in : Names → Named → Option (List ℕ)
name_in names wanted = get is_same_named names.names wanted

-- what has a name, in the order of the creations
abbrev pub named_in : Names → List Named
named_in names = keys names.names

-- what has a name that is created under a number of a partition
abbrev pub named_by : ℕ → Request → ℕ → Option Named
named_by part (request.CreateProcess name priority period time_capacity) number = Some (key.Process (record { part = part; proc = number }))
named_by part (request.Create name object) number = option_map key.Object (thing_of part (kind_of object) number)
named_by part other number = None

-- what a call creates that can have a name, if it answers NO_ERROR
abbrev pub created_by : CallRecord → Option Named
created_by call =
    if is_no_error call.claim.out
    then option_and_then (λ claimed. option_and_then (named_by call.who.part call.request) (number_of claimed)) call.claim.val
    else None

-- the name that a creation gives
abbrev pub name_given : Request → Option (List ℕ)
name_given (request.CreateProcess name priority period time_capacity) = Some name
name_given (request.Create name object) = Some name
name_given other = None

-- the name of a process or an object after a call, by the one before it
abbrev pub name_after : CallRecord → Named → Option (List ℕ) → Option (List ℕ)
name_after call wanted before = option_map_or (λ created. if is_same_named created wanted then name_given call.request else before) (created_by call) before

-- the same after any record: only a call gives a name
abbrev pub name_noted : Body → Named → Option (List ℕ) → Option (List ℕ)
name_noted (body.Call call) wanted before = name_after call wanted before
name_noted other wanted before = before
