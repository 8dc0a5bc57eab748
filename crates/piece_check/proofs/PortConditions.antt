-- How many error conditions a port has at most.
use Rattle.std.proofs.Common.{◌≤◌, [], ◌∷◌, ◌++◌, Option, Some, None, Bool, true, false, not, ℤ, length as count_of, arith}
use Rattle.std.proofs.lemmas.List.{length-append}
use Rattle.apex_machine.specs.declared.condition.Condition.{Condition}
use Rattle.apex_machine.specs.declared.condition.Condition.TheVariants as condition
use Rattle.apex_machine.specs.Arguments.{is_length, is_longer}
use Rattle.apex_machine.specs.Conditions.{when}
use Rattle.apex_machine.specs.PortConditions.{destination_conditions, is_source, source_conditions}
use Rattle.apex_machine.specs.State.{Port}

one_at_most : (holds : Bool) (one : Condition) → count_of (when holds one) ≤ 1
one_at_most true one = omega arith
one_at_most false one = omega arith

-- a message into a port meets three at most
pub few_at_source : (port : Option Port) (length : ℤ) → count_of (source_conditions port length) ≤ 3
few_at_source None length =
    omega (arith, length-append (condition.NotCreated ∷ []) (when (not (is_length length)) condition.EmptyMessage), one_at_most (not (is_length length)) condition.EmptyMessage)
few_at_source (Some port) length =
    let long = when (is_longer port.size length) condition.LongerThanPort in
    let turned = when (not (is_source port.direction)) condition.NotSource in
    let empty = when (not (is_length length)) condition.EmptyMessage in
    omega (
      arith,
      length-append (long ++ turned) empty,
      length-append long turned,
      one_at_most (is_longer port.size length) condition.LongerThanPort,
      one_at_most (not (is_source port.direction)) condition.NotSource,
      one_at_most (not (is_length length)) condition.EmptyMessage,
    )

-- a message from a port meets one at most
pub few_at_destination : (port : Option Port) → count_of (destination_conditions port) ≤ 3
few_at_destination None = omega arith
few_at_destination (Some port) = omega (arith, one_at_most (is_source port.direction) condition.NotDestination)
