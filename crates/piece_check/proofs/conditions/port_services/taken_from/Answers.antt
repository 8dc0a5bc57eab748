-- The guard's conditions are those of the port.
use Rattle.std.proofs.lemmas.Int.{to_z-of_z}
use Rattle.apex_machine.specs.Ports.{channel_by}
use Rattle.apex_machine.specs.PortConditions.{destination_conditions}
use Rattle.apex_machine.specs.State.{given_object}
use Rattle.piece_check.proofs.PortConditions.{few_at_destination}
use Rattle.piece_check.proofs.conditions.port_services.taken_from.Goals as goal

pub returns-clause-value : goal.returns-clause-value
returns-clause-value c =
    let numbers = c.ranges.port in
    let port = given_object c.args.ports.now c.args.port in
    c.conditions_in.ensures (destination_conditions port) (channel_by port) (simp to_z-of_z at c.guard_destination.ensures)

pub returns-clause-few : goal.returns-clause-few
returns-clause-few c = rw (returns-clause-value c) (few_at_destination (given_object c.args.ports.now c.args.port))
