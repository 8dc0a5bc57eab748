-- The guard's conditions are those of the port.
use Rattle.std.proofs.lemmas.Int.{to_z-of_z}
use Rattle.apex_machine.specs.Ports.{channel_by}
use Rattle.apex_machine.specs.PortConditions.{source_conditions}
use Rattle.apex_machine.specs.State.{given_object}
use Rattle.piece_check.proofs.PortConditions.{few_at_source}
use Rattle.piece_check.proofs.conditions.port_services.put_in.Goals as goal

pub returns-clause-value : goal.returns-clause-value
returns-clause-value c =
    let numbers = c.ranges.port in
    let lengths = c.ranges.length in
    let port = given_object c.args.ports.now c.args.port in
    c.conditions_in.ensures (source_conditions port c.args.length) (channel_by port) (simp to_z-of_z at c.guard_source.ensures)

pub returns-clause-few : goal.returns-clause-few
returns-clause-few c = rw (returns-clause-value c) (few_at_source (given_object c.args.ports.now c.args.port) c.args.length)
