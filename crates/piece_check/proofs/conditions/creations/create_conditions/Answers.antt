-- A name is taken if what has it has a number.
use Rattle.std.proofs.Common.{refl}
use Rattle.apex_types.specs.Requested.{kind_of}
use Rattle.apex_machine.specs.State.{name_in, objects_of}
use Rattle.piece_check.proofs.Naming.{named_is_taken}
use Rattle.piece_check.proofs.conditions.creations.create_conditions.Goals as goal

pub returns : goal.returns
returns c =
    let kind = kind_of c.args.object.now in
    rw (
      c.with_parameters.ensures,
      c.creation.ensures.value,
      c.is_some-is_taken.ensures,
      c.object_number_of.ensures,
      c.is_full-is_full.ensures,
      c.kind-kind.ensures,
      named_is_taken (name_in kind) c.args.name.now (objects_of c.args.state.now kind),
    )
    refl
