-- The handler and the list of errors are those after the request.
use Rattle.std.proofs.Common.{refl, rules}
use Rattle.std.proofs.lemmas.Int.{to_z-of_z}
use mir.Syntax.{w64}
use mir.Val.{SFits}
use Rattle.partition_state.proofs.Takers.{oldest_taken}
use Rattle.partition_state.proofs.state.PartitionState.change_errors.Goals as goal

pub configured-requires : goal.configured-requires
configured-requires c =
    let fits : SFits w64 c.in-ConfigureHandler.core = search rules in
    simp to_z-of_z (rw c.in-ConfigureHandler.is at c.requires)

pub returns-in-ConfigureHandler-clause-ok : goal.returns-in-ConfigureHandler-clause-ok
returns-in-ConfigureHandler-clause-ok c =
    let fits : SFits w64 c.in-ConfigureHandler.concurrency = search rules in
    let fits_too : SFits w64 c.in-ConfigureHandler.core = search rules in
    let made = simp to_z-of_z at c.configured.ensures in
    rw (← c.self-in-ConfigureHandler.view_is, c.in-ConfigureHandler.is, made) refl

pub returns-in-RaiseError-clause-ok : goal.returns-in-RaiseError-clause-ok
returns-in-RaiseError-clause-ok c = rw c.in-RaiseError.is c.list.ensures.ok

pub returns-in-GetErrorStatus-clause-ok : goal.returns-in-GetErrorStatus-clause-ok
returns-in-GetErrorStatus-clause-ok c =
    rw c.in-GetErrorStatus.is (oldest_taken c.args.self.now _ _ c.self-in-GetErrorStatus.view_is c.take_oldest.ensures)
