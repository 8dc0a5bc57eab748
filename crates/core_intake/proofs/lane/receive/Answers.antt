use Rattle.std.proofs.Common.{ap, ◌∙◌}
use Rattle.core_intake.proofs.Relays.{receives}
use Rattle.core_intake.proofs.lane.receive.Goals as goal

pub recv_as-requires-clause-rule : goal.recv_as-requires-clause-rule
recv_as-requires-clause-rule g c = (receives _ _ (ap (λ v. v.receives) c.loop.invariant.1 ∙ c.requires.receives), λ items views h at. tt)
