use Rattle.std.proofs.Common.{[], refl}
use Rattle.report.proofs.Answering.{want_of_memory}
use Rattle.apexcheck.proofs.stored.check_stored.Goals as goal

pub returns-in_default : goal.returns-in_default
returns-in_default g c = ([], λ recordings certificate e is. want_of_memory refl)
