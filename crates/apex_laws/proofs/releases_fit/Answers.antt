use Rattle.apex_laws.proofs.BoundedParts.{releases_fit}
use Rattle.apex_laws.proofs.releases_fit.Goals as goal

pub returns : goal.returns
returns c = releases_fit
