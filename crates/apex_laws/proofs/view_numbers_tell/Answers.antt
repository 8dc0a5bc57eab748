use Rattle.apex_laws.proofs.Viewed.{numbers_tell}
use Rattle.apex_laws.proofs.view_numbers_tell.Goals as goal

pub returns : goal.returns
returns c = numbers_tell
