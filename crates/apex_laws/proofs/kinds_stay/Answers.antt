use Rattle.apex_laws.proofs.ChannelContents.{kinds_stay}
use Rattle.apex_laws.proofs.kinds_stay.Goals as goal

pub returns : goal.returns
returns c = kinds_stay
