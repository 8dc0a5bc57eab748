use Rattle.apex_laws.proofs.SoundParts.{part_stays_sound}
use Rattle.apex_laws.proofs.part_stays_sound.Goals as goal

pub returns : goal.returns
returns c = part_stays_sound
