use Rattle.apex_laws.proofs.Wakes.{lock_is_awaited_forever}
use Rattle.apex_laws.proofs.lock_is_awaited_forever.Goals as goal

pub returns : goal.returns
returns c = lock_is_awaited_forever
