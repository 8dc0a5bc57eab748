use Rattle.wait_set.proofs.Last.{rising_is_list_of_waiters}
use Rattle.wait_set.proofs.laws.rising_is_list_of_waiters.Goals as goal

pub returns : goal.returns
returns c = rising_is_list_of_waiters
