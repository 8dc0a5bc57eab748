-- The test passes at each core exactly if the skew is kept.
use Rattle.scheduling.proofs.Cores.{KeepsSkew_all}
use Rattle.scheduling.proofs.clock.Clock.may_tick.Goals as goal

pub returns : goal.returns
returns c = rw (c.keeps_skew.ensures, c.states.ensures, c.now-next.ensures) (KeepsSkew_all _ _ _)
