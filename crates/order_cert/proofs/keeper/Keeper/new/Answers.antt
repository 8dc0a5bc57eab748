use Rattle.apex_types.specs.declared.limits.TheConstants.{MOST_CORES}
use Rattle.order_cert.proofs.Lawful.{follows_none, zeros}
use Rattle.order_cert.proofs.keeper.Keeper.new.Goals as goal

pub returns-clause-follows : goal.returns-clause-follows
returns-clause-follows c = follows_none _ (zeros MOST_CORES)
