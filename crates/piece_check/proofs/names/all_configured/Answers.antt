-- The test passes at each process exactly if all are configured.
use Rattle.std.proofs.Common.{rules, tests}
use Rattle.std.proofs.lemmas.Iterator.{YieldsList-from_slice}
use Rattle.std.proofs.lemmas.Iterator.Search.{all_from_yields_List}
use Rattle.apex_machine.specs.Configuration.{has_partition}
use Rattle.piece_check.proofs.Naming.{AllConfigured_all}
use Rattle.piece_check.proofs.names.all_configured.Goals as goal

pub returns : goal.returns
returns c =
    rw (all_from_yields_List (λ who. has_partition c.args.config.now who.part) _ _ _ c.all.ensures.ran (YieldsList-from_slice c.args.named.now cc) (λ who b q k. search (rules, tests)))
    (AllConfigured_all c.args.config.now c.args.named.now)
