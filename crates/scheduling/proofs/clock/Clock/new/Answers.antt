-- So many of the most cold cores are as many cold cores.
use Rattle.std.proofs.Common.{ap, List}
use Rattle.std.proofs.lemmas.List.{take-replicate}
use Rattle.apex_types.specs.declared.limits.TheConstants.{MOST_CORES}
use Rattle.apex_machine.specs.declared.state.CoreState.{CoreState}
use Rattle.apex_machine.specs.State.{cold_core}
use Rattle.scheduling.specs.Clocks.{Clocks}
use Rattle.scheduling.proofs.clock.Clock.new.Goals as goal

pub returns : goal.returns
returns c =
    ap (λ (cores : List CoreState). let clocks : Clocks = record { cores = cores; skew = c.args.skew } in clocks)
    (take-replicate c.args.cores MOST_CORES cold_core c.requires)
