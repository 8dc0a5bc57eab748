-- A creation gives a new number, and that is what is claimed of it.
use Rattle.std.proofs.Common.{◌≡◌, true, rules}
use Rattle.partition_state.specs.Calls.{creates}
use Rattle.partition_state.proofs.Created.{creation_judged}
use Rattle.partition_state.proofs.state.PartitionState.judge.Goals as goal

pub returns-in-None : goal.returns-in-None
returns-in-None c =
    let call = c.args.call.now in
    let config = c.args.config.now in
    let cores = c.args.moment.now.cores.now in
    let core = c.args.moment.now.core in
    let made : creates call.request ≡ true = search rules in
    creation_judged config cores core call.who c.args.self.now call.request call.claim _ _ made (c.is_new.ensures config cores core call.who) c.judge_value.ensures
