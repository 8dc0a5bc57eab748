use Rattle.std.proofs.Common.{◌∙◌}
use Rattle.partition_state.proofs.Choosing.{choice_of_dormant}
use Rattle.partition_state.proofs.state.PartitionState.choice_on.Goals as goal

pub returns-else-is_handler_alive : goal.returns-else-is_handler_alive
returns-else-is_handler_alive c =
    c.choice_on.ensures
    ∙ choice_of_dormant c.args.part c.args.core _ _ _ _ c.self.view_is c.owner.ensures c.is_handler_alive.ensures c.if-is_handler_alive.false
