-- When a record comes.
use Rattle.std.specs.Prelude.{◌≡◌, List}
use Rattle.apex_types.specs.declared.record.Ordered.{Ordered}
use Rattle.apex_machine.specs.declared.state.CoreState.{CoreState}
use Rattle.scheduling.specs.declared.moment.Moment.{Moment}

-- the moment of a record, with these cores
pub record IsMomentOf (cores : List CoreState) (ordered : Ordered) (moment : Moment) : Type 0 where
  pub place : moment.place ≡ ordered.pos
  pub core : moment.core ≡ ordered.core
  pub cores_then : moment.cores.now ≡ cores
