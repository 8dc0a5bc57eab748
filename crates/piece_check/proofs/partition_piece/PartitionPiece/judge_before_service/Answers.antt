-- What the partition sees of the outcome holds of the call, or fails of it; a call that claims a code of an error condition is not done.
use Rattle.std.proofs.Common.{◌≡◌, ◌≢◌, [], Some, None, inl, rules}
use Rattle.apex_machine.specs.Ports.{channel_of}
use Rattle.apex_machine.specs.ServiceConditions.{conditions_of}
use Rattle.apex_machine.specs.Services.{answer_of}
use Rattle.apex_machine.specs.State.{time_of}
use Rattle.partition_state.specs.Calls.{LeavesObjects}
use Rattle.piece_check.specs.Judged.{own_demands}
use Rattle.piece_check.proofs.Passing.{caller_fails, refused_given, refused_holds, refused_not_done, through_fails, through_holds}
use Rattle.piece_check.proofs.partition_piece.PartitionPiece.judge_before_service.Goals as goal

pub returns-then-not-is_empty-clause-ok : goal.returns-then-not-is_empty-clause-ok
returns-then-not-is_empty-clause-ok c =
    let a = c.args in
    let own = a.self.now in
    let call = a.call.now in
    let conditions = c.in_ok-conditions.conditions in
    let judged = c.in_ok-judge_refused.ensures in
    let answer = answer_of a.config.now own.clock.cores a.core call.who own.state call.request in
    let some : conditions ≢ [] = search rules in (
      refused_holds a.config.now own.number own.clock.cores own.state a.core call conditions c.in_ok-conditions.ensures.ok c.in_ok-conditions.ensures.conditions judged,
      inl (refused_not_done conditions own.number call.request answer call.claim some (judged None own.number call.request answer)),
    )

pub returns-in_err-judge_through-clause-refused : goal.returns-in_err-judge_through-clause-refused
returns-in_err-judge_through-clause-refused c =
    let a = c.args in
    let own = a.self.now in
    let call = a.call.now in
    let clear : conditions_of a.config.now (time_of own.clock.cores a.core) call.who own.state call.request ≡ [] = search rules in
    let goes : channel_of own.state call.request ≡ Some c.in-Some.channel = search rules in
    let fails =
    through_fails a.config.now own.number own.clock.cores own.state a.core call c.in-Some.channel _ c.in_ok-conditions.ensures.ok clear goes
    c.in_err-judge_through.ensures in
    search (rules, fails)

pub returns-in-Some-clause-ok : goal.returns-in-Some-clause-ok
returns-in-Some-clause-ok c =
    let a = c.args in
    let own = a.self.now in
    let call = a.call.now in
    let clear : conditions_of a.config.now (time_of own.clock.cores a.core) call.who own.state call.request ≡ [] = search rules in
    let goes : channel_of own.state call.request ≡ Some c.in-Some.channel = search rules in
    let leaves : LeavesObjects call = search rules in (
      through_holds a.config.now own.number own.clock.cores own.state a.core call c.in-Some.channel c.in_ok-conditions.ensures.ok clear goes
          c.in_ok-judge_through.ensures,
      leaves,
    )

pub returns-in_err-conditions-clause-refused : goal.returns-in_err-conditions-clause-refused
returns-in_err-conditions-clause-refused c =
    let a = c.args in
    let own = a.self.now in
    let fails = caller_fails a.config.now own.number own.clock.cores own.state a.core a.call.now c.in_err-conditions.field-0.0 c.in_err-conditions.ensures.refused in
    refused_given c.from_residual.result (own_demands a.config.now own a.core a.call.now) c.in_err-conditions.field-0.0 c.from_residual.ensures.1 fails
