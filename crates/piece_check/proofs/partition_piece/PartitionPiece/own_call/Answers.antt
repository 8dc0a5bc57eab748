-- The cause of a refusal is that of the fault.
use Rattle.std.proofs.Common.{rules}
use Rattle.std.specs.Prelude.{IfErr}
use Rattle.partition_state.specs.Calls.{RefusesOrWants}
use Rattle.piece_check.specs.Judged.{own_demands}
use Rattle.piece_check.proofs.Passing.{refused_mapped}
use Rattle.piece_check.proofs.partition_piece.PartitionPiece.own_call.Goals as goal

pub returns-in_err-course-clause-refused : goal.returns-in_err-course-clause-refused
returns-in_err-course-clause-refused c =
    let a = c.args in
    let demands = own_demands a.config.now a.self.now a.ordered.now.core a.call.now in
    let fails : IfErr c.map_err.result (RefusesOrWants demands) =
    refused_mapped c.judge_before_service.result c.map_err.result demands c.map_err.ensures.cases c.judge_before_service.ensures.refused in
    search (rules, fails)
