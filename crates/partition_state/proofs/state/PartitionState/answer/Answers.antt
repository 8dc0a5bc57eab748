use Rattle.std.specs.Prelude.{◌≡◌}
use Rattle.std.proofs.Common.{rules, subst}
use Rattle.std.proofs.lemmas.Int.{to_z-of_z}
use Rattle.apex_types.specs.declared.request.Request.TheVariants as request
use Rattle.apex_machine.specs.Services as services
use Rattle.wait_set.specs.Givens.{answer_given}
use mir.Syntax.{w64}
use mir.Val.{SFits}
use Rattle.partition_state.proofs.state.PartitionState.answer.Goals as goal

pub returns-in-Object-clause-given : goal.returns-in-Object-clause-given
returns-in-Object-clause-given c =
    let fits : SFits w64 c.in-Object.number = search rules in
    rw c.in-Object.is (simp to_z-of_z at (rw c.caller_of-caller.ensures at (c.object_answer.ensures c.args.config.now c.args.moment.now.cores.now c.args.moment.now.core)))

pub returns-in-Process-clause-given : goal.returns-in-Process-clause-given
returns-in-Process-clause-given c =
    let fits : SFits w64 c.in-Process.process = search rules in
    rw c.in-Process.is (subst (λ number. answer_given c.answer_on.result ≡ services.answer_of c.args.config.now c.args.moment.now.cores.now c.args.moment.now.core c.args.call.now.who c.args.self.now (request.Process number c.in-Process.operation)) (to_z-of_z w64 c.in-Process.process fits) (c.answer_on.ensures c.args.config.now))

pub returns-in-Caller-clause-given : goal.returns-in-Caller-clause-given
returns-in-Caller-clause-given c = rw c.in-Caller.is (c.own_answer.ensures c.args.config.now)
