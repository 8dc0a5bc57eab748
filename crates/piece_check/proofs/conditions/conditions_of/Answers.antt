-- The conditions are those of the request's object.
use Rattle.std.proofs.Common.{rules}
use Rattle.piece_check.proofs.conditions.conditions_of.Goals as goal

pub returns-in-Create : goal.returns-in-Create
returns-in-Create c = rw c.in-Create.is c.create_conditions.ensures

pub returns-in-Caller : goal.returns-in-Caller
returns-in-Caller c = search (rules, c.caller_conditions.ensures c.args.config.now)

pub returns-in-Object : goal.returns-in-Object
returns-in-Object c = search (rules, c.object_conditions.ensures c.args.config.now c.args.now)

pub returns-in-QueuingPort : goal.returns-in-QueuingPort
returns-in-QueuingPort c = search (rules, c.queuing_conditions.ensures c.args.config.now c.args.now)

pub returns-in-SamplingPort : goal.returns-in-SamplingPort
returns-in-SamplingPort c = search (rules, c.sampling_conditions.ensures c.args.config.now c.args.now c.args.call.now.who)

pub returns-in-Preemption : goal.returns-in-Preemption
returns-in-Preemption c = search (rules, c.preemption_conditions.ensures c.args.config.now c.args.now)

pub returns-in-Process : goal.returns-in-Process
returns-in-Process c = search (rules, c.process_conditions.ensures c.args.now)

pub returns-in-Health : goal.returns-in-Health
returns-in-Health c = search (rules, c.health_conditions.ensures c.args.now)
