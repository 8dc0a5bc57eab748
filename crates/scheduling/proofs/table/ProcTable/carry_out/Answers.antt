use Rattle.std.proofs.Common.{ap, refl, rules, FitsSigned, w64}
use Rattle.std.proofs.lemmas.Int.{to_z-of_z}
use Rattle.scheduling.specs.Processes.{Processes}
use Rattle.scheduling.proofs.Carried.{carried-create, carried-none, carried-object, carried-target}
use Rattle.scheduling.proofs.table.ProcTable.carry_out.Goals as goal

pub returns-in_ok-create-in-CreateProcess-clause-ok :
    goal.returns-in_ok-create-in-CreateProcess-clause-ok
returns-in_ok-create-in-CreateProcess-clause-ok c = λ partition seen tied changes.
    let sound = rw c.in-CreateProcess.is at c.requires.sound.asks in
    let fits : FitsSigned w64 c.in-CreateProcess.priority = search rules in
    let fits_too : FitsSigned w64 c.in-CreateProcess.own_period = search rules in
    let fits_last : FitsSigned w64 c.in-CreateProcess.time_capacity = search rules in
    let added = simp to_z-of_z at c.in_ok-create-in-CreateProcess.ensures.added in
    rw c.in-CreateProcess.is
    (carried-create c.args.moment.now.place c.args.period c.args.first_core c.args.moment.now.cores.now c.args.call.now c.in-CreateProcess.name c.in-CreateProcess.priority c.in-CreateProcess.own_period c.in-CreateProcess.time_capacity
    partition c.args.self.now _ c.claimed_number.result c.in-Some.number _ added refl c.requires.done sound c.claimed_number.ensures c.in-Some.is)

pub returns-in-Process-clause-ok : goal.returns-in-Process-clause-ok
returns-in-Process-clause-ok c = λ partition seen tied changes.
    let fits : FitsSigned w64 c.in-Process.process = search rules in
    let served = simp to_z-of_z at c.serve_target.ensures in
    rw c.in-Process.is
    (carried-target c.args.moment.now.place c.args.period c.args.first_core c.args.moment.now.cores.now c.args.call.now c.in-Process.process c.in-Process.operation partition c.args.self.now _
    (ap (λ (processes : Processes). processes.mode) seen) served)

pub returns-in-Object-clause-ok : goal.returns-in-Object-clause-ok
returns-in-Object-clause-ok c = λ partition seen tied changes.
    rw c.in-Object.is
    (carried-object c.args.moment.now.place c.args.period c.args.first_core c.args.moment.now.cores.now c.args.call.now _ c.in-Object.operation c.args.transfer partition c.args.self.now _
    (rw c.in-Object.is at tied) c.pass_on.ensures)

pub returns-in_default : goal.returns-in_default
returns-in_default c =
    record {
      ok = λ partition seen tied changes. carried-none c.args.moment.now.place c.args.period c.args.first_core c.args.moment.now.cores.now c.args.call.now c.args.call.now.request partition c.args.self.now
          c.in_default.not-CreateProcess c.in_default.not-Process c.in_default.not-SetPartitionMode c.in_default.not-Object c.in_default.not-Health c.in_default.not-Caller;
      unchanged = tt;
      memory = tt;
    }
