-- The objects are those after the call, and so are the processes.
use Rattle.std.proofs.Common.{◌≡◌, ◌<◌, true, ap, sym, ◌∙◌, arith}
use Rattle.apex_types.specs.declared.limits.TheConstants.{PLACE_COUNT}
use Rattle.apex_machine.specs.Demands.{AllHold}
use Rattle.apex_machine.specs.Errors.{ends_handler}
use Rattle.apex_machine.specs.State.{Partition}
use Rattle.scheduling.specs.Processes.{Processes, processes_of}
use Rattle.partition_state.specs.Calls.{served_demands}
use Rattle.partition_state.proofs.Served.{ending_keeps_errors, is_called, no_restart_asked, served_is_called, served_keeps}
use Rattle.partition_state.proofs.Sounds.{sound_served}
use Rattle.partition_state.proofs.state.PartitionState.carry_out.Goals as goal
use Rattle.partition_state.proofs.state.PartitionState.carry_out.Goals.{in-Ok-call, in-Err}

pub call-requires-clause-sound : goal.call-requires-clause-sound
call-requires-clause-sound c =
    let a = c.args in
    let config = a.config.now in
    let cores = a.moment.now.cores.now in
    let place = a.moment.now.place in
    let core = a.moment.now.core in
    let call = a.call.now in
    let after = c.self-2.view_is ∙ c.in_ok-transfer.ensures.after in
    let same = ap processes_of after ∙ served_keeps config place call a.self.now call.request in
    let served : AllHold (served_demands config cores core a.self.now call) = c.in_ok-transfer.ensures.ok in
    let below : place < PLACE_COUNT = omega (arith, c.number-place.ensures.number, c.number-place.ensures.bound) in
    rw (ap (λ (processes : Processes). processes.table) same)
    (sound_served config cores place core a.self.now call c.requires.clear served c.keeps_limits.ensures.limits.cores.most c.keeps_limits.ensures.cores
    c.keep_numbers.ensures below)

pub returns-clause-after : goal.returns-clause-after
returns-clause-after c =
    let a = c.args in
    let config = a.config.now in
    let cores = a.moment.now.cores.now in
    let place = a.moment.now.place in
    let core = a.moment.now.core in
    let call = a.call.now in
    let after = c.self-2.view_is ∙ c.in_ok-transfer.ensures.after in
    let same = ap processes_of after ∙ served_keeps config place call a.self.now call.request in
    let served : AllHold (served_demands config cores core a.self.now call) = c.in_ok-transfer.ensures.ok in
    let objects = after ∙ sym (served_is_called config cores place core a.self.now call c.requires.clear served (no_restart_asked config cores core a.self.now call served c.requires.goes_on)) in
    let handles = sym c.is_handler-handles.ensures in
    let left : ends_handler a.self.now call.who.proc call.request ≡ true → a.self.now.errors ≡ c.deref.result.now
    = λ ends. sym (ap (λ (one : Partition). one.errors) after ∙ ending_keeps_errors call.who.proc call.request a.self.now ends) ∙ sym c.deref.ensures.value in
    elim c.match-call.branch [
      | in-Ok-call w ↦ rw w.result-is
          (is_called config cores place core call a.self.now _ c.call.new.self objects
          ((rw w.in-Ok-call.is at c.call.ensures.ok) config a.self.now (sym c.first_core-first_core.ensures.value) (sym c.period-period.ensures.value) (sym same)
          (λ done. c.in_ok-transfer.ensures.transfer)
          (λ done. c.fault_change-faults.ensures.processes a.self.now c.taker-taker.ensures.some c.taker-taker.ensures.none handles left)
          (c.fault_change-faults.ensures.more a.self.now handles left)))
      | in-Err w ↦ rw w.result-is tt
    ]
