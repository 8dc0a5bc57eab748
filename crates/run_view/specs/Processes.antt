-- What is shown of a process.
use Rattle.std.specs.Prelude.{ℕ, option_map, if◌then◌else◌}
use Rattle.apex_machine.specs.declared.state.Process.{Process}
use Rattle.apex_machine.specs.declared.state.Wait.{Wait}
use Rattle.apex_machine.specs.declared.state.Wait.TheVariants as wait
use Rattle.run_view.specs.declared.process.ProcessView.{ProcessView}
use Rattle.run_view.specs.declared.process.ProcessState.{ProcessState}
use Rattle.run_view.specs.declared.process.ProcessState.TheVariants.{Dormant, Faulted, Ready, Waiting, Suspended}
use Rattle.run_view.specs.declared.seen_process.SeenProcess.{SeenProcess}

-- the state of a process that is neither dormant nor faulted nor suspended by another one, by what it waits for
abbrev pub state_by_wait : Wait → ProcessState
state_by_wait wait.Nothing = Ready
state_by_wait other = Waiting other

-- the state of a process that is not dormant: faulted, suspended by another process, waiting, or ready
abbrev pub state_alive : Process → ProcessState
state_alive process =
    if process.faulted then Faulted process.wait
    else if process.suspended then Suspended process.wait
    else state_by_wait process.wait

-- the state of a process: dormant, or one of the others
abbrev pub state_of : Process → ProcessState
state_of process = if process.alive then state_alive process else Dormant

-- a process: its state, its priorities, its core, its ready position, the service of its pending outcome, and its deadline
abbrev pub shown_process : Process → ProcessView
shown_process process = record {
  state = state_of process;
  current_priority = process.current_priority;
  base_priority = process.base_priority;
  affinity = process.affinity;
  ready_position = process.ready_position;
  due = option_map (λ outcome. outcome.service) process.due;
  deadline = process.deadline;
}

-- a process with its number
abbrev pub shown_entry : ℕ × Process → SeenProcess
shown_entry entry = record { number = entry.0; view = shown_process entry.1 }
