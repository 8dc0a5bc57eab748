-- Changes of one process of a table, and of each of them.
use Rattle.std.specs.Prelude.{ℕ, Option, Some, None, nat_eq, if◌then◌else◌, ℤ}
use Rattle.apex_machine.specs.declared.state.Outcome.{Outcome}
use Rattle.apex_machine.specs.declared.state.Process.{Process}
use Rattle.apex_machine.specs.declared.state.Wait.{Wait}
use Rattle.apex_machine.specs.Arguments.{is_number}
use Rattle.apex_machine.specs.Processes.{stopped}
use Rattle.apex_machine.specs.State.{each_item}
use Rattle.scheduling.specs.Processes.{Processes}

-- the processes, with each of them changed
abbrev pub with_each : (ℕ → Process → Process) → Processes → Processes
with_each change processes = record processes { table = each_item change processes.table }

-- a change of the process of this number only
abbrev pub only : ℕ → (Process → Process) → ℕ → Process → Process
only chosen change number process = if nat_eq number chosen then change process else process

-- a change of the process that a caller names by this number
abbrev pub named : ℤ → (Process → Process) → ℕ → Process → Process
named given change number process = if is_number given number then change process else process

-- a caller that is dormant after its call
abbrev pub stopped_self : ℕ → Process → Process
stopped_self now process = record (stopped process) { called_at = now }

-- a caller of which only the time of its call is noted
abbrev pub noted : ℕ → Process → Process
noted now process = record process { called_at = now }

-- a missed deadline that is reported is taken away
abbrev pub deadline_taken : Process → Process
deadline_taken process = record process { deadline = None }

-- a value after a change: the given one, if there is one, else the old one
abbrev pub given_or : {Value : Type 0} → Option Value → Value → Value
given_or None old = old
given_or (Some given) old = given

-- a caller that waits after its call, with a new deadline if one is set
abbrev pub waiting_for : ℕ → Wait → Option (Option ℕ) → Process → Process
waiting_for now wait deadline process = record process { wait = wait; deadline = given_or deadline process.deadline; called_at = now }

-- a caller to which an outcome is due after its call; if its ready position is renewed, it is the given place, if a release is reached, that
-- becomes its last one, and if a deadline is set, that is the new one
abbrev pub answered : ℕ → Option ℕ → Option ℕ → Option (Option ℕ) → Outcome → Process → Process
answered now renewed reached deadline outcome process = record process {
  ready_position = given_or renewed process.ready_position;
  last_release = given_or reached process.last_release;
  deadline = given_or deadline process.deadline;
  due = Some outcome;
  called_at = now;
}
