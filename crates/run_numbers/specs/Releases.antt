-- What releases give, and what ends the work after them.
use Rattle.std.specs.Prelude.{ℕ, ◌-◌, List, [], ◌∷◌, ◌++◌, Option, Some, None, nat_eq, is_some, if◌then◌else◌}
use Rattle.apex_types.specs.declared.record.Call.{Call as CallRecord}
use Rattle.apex_types.specs.declared.record.Out.{Out}
use Rattle.apex_types.specs.declared.record.Out.TheVariants as out
use Rattle.apex_types.specs.declared.record.Who.{Who}
use Rattle.apex_types.specs.declared.operation.{CallerOperation.CallerOperation}
use Rattle.apex_types.specs.declared.request.Request.{Request}
use Rattle.apex_types.specs.declared.request.Request.TheVariants as request
use Rattle.apex_machine.specs.declared.state.CoreState.{CoreState}
use Rattle.apex_machine.specs.declared.state.Process.{Process}
use Rattle.apex_machine.specs.declared.state.Wait.{Wait}
use Rattle.apex_machine.specs.declared.state.Wait.TheVariants as wait
use Rattle.apex_machine.specs.After.{is_done}
use Rattle.apex_machine.specs.DueTimes.{next_release}
use Rattle.apex_machine.specs.State.{Table, item_at, time_of}
use Rattle.run_numbers.specs.declared.figure.Figure.TheVariants.{Lateness, Releases, Response, Slack}
use Rattle.run_numbers.specs.declared.observation.Observation.{Observation}
use Rattle.run_numbers.specs.declared.observation.Observation.TheVariants.{Begins, Ends, Value}
use Rattle.run_numbers.specs.Observed.{when}

-- releases

-- the end of a wait for a release is a release, from which on the process is late until it runs
abbrev pub released : Who → Wait → List Observation
released who (wait.FirstRelease time) = Value (Releases who) 1 ∷ Begins (Lateness who) time ∷ []
released who (wait.PeriodicRelease time) = Value (Releases who) 1 ∷ Begins (Lateness who) time ∷ []
released who other = []

-- a dispatch of a periodic process ends its lateness
abbrev pub ran_by : ℕ → Who → Option Process → List Observation
ran_by now who None = []
ran_by now who (Some process) = when (is_some process.period) (Ends (Lateness who) now)

-- what a dispatch of a core gives, if it names a process of this partition
abbrev pub ran : ℕ → List CoreState → ℕ → Table → Option Who → List Observation
ran part cores core table None = []
ran part cores core table (Some who) = if nat_eq who.part part then ran_by (time_of cores core) who (item_at table who.proc) else []

-- the end of the work

-- the ticks that are left until the deadline of a process, if it has one
abbrev pub slack_left : ℕ → Who → Option ℕ → List Observation
slack_left now who None = []
slack_left now who (Some deadline) = Value (Slack who) (deadline - now) ∷ []

-- a PERIODIC_WAIT that does not wait finds the next release reached: it is a release, at which the process runs
abbrev pub released_at_once : ℕ → Who → Process → Out → List Observation
released_at_once now who process out.Waits = []
released_at_once now who process other = Value (Releases who) 1 ∷ Value (Lateness who) (now - next_release process) ∷ []

-- PERIODIC_WAIT responds to the last release
abbrev pub responded : ℕ → Process → CallRecord → List Observation
responded now process call =
    Value (Response call.who) (now - process.last_release) ∷ released_at_once now call.who process call.claim.out

-- a process ends its work by PERIODIC_WAIT, REPLENISH and STOP_SELF
abbrev pub worked_by : ℕ → Process → CallRecord → Request → List Observation
worked_by now process call (request.Caller CallerOperation.PeriodicWait) = slack_left now call.who process.deadline ++ responded now process call
worked_by now process call (request.Caller (CallerOperation.Replenish budget)) = slack_left now call.who process.deadline
worked_by now process call (request.Caller CallerOperation.StopSelf) = slack_left now call.who process.deadline
worked_by now process call other = []

-- what a call of a process gives at this time of its core, if it is carried out
abbrev pub worked : ℕ → Process → CallRecord → List Observation
worked now process call = if is_done call.claim.out then worked_by now process call call.request else []
