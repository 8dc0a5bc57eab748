-- The waiting sets of a channel from which records of others wake processes.
use Rattle.std.specs.Prelude.{ℕ, Option, Some, None}
use Rattle.apex_types.specs.declared.operation.{QueuingOperation.QueuingOperation}
use Rattle.apex_types.specs.declared.record.Body.{Body}
use Rattle.apex_types.specs.declared.record.Body.TheVariants.{Arrive, Call, Depart}
use Rattle.apex_types.specs.declared.record.Call.{Call as CallRecord}
use Rattle.apex_types.specs.declared.request.Request.{Request}
use Rattle.apex_types.specs.declared.request.Request.TheVariants as request
use Rattle.apex_types.specs.declared.shape.End.{End}
use Rattle.apex_types.specs.declared.shape.End.TheVariants.{Senders, Receivers}
use Rattle.apex_machine.specs.declared.state.WaitingSet.{WaitingSet}
use Rattle.apex_machine.specs.State.{channel_set}

-- the end at which a request can end waits
abbrev pub end_woken_by : Request → Option End
end_woken_by (request.QueuingPort port (QueuingOperation.Send length time_out message)) = Some Receivers
end_woken_by (request.QueuingPort port (QueuingOperation.Receive time_out)) = Some Senders
end_woken_by (request.QueuingPort port QueuingOperation.Clear) = Some Senders
end_woken_by _ = None

-- the set at this end of the channel that is claimed
abbrev pub set_claimed : Option ℕ → Option End → Option WaitingSet
set_claimed (Some channel) (Some end) = Some (channel_set channel end)
set_claimed _ _ = None

-- the set in which a call of another partition can end waits
abbrev pub set_woken_by : CallRecord → Option WaitingSet
set_woken_by call = set_claimed call.claim.chan (end_woken_by call.request)

-- the set in which a record of others can end waits
abbrev pub set_woken_by_record : Body → Option WaitingSet
set_woken_by_record (Call call) = set_woken_by call
set_woken_by_record (Arrive crossing) = Some (channel_set crossing.chan Receivers)
set_woken_by_record (Depart crossing) = Some (channel_set crossing.chan Senders)
set_woken_by_record _ = None
