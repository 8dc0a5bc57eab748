-- What a call makes of the other processes of its caller's partition.
use Rattle.std.specs.Prelude.{ℕ, Bool, not, nat_eq, ◌&&◌, if◌then◌else◌}
use Rattle.apex_types.specs.declared.record.Call.{Call as CallRecord}
use Rattle.apex_types.specs.declared.record.Who.{Who}
use Rattle.apex_machine.specs.declared.state.Process.{Process}
use Rattle.apex_machine.specs.Processes.{stopped, woken_by}
use Rattle.apex_machine.specs.State.{is_named}
use Rattle.apex_machine.specs.Waiting.{stops, message_of}

-- the process of this number of the caller's partition
abbrev pub peer_at : CallRecord → ℕ → Who
peer_at call number = record { part = call.who.part; proc = number }

-- whether this is a process other than the caller
abbrev pub is_peer : CallRecord → ℕ → Bool
is_peer call number = not (nat_eq number call.who.proc)

-- a process that the call stops, other than its caller
abbrev pub stopped_by : CallRecord → ℕ → Process → Process
stopped_by call number process = if is_peer call number && stops call (peer_at call number) then stopped process else process

-- whether the call ends the wait of such a process if it names it: the call does not stop the process
abbrev pub wakes : CallRecord → ℕ → Bool
wakes call number = is_peer call number && not (stops call (peer_at call number))

-- such a process, whose wait the call may end
abbrev pub peer_woken : ℕ → CallRecord → ℕ → Process → Process
peer_woken place call number process =
    if wakes call number && is_named (peer_at call number) call.claim.woken then woken_by place (message_of call.request) process else process
