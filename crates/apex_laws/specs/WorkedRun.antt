-- A worked recording as a run of the machine: a message goes from one partition to the other through the queuing channel.
use Rattle.std.specs.Prelude.{ℕ, suc, List, [], ◌∷◌, ◌++◌, Some, None, pos, codes}
use Rattle.apex_types.specs.declared.code.Code.TheVariants as code
use Rattle.apex_types.specs.declared.record.Body.TheVariants.{Disp, Ret}
use Rattle.apex_types.specs.declared.record.Ordered.{Ordered}
use Rattle.apex_types.specs.declared.record.Out.TheVariants as out
use Rattle.apex_types.specs.declared.operation.{NewObject.NewObject, QueuingOperation.QueuingOperation}
use Rattle.apex_types.specs.declared.request.Request.TheVariants as request
use Rattle.apex_types.specs.declared.service.Service.{Service}
use Rattle.apex_types.specs.declared.service.Service.TheVariants as service
use Rattle.apex_machine.specs.State.{State, cold_state}
use Rattle.apex_machine.specs.Step.{Run}
use Rattle.apex_laws.specs.Worked.{Happening, aperiodic, claims, creates, normal, process_of, returns, runs, start, two_partitions}
use Rattle.apex_laws.specs.WorkedFacts.{one, sends, there}

-- the return of a creation that claimed number 1
abbrev pub returns_one : ℕ → Service → Happening
returns_one partition of = record { core = partition; body = Ret (record { who = process_of partition 0; service = of; code = code.NoError; val = Some (pos 1); val2 = None; val3 = None; bytes = [] }) }

-- a partition is set up with process 1 (10) and queuing port 1, and enters NORMAL
abbrev pub set_up : ℕ → ℕ → List Happening
set_up partition direction =
    runs (process_of partition 0)
    ∷ aperiodic partition (codes "P1") (pos 1) (pos 10)
    ∷ returns_one partition service.CreateProcess
    ∷ creates partition (request.Create (codes "Q") (NewObject.QueuingPort (pos 4) (pos 1) (pos direction) (pos 0))) (pos 1)
    ∷ returns_one partition service.CreateQueuingPort
    ∷ start partition (pos 1)
    ∷ returns (process_of partition 0) service.Start code.NoError []
    ∷ normal partition ∷ []

-- the receiver waits with a time-out of 3, its core is idle, the sender sends and wakes it, and it runs again
abbrev pub exchange : List Happening
exchange =
    runs there
    ∷ claims 1 there 10 (request.QueuingPort (pos 1) (QueuingOperation.Receive (pos 3))) out.Waits None [] (Some 0) []
    ∷ record { core = 1; body = Disp None }
    ∷ runs one
    ∷ sends (there ∷ [])
    ∷ runs there ∷ []

-- the first 22 records
abbrev pub before_return : List Happening
before_return = set_up 0 0 ++ set_up 1 1 ++ exchange

-- the receiver returns a message
abbrev pub message_returns : List ℕ → Happening
message_returns message = returns there service.ReceiveQueuingMessage code.NoError message

-- records at this place and those after it
abbrev pub in_places : ℕ → List Happening → List Ordered
in_places place [] = []
in_places place (happening ∷ others) = record { pos = place; core = happening.core; rec = record { seq = 0; body = happening.body } } ∷ in_places (suc place) others

-- the 23 records, with the message that the receiver returns
abbrev pub recording : List ℕ → List Ordered
recording message = in_places 0 (before_return ++ message_returns message ∷ [])

-- the 23 records are a run from the cold state; with another message at the return they are not
pub record WorkedRun : Type 0 where
  pub run : (final : State) × Run two_partitions (cold_state two_partitions) (recording (202 ∷ 254 ∷ [])) final
  pub no_other : (final : State) → ¬ Run two_partitions (cold_state two_partitions) (recording (202 ∷ 255 ∷ [])) final
