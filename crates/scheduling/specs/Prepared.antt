-- The memory that a call needs, reserved before anything changes.
use Rattle.std.specs.Prelude.{◌≡◌, ℕ, List, Option, Some, None, Bool, true, false, length}
use Rattle.apex_types.specs.declared.record.Call.{Call as CallRecord}
use Rattle.apex_types.specs.declared.record.Out.{Out}
use Rattle.apex_types.specs.declared.record.Out.TheVariants as out
use Rattle.apex_types.specs.declared.request.Request.{Request}
use Rattle.apex_types.specs.declared.request.Request.TheVariants as request
use Rattle.apex_machine.specs.declared.state.Outcome.{Outcome}
use Rattle.apex_machine.specs.Processes.{outcome_of}
use Rattle.scheduling.specs.HandedOver.{AreCopies}
use Rattle.apex_machine.specs.Waiting.{message_of}

-- what is prepared for a call: the outcome that becomes due to its caller, if one does, and messages for the processes whose waits it ends
pub record Preparation : Type 0 where
  pub outcome : Option Outcome
  pub messages : List (List ℕ)

-- the preparation of this outcome and these messages
abbrev pub preparation_of : Option Outcome → List (List ℕ) → Preparation
preparation_of outcome messages = record { outcome = outcome; messages = messages }

-- the outcome that becomes due to the caller of a call: none if it waits or does not return
abbrev pub outcome_due : CallRecord → Out → Option Outcome
outcome_due call (out.Answer code) = Some (outcome_of call code)
outcome_due call _ = None

-- the preparation is what this call needs: the outcome that becomes due to its caller, and the message that it hands over, once for each
-- process that it names
pub record IsPreparedFor (call : CallRecord) (prepared : Preparation) : Type 0 where
  pub outcome : prepared.outcome ≡ outcome_due call call.claim.out
  pub enough : length prepared.messages ≡ length call.claim.woken
  pub alike : AreCopies (message_of call.request) prepared.messages

-- whether a request is CREATE_PROCESS: no other request takes memory once its call is prepared
abbrev pub creates_process : Request → Bool
creates_process (request.CreateProcess name priority period time_capacity) = true
creates_process _ = false
