-- What a creation gives.
use Rattle.std.proofs.Common.{◌≡◌, ◌↔◌, ◌∙◌, ℕ, List, Bool, true, false, IsTrue, Result, refl}
use Rattle.apex_types.specs.declared.cause.Cause.{Cause}
use Rattle.apex_types.specs.declared.record.Claim.{Claim}
use Rattle.apex_types.specs.declared.record.Who.{Who}
use Rattle.apex_types.specs.declared.request.Request.{Request}
use Rattle.apex_types.specs.declared.request.Request.TheVariants as request
use Rattle.apex_machine.specs.declared.state.CoreState.{CoreState}
use Rattle.apex_machine.specs.Answer.{HasValue, Value, done_with}
use Rattle.apex_machine.specs.Demands.{AllHold, Judges, answer_demands}
use Rattle.apex_machine.specs.Services.{answer_of}
use Rattle.apex_machine.specs.State.{Partition, objects_of}
use Rattle.apex_types.specs.declared.operation.NewObject.{NewObject}
use Rattle.apex_types.specs.declared.record.Call.{Call as CallRecord}
use Rattle.apex_types.specs.Requested.{kind_of}
use Rattle.apex_machine.specs.After.{objects_by}
use Rattle.apex_machine.specs.Configuration.{Configuration}
use Rattle.partition_state.specs.Calls.{created_demands, creates, served}
use Rattle.partition_state.proofs.Served.{one_is_served}

-- it is done at once with its value, so a judgement by the value alone judges its claim
pub creation_judged : (configuration : Configuration) (cores : List CoreState) (core : ℕ) (who : Who) (partition : Partition) (asked : Request) (claim : Claim) (has_value : Bool) (judgement : Result (Unit {0}) Cause)
    → creates asked ≡ true → (creates asked ≡ true → IsTrue has_value ↔ HasValue (answer_of configuration cores core who partition asked).val claim.val)
    → ((value : Value) → (IsTrue has_value ↔ HasValue value claim.val) → Judges (answer_demands (done_with value) claim) judgement)
    → Judges (answer_demands (answer_of configuration cores core who partition asked) claim) judgement
creation_judged configuration cores core who partition (request.CreateProcess name priority period time_capacity) claim has_value judgement made is_new judged = judged _ (is_new refl)
creation_judged configuration cores core who partition (request.Create name object) claim has_value judgement made is_new judged = judged _ (is_new refl)
creation_judged configuration cores core who partition _ claim has_value judgement made is_new judged = let never : ◌≡◌ {A = Bool} false true = made in cc

-- so the objects of its kind are those after a call that is done
pub created_changes : (configuration : Configuration) (place : ℕ) (call : CallRecord) (name : List ℕ) (object : NewObject) (partition new : Partition)
    → AllHold (created_demands (objects_of partition (kind_of object)) call.claim) → new ≡ objects_by configuration call.who call.claim.val (request.Create name object) partition
    → new ≡ served configuration place call (request.Create name object) partition
created_changes configuration place call name object partition new holds is =
    one_is_served configuration place call (request.Create name object) partition new refl refl (is ∙ rw holds.0 refl)
