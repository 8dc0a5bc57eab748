-- The judgement of one of the partition's own calls: what comes before the outcome, and then the outcome.
use Rattle.std.proofs.Common.{◌≡◌, ◌≢◌, ℕ, List, [], ◌∷◌, ◌++◌, Option, Some, None, Result, Ok, Err, false, inl, inr, refl, sym, subst}
use Rattle.std.specs.Prelude.{IfErr, IsErrAnd, MatchResult}
use Rattle.apex_types.specs.declared.cause.Cause.{Cause}
use Rattle.apex_types.specs.declared.record.Call.{Call as CallRecord}
use Rattle.apex_types.specs.declared.record.Claim.{Claim}
use Rattle.apex_types.specs.declared.request.Request.{Request}
use Rattle.apex_machine.specs.declared.condition.Condition.{Condition}
use Rattle.apex_machine.specs.declared.state.CoreState.{CoreState}
use Rattle.apex_machine.specs.Configuration.{Configuration}
use Rattle.apex_machine.specs.Demands.{AllHold, Demand, FirstFails, Judges, caller_demands, outcome_demands, own_call_demands}
use Rattle.apex_machine.specs.After.{is_done}
use Rattle.apex_machine.specs.Ports.{channel_of}
use Rattle.apex_laws.proofs.Codes.{not_done}
use Rattle.apex_machine.specs.ServiceConditions.{conditions_of}
use Rattle.apex_machine.specs.Services.{Answer, answer_of}
use Rattle.apex_machine.specs.State.{Partition, time_of}
use Rattle.partition_state.specs.Calls.{RefusesOrWants, served_demands}
use Rattle.wait_set.specs.declared.object.ObjFault.{ObjFault}
use Rattle.wait_set.specs.declared.object.ObjFault.TheVariants.{Unlawful, Memory}

-- lists of demands

pub AllHold-append : (demands others : List {1} Demand) → AllHold demands → AllHold others → AllHold (demands ++ others)
AllHold-append [] others hold more = more
AllHold-append (demand ∷ demands) others hold more = (hold.0, AllHold-append demands others hold.1 more)

pub fails_later : (demands others : List {1} Demand) (why : Cause) → AllHold demands → FirstFails others why → FirstFails (demands ++ others) why
fails_later [] others why hold fails = fails
fails_later (demand ∷ demands) others why hold fails = inr (hold.0, fails_later demands others why hold.1 fails)

pub fails_sooner : (demands others : List {1} Demand) (why : Cause) → FirstFails demands why → FirstFails (demands ++ others) why
fails_sooner [] others why fails = absurd fails
fails_sooner (demand ∷ demands) others why (inl fails) = inl fails
fails_sooner (demand ∷ demands) others why (inr later) = inr (later.0, fails_sooner demands others why later.1)

-- what fails of the caller fails of the call
pub caller_fails : (configuration : Configuration) (number : ℕ) (cores : List CoreState) (partition : Partition) (core : ℕ) (call : CallRecord) (why : Cause)
    → FirstFails (caller_demands configuration number cores partition core call) why → FirstFails (own_call_demands configuration number cores partition core call) why
caller_fails configuration number cores partition core call why fails = fails_sooner (caller_demands configuration number cores partition core call) _ why fails

-- a refusal that a question mark hands on has the same cause
pub refused_given : {T : Type 0} (result : Result T Cause) (demands : List {1} Demand) (why : Cause) → IsErrAnd result (λ given. given ≡ why)
    → FirstFails demands why → IfErr result (FirstFails demands)
refused_given (Ok done) demands why given fails = absurd given
refused_given (Err other) demands why given fails = subst (FirstFails demands) (sym given) fails

-- a refusal is a fault of the same cause
pub refused_mapped : {T : Type 0} (result : Result T Cause) (mapped : Result T ObjFault) (demands : List {1} Demand)
    → MatchResult result (λ done. mapped ≡ Ok done) (λ why. IsErrAnd mapped (λ fault. fault ≡ Unlawful why)) → IfErr result (FirstFails demands)
    → IfErr mapped (RefusesOrWants demands)
refused_mapped (Ok done) mapped demands given fails = rw given tt
refused_mapped (Err why) (Ok mapped) demands given fails = absurd given
refused_mapped (Err why) (Err fault) demands given fails = subst (RefusesOrWants demands) (sym given) fails

-- if no error condition holds

-- if no channel is used either, what fails of the claim fails of the call
pub served_fails : (configuration : Configuration) (number : ℕ) (cores : List CoreState) (partition : Partition) (core : ℕ) (call : CallRecord) (fault : ObjFault)
    → AllHold (caller_demands configuration number cores partition core call)
    → conditions_of configuration (time_of cores core) call.who partition call.request ≡ [] → channel_of partition call.request ≡ None → call.claim.chan ≡ None
    → RefusesOrWants (served_demands configuration cores core partition call) fault → RefusesOrWants (own_call_demands configuration number cores partition core call) fault
served_fails configuration number cores partition core call (Unlawful why) caller none nowhere apart fails =
    fails_later (caller_demands configuration number cores partition core call) _ why caller
    (rw (none, nowhere) (inr (apart, fails)))
served_fails configuration number cores partition core call Memory caller none nowhere apart wants = tt

pub served_judged : (configuration : Configuration) (number : ℕ) (cores : List CoreState) (partition : Partition) (core : ℕ) (call : CallRecord)
    (judgement : Result (Unit {0}) Cause) → AllHold (caller_demands configuration number cores partition core call)
    → conditions_of configuration (time_of cores core) call.who partition call.request ≡ [] → channel_of partition call.request ≡ None → call.claim.chan ≡ None
    → Judges (served_demands configuration cores core partition call) judgement → Judges (own_call_demands configuration number cores partition core call) judgement
served_judged configuration number cores partition core call (Ok done) caller none nowhere apart hold =
    AllHold-append (caller_demands configuration number cores partition core call) _ caller (rw (none, nowhere) (apart, hold))
served_judged configuration number cores partition core call (Err why) caller none nowhere apart fails =
    served_fails configuration number cores partition core call (Unlawful why) caller none nowhere apart fails

-- if a channel is used, what is demanded of the outcome, whatever the service gives, holds for the call, or fails for it
pub through_holds : (configuration : Configuration) (number : ℕ) (cores : List CoreState) (partition : Partition) (core : ℕ) (call : CallRecord) (channel : ℕ)
    → AllHold (caller_demands configuration number cores partition core call)
    → conditions_of configuration (time_of cores core) call.who partition call.request ≡ [] → channel_of partition call.request ≡ Some channel
    → ((answer : Answer) → AllHold (outcome_demands [] (Some channel) number call.request answer call.claim))
    → AllHold (own_call_demands configuration number cores partition core call)
through_holds configuration number cores partition core call channel caller none goes holds =
    AllHold-append (caller_demands configuration number cores partition core call) _ caller (rw (none, goes) (holds (answer_of configuration cores core call.who partition call.request)))

pub through_fails : (configuration : Configuration) (number : ℕ) (cores : List CoreState) (partition : Partition) (core : ℕ) (call : CallRecord) (channel : ℕ) (why : Cause)
    → AllHold (caller_demands configuration number cores partition core call)
    → conditions_of configuration (time_of cores core) call.who partition call.request ≡ [] → channel_of partition call.request ≡ Some channel
    → ((answer : Answer) → FirstFails (outcome_demands [] (Some channel) number call.request answer call.claim) why)
    → FirstFails (own_call_demands configuration number cores partition core call) why
through_fails configuration number cores partition core call channel why caller none goes fails =
    fails_later (caller_demands configuration number cores partition core call) _ why caller (rw (none, goes) (fails (answer_of configuration cores core call.who partition call.request)))

-- if some error condition holds

-- what is demanded of the outcome, whatever the service gives and wherever the call goes, holds of the call, or fails of it
pub refused_holds : (configuration : Configuration) (number : ℕ) (cores : List CoreState) (partition : Partition) (core : ℕ) (call : CallRecord)
    (conditions : List Condition) → AllHold (caller_demands configuration number cores partition core call)
    → conditions ≡ conditions_of configuration (time_of cores core) call.who partition call.request
    → ((channel : Option ℕ) (number : ℕ) (asked : Request) (answer : Answer) → AllHold (outcome_demands conditions channel number asked answer call.claim))
    → AllHold (own_call_demands configuration number cores partition core call)
refused_holds configuration number cores partition core call conditions caller are holds =
    AllHold-append (caller_demands configuration number cores partition core call) _ caller
    (rw (← are) (holds (channel_of partition call.request) number call.request (answer_of configuration cores core call.who partition call.request)))

pub refused_fails : (configuration : Configuration) (number : ℕ) (cores : List CoreState) (partition : Partition) (core : ℕ) (call : CallRecord)
    (conditions : List Condition) (why : Cause) → AllHold (caller_demands configuration number cores partition core call)
    → conditions ≡ conditions_of configuration (time_of cores core) call.who partition call.request
    → ((channel : Option ℕ) (number : ℕ) (asked : Request) (answer : Answer) → FirstFails (outcome_demands conditions channel number asked answer call.claim) why)
    → FirstFails (own_call_demands configuration number cores partition core call) why
refused_fails configuration number cores partition core call conditions why caller are fails =
    fails_later (caller_demands configuration number cores partition core call) _ why caller
    (rw (← are) (fails (channel_of partition call.request) number call.request (answer_of configuration cores core call.who partition call.request)))

-- a call that claims a code of an error condition is not done
pub refused_not_done : (conditions : List Condition) (number : ℕ) (asked : Request) (answer : Answer) (claim : Claim) → conditions ≢ []
    → AllHold (outcome_demands conditions None number asked answer claim) → is_done claim.out ≡ false
refused_not_done [] number asked answer claim some hold = absurd (some refl)
refused_not_done (condition ∷ conditions) number asked answer claim some hold = not_done (condition ∷ conditions) claim.out hold.1.0
