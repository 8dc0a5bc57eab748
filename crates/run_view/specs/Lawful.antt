-- What would have been lawful if a piece rejects a record.
use Rattle.std.specs.Prelude.{◌≡◌, ℕ, ◌++◌, List, [], ◌∷◌, Option, option_map}
use Rattle.std.specs.List.{flat_map}
use Rattle.std.specs.Option.{option_to_list}
use Rattle.apex_types.specs.declared.cause.Cause.{Cause}
use Rattle.apex_types.specs.declared.cause.Cause.TheVariants as cause
use Rattle.apex_types.specs.declared.record.Body.{Body}
use Rattle.apex_types.specs.declared.record.Body.TheVariants.{Arrive, Call, Depart, Tick}
use Rattle.apex_types.specs.declared.record.Call.{Call as CallRecord}
use Rattle.apex_types.specs.declared.record.Crossing.{Crossing}
use Rattle.apex_types.specs.declared.record.Ordered.{Ordered}
use Rattle.apex_types.specs.declared.record.Who.{Who}
use Rattle.apex_machine.specs.Answer.{Answer, NamesExactly}
use Rattle.apex_machine.specs.Configuration.{Configuration}
use Rattle.apex_machine.specs.Pieces.{Part, PartitionPart}
use Rattle.apex_machine.specs.State.{Table, is_named}
use Rattle.wait_set.specs.Givens.{answer_given}
use Rattle.piece_check.specs.declared.evidence.Evidence.{Evidence}
use Rattle.piece_check.specs.declared.evidence.Evidence.TheVariants as evidence
use Rattle.piece_check.specs.declared.misnaming.Misnaming.{Misnaming}
use Rattle.piece_check.specs.declared.misnaming.Misnaming.TheVariants as misnaming
use Rattle.piece_check.specs.Evidence.{IsEvidence, misnamed, misnamed_at_tick}
use Rattle.run_view.specs.declared.lawful.Lawful.{Lawful}
use Rattle.run_view.specs.declared.lawful.Lawful.TheVariants as lawful

-- the wait of a process that a record should name ends, and that of a process that it should not name does not
abbrev pub put_right : Who → Misnaming → Lawful
put_right who misnaming.Missing = lawful.Wakes who
put_right who misnaming.Unexpected = lawful.Sleeps who

-- a process, if a record names it wrongly
abbrev pub if_misnamed : Who → Option Misnaming → List Lawful
if_misnamed who wrong = option_to_list (option_map (put_right who) wrong)

-- the processes of a list that a call names wrongly: it ends these waits, and names these processes
abbrev pub all_put_right : List Who → List Who → List Who → List Lawful
all_put_right ended named listed = flat_map (λ who. if_misnamed who (misnamed (is_named who ended) (is_named who named))) listed

-- the processes that a call names wrongly: first those whose waits it ends, in some order, and then those that it names
abbrev pub PutsRight : List Who → List Who → List Lawful → Type 0
PutsRight ended named shown =
    (listed : List Who) × NamesExactly ended listed × (shown ≡ all_put_right ended named listed ++ all_put_right ended named named)

-- the processes of a part's partition that a tick names wrongly
abbrev pub all_put_right_at_tick : ℕ → Part → ℕ → List Who → Table → List Lawful
all_put_right_at_tick number part core woken table =
    flat_map (λ entry. if_misnamed (record { part = number; proc = entry.0 }) (misnamed_at_tick part core woken entry.0)) table

-- the processes that a tick names wrongly: only the piece of a partition has processes
abbrev pub put_right_at_tick : Part → ℕ → List Who → List Lawful
put_right_at_tick (PartitionPart number cores partition) core woken =
    all_put_right_at_tick number (PartitionPart number cores partition) core woken partition.table
put_right_at_tick part core woken = []

-- what a call that is given this can claim: the outcome, or the processes that it names wrongly
abbrev pub IsLawfulCall : Answer → CallRecord → Cause → List Lawful → Type 0
IsLawfulCall answer call cause.Out shown = shown ≡ lawful.Gets call.who answer.out ∷ []
IsLawfulCall answer call cause.Woken shown = PutsRight answer.woken call.claim.woken shown
IsLawfulCall answer call cause shown = shown ≡ []

-- what an arrival or a departure that gives this must name
abbrev pub IsLawfulCrossing : Answer → Crossing → Cause → List Lawful → Type 0
IsLawfulCrossing answer crossing cause.Woken shown = PutsRight answer.woken crossing.woken shown
IsLawfulCrossing answer crossing cause shown = shown ≡ []

-- what a call can claim, and what an arrival or a departure must name
abbrev pub IsLawfulClaim : Answer → Body → Cause → List Lawful → Type 0
IsLawfulClaim answer (Call call) cause shown = IsLawfulCall answer call cause shown
IsLawfulClaim answer (Arrive crossing) cause shown = IsLawfulCrossing answer crossing cause shown
IsLawfulClaim answer (Depart crossing) cause shown = IsLawfulCrossing answer crossing cause shown
IsLawfulClaim answer body cause shown = shown ≡ []

-- the current priority of the caller of a call
abbrev pub lawful_priority : Body → ℕ → List Lawful
lawful_priority (Call call) current = lawful.HasPriority call.who current ∷ []
lawful_priority body current = []

-- the processes that a tick names wrongly
abbrev pub lawful_names : Part → ℕ → Body → List Lawful
lawful_names part core (Tick woken) = put_right_at_tick part core woken
lawful_names part core body = []

-- what follows from the evidence of a refusal: the choice of the core, the deadline that must be reported first, the priority of the caller,
-- what a call can claim, or the processes that a tick names wrongly; a picture shows nothing of other evidence
abbrev pub FollowsFrom : Evidence → Part → ℕ → Body → Cause → List Lawful → Type 0
FollowsFrom (evidence.Choice choice occupant) part core body cause shown = shown ≡ lawful.Runs core choice ∷ []
FollowsFrom (evidence.Missed who deadline) part core body cause shown = shown ≡ lawful.Misses who deadline ∷ []
FollowsFrom (evidence.Priority current base before owned elsewhere) part core body cause shown = shown ≡ lawful_priority body current
FollowsFrom (evidence.Answer given) part core body cause shown = IsLawfulClaim (answer_given given) body cause shown
FollowsFrom evidence.Named part core body cause shown = shown ≡ lawful_names part core body
FollowsFrom other part core body cause shown = shown ≡ []

-- what would have been lawful if a part rejects a record for a cause: what follows from the evidence
abbrev pub IsLawful : Configuration → Part → Ordered → Cause → List Lawful → Type 0
IsLawful configuration part ordered cause shown =
    (found : Evidence) × IsEvidence configuration part ordered cause found × FollowsFrom found part ordered.core ordered.rec.body cause shown
