-- The process that makes a call on an object, and the object's waiting sets after the call.
use Rattle.std.specs.Prelude.{◌≡◌, ℕ, List, [], ◌∷◌, Option, Some, None, ℤ, if◌then◌else◌, IsTrue}
use Rattle.apex_types.specs.declared.cause.Cause.TheVariants as cause
use Rattle.apex_types.specs.declared.record.Claim.{Claim}
use Rattle.apex_types.specs.declared.record.Out.{Out}
use Rattle.apex_machine.specs.declared.state.Entry.{Entry}
use Rattle.apex_machine.specs.Answer.{HasValues, NamesExactly, Nothing, Number, Value}
use Rattle.apex_machine.specs.Demands.{AllHold, Demand, FirstFails}
use Rattle.apex_machine.specs.Waiting.{is_waiting}
use Rattle.wait_set.specs.declared.object.Actor.{Actor}
use Rattle.wait_set.specs.declared.object.ObjFault.{ObjFault}
use Rattle.wait_set.specs.declared.object.ObjFault.TheVariants.{Unlawful, Memory}
use Rattle.wait_set.specs.Sets.{entered, without_named}

-- the entry of a caller that waits with this message
abbrev pub entry_with : Actor → List ℕ → Entry
entry_with actor message = record { who = actor.who; priority = actor.priority; place = actor.place; message = message }

-- an operation requires nothing of its caller and the object
abbrev pub NeedsNothing : {Operation Object : Type 0} → Actor → Operation → Object → Type 0
NeedsNothing actor operation found = Unit {0}

-- a waiting set after a claim: each process whose wait ends leaves it
abbrev pub left_by : Claim → List Entry → List Entry
left_by claim entries = without_named claim.woken entries

-- a waiting set after a claim: each process whose wait ends leaves it, and a caller that waits enters it with this message
abbrev pub joined_by : Actor → Claim → List ℕ → List Entry → List Entry
joined_by actor claim message entries =
    if is_waiting claim.out then entered (entry_with actor message) (left_by claim entries) else left_by claim entries

-- a claim by which the caller waits ends no wait
abbrev pub WaitsAlone : Claim → Type 0
WaitsAlone claim = IsTrue (is_waiting claim.out) → NamesExactly [] claim.woken

-- a refusal over demands: the cause of the first that fails; memory can be lacking only if all of them hold
abbrev pub Refuses : List {1} Demand → ObjFault → Type 0
Refuses demands (Unlawful cause) = FirstFails demands cause
Refuses demands Memory = AllHold demands

-- the value that goes with an outcome, if a number does
abbrev pub value_of : Option ℤ → Value
value_of None = Nothing
value_of (Some number) = Number number
