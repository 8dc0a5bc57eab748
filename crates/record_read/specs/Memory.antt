-- The records that need memory apart from the row's buffer.
use Rattle.std.specs.Prelude.{◌≡◌, ◌≢◌, ◌⊎◌, List, [], ◌∷◌, true, Ok}
use Rattle.apex_types.specs.declared.record.Body.{Body}
use Rattle.apex_types.specs.declared.record.Body.TheVariants as body
use Rattle.apex_types.specs.declared.record.Call.{Call}
use Rattle.apex_types.specs.declared.record.Crossing.{Crossing}
use Rattle.apex_types.specs.declared.record.Record.{Record}
use Rattle.apex_types.specs.declared.record.Return.{Return}
use Rattle.apex_types.specs.declared.record.Who.{Who}
use Rattle.apex_types.specs.declared.service.Service.{Service}
use Rattle.apex_types.specs.Requested.{service_of}
use Rattle.apex_types.specs.Services.{arguments_of}
use Rattle.record_read.specs.Row.{Item}

-- a service that takes a name or a message
abbrev pub TakesText : Service → Type 0
TakesText service = ((arguments_of service).name ≡ true) ⊎ ((arguments_of service).message ≡ true)

-- a call needs memory for a name, for a message that it takes or gives, and for a list of processes
abbrev pub CallNeeds : Call → Type 0
CallNeeds call = TakesText (service_of call.request) ⊎ (call.claim.bytes ≢ []) ⊎ (call.claim.woken ≢ [])

-- a return needs memory for a message
abbrev pub ReturnNeeds : Return → Type 0
ReturnNeeds ret = ret.bytes ≢ []

-- a tick needs memory for a list of processes
abbrev pub TickNeeds : List Who → Type 0
TickNeeds woken = woken ≢ []

-- an arrival and a departure need memory for their message
abbrev pub CrossingNeeds : Crossing → Type 0
CrossingNeeds crossing = (crossing.message ≢ []) ⊎ (crossing.woken ≢ [])

-- a dispatch and an error need no memory
abbrev pub BodyNeeds : Body → Type 0
BodyNeeds (body.Call call) = CallNeeds call
BodyNeeds (body.Ret ret) = ReturnNeeds ret
BodyNeeds (body.Disp who) = ⊥
BodyNeeds (body.Tick woken) = TickNeeds woken
BodyNeeds (body.Arrive crossing) = CrossingNeeds crossing
BodyNeeds (body.Depart crossing) = CrossingNeeds crossing
BodyNeeds (body.Error report) = ⊥

-- a record needs memory
abbrev pub NeedsMemory : Record → Type 0
NeedsMemory rec = BodyNeeds rec.body

-- the next item is a record that needs memory
abbrev pub NextNeedsMemory : List Item → Type 0
NextNeedsMemory items = (rec : Record) × (rest : List Item) × (items ≡ Ok rec ∷ rest) × NeedsMemory rec
