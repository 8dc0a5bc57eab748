-- The fault of a row that is not a record, and the field that has it: the first faulty field, from left to right. Each field is judged by
-- what it may hold.
use Rattle.std.specs.Prelude.{◌≡◌, ◌≢◌, ◌⊎◌, ◌≤◌, ◌-◌, ℕ, ℤ, List, [], ◌∷◌, Bool, true, false, Option, Some, IsTrue, Ok, length}
use Rattle.hex.specs.Hex.{decode_of}
use Rattle.csv_rows.specs.Stream.{Fields}
use Rattle.apex_types.specs.declared.limits.TheConstants.{GREATEST_CHANNEL, GREATEST_NUMBER, GREATEST_PARTITION, GREATEST_PRIORITY, LONGEST_MESSAGE, MOST_RECORDS}
use Rattle.apex_types.specs.CodeName as CodeName
use Rattle.apex_types.specs.ErrorName as ErrorName
use Rattle.apex_types.specs.declared.error.ErrorCode.{ErrorCode}
use Rattle.apex_types.specs.declared.error.ErrorCode.TheVariants as error_code
use Rattle.apex_types.specs.declared.code.Code.{Code}
use Rattle.apex_types.specs.declared.service.Numbers.{Numbers}
use Rattle.apex_types.specs.declared.service.Presence.{Presence}
use Rattle.apex_types.specs.declared.service.Presence.TheVariants as presence
use Rattle.apex_types.specs.declared.service.Service.{Service}
use Rattle.record_read.specs.declared.column.Column.{Column}
use Rattle.record_read.specs.declared.column.Column.TheVariants as column
use Rattle.record_read.specs.declared.fault.RowFault.{RowFault}
use Rattle.record_read.specs.declared.fault.RowFault.TheVariants.{BadError, BadHex, BadKind, BadLength, BadName, BadNumber, BadOut, BadService, BadWoken, FieldCount, FieldNotForKind, SeqGap, TooMany}
use Rattle.record_read.specs.declared.misread.Misread.{Misread}
use Rattle.apex_types.specs.declared.format.Format.{Format}
use Rattle.apex_types.specs.declared.format.Format.TheVariants as format
use Rattle.record_read.specs.declared.kind.Kind.{Kind}
use Rattle.record_read.specs.declared.kind.Kind.TheVariants as kind
use Rattle.apex_types.specs.Services.{arguments_of}
use Rattle.apex_types.specs.Format.{field_count}
use Rattle.record_read.specs.Column.{columns_between}
use Rattle.record_read.specs.Field.{text_at}
use Rattle.record_read.specs.Grammar.{GoesWith, HoldsArgument, HoldsName, HoldsNumber, HoldsOutcome, HoldsProcesses, HoldsRestart, HoldsService, HoldsSigned, MayHold, Row}
use Rattle.record_read.specs.Named.{has_kind, kind_name}
use Rattle.record_read.specs.Steps.{no_field}

-- the fault of one field

-- a field that holds nothing that it may hold
abbrev pub HoldsNone : {A : Type 0} → RowFault → (List ℕ → A → Type 0) → List ℕ → RowFault → Type 0
HoldsNone bad Holds text fault = ((value : _) → ¬ Holds text value) × (fault ≡ bad)

-- a field that must be filled: the fault says that it is empty, or that it holds nothing that it may hold
abbrev pub MustHold : {A : Type 0} → RowFault → (List ℕ → A → Type 0) → List ℕ → RowFault → Type 0
MustHold bad Holds text fault = ((text ≡ []) × (fault ≡ FieldNotForKind)) ⊎ ((text ≢ []) × HoldsNone bad Holds text fault)

-- a field that must be empty, and is filled
abbrev pub MustBeEmpty : List ℕ → RowFault → Type 0
MustBeEmpty text fault = (text ≢ []) × (fault ≡ FieldNotForKind)

-- the field of a number that may be left out in format 3, and must be empty before it
abbrev pub MayHoldNumber : Format → List ℕ → RowFault → Type 0
MayHoldNumber format.Three text fault = HoldsNone BadNumber (MayHold HoldsSigned) text fault
MayHoldNumber _ text fault = MustBeEmpty text fault

-- the field of a number: filled if the service takes it, and else empty
abbrev pub MustHoldNumber : Format → Presence → List ℕ → RowFault → Type 0
MustHoldNumber format presence.Required text fault = MustHold BadNumber HoldsSigned text fault
MustHoldNumber format presence.Absent text fault = MustBeEmpty text fault
MustHoldNumber format presence.Optional text fault = MayHoldNumber format text fault

-- the field of a name: filled if the service takes it, and else empty
abbrev pub MustHoldIf : {A : Type 0} → Bool → RowFault → (List ℕ → A → Type 0) → List ℕ → RowFault → Type 0
MustHoldIf true bad Holds text fault = MustHold bad Holds text fault
MustHoldIf false bad Holds text fault = MustBeEmpty text fault

-- bytes in hexadecimal: the text is not such digits, or has more or fewer bytes than allowed
abbrev pub MustBeBytes : (ℕ → Type 0) → List ℕ → RowFault → Type 0
MustBeBytes MayBe text fault =
    (((bytes : List ℕ) → decode_of text ≢ Ok bytes) × (fault ≡ BadHex))
    ⊎ ((bytes : List ℕ) × (decode_of text ≡ Ok bytes) × (¬ MayBe (length bytes)) × (fault ≡ BadLength))

-- the field of a message: as many bytes as go with the length argument if the service takes a message, and else empty
abbrev pub MustBeMessageIf : Bool → ℤ → List ℕ → RowFault → Type 0
MustBeMessageIf true argument text fault = MustBeBytes (GoesWith argument) text fault
MustBeMessageIf false argument text fault = MustBeEmpty text fault

-- fields by which other fields are judged

-- a message that must be given: the text is empty, or is not bytes in hexadecimal, or has more than 8,192
abbrev pub MustBeGiven : List ℕ → RowFault → Type 0
MustBeGiven text fault = ((text ≡ []) × (fault ≡ FieldNotForKind)) ⊎ ((text ≢ []) × MustBeBytes (λ count. count ≤ LONGEST_MESSAGE) text fault)

-- the name of a kind of rows of the format
pub record HoldsKind (format : Format) (text : List ℕ) (kind : Kind) : Type 0 where
  pub named : text ≡ kind_name kind
  pub in_format : IsTrue (has_kind format kind)

-- the name of a code
abbrev pub HoldsCode : List ℕ → Code → Type 0
HoldsCode text code = text ≡ CodeName.name_of code

-- the fault of several fields

-- the field of this column has a fault, which is reported there
pub record At (here : Column) (Faulty : List ℕ → RowFault → Type 0) (row : Row) (misread : Misread) : Type 0 where
  pub faulty : Faulty (row here) misread.fault
  pub there : misread.column ≡ Some here

infixr 10 ◌or_else◌
-- the fault of several fields: that of the first, or, if it has none, that of the others
abbrev pub ◌or_else◌ : (Misread → Type 0) → (Misread → Type 0) → Misread → Type 0
◌or_else◌ First Others misread = First misread ⊎ (((other : Misread) → ¬ First other) × Others misread)

-- fields that must be empty: the first that is filled
abbrev pub MustAllBeEmpty : List Column → Row → Misread → Type 0
MustAllBeEmpty [] row misread = ⊥
MustAllBeEmpty (first ∷ others) row misread = (At first MustBeEmpty row or_else MustAllBeEmpty others row) misread

-- the faults of the fields of a row

-- the number of the row, which is not the next one
abbrev pub OtherNumber : ℕ → List ℕ → RowFault → Type 0
OtherNumber next text fault = (number : ℕ) × HoldsNumber (MOST_RECORDS - 1) text number × (number ≢ next) × (fault ≡ SeqGap)

-- the process of a call or of a return
abbrev pub ProcessFault : Row → Misread → Type 0
ProcessFault row =
    At column.Partition (MustHold BadNumber (HoldsNumber GREATEST_PARTITION)) row
    or_else At column.Process (MustHold BadNumber (HoldsNumber GREATEST_NUMBER)) row

-- one of the numbers of a call, for the service that the row names
abbrev pub ArgumentFault : Format → Row → (Numbers → Presence) → List ℕ → RowFault → Type 0
ArgumentFault format row taken text fault =
    (service : Service) × HoldsService format (row column.Service) service × MustHoldNumber format (taken (arguments_of service).numbers) text fault

-- the name of a call, for its service
abbrev pub NameFault : Format → Row → List ℕ → RowFault → Type 0
NameFault format row text fault =
    (service : Service) × HoldsService format (row column.Service) service × MustHoldIf (arguments_of service).name BadName HoldsName text fault

-- the message that goes with a length argument, which is the second number
abbrev pub SentFault : Format → Service → Row → List ℕ → RowFault → Type 0
SentFault format service row text fault =
    (argument : ℤ) × HoldsArgument format (arguments_of service).numbers.second (row column.SecondNumber) argument
    × MustBeMessageIf (arguments_of service).message argument text fault

-- the message of a call, for its service and the length argument
abbrev pub MessageFault : Format → Row → List ℕ → RowFault → Type 0
MessageFault format row text fault = (service : Service) × HoldsService format (row column.Service) service × SentFault format service row text fault

-- the request of a call
abbrev pub RequestFault : Format → Row → Misread → Type 0
RequestFault format row =
    At column.Service (MustHold BadService (HoldsService format)) row
    or_else At column.FirstNumber (ArgumentFault format row (λ numbers. numbers.first)) row
    or_else At column.SecondNumber (ArgumentFault format row (λ numbers. numbers.second)) row
    or_else At column.ThirdNumber (ArgumentFault format row (λ numbers. numbers.third)) row
    or_else At column.Name (NameFault format row) row
    or_else At column.Message (MessageFault format row) row

-- what a call claims
abbrev pub ClaimFault : Row → Misread → Type 0
ClaimFault row =
    At column.Priority (MustHold BadNumber (HoldsNumber GREATEST_PRIORITY)) row
    or_else At column.Outcome (MustHold BadOut HoldsOutcome) row
    or_else At column.Value (HoldsNone BadNumber (MayHold HoldsSigned)) row
    or_else At column.Data (MustBeBytes (λ count. count ≤ LONGEST_MESSAGE)) row
    or_else At column.Channel (HoldsNone BadNumber (MayHold (HoldsNumber GREATEST_CHANNEL))) row
    or_else At column.Woken (HoldsNone BadWoken HoldsProcesses) row
    or_else At column.SecondValue (HoldsNone BadNumber (MayHold HoldsSigned)) row
    or_else At column.ThirdValue (HoldsNone BadNumber (MayHold HoldsSigned)) row
    or_else At column.Error MustBeEmpty row

-- the fields of a call after its kind
abbrev pub CallFault : Format → Row → Misread → Type 0
CallFault format row = ProcessFault row or_else RequestFault format row or_else ClaimFault row

-- the fields of a return after its kind
abbrev pub ReturnFault : Format → Row → Misread → Type 0
ReturnFault format row =
    ProcessFault row
    or_else At column.Service (MustHold BadService (HoldsService format)) row
    or_else MustAllBeEmpty (columns_between column.FirstNumber column.Priority) row
    or_else At column.Outcome (MustHold BadOut HoldsCode) row
    or_else At column.Value (HoldsNone BadNumber (MayHold HoldsSigned)) row
    or_else At column.Data (MustBeBytes (λ count. count ≤ LONGEST_MESSAGE)) row
    or_else MustAllBeEmpty (columns_between column.Channel column.Woken) row
    or_else At column.SecondValue (HoldsNone BadNumber (MayHold HoldsSigned)) row
    or_else At column.ThirdValue (HoldsNone BadNumber (MayHold HoldsSigned)) row
    or_else At column.Error MustBeEmpty row

-- the process number of a dispatch: filled exactly if the partition is
abbrev pub DispatchedFault : Row → List ℕ → RowFault → Type 0
DispatchedFault row text fault =
    ((row column.Partition ≡ []) × MustBeEmpty text fault)
    ⊎ ((row column.Partition ≢ []) × MustHold BadNumber (HoldsNumber GREATEST_NUMBER) text fault)

-- the fields of a dispatch after its kind
abbrev pub DispatchFault : Row → Misread → Type 0
DispatchFault row =
    At column.Partition (HoldsNone BadNumber (MayHold (HoldsNumber GREATEST_PARTITION))) row
    or_else At column.Process (DispatchedFault row) row
    or_else MustAllBeEmpty (columns_between column.Service column.Error) row

-- the fields of a tick after its kind
abbrev pub TickFault : Row → Misread → Type 0
TickFault row =
    MustAllBeEmpty (columns_between column.Partition column.Channel) row
    or_else At column.Woken (HoldsNone BadWoken HoldsProcesses) row
    or_else MustAllBeEmpty (columns_between column.SecondValue column.Error) row

-- the fields of a message that passes an end outside, from its channel on
abbrev pub PassingFault : Row → Misread → Type 0
PassingFault row =
    At column.Channel (MustHold BadNumber (HoldsNumber GREATEST_CHANNEL)) row
    or_else At column.Woken (HoldsNone BadWoken HoldsProcesses) row
    or_else MustAllBeEmpty (columns_between column.SecondValue column.Error) row

-- the fields of an arrival after its kind
abbrev pub ArrivalFault : Row → Misread → Type 0
ArrivalFault row =
    MustAllBeEmpty (columns_between column.Partition column.Name) row
    or_else At column.Message MustBeGiven row
    or_else MustAllBeEmpty (columns_between column.Priority column.Data) row
    or_else PassingFault row

-- the fields of a departure after its kind
abbrev pub DepartureFault : Row → Misread → Type 0
DepartureFault row =
    MustAllBeEmpty (columns_between column.Partition column.Value) row
    or_else At column.Data MustBeGiven row
    or_else PassingFault row

-- the name of an error that a row can report
abbrev pub HoldsError : List ℕ → ErrorCode → Type 0
HoldsError text error = (text ≡ ErrorName.name_of error) × ¬ (error ≡ error_code.ApplicationError)

-- the fields of an error after its kind
abbrev pub ErrorFault : Row → Misread → Type 0
ErrorFault row =
    ProcessFault row
    or_else MustAllBeEmpty (columns_between column.Service column.Priority) row
    or_else At column.Outcome (HoldsNone BadOut HoldsRestart) row
    or_else MustAllBeEmpty (columns_between column.Value column.ThirdValue) row
    or_else At column.Error (MustHold BadError HoldsError) row

-- the fields after the kind
abbrev pub FaultOf : Kind → Format → Row → Misread → Type 0
FaultOf kind.Call format row misread = CallFault format row misread
FaultOf kind.Ret format row misread = ReturnFault format row misread
FaultOf kind.Disp format row misread = DispatchFault row misread
FaultOf kind.Tick format row misread = TickFault row misread
FaultOf kind.Arrive format row misread = ArrivalFault row misread
FaultOf kind.Depart format row misread = DepartureFault row misread
FaultOf kind.Error format row misread = ErrorFault row misread

-- the row of this number, in a recording of this format, has this fault in this field: the recording has too many rows, or else the row has
-- more or fewer fields than the format, and neither is a fault of one field; or else it is the fault of the first faulty field
abbrev pub IsMisread : Format → ℕ → Fields → Misread → Type 0
IsMisread format next fields =
    (λ misread. (MOST_RECORDS ≤ next) × (misread ≡ no_field TooMany))
    or_else (λ misread. (length fields ≢ field_count format) × (misread ≡ no_field FieldCount))
    or_else At column.Sequence (MustHold BadNumber (HoldsNumber (MOST_RECORDS - 1))) (text_at fields)
    or_else At column.Sequence (OtherNumber next) (text_at fields)
    or_else At column.Kind (MustHold BadKind (HoldsKind format)) (text_at fields)
    or_else (λ misread. (which : Kind) × HoldsKind format (text_at fields column.Kind) which × FaultOf which format (text_at fields) misread)

-- the row has this fault, in whichever field
abbrev pub IsFirstFault : Format → ℕ → Fields → RowFault → Type 0
IsFirstFault format next fields fault = (there : Option Column) × IsMisread format next fields (record { fault = fault; column = there })
