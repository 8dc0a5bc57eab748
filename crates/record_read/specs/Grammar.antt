-- The grammar of rows: which rows are the row of a call, of a return, of a dispatch, of a tick, of a message that passes an end outside, or
-- of an error, by what their fields hold.
use Rattle.std.specs.Prelude.{◌≡◌, ◌≢◌, ◌⊎◌, ◌≤◌, ◌<◌, ℕ, ℤ, pos, negsuc, List, [], ◌∷◌, ◌++◌, Bool, true, false, Option, Some, None, Ok, IsTrue, codes, length, map, FitsSigned}
use Rattle.std.specs.Fmt.{decimal, signed_decimal}
use Rattle.std.specs.Int.{w64}
use Rattle.std.specs.List.{All, AllPass, join_by}
use Rattle.hex.specs.Hex.{decode_of}
use Rattle.csv_rows.specs.Stream.{Fields}
use Rattle.apex_types.specs.declared.limits.TheConstants.{GREATEST_CHANNEL, GREATEST_NUMBER, GREATEST_PARTITION, GREATEST_PRIORITY, LONGEST_MESSAGE, LONGEST_NAME, MOST_RECORDS}
use Rattle.apex_types.specs.CodeName as CodeName
use Rattle.apex_types.specs.ErrorName as ErrorName
use Rattle.apex_types.specs.declared.error.ErrorCode.TheVariants as error_code
use Rattle.apex_types.specs.Rising.{IsRising}
use Rattle.apex_types.specs.Services as Services
use Rattle.apex_types.specs.declared.record.Body.{Body}
use Rattle.apex_types.specs.declared.record.Body.TheVariants as body
use Rattle.apex_types.specs.declared.record.Call.{Call}
use Rattle.apex_types.specs.declared.record.Claim.{Claim}
use Rattle.apex_types.specs.declared.record.Crossing.{Crossing}
use Rattle.apex_types.specs.declared.record.Out.{Out}
use Rattle.apex_types.specs.declared.record.Out.TheVariants as out
use Rattle.apex_types.specs.declared.record.Record.{Record}
use Rattle.apex_types.specs.declared.record.Return.{Return}
use Rattle.apex_types.specs.declared.record.Who.{Who}
use Rattle.apex_types.specs.declared.request.Request.{Request}
use Rattle.apex_types.specs.declared.service.Presence.{Presence}
use Rattle.apex_types.specs.declared.service.Presence.TheVariants as presence
use Rattle.apex_types.specs.declared.service.Service.{Service}
use Rattle.apex_types.specs.declared.format.Format.{Format}
use Rattle.apex_types.specs.declared.format.Format.TheVariants as format
use Rattle.apex_types.specs.Services.{arguments_of, is_in}
use Rattle.record_read.specs.declared.column.Column.{Column}
use Rattle.record_read.specs.declared.column.Column.TheVariants as column
use Rattle.apex_types.specs.Arguments.{request_of}
use Rattle.record_read.specs.Field.{text_at}
use Rattle.apex_types.specs.Format.{field_count}
use Rattle.record_read.specs.Payload.{is_printable}
use Rattle.apex_types.specs.declared.record.ErrorReport.{ErrorReport}

-- what one field holds

-- a field that may be left out: it is empty, or holds what it may hold
abbrev pub MayHold : {A : Type 0} → (List ℕ → A → Type 0) → List ℕ → Option A → Type 0
MayHold Holds text None = text ≡ []
MayHold Holds text (Some value) = Holds text value

-- a number from 0 to a greatest one: its decimal digits, without a leading zero
pub record HoldsNumber (greatest : ℕ) (text : List ℕ) (number : ℕ) : Type 0 where
  pub written : text ≡ decimal number
  pub bound : number ≤ greatest

-- a signed number of 64 bits: its decimal digits, without a leading zero, after a `-` if it is negative
pub record HoldsSigned (text : List ℕ) (number : ℤ) : Type 0 where
  pub written : text ≡ signed_decimal number
  pub bound : FitsSigned w64 number

-- an outcome: `wait`, `none` or the name of a code
abbrev pub HoldsOutcome : List ℕ → Out → Type 0
HoldsOutcome text out.Waits = text ≡ codes "wait"
HoldsOutcome text out.Never = text ≡ codes "none"
HoldsOutcome text (out.Answer code) = text ≡ CodeName.name_of code

-- the name of a service of the format
pub record HoldsService (format : Format) (text : List ℕ) (service : Service) : Type 0 where
  pub named : text ≡ Services.name_of service
  pub in_format : IsTrue (is_in format service)

-- a name: 1 to 32 bytes, all printable
pub record HoldsName (text name : List ℕ) : Type 0 where
  pub is : name ≡ text
  pub filled : text ≢ []
  pub short : length text ≤ LONGEST_NAME
  pub printable : AllPass is_printable text

-- a length that a message can have
abbrev pub IsMessageLength : ℤ → Type 0
IsMessageLength (pos count) = (1 ≤ count) × (count ≤ LONGEST_MESSAGE)
IsMessageLength (negsuc below) = ⊥

-- how many bytes go with a length argument: exactly that many if a message can have that length, and none if it cannot
abbrev pub GoesWith : ℤ → ℕ → Type 0
GoesWith argument count = (IsMessageLength argument × (argument ≡ pos count)) ⊎ ((¬ IsMessageLength argument) × (count ≡ 0))

-- a message that a service takes: two hexadecimal digits for each byte, as many bytes as go with the length argument
pub record HoldsMessage (argument : ℤ) (text bytes : List ℕ) : Type 0 where
  pub digits : decode_of text ≡ Ok bytes
  pub count : GoesWith argument (length bytes)

-- a message that a service gives, or none: two hexadecimal digits for each byte, at most 8,192 bytes
pub record HoldsData (text bytes : List ℕ) : Type 0 where
  pub digits : decode_of text ≡ Ok bytes
  pub count : length bytes ≤ LONGEST_MESSAGE

-- the text of a process in a list: its partition, `:` and its number
abbrev pub process_text : Who → List ℕ
process_text who = decimal who.part ++ codes ":" ++ decimal who.proc

-- a process that a list can name: not the initialising one, whose number is 0
pub record IsNameable (who : Who) : Type 0 where
  pub part : who.part ≤ GREATEST_PARTITION
  pub created : 1 ≤ who.proc
  pub proc : who.proc ≤ GREATEST_NUMBER

-- a list of processes: their texts joined by `;`, in rising order; an empty field is the empty list
pub record HoldsProcesses (text : List ℕ) (named : List Who) : Type 0 where
  pub joined : text ≡ join_by process_text (codes ";") named
  pub each : All IsNameable named
  pub rising : IsRising named

-- what a row holds

-- a row is the text of each column; the texts of the columns that its format does not have are empty
abbrev pub Row : Type 0
Row = Column → List ℕ

-- all these fields are empty
abbrev pub AreEmpty : List (List ℕ) → Type 0
AreEmpty [] = Unit {0}
AreEmpty (text ∷ texts) = (text ≡ []) × AreEmpty texts

-- if a service takes a value, the field holds it; else the field is empty, which means the unused value
abbrev pub HoldsIf : {A : Type 0} → Bool → A → (List ℕ → A → Type 0) → List ℕ → A → Type 0
HoldsIf true unused Holds text value = Holds text value
HoldsIf false unused Holds text value = (text ≡ []) × (value ≡ unused)

-- a number that may be left out in format 3, and always is before it; left out, it is -1
abbrev pub HoldsOptional : Format → List ℕ → ℤ → Type 0
HoldsOptional format.Three text number = HoldsSigned text number ⊎ ((text ≡ []) × (number ≡ negsuc 0))
HoldsOptional _ text number = (text ≡ []) × (number ≡ negsuc 0)

-- a number of a service; a number that the service does not take is 0
abbrev pub HoldsArgument : Format → Presence → List ℕ → ℤ → Type 0
HoldsArgument format presence.Required text number = HoldsSigned text number
HoldsArgument format presence.Absent text number = (text ≡ []) × (number ≡ pos 0)
HoldsArgument format presence.Optional text number = HoldsOptional format text number

-- the process of a call, of a return or of a dispatch
pub record NamesProcess (row : Row) (who : Who) : Type 0 where
  pub part : HoldsNumber GREATEST_PARTITION (row column.Partition) who.part
  pub proc : HoldsNumber GREATEST_NUMBER (row column.Process) who.proc

-- the request of a call: a service of the format by its name, and exactly the arguments that the service takes
pub record HoldsRequest (format : Format) (row : Row) (request : Request) : Type 0 where
  pub service : Service
  pub n1 : ℤ
  pub n2 : ℤ
  pub n3 : ℤ
  pub name : List ℕ
  pub message : List ℕ
  pub is : request ≡ request_of service n1 n2 n3 name message
  pub has_service : HoldsService format (row column.Service) service
  pub has_n1 : HoldsArgument format (arguments_of service).numbers.first (row column.FirstNumber) n1
  pub has_n2 : HoldsArgument format (arguments_of service).numbers.second (row column.SecondNumber) n2
  pub has_n3 : HoldsArgument format (arguments_of service).numbers.third (row column.ThirdNumber) n3
  pub has_name : HoldsIf (arguments_of service).name [] HoldsName (row column.Name) name
  pub has_message : HoldsIf (arguments_of service).message [] (HoldsMessage n2) (row column.Message) message

-- what a call claims: the priority and the outcome, and what may be left out
pub record HoldsClaim (row : Row) (claim : Claim) : Type 0 where
  pub prio : HoldsNumber GREATEST_PRIORITY (row column.Priority) claim.prio
  pub out : HoldsOutcome (row column.Outcome) claim.out
  pub val : MayHold HoldsSigned (row column.Value) claim.val
  pub val2 : MayHold HoldsSigned (row column.SecondValue) claim.val2
  pub val3 : MayHold HoldsSigned (row column.ThirdValue) claim.val3
  pub bytes : HoldsData (row column.Data) claim.bytes
  pub chan : MayHold (HoldsNumber GREATEST_CHANNEL) (row column.Channel) claim.chan
  pub woken : HoldsProcesses (row column.Woken) claim.woken
  pub unused : row column.Error ≡ []

-- the row of a call
pub record IsRowOfCall (format : Format) (row : Row) (call : Call) : Type 0 where
  pub kind : row column.Kind ≡ codes "call"
  pub who : NamesProcess row call.who
  pub request : HoldsRequest format row call.request
  pub claim : HoldsClaim row call.claim

-- the row of a return: a service of the format, without arguments, and a code
pub record IsRowOfReturn (format : Format) (row : Row) (ret : Return) : Type 0 where
  pub kind : row column.Kind ≡ codes "ret"
  pub who : NamesProcess row ret.who
  pub service : HoldsService format (row column.Service) ret.service
  pub code : row column.Outcome ≡ CodeName.name_of ret.code
  pub val : MayHold HoldsSigned (row column.Value) ret.val
  pub val2 : MayHold HoldsSigned (row column.SecondValue) ret.val2
  pub val3 : MayHold HoldsSigned (row column.ThirdValue) ret.val3
  pub bytes : HoldsData (row column.Data) ret.bytes
  pub unused : AreEmpty (map row (column.FirstNumber ∷ column.SecondNumber ∷ column.ThirdNumber ∷ column.Name ∷ column.Message ∷ column.Priority ∷ []))
  pub unused_too : AreEmpty (row column.Channel ∷ row column.Woken ∷ row column.Error ∷ [])

-- a dispatch names a process, or leaves both fields empty
abbrev pub Dispatches : Row → Option Who → Type 0
Dispatches row None = AreEmpty (row column.Partition ∷ row column.Process ∷ [])
Dispatches row (Some who) = NamesProcess row who

-- the row of a dispatch
pub record IsRowOfDispatch (row : Row) (who : Option Who) : Type 0 where
  pub kind : row column.Kind ≡ codes "disp"
  pub process : Dispatches row who
  pub unused : AreEmpty (map row (column.Service ∷ column.FirstNumber ∷ column.SecondNumber ∷ column.ThirdNumber ∷ column.Name ∷ column.Message ∷ column.Priority ∷ column.Outcome ∷ column.Value ∷ column.Data ∷ column.Channel ∷ column.Woken ∷ column.SecondValue ∷ column.ThirdValue ∷ column.Error ∷ []))

-- the row of a tick
pub record IsRowOfTick (row : Row) (named : List Who) : Type 0 where
  pub kind : row column.Kind ≡ codes "tick"
  pub woken : HoldsProcesses (row column.Woken) named
  pub unused : AreEmpty (map row (column.Partition ∷ column.Process ∷ column.Service ∷ column.FirstNumber ∷ column.SecondNumber ∷ column.ThirdNumber ∷ column.Name ∷ column.Message ∷ column.Priority ∷ column.Outcome ∷ column.Value ∷ column.Data ∷ column.Channel ∷ []))
  pub unused_too : AreEmpty (row column.SecondValue ∷ row column.ThirdValue ∷ row column.Error ∷ [])

-- a message that a record must have: two hexadecimal digits for each byte, 1 to 8,192 bytes
pub record HoldsPassing (text bytes : List ℕ) : Type 0 where
  pub filled : text ≢ []
  pub holds : HoldsData text bytes

-- the row of a message that arrives
pub record IsRowOfArrival (row : Row) (crossing : Crossing) : Type 0 where
  pub kind : row column.Kind ≡ codes "arrive"
  pub message : HoldsPassing (row column.Message) crossing.message
  pub chan : HoldsNumber GREATEST_CHANNEL (row column.Channel) crossing.chan
  pub woken : HoldsProcesses (row column.Woken) crossing.woken
  pub unused : AreEmpty (map row (column.Partition ∷ column.Process ∷ column.Service ∷ column.FirstNumber ∷ column.SecondNumber ∷ column.ThirdNumber ∷ column.Name ∷ column.Priority ∷ column.Outcome ∷ column.Value ∷ column.Data ∷ column.SecondValue ∷ column.ThirdValue ∷ column.Error ∷ []))

-- the row of a message that departs, which is in the field of what is given
pub record IsRowOfDeparture (row : Row) (crossing : Crossing) : Type 0 where
  pub kind : row column.Kind ≡ codes "depart"
  pub message : HoldsPassing (row column.Data) crossing.message
  pub chan : HoldsNumber GREATEST_CHANNEL (row column.Channel) crossing.chan
  pub woken : HoldsProcesses (row column.Woken) crossing.woken
  pub unused : AreEmpty (map row (column.Partition ∷ column.Process ∷ column.Service ∷ column.FirstNumber ∷ column.SecondNumber ∷ column.ThirdNumber ∷ column.Name ∷ column.Message ∷ column.Priority ∷ column.Outcome ∷ column.Value ∷ column.SecondValue ∷ column.ThirdValue ∷ column.Error ∷ []))

-- whether an error restarts its partition: `none`, or else an empty field
abbrev pub HoldsRestart : List ℕ → Bool → Type 0
HoldsRestart text true = text ≡ codes "none"
HoldsRestart text false = text ≡ []

-- the row of an error, which is not APPLICATION_ERROR: a call raises that one
pub record IsRowOfError (row : Row) (report : ErrorReport) : Type 0 where
  pub kind : row column.Kind ≡ codes "err"
  pub who : NamesProcess row report.who
  pub restarts : HoldsRestart (row column.Outcome) report.restarts
  pub error : row column.Error ≡ ErrorName.name_of report.error
  pub reported : ¬ (report.error ≡ error_code.ApplicationError)
  pub unused : AreEmpty (map row (column.Service ∷ column.FirstNumber ∷ column.SecondNumber ∷ column.ThirdNumber ∷ column.Name ∷ column.Message ∷ column.Priority ∷ []))
  pub unused_too : AreEmpty (map row (column.Value ∷ column.Data ∷ column.Channel ∷ column.Woken ∷ column.SecondValue ∷ column.ThirdValue ∷ []))

-- a format has the rows of a kind of record: before format 3 no message passes an end outside, and no error is reported
abbrev pub HasRowsOf : Format → Body → Type 0
HasRowsOf format.Three said = Unit {0}
HasRowsOf _ (body.Arrive crossing) = ⊥
HasRowsOf _ (body.Depart crossing) = ⊥
HasRowsOf _ (body.Error report) = ⊥
HasRowsOf _ said = Unit {0}

-- one case for each kind of row
abbrev pub IsRowOf : Format → Row → Body → Type 0
IsRowOf format row (body.Call call) = IsRowOfCall format row call
IsRowOf format row (body.Ret ret) = IsRowOfReturn format row ret
IsRowOf format row (body.Disp who) = IsRowOfDispatch row who
IsRowOf format row (body.Tick woken) = IsRowOfTick row woken
IsRowOf format row (body.Arrive crossing) = IsRowOfArrival row crossing
IsRowOf format row (body.Depart crossing) = IsRowOfDeparture row crossing
IsRowOf format row (body.Error report) = IsRowOfError row report

-- fields are the row of a record, in a recording of this format: there are as many as the format has, the first holds the record's number,
-- which is the row's, and the others are the row of what the record says
pub record IsRow (format : Format) (next : ℕ) (fields : Fields) (rec : Record) : Type 0 where
  pub count : length fields ≡ field_count format
  pub number : rec.seq ≡ next
  pub bound : rec.seq < MOST_RECORDS
  pub seq : text_at fields column.Sequence ≡ decimal rec.seq
  pub has : HasRowsOf format rec.body
  pub body : IsRowOf format (text_at fields) rec.body
