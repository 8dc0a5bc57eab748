-- The grammar of rows: the fields of the recording's format, judged from left to right.
use Rattle.std.specs.Prelude.{◌-◌, ℕ, List, Option, Some, None, Result, Ok, Err, length, nat_lt, nat_eq, ◌==◌, if◌then◌else◌}
use Rattle.std.specs.Option.{unwrap_or}
use Rattle.csv_rows.specs.Stream.{Fields, rows_of}
use Rattle.csv_rows.specs.Source.{items_from, items_of}
use Rattle.apex_types.specs.declared.limits.TheConstants.{GREATEST_CHANNEL, GREATEST_NUMBER, GREATEST_PARTITION, GREATEST_PRIORITY, MOST_RECORDS}
use Rattle.apex_types.specs.declared.record.Who.{Who}
use Rattle.apex_types.specs.declared.record.Claim.{Claim}
use Rattle.apex_types.specs.declared.record.Call.{Call}
use Rattle.apex_types.specs.declared.record.Return.{Return}
use Rattle.apex_types.specs.declared.record.Body.{Body}
use Rattle.apex_types.specs.declared.record.Crossing.{Crossing}
use Rattle.apex_types.specs.declared.record.Body.TheVariants as body
use Rattle.apex_types.specs.declared.record.Record.{Record}
use Rattle.apex_types.specs.declared.request.Request.{Request}
use Rattle.apex_types.specs.declared.format.Format.{Format}
use Rattle.record_read.specs.declared.column.Column.TheVariants as column
use Rattle.record_read.specs.declared.kind.Kind.{Kind}
use Rattle.record_read.specs.declared.kind.Kind.TheVariants as kind
use Rattle.record_read.specs.declared.fault.RowFault.{RowFault}
use Rattle.record_read.specs.declared.fault.RowFault.TheVariants.{TooMany, FieldCount, SeqGap}
use Rattle.record_read.specs.declared.misread.Misread.{Misread}
use Rattle.apex_types.specs.Services.{arguments_of}
use Rattle.apex_types.specs.Arguments.{request_of}
use Rattle.record_read.specs.Field.{argument, empty, empty_between, maybe_number, maybe_signed, number, read_at}
use Rattle.apex_types.specs.Format.{field_count}
use Rattle.record_read.specs.Format.{format_of}
use Rattle.record_read.specs.Named.{code_of, error_of, kind_of, out_of, restart_of, service_of}
use Rattle.record_read.specs.Payload.{maybe_message, message_in, name_in, required_message}
use Rattle.record_read.specs.Steps.{◌>>=◌, fault_only, located, no_field}
use Rattle.record_read.specs.Woken.{woken_of}
use Rattle.apex_types.specs.declared.record.ErrorReport.{ErrorReport}

-- the process of a call or a return
unfoldable pub who_in : Fields → Result Who Misread
who_in fields = do
  part ← read_at (number GREATEST_PARTITION) fields column.Partition
  proc ← read_at (number GREATEST_NUMBER) fields column.Process
  Ok (record { part = part; proc = proc })

-- the request of a call: the service, which must be one of the format, and exactly the arguments that it takes
unfoldable pub request_in : Format → Fields → Result Request Misread
request_in format fields = do
  service ← read_at (service_of format) fields column.Service
  n1 ← read_at (argument format (arguments_of service).numbers.first) fields column.FirstNumber
  n2 ← read_at (argument format (arguments_of service).numbers.second) fields column.SecondNumber
  n3 ← read_at (argument format (arguments_of service).numbers.third) fields column.ThirdNumber
  name ← read_at (name_in (arguments_of service).name) fields column.Name
  message ← read_at (message_in (arguments_of service).message n2) fields column.Message
  Ok (request_of service n1 n2 n3 name message)

-- what a call claims
unfoldable pub claim_in : Fields → Result Claim Misread
claim_in fields = do
  prio ← read_at (number GREATEST_PRIORITY) fields column.Priority
  out ← read_at out_of fields column.Outcome
  val ← read_at maybe_signed fields column.Value
  bytes ← read_at maybe_message fields column.Data
  chan ← read_at (maybe_number GREATEST_CHANNEL) fields column.Channel
  woken ← read_at woken_of fields column.Woken
  val2 ← read_at maybe_signed fields column.SecondValue
  val3 ← read_at maybe_signed fields column.ThirdValue
  unused ← read_at empty fields column.Error
  Ok (record { prio = prio; out = out; val = val; val2 = val2; val3 = val3; bytes = bytes; chan = chan; woken = woken })

-- a call
unfoldable pub call_in : Format → Fields → Result Call Misread
call_in format fields = do
  who ← who_in fields
  request ← request_in format fields
  claim ← claim_in fields
  Ok (record { who = who; request = request; claim = claim })

-- a return: its service without arguments, and a code
unfoldable pub return_in : Format → Fields → Result Return Misread
return_in format fields = do
  who ← who_in fields
  service ← read_at (service_of format) fields column.Service
  unused ← empty_between fields column.FirstNumber column.Priority
  code ← read_at code_of fields column.Outcome
  val ← read_at maybe_signed fields column.Value
  bytes ← read_at maybe_message fields column.Data
  unused_too ← empty_between fields column.Channel column.Woken
  val2 ← read_at maybe_signed fields column.SecondValue
  val3 ← read_at maybe_signed fields column.ThirdValue
  unused_last ← read_at empty fields column.Error
  Ok (record { who = who; service = service; code = code; val = val; val2 = val2; val3 = val3; bytes = bytes })

-- the process of a dispatch: given together with its partition, or not at all
unfoldable pub proc_of : Option ℕ → List ℕ → Result (Option Who) RowFault
proc_of None text = empty text >>= (λ u. Ok None)
proc_of (Some part) text = number GREATEST_NUMBER text >>= (λ proc. Ok (Some (record { part = part; proc = proc })))

-- a dispatch of a process, or of none
unfoldable pub dispatch_in : Fields → Result (Option Who) Misread
dispatch_in fields = do
  part ← read_at (maybe_number GREATEST_PARTITION) fields column.Partition
  who ← read_at (proc_of part) fields column.Process
  unused ← empty_between fields column.Service column.Error
  Ok who

-- a tick, with the processes whose waits end
unfoldable pub tick_in : Fields → Result (List Who) Misread
tick_in fields = do
  unused ← empty_between fields column.Partition column.Channel
  woken ← read_at woken_of fields column.Woken
  unused_too ← empty_between fields column.SecondValue column.Error
  Ok woken

-- a message that arrives: the message and its channel, with the processes whose waits end
unfoldable pub arrival_in : Fields → Result Crossing Misread
arrival_in fields = do
  unused ← empty_between fields column.Partition column.Name
  message ← read_at required_message fields column.Message
  unused_too ← empty_between fields column.Priority column.Data
  chan ← read_at (number GREATEST_CHANNEL) fields column.Channel
  woken ← read_at woken_of fields column.Woken
  unused_last ← empty_between fields column.SecondValue column.Error
  Ok (record { chan = chan; message = message; woken = woken })

-- a message that departs, in the field of what is given
unfoldable pub departure_in : Fields → Result Crossing Misread
departure_in fields = do
  unused ← empty_between fields column.Partition column.Value
  message ← read_at required_message fields column.Data
  chan ← read_at (number GREATEST_CHANNEL) fields column.Channel
  woken ← read_at woken_of fields column.Woken
  unused_last ← empty_between fields column.SecondValue column.Error
  Ok (record { chan = chan; message = message; woken = woken })

-- an error: its process, whether it restarts the partition, and which it is
unfoldable pub error_in : Fields → Result ErrorReport Misread
error_in fields = do
  who ← who_in fields
  unused ← empty_between fields column.Service column.Priority
  restarts ← read_at restart_of fields column.Outcome
  unused_too ← empty_between fields column.Value column.ThirdValue
  error ← read_at error_of fields column.Error
  Ok (record { who = who; error = error; restarts = restarts })

-- what a row of this kind records, in a recording of this format
unfoldable pub body_in : Format → Kind → Fields → Result Body Misread
body_in format kind.Call fields = call_in format fields >>= (λ call. Ok (body.Call call))
body_in format kind.Ret fields = return_in format fields >>= (λ ret. Ok (body.Ret ret))
body_in format kind.Disp fields = dispatch_in fields >>= (λ who. Ok (body.Disp who))
body_in format kind.Tick fields = tick_in fields >>= (λ woken. Ok (body.Tick woken))
body_in format kind.Arrive fields = arrival_in fields >>= (λ crossing. Ok (body.Arrive crossing))
body_in format kind.Depart fields = departure_in fields >>= (λ crossing. Ok (body.Depart crossing))
body_in format kind.Error fields = error_in fields >>= (λ report. Ok (body.Error report))

-- the row of this number, counted from 0, in a recording of this format: its record, or its first fault with the column of the field that
-- has it; a recording has at most 4,294,967,295 rows
unfoldable pub row_in : Format → ℕ → Fields → Result Record Misread
row_in format next fields = if nat_lt next MOST_RECORDS then (if length fields == field_count format then (do
  given ← read_at (number (MOST_RECORDS - 1)) fields column.Sequence
  seq ← located column.Sequence (if nat_eq given next then Ok given else Err SeqGap)
  kind ← read_at (kind_of format) fields column.Kind
  body ← body_in format kind fields
  Ok (record { seq = seq; body = body })) else Err (no_field FieldCount)) else Err (no_field TooMany)

-- the same, but of a fault only the cause is reported
unfoldable pub record_of : Format → ℕ → Fields → Result Record RowFault
record_of format next fields = fault_only (row_in format next fields)

-- a record, or why a row is not a record
abbrev pub Item : Type 0
Item = Result Record RowFault

-- the records of a text: all its rows are of the format that the first of them gives
abbrev pub records_of : List ℕ → List Item
records_of text = items_of (record_of (format_of (rows_of text))) text

-- the records of the rows that are left, the first of which has this number: their format is the known one, or, if no row has been read
-- yet, the one that the first of them gives
abbrev pub records_left : Option Format → ℕ → List Fields → List Item
records_left known number rows = items_from (record_of (unwrap_or known (format_of rows))) number rows
