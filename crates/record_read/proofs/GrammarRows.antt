-- Whole rows: the reader's steps from left to right give a record exactly if the row is the record's.
use Rattle.std.proofs.Common.{◌≡◌, ◌^◌, ◌<◌, ◌∙◌, ◌≤◌, ℕ, pred, List, [], ◌∷◌, map, Bool, true, false, Option, Some, None, Result, Ok, Err, length, refl, sym, ap, subst, nat_lt, nat_eq, arith, if◌then◌else◌, ◌==◌}
use Rattle.std.specs.Prelude.{◌++◌, IsTrue, codes}
use Rattle.std.specs.Fmt.{decimal}
use Rattle.std.proofs.lemmas.Bool.{eq-eqb, eqb-true, lt-ltb}
use Rattle.csv_rows.specs.Stream.{Fields}
use Rattle.apex_types.specs.declared.limits.TheConstants.{GREATEST_CHANNEL, GREATEST_NUMBER, GREATEST_PARTITION, GREATEST_PRIORITY, MOST_RECORDS}
use Rattle.apex_types.specs.declared.record.Body.{Body}
use Rattle.apex_types.specs.declared.record.Body.TheVariants as body
use Rattle.apex_types.specs.declared.record.Call.{Call}
use Rattle.apex_types.specs.declared.record.Claim.{Claim}
use Rattle.apex_types.specs.declared.record.Crossing.{Crossing}
use Rattle.apex_types.specs.declared.record.Record.{Record}
use Rattle.apex_types.specs.declared.record.Return.{Return}
use Rattle.apex_types.specs.declared.record.Who.{Who}
use Rattle.apex_types.specs.declared.request.Request.{Request}
use Rattle.record_read.specs.declared.column.Column.{Column}
use Rattle.record_read.specs.declared.column.Column.TheVariants as column
use Rattle.record_read.specs.Column.{columns_between}
use Rattle.record_read.specs.declared.fault.RowFault.TheVariants.{FieldCount, SeqGap, TooMany}
use Rattle.record_read.specs.declared.misread.Misread.{Misread}
use Rattle.apex_types.specs.declared.format.Format.{Format}
use Rattle.apex_types.specs.declared.format.Format.TheVariants as format
use Rattle.record_read.specs.declared.kind.Kind.{Kind}
use Rattle.record_read.specs.declared.kind.Kind.TheVariants as kind
use Rattle.apex_types.specs.Services.{arguments_of}
use Rattle.apex_types.specs.Arguments.{request_of}
use Rattle.record_read.specs.Field.{all_empty, empty, empty_between, maybe_number, text_at}
use Rattle.apex_types.specs.Format.{field_count}
use Rattle.record_read.specs.Grammar.{AreEmpty, Dispatches, HasRowsOf, HoldsClaim, HoldsNumber, HoldsRequest, IsRow, IsRowOf, IsRowOfArrival, IsRowOfCall, IsRowOfDeparture, IsRowOfDispatch, IsRowOfReturn, IsRowOfTick, NamesProcess, IsRowOfError}
use Rattle.record_read.specs.GrammarLaws.{OneRecordOfARow, RowsAreTheGrammar}
use Rattle.record_read.specs.Named.{has_kind, kind_name}
use Rattle.record_read.specs.Row.{arrival_in, body_in, call_in, claim_in, departure_in, dispatch_in, proc_of, record_of, request_in, return_in, row_in, tick_in, who_in, error_in}
use Rattle.record_read.specs.Steps.{◌>>=◌, fault_only, no_field}
use Rattle.record_read.proofs.GrammarFields.{argument_holds, empty_is, field_ok, holds_argument, holds_maybe_number, holds_maybe_signed, holds_number, maybe_number_holds, maybe_signed_holds, no_fault, number_holds, same_ok, step_ok, test_ok}
use Rattle.record_read.proofs.GrammarLists.{hold_processes, processes_hold}
use Rattle.record_read.proofs.GrammarNames.{code_is, is_code, is_kind, is_outcome, is_service, kind_is, outcome_is, service_is, error_is, is_error, is_restart, restart_is}
use Rattle.record_read.proofs.GrammarTexts.{data_holds, holds_data, holds_message, holds_name, holds_passing, message_holds, name_holds, passing_holds}
use Rattle.apex_types.specs.declared.record.ErrorReport.{ErrorReport}

-- fields without a fault that must be empty are empty
all_are_empty : (fields : Fields) (columns : List Column) → all_empty fields columns ≡ Ok tt → AreEmpty (map (text_at fields) columns)
unfolding all_empty
all_are_empty fields [] e = tt
all_are_empty fields (first ∷ others) e =
    let s = field_ok first (empty (text_at fields first)) (λ u. all_empty fields others) tt e in
    (empty_is (text_at fields first) s.1, all_are_empty fields others s.2)

-- empty fields have no fault if they must be empty
are_all_empty : (fields : Fields) (columns : List Column) → AreEmpty (map (text_at fields) columns) → all_empty fields columns ≡ Ok tt
unfolding all_empty
are_all_empty fields [] h = refl
are_all_empty fields (first ∷ others) h = rw h.0 (are_all_empty fields others h.1)

are_empty_between : (fields : Fields) (first last : Column) → AreEmpty (map (text_at fields) (columns_between first last)) → empty_between fields first last ≡ Ok tt
are_empty_between fields first last = are_all_empty fields (columns_between first last)

-- a process that is read is the one that the row names
who_is : (fields : Fields) (who : Who) → who_in fields ≡ Ok who → NamesProcess (text_at fields) who
unfolding who_in
who_is fields who e =
    let part = field_ok _ _ _ who e in
    let proc = field_ok _ _ _ who part.2 in
    subst (NamesProcess (text_at fields)) (same_ok (record { part = part.0; proc = proc.0 }) who proc.2) (record {
      part = number_holds GREATEST_PARTITION (text_at fields column.Partition) part.0 (omega arith) part.1;
      proc = number_holds GREATEST_NUMBER (text_at fields column.Process) proc.0 (omega arith) proc.1;
    })

-- a process that the row names is read
is_who : (fields : Fields) (who : Who) → NamesProcess (text_at fields) who → who_in fields ≡ Ok who
unfolding who_in
is_who fields who h = rw (holds_number GREATEST_PARTITION (text_at fields column.Partition) who.part (omega arith) h.part, holds_number GREATEST_NUMBER (text_at fields column.Process) who.proc (omega arith) h.proc) refl

-- a request that is read is what the row holds
request_is : (format : Format) (fields : Fields) (request : Request) → request_in format fields ≡ Ok request → HoldsRequest format (text_at fields) request
unfolding request_in
request_is format fields request e =
    let service = field_ok _ _ _ request e in
    let n1 = field_ok _ _ _ request service.2 in
    let n2 = field_ok _ _ _ request n1.2 in
    let n3 = field_ok _ _ _ request n2.2 in
    let name = field_ok _ _ _ request n3.2 in
    let message = field_ok _ _ _ request name.2 in
    let takes = arguments_of service.0 in
    record {
      service = service.0;
      n1 = n1.0;
      n2 = n2.0;
      n3 = n3.0;
      name = name.0;
      message = message.0;
      is = sym (same_ok (request_of service.0 n1.0 n2.0 n3.0 name.0 message.0) request message.2);
      has_service = service_is format (text_at fields column.Service) service.0 service.1;
      has_n1 = argument_holds format takes.numbers.first (text_at fields column.FirstNumber) n1.0 n1.1;
      has_n2 = argument_holds format takes.numbers.second (text_at fields column.SecondNumber) n2.0 n2.1;
      has_n3 = argument_holds format takes.numbers.third (text_at fields column.ThirdNumber) n3.0 n3.1;
      has_name = name_holds takes.name (text_at fields column.Name) name.0 name.1;
      has_message = message_holds takes.message n2.0 (text_at fields column.Message) message.0 message.1;
    }

-- a request that the row holds is read
is_request : (format : Format) (fields : Fields) (request : Request) → HoldsRequest format (text_at fields) request → request_in format fields ≡ Ok request
unfolding request_in
is_request format fields request h =
    let takes = arguments_of h.service in
    rw (
      is_service format (text_at fields column.Service) h.service h.has_service,
      holds_argument format takes.numbers.first (text_at fields column.FirstNumber) h.n1 h.has_n1,
      holds_argument format takes.numbers.second (text_at fields column.SecondNumber) h.n2 h.has_n2,
      holds_argument format takes.numbers.third (text_at fields column.ThirdNumber) h.n3 h.has_n3,
      holds_name takes.name (text_at fields column.Name) h.name h.has_name,
      holds_message takes.message h.n2 (text_at fields column.Message) h.message h.has_message,
    ) (ap Ok (sym h.is))

-- a claim that is read is what the row holds
claim_is : (fields : Fields) (claim : Claim) → claim_in fields ≡ Ok claim → HoldsClaim (text_at fields) claim
unfolding claim_in
claim_is fields claim e =
    let prio = field_ok _ _ _ claim e in
    let out = field_ok _ _ _ claim prio.2 in
    let val = field_ok _ _ _ claim out.2 in
    let bytes = field_ok _ _ _ claim val.2 in
    let chan = field_ok _ _ _ claim bytes.2 in
    let woken = field_ok _ _ _ claim chan.2 in
    let val2 = field_ok _ _ _ claim woken.2 in
    let val3 = field_ok _ _ _ claim val2.2 in
    let unused = field_ok _ _ _ claim val3.2 in
    subst (HoldsClaim (text_at fields))
    (same_ok (record { prio = prio.0; out = out.0; val = val.0; val2 = val2.0; val3 = val3.0; bytes = bytes.0; chan = chan.0; woken = woken.0 }) claim unused.2) (record {
      prio = number_holds GREATEST_PRIORITY (text_at fields column.Priority) prio.0 (omega arith) prio.1;
      out = outcome_is (text_at fields column.Outcome) out.0 out.1;
      val = maybe_signed_holds (text_at fields column.Value) val.0 val.1;
      val2 = maybe_signed_holds (text_at fields column.SecondValue) val2.0 val2.1;
      val3 = maybe_signed_holds (text_at fields column.ThirdValue) val3.0 val3.1;
      bytes = data_holds (text_at fields column.Data) bytes.0 bytes.1;
      chan = maybe_number_holds GREATEST_CHANNEL (text_at fields column.Channel) chan.0 (omega arith) chan.1;
      woken = processes_hold (text_at fields column.Woken) woken.0 woken.1;
      unused = empty_is (text_at fields column.Error) unused.1;
    })

-- a claim that the row holds is read
is_claim : (fields : Fields) (claim : Claim) → HoldsClaim (text_at fields) claim → claim_in fields ≡ Ok claim
unfolding claim_in
is_claim fields claim h =
    rw (
      holds_number GREATEST_PRIORITY (text_at fields column.Priority) claim.prio (omega arith) h.prio,
      is_outcome (text_at fields column.Outcome) claim.out h.out,
      holds_maybe_signed (text_at fields column.Value) claim.val h.val,
      holds_data (text_at fields column.Data) claim.bytes h.bytes,
      holds_maybe_number GREATEST_CHANNEL (text_at fields column.Channel) claim.chan (omega arith) h.chan,
      hold_processes (text_at fields column.Woken) claim.woken h.woken,
      holds_maybe_signed (text_at fields column.SecondValue) claim.val2 h.val2,
      holds_maybe_signed (text_at fields column.ThirdValue) claim.val3 h.val3,
      h.unused,
    ) refl

-- a row of this kind that is read as a call is its row
call_is : (format : Format) (fields : Fields) (call : Call) → text_at fields column.Kind ≡ codes "call" → call_in format fields ≡ Ok call
    → IsRowOfCall format (text_at fields) call
unfolding call_in
call_is format fields call named e =
    let who = step_ok _ _ call e in
    let request = step_ok _ _ call who.2 in
    let claim = step_ok _ _ call request.2 in
    subst (IsRowOfCall format (text_at fields)) (same_ok (record { who = who.0; request = request.0; claim = claim.0 }) call claim.2) (record {
      kind = named;
      who = who_is fields who.0 who.1;
      request = request_is format fields request.0 request.1;
      claim = claim_is fields claim.0 claim.1;
    })

-- the row of a call is read as the call
is_call : (format : Format) (fields : Fields) (call : Call) → IsRowOfCall format (text_at fields) call → call_in format fields ≡ Ok call
unfolding call_in
is_call format fields call h = rw (is_who fields call.who h.who, is_request format fields call.request h.request, is_claim fields call.claim h.claim) refl

-- a row of this kind that is read as a return is its row
return_is : (format : Format) (fields : Fields) (ret : Return) → text_at fields column.Kind ≡ codes "ret" → return_in format fields ≡ Ok ret
    → IsRowOfReturn format (text_at fields) ret
unfolding return_in
return_is format fields ret named e =
    let who = step_ok _ _ ret e in
    let service = field_ok _ _ _ ret who.2 in
    let unused = step_ok _ _ ret service.2 in
    let code = field_ok _ _ _ ret unused.2 in
    let val = field_ok _ _ _ ret code.2 in
    let bytes = field_ok _ _ _ ret val.2 in
    let unused_too = step_ok _ _ ret bytes.2 in
    let val2 = field_ok _ _ _ ret unused_too.2 in
    let val3 = field_ok _ _ _ ret val2.2 in
    let unused_last = field_ok _ _ _ ret val3.2 in
    let none = all_are_empty fields (columns_between column.Channel column.Woken) unused_too.1 in
    subst (IsRowOfReturn format (text_at fields))
    (same_ok (record { who = who.0; service = service.0; code = code.0; val = val.0; val2 = val2.0; val3 = val3.0; bytes = bytes.0 }) ret unused_last.2) (record {
      kind = named;
      who = who_is fields who.0 who.1;
      service = service_is format (text_at fields column.Service) service.0 service.1;
      code = code_is (text_at fields column.Outcome) code.0 code.1;
      val = maybe_signed_holds (text_at fields column.Value) val.0 val.1;
      val2 = maybe_signed_holds (text_at fields column.SecondValue) val2.0 val2.1;
      val3 = maybe_signed_holds (text_at fields column.ThirdValue) val3.0 val3.1;
      bytes = data_holds (text_at fields column.Data) bytes.0 bytes.1;
      unused = all_are_empty fields _ unused.1;
      unused_too = (none.0, (none.1.0, (empty_is (text_at fields column.Error) unused_last.1, tt)));
    })

-- the row of a return is read as the return
is_return : (format : Format) (fields : Fields) (ret : Return) → IsRowOfReturn format (text_at fields) ret → return_in format fields ≡ Ok ret
unfolding return_in
is_return format fields ret h =
    rw (
      is_who fields ret.who h.who,
      is_service format (text_at fields column.Service) ret.service h.service,
      are_empty_between fields column.FirstNumber column.Priority h.unused,
      is_code (text_at fields column.Outcome) ret.code h.code,
      holds_maybe_signed (text_at fields column.Value) ret.val h.val,
      holds_data (text_at fields column.Data) ret.bytes h.bytes,
      are_empty_between fields column.Channel column.Woken (h.unused_too.0, (h.unused_too.1.0, tt)),
      holds_maybe_signed (text_at fields column.SecondValue) ret.val2 h.val2,
      holds_maybe_signed (text_at fields column.ThirdValue) ret.val3 h.val3,
      h.unused_too.1.1.0,
    ) refl

-- a process of a dispatch that is read, or none, is what the row names
proc_is : (fields : Fields) (part : Option ℕ) (who : Option Who) → maybe_number GREATEST_PARTITION (text_at fields column.Partition) ≡ Ok part → proc_of part (text_at fields column.Process) ≡ Ok who
    → Dispatches (text_at fields) who
unfolding proc_of
proc_is fields None who p e =
    let unused = step_ok _ _ who e in
    subst (Dispatches (text_at fields)) (same_ok None who unused.2)
    (maybe_number_holds GREATEST_PARTITION (text_at fields column.Partition) None (omega arith) p, (empty_is (text_at fields column.Process) unused.1, tt))
proc_is fields (Some part) who p e =
    let proc = step_ok _ _ who e in
    subst (Dispatches (text_at fields)) (same_ok (Some (record { part = part; proc = proc.0 })) who proc.2)
    (record { part = maybe_number_holds GREATEST_PARTITION (text_at fields column.Partition) (Some part) (omega arith) p; proc = number_holds GREATEST_NUMBER (text_at fields column.Process) proc.0 (omega arith) proc.1 })

-- a row of this kind that is read as a dispatch is its row
dispatch_is : (fields : Fields) (who : Option Who) → text_at fields column.Kind ≡ codes "disp" → dispatch_in fields ≡ Ok who → IsRowOfDispatch (text_at fields) who
unfolding dispatch_in
dispatch_is fields who named e =
    let part = field_ok _ _ _ who e in
    let found = field_ok _ _ _ who part.2 in
    let unused = step_ok _ _ who found.2 in
    subst (IsRowOfDispatch (text_at fields)) (same_ok found.0 who unused.2) (record {
      kind = named;
      process = proc_is fields part.0 found.0 part.1 found.1;
      unused = all_are_empty fields _ unused.1;
    })

-- the row of a dispatch is read as the dispatch
is_dispatch : (fields : Fields) (who : Option Who) → IsRowOfDispatch (text_at fields) who → dispatch_in fields ≡ Ok who
unfolding dispatch_in proc_of
is_dispatch fields None h =
    rw (holds_maybe_number GREATEST_PARTITION (text_at fields column.Partition) None (omega arith) h.process.0, h.process.1.0, are_empty_between fields column.Service column.Error h.unused) refl
is_dispatch fields (Some who) h =
    rw (
      holds_maybe_number GREATEST_PARTITION (text_at fields column.Partition) (Some who.part) (omega arith) h.process.part,
      holds_number GREATEST_NUMBER (text_at fields column.Process) who.proc (omega arith) h.process.proc,
      are_empty_between fields column.Service column.Error h.unused,
    ) refl

-- a row of this kind that is read as a tick is its row
tick_is : (fields : Fields) (named : List Who) → text_at fields column.Kind ≡ codes "tick" → tick_in fields ≡ Ok named → IsRowOfTick (text_at fields) named
unfolding tick_in
tick_is fields named is e =
    let unused = step_ok _ _ named e in
    let woken = field_ok _ _ _ named unused.2 in
    let unused_too = step_ok _ _ named woken.2 in
    subst (IsRowOfTick (text_at fields)) (same_ok woken.0 named unused_too.2) (record {
      kind = is;
      woken = processes_hold (text_at fields column.Woken) woken.0 woken.1;
      unused = all_are_empty fields _ unused.1;
      unused_too = all_are_empty fields _ unused_too.1;
    })

-- the row of a tick is read as the tick
is_tick : (fields : Fields) (named : List Who) → IsRowOfTick (text_at fields) named → tick_in fields ≡ Ok named
unfolding tick_in
is_tick fields named h =
    rw (
      are_empty_between fields column.Partition column.Channel h.unused,
      hold_processes (text_at fields column.Woken) named h.woken,
      are_empty_between fields column.SecondValue column.Error h.unused_too,
    ) refl

-- empty fields, and more of them
more_empty : (texts others : List (List ℕ)) → AreEmpty texts → AreEmpty others → AreEmpty (texts ++ others)
more_empty [] others h k = k
more_empty (text ∷ texts) others h k = (h.0, more_empty texts others h.1 k)

-- the first of empty fields, and those after them
first_empty : (texts others : List (List ℕ)) → AreEmpty (texts ++ others) → AreEmpty texts
first_empty [] others h = tt
first_empty (text ∷ texts) others h = (h.0, first_empty texts others h.1)

later_empty : (texts others : List (List ℕ)) → AreEmpty (texts ++ others) → AreEmpty others
later_empty [] others h = h
later_empty (text ∷ texts) others h = later_empty texts others h.1

-- the texts of the columns from one to another
abbrev pub texts_between : Fields → Column → Column → List (List ℕ)
texts_between fields first last = map (text_at fields) (columns_between first last)

-- a row of this kind that is read as an arrival is its row
arrival_is : (fields : Fields) (crossing : Crossing) → text_at fields column.Kind ≡ codes "arrive" → arrival_in fields ≡ Ok crossing → IsRowOfArrival (text_at fields) crossing
unfolding arrival_in
arrival_is fields crossing named e =
    let unused = step_ok _ _ crossing e in
    let message = field_ok _ _ _ crossing unused.2 in
    let unused_too = step_ok _ _ crossing message.2 in
    let chan = field_ok _ _ _ crossing unused_too.2 in
    let woken = field_ok _ _ _ crossing chan.2 in
    let unused_last = step_ok _ _ crossing woken.2 in
    subst (IsRowOfArrival (text_at fields)) (same_ok (record { chan = chan.0; message = message.0; woken = woken.0 }) crossing unused_last.2) (record {
      kind = named;
      message = passing_holds (text_at fields column.Message) message.0 message.1;
      chan = number_holds GREATEST_CHANNEL (text_at fields column.Channel) chan.0 (omega arith) chan.1;
      woken = processes_hold (text_at fields column.Woken) woken.0 woken.1;
      unused = more_empty (texts_between fields column.Partition column.Name) (texts_between fields column.Priority column.Data ++ texts_between fields column.SecondValue column.Error)
          (all_are_empty fields _ unused.1) (more_empty (texts_between fields column.Priority column.Data) (texts_between fields column.SecondValue column.Error)
          (all_are_empty fields _ unused_too.1) (all_are_empty fields _ unused_last.1));
    })

-- the row of an arrival is read as the arrival
is_arrival : (fields : Fields) (crossing : Crossing) → IsRowOfArrival (text_at fields) crossing → arrival_in fields ≡ Ok crossing
unfolding arrival_in
is_arrival fields crossing h =
    let front = texts_between fields column.Partition column.Name in
    let middle = texts_between fields column.Priority column.Data in
    let back = texts_between fields column.SecondValue column.Error in
    let unused : AreEmpty (front ++ (middle ++ back)) = h.unused in
    let after = later_empty front (middle ++ back) unused in
    rw (
      are_empty_between fields column.Partition column.Name (first_empty front (middle ++ back) unused),
      holds_passing (text_at fields column.Message) crossing.message h.message,
      are_empty_between fields column.Priority column.Data (first_empty middle back after),
      holds_number GREATEST_CHANNEL (text_at fields column.Channel) crossing.chan (omega arith) h.chan,
      hold_processes (text_at fields column.Woken) crossing.woken h.woken,
      are_empty_between fields column.SecondValue column.Error (later_empty middle back after),
    ) refl

-- a row of this kind that is read as a departure is its row
departure_is : (fields : Fields) (crossing : Crossing) → text_at fields column.Kind ≡ codes "depart" → departure_in fields ≡ Ok crossing → IsRowOfDeparture (text_at fields) crossing
unfolding departure_in
departure_is fields crossing named e =
    let unused = step_ok _ _ crossing e in
    let message = field_ok _ _ _ crossing unused.2 in
    let chan = field_ok _ _ _ crossing message.2 in
    let woken = field_ok _ _ _ crossing chan.2 in
    let unused_last = step_ok _ _ crossing woken.2 in
    subst (IsRowOfDeparture (text_at fields)) (same_ok (record { chan = chan.0; message = message.0; woken = woken.0 }) crossing unused_last.2) (record {
      kind = named;
      message = passing_holds (text_at fields column.Data) message.0 message.1;
      chan = number_holds GREATEST_CHANNEL (text_at fields column.Channel) chan.0 (omega arith) chan.1;
      woken = processes_hold (text_at fields column.Woken) woken.0 woken.1;
      unused = more_empty (texts_between fields column.Partition column.Value) (texts_between fields column.SecondValue column.Error)
          (all_are_empty fields _ unused.1) (all_are_empty fields _ unused_last.1);
    })

-- the row of a departure is read as the departure
is_departure : (fields : Fields) (crossing : Crossing) → IsRowOfDeparture (text_at fields) crossing → departure_in fields ≡ Ok crossing
unfolding departure_in
is_departure fields crossing h =
    let front = texts_between fields column.Partition column.Value in
    let back = texts_between fields column.SecondValue column.Error in
    let unused : AreEmpty (front ++ back) = h.unused in
    rw (
      are_empty_between fields column.Partition column.Value (first_empty front back unused),
      holds_passing (text_at fields column.Data) crossing.message h.message,
      holds_number GREATEST_CHANNEL (text_at fields column.Channel) crossing.chan (omega arith) h.chan,
      hold_processes (text_at fields column.Woken) crossing.woken h.woken,
      are_empty_between fields column.SecondValue column.Error (later_empty front back unused),
    ) refl

-- a row of this kind that is read as an error is its row
report_is : (fields : Fields) (report : ErrorReport) → text_at fields column.Kind ≡ codes "err" → error_in fields ≡ Ok report → IsRowOfError (text_at fields) report
unfolding error_in
report_is fields report named e =
    let who = step_ok _ _ report e in
    let unused = step_ok _ _ report who.2 in
    let restarts = field_ok _ _ _ report unused.2 in
    let unused_too = step_ok _ _ report restarts.2 in
    let error = field_ok _ _ _ report unused_too.2 in
    subst (IsRowOfError (text_at fields)) (same_ok (record { who = who.0; error = error.0; restarts = restarts.0 }) report error.2) (record {
      kind = named;
      who = who_is fields who.0 who.1;
      restarts = restart_is (text_at fields column.Outcome) restarts.0 restarts.1;
      error = (error_is (text_at fields column.Error) error.0 error.1).0;
      reported = (error_is (text_at fields column.Error) error.0 error.1).1;
      unused = all_are_empty fields _ unused.1;
      unused_too = all_are_empty fields _ unused_too.1;
    })

-- the row of an error is read as the error
is_report : (fields : Fields) (report : ErrorReport) → IsRowOfError (text_at fields) report → error_in fields ≡ Ok report
unfolding error_in
is_report fields report h =
    rw (
      is_who fields report.who h.who,
      are_empty_between fields column.Service column.Priority h.unused,
      is_restart (text_at fields column.Outcome) report.restarts h.restarts,
      are_empty_between fields column.Value column.ThirdValue h.unused_too,
      is_error (text_at fields column.Error) report.error (h.error, h.reported),
    ) refl

-- the kind of the row of something recorded
abbrev pub kind_recorded : Body → Kind
kind_recorded (body.Call call) = kind.Call
kind_recorded (body.Ret ret) = kind.Ret
kind_recorded (body.Disp who) = kind.Disp
kind_recorded (body.Tick woken) = kind.Tick
kind_recorded (body.Arrive crossing) = kind.Arrive
kind_recorded (body.Depart crossing) = kind.Depart
kind_recorded (body.Error report) = kind.Error

-- what is made of a value that was read is of the kind that all that is made has
made_of_kind : {A : Type 0} (read : Result A Misread) (made : A → Body) (k : Kind) (b : Body) → ((x : A) → kind_recorded (made x) ≡ k)
    → (read >>= (λ x. Ok (made x))) ≡ Ok b → kind_recorded b ≡ k
made_of_kind (Ok x) made k b each e = subst (λ other. kind_recorded other ≡ k) (same_ok (made x) b e) (each x)
made_of_kind (Err fault) made k b each e = no_fault fault b e

-- a row of a kind is read as something recorded in such a row
kind_kept : (which : Format) (fields : Fields) (k : Kind) (b : Body) → body_in which k fields ≡ Ok b → kind_recorded b ≡ k
unfolding body_in
kind_kept which fields kind.Call b e = made_of_kind (call_in which fields) body.Call kind.Call b (λ call. refl) e
kind_kept which fields kind.Ret b e = made_of_kind (return_in which fields) body.Ret kind.Ret b (λ ret. refl) e
kind_kept which fields kind.Disp b e = made_of_kind (dispatch_in fields) body.Disp kind.Disp b (λ who. refl) e
kind_kept which fields kind.Tick b e = made_of_kind (tick_in fields) body.Tick kind.Tick b (λ woken. refl) e
kind_kept which fields kind.Arrive b e = made_of_kind (arrival_in fields) body.Arrive kind.Arrive b (λ crossing. refl) e
kind_kept which fields kind.Depart b e = made_of_kind (departure_in fields) body.Depart kind.Depart b (λ crossing. refl) e
kind_kept which fields kind.Error b e = made_of_kind (error_in fields) body.Error kind.Error b (λ report. refl) e

-- a format that has the kind of a record has the rows of it
has_rows : (which : Format) (b : Body) → IsTrue (has_kind which (kind_recorded b)) → HasRowsOf which b
has_rows format.Three b known = tt
has_rows format.One (body.Call call) known = tt
has_rows format.One (body.Ret ret) known = tt
has_rows format.One (body.Disp who) known = tt
has_rows format.One (body.Tick woken) known = tt
has_rows format.One (body.Arrive crossing) known = absurd (let f : false ≡ true = known in cc)
has_rows format.One (body.Depart crossing) known = absurd (let f : false ≡ true = known in cc)
has_rows format.One (body.Error report) known = absurd (let f : false ≡ true = known in cc)
has_rows format.Two (body.Call call) known = tt
has_rows format.Two (body.Ret ret) known = tt
has_rows format.Two (body.Disp who) known = tt
has_rows format.Two (body.Tick woken) known = tt
has_rows format.Two (body.Arrive crossing) known = absurd (let f : false ≡ true = known in cc)
has_rows format.Two (body.Depart crossing) known = absurd (let f : false ≡ true = known in cc)
has_rows format.Two (body.Error report) known = absurd (let f : false ≡ true = known in cc)

-- a format that has the rows of a record has the kind of it
rows_had : (which : Format) (b : Body) → HasRowsOf which b → IsTrue (has_kind which (kind_recorded b))
rows_had format.Three (body.Call call) has = refl
rows_had format.Three (body.Ret ret) has = refl
rows_had format.Three (body.Disp who) has = refl
rows_had format.Three (body.Tick woken) has = refl
rows_had format.Three (body.Arrive crossing) has = refl
rows_had format.Three (body.Depart crossing) has = refl
rows_had format.Three (body.Error report) has = refl
rows_had format.One (body.Call call) has = refl
rows_had format.One (body.Ret ret) has = refl
rows_had format.One (body.Disp who) has = refl
rows_had format.One (body.Tick woken) has = refl
rows_had format.One (body.Arrive crossing) has = absurd has
rows_had format.One (body.Depart crossing) has = absurd has
rows_had format.One (body.Error report) has = absurd has
rows_had format.Two (body.Call call) has = refl
rows_had format.Two (body.Ret ret) has = refl
rows_had format.Two (body.Disp who) has = refl
rows_had format.Two (body.Tick woken) has = refl
rows_had format.Two (body.Arrive crossing) has = absurd has
rows_had format.Two (body.Depart crossing) has = absurd has
rows_had format.Two (body.Error report) has = absurd has

-- a row of a kind that is read as something recorded is its row
body_is : (format : Format) (fields : Fields) (k : Kind) (b : Body) → text_at fields column.Kind ≡ kind_name k → body_in format k fields ≡ Ok b → IsRowOf format (text_at fields) b
unfolding body_in
body_is format fields kind.Call b named e =
    let call = step_ok _ _ b e in subst (IsRowOf format (text_at fields)) (same_ok (body.Call call.0) b call.2) (call_is format fields call.0 named call.1)
body_is format fields kind.Ret b named e =
    let ret = step_ok _ _ b e in subst (IsRowOf format (text_at fields)) (same_ok (body.Ret ret.0) b ret.2) (return_is format fields ret.0 named ret.1)
body_is format fields kind.Disp b named e =
    let who = step_ok _ _ b e in subst (IsRowOf format (text_at fields)) (same_ok (body.Disp who.0) b who.2) (dispatch_is fields who.0 named who.1)
body_is format fields kind.Tick b named e =
    let woken = step_ok _ _ b e in subst (IsRowOf format (text_at fields)) (same_ok (body.Tick woken.0) b woken.2) (tick_is fields woken.0 named woken.1)
body_is format fields kind.Arrive b named e =
    let crossing = step_ok _ _ b e in subst (IsRowOf format (text_at fields)) (same_ok (body.Arrive crossing.0) b crossing.2) (arrival_is fields crossing.0 named crossing.1)
body_is format fields kind.Depart b named e =
    let crossing = step_ok _ _ b e in subst (IsRowOf format (text_at fields)) (same_ok (body.Depart crossing.0) b crossing.2) (departure_is fields crossing.0 named crossing.1)
body_is format fields kind.Error b named e =
    let report = step_ok _ _ b e in subst (IsRowOf format (text_at fields)) (same_ok (body.Error report.0) b report.2) (report_is fields report.0 named report.1)

-- the row of something recorded names its kind, and is read as a row of that kind
is_body : (format : Format) (fields : Fields) (b : Body) → IsRowOf format (text_at fields) b
    → (text_at fields column.Kind ≡ kind_name (kind_recorded b)) × (body_in format (kind_recorded b) fields ≡ Ok b)
unfolding body_in
is_body format fields (body.Call call) h = (h.kind, rw (is_call format fields call h) refl)
is_body format fields (body.Ret ret) h = (h.kind, rw (is_return format fields ret h) refl)
is_body format fields (body.Disp who) h = (h.kind, rw (is_dispatch fields who h) refl)
is_body format fields (body.Tick named) h = (h.kind, rw (is_tick fields named h) refl)
is_body format fields (body.Arrive crossing) h = (h.kind, rw (is_arrival fields crossing h) refl)
is_body format fields (body.Depart crossing) h = (h.kind, rw (is_departure fields crossing h) refl)
is_body format fields (body.Error report) h = (h.kind, rw (is_report fields report h) refl)

-- a test that let a value through
test_then : {A Fault : Type 0} (test : Bool) (fault : Fault) (read : Result A Fault) (y : A) → (if test then read else Err fault) ≡ Ok y → (test ≡ true) × (read ≡ Ok y)
test_then true fault read y e = (refl, e)
test_then false fault read y e = no_fault fault y e

-- a row that is read as a record is its row
row_is : (format : Format) (next : ℕ) (fields : Fields) (rec : Record) → row_in format next fields ≡ Ok rec → IsRow format next fields rec
unfolding row_in
row_is format next fields rec e =
    let small : pred MOST_RECORDS < 2 ^ 64 = omega arith in
    let room = test_then (nat_lt next MOST_RECORDS) (no_field TooMany) _ rec e in
    let count = test_then (length fields == field_count format) (no_field FieldCount) _ rec room.1 in
    let given = field_ok _ _ _ rec count.1 in
    let seq = field_ok _ _ _ rec given.2 in
    let k = field_ok _ _ _ rec seq.2 in
    let found = step_ok _ _ rec k.2 in
    let test = test_ok (nat_eq given.0 next) SeqGap given.0 seq.0 seq.1 in
    let number = number_holds (pred MOST_RECORDS) (text_at fields column.Sequence) given.0 small given.1 in
    let bound : given.0 ≤ pred MOST_RECORDS = number.bound in
    let held = kind_is format (text_at fields column.Kind) k.0 k.1 in
    let known : IsTrue (has_kind format (kind_recorded found.0)) = subst (λ other. IsTrue (has_kind format other)) (sym (kind_kept format fields k.0 found.0 found.1)) held.in_format in
    subst (IsRow format next fields) (same_ok (record { seq = seq.0; body = found.0 }) rec found.2) (record {
      count = eqb-true (length fields) (field_count format) count.0;
      number = sym test.1 ∙ eqb-true given.0 next test.0;
      bound = subst (λ n. n < MOST_RECORDS) test.1 (omega arith);
      seq = number.written ∙ ap decimal test.1;
      has = has_rows format found.0 known;
      body = body_is format fields k.0 found.0 held.named found.1;
    })

-- the row of a record is read as the record
is_row : (format : Format) (next : ℕ) (fields : Fields) (rec : Record) → IsRow format next fields rec → row_in format next fields ≡ Ok rec
unfolding row_in
is_row format next fields rec h =
    let b = is_body format fields rec.body h.body in
    let bound : rec.seq < MOST_RECORDS = h.bound in
    let seq : HoldsNumber (pred MOST_RECORDS) (text_at fields column.Sequence) rec.seq = record { written = h.seq; bound = omega arith } in
    rw (
      lt-ltb next MOST_RECORDS (subst (λ n. n < MOST_RECORDS) h.number h.bound),
      eq-eqb (length fields) (field_count format) h.count,
      holds_number (pred MOST_RECORDS) (text_at fields column.Sequence) rec.seq (omega arith) seq,
      eq-eqb rec.seq next h.number,
      is_kind format (text_at fields column.Kind) (kind_recorded rec.body) (record { named = b.0; in_format = rows_had format rec.body h.has }),
      b.1,
    ) refl

-- a value, whatever is said of faults
value_only : {A : Type 0} (read : Result A Misread) (x : A) → fault_only read ≡ Ok x → read ≡ Ok x
value_only (Ok y) x e = ap Ok (same_ok y x e)
value_only (Err misread) x e = no_fault misread.fault x e

-- a row is read as a record exactly if it is the record's row
pub rows_are_the_grammar : RowsAreTheGrammar
unfolding record_of
rows_are_the_grammar format next fields rec = (
  (λ e. row_is format next fields rec (value_only (row_in format next fields) rec e)),
  (λ h. ap fault_only (is_row format next fields rec h)),
)

-- so a row is the row of at most one record
pub one_record_of_a_row : OneRecordOfARow
one_record_of_a_row format next fields rec other h k =
    let first : row_in format next fields ≡ Ok rec = is_row format next fields rec h in
    same_ok rec other (sym first ∙ is_row format next fields other k)
