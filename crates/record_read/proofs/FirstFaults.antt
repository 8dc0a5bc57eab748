-- A row that is no record is read with the fault of its first faulty field.
use Rattle.std.proofs.Common.{◌≡◌, ◌^◌, ◌<◌, ◌∙◌, ◌≤◌, ℕ, ℤ, pos, List, [], ◌∷◌, Bool, true, false, Option, Some, None, Result, Ok, Err, length, refl, sym, ap, subst, inl, inr, nat_le, nat_lt, nat_eq, arith, if◌then◌else◌, ◌==◌}
use Rattle.std.specs.Prelude.{negsuc, ◌≢◌, ◌-◌, IfErr, IsOkAnd}
use Rattle.std.specs.Option.{ok_or, unwrap_or}
use Rattle.std.proofs.lemmas.Bool.{eqb-true, eqb-false, le-leb, leb-true, ltb-true, ltb-false}
use Rattle.hex.specs.Hex.{decode_of}
use Rattle.hex.specs.declared.error.FromHexError.{FromHexError}
use Rattle.csv_rows.specs.Decimal.{decimal, signed_decimal}
use Rattle.csv_rows.specs.Stream.{Fields}
use Rattle.apex_types.specs.declared.limits.TheConstants.{GREATEST_CHANNEL, GREATEST_NUMBER, GREATEST_PARTITION, GREATEST_PRIORITY, LONGEST_MESSAGE, MOST_RECORDS}
use Rattle.apex_types.specs.declared.record.Record.{Record}
use Rattle.apex_types.specs.declared.service.Numbers.{Numbers}
use Rattle.apex_types.specs.declared.service.Presence.{Presence}
use Rattle.apex_types.specs.declared.service.Presence.TheVariants as presence
use Rattle.apex_types.specs.declared.service.Service.{Service}
use Rattle.record_read.specs.Column.{columns_between}
use Rattle.record_read.specs.declared.column.Column.{Column}
use Rattle.record_read.specs.declared.column.Column.TheVariants as column
use Rattle.record_read.specs.declared.fault.RowFault.{RowFault}
use Rattle.record_read.specs.declared.fault.RowFault.TheVariants.{BadHex, BadKind, BadLength, BadName, BadNumber, BadOut, BadService, BadWoken, FieldCount, FieldNotForKind, Memory, SeqGap, TooMany, BadError}
use Rattle.record_read.specs.declared.misread.Misread.{Misread}
use Rattle.apex_types.specs.declared.format.Format.{Format}
use Rattle.apex_types.specs.declared.format.Format.TheVariants as format
use Rattle.record_read.specs.declared.kind.Kind.{Kind}
use Rattle.record_read.specs.declared.kind.Kind.TheVariants as kind
use Rattle.apex_types.specs.Services.{arguments_of}
use Rattle.record_read.specs.Field.{all_empty, argument, empty, filled, maybe, maybe_argument, maybe_number, maybe_signed, number, signed, text_at}
use Rattle.record_read.specs.FirstFault.{ArgumentFault, ArrivalFault, At, CallFault, ClaimFault, DepartureFault, DispatchFault, DispatchedFault, FaultOf, HoldsCode, HoldsKind, HoldsNone, IsMisread, MayHoldNumber, MessageFault, MustAllBeEmpty, MustBeBytes, MustBeEmpty, MustBeGiven, MustBeMessageIf, MustHold, MustHoldIf, MustHoldNumber, NameFault, OtherNumber, ProcessFault, RequestFault, ReturnFault, SentFault, TickFault, ◌or_else◌, ErrorFault, HoldsError}
use Rattle.apex_types.specs.Format.{field_count}
use Rattle.record_read.specs.Grammar.{GoesWith, HoldsName, HoldsNumber, HoldsOutcome, HoldsProcesses, HoldsService, HoldsSigned, MayHold, Row, HoldsRestart}
use Rattle.record_read.specs.GrammarLaws.{FaultsAreOfRows, FirstFaultsDecide}
use Rattle.record_read.specs.Memory.{NeedsMemory}
use Rattle.record_read.specs.Named.{code_named, code_of, kind_in, kind_of, out_named, out_of, service_in, service_of, error_named, error_of, restart_of}
use Rattle.record_read.specs.Payload.{from_hex, goes_with, maybe_message, message_in, message_of, name_in, name_of, required_message}
use Rattle.record_read.specs.Row.{arrival_in, body_in, call_in, claim_in, departure_in, dispatch_in, proc_of, record_of, request_in, return_in, row_in, tick_in, who_in, error_in}
use Rattle.record_read.specs.Steps.{◌>>=◌, IsOfRow, Refuses, RefusesAt, fault_only, located, misread_at, no_field}
use Rattle.record_read.specs.Woken.{woken_of}
use Rattle.record_read.proofs.GrammarFields.{argument_holds, holds_argument, holds_number, holds_signed, maybe_number_holds, number_holds, same_ok, signed_holds, no_fault}
use Rattle.record_read.proofs.GrammarLists.{hold_processes, processes_hold}
use Rattle.record_read.proofs.GrammarNames.{code_is, is_code, is_kind, is_outcome, is_service, kind_is, outcome_is, service_is, error_is, is_error, is_restart, restart_is}
use Rattle.record_read.proofs.GrammarTexts.{holds_name, length_decides, name_holds}

-- a step has a fault exactly if a relation says so, and one that it may have
pub record FailsAs {A E : Type 0} (May : E → Type 0) (read : Result A E) (Fault : E → Type 0) : Type 0 where
  pub to : (e : E) → read ≡ Err e → Fault e
  pub from : (e : E) → Fault e → read ≡ Err e
  pub own : (e : E) → read ≡ Err e → May e

-- a text has a fault exactly if a relation says so, and one that the text of a row can have
abbrev pub Fails : {A : Type 0} → Result A RowFault → (RowFault → Type 0) → Type 0
Fails read Fault = FailsAs IsOfRow read Fault

-- the same of a row, of which the fault has a column
abbrev pub HasRowFault : Misread → Type 0
HasRowFault misread = IsOfRow misread.fault

abbrev pub FailsAt : {A : Type 0} → Result A Misread → (Misread → Type 0) → Type 0
FailsAt read Fault = FailsAs HasRowFault read Fault

-- one fault is given
same_err : {A E : Type 0} (e f : E) → ◌≡◌ {A = Result A E} (Err e) (Err f) → e ≡ f
same_err e f same = cc

-- a value is no fault
no_value : {A E : Type 0} {Goal : Type 0} (x : A) (e : E) → ◌≡◌ {A = Result A E} (Ok x) (Err e) → Goal
no_value {A} {E} x e same = absurd (let f : ◌≡◌ {A = Result A E} (Ok x) (Err e) = same in cc)

-- a value, if there is no fault
value_fails : {A E : Type 0} {May Fault : E → Type 0} (x : A) → ((e : E) → ¬ Fault e) → FailsAs May (Ok x) Fault
value_fails x none = record { to = λ e same. no_value x e same; from = λ e fault. absurd (none e fault); own = λ e same. no_value x e same }

-- a fault, if it is the only one
fault_fails : {A E : Type 0} {May Fault : E → Type 0} (bad : E) → May bad → Fault bad → ((e : E) → Fault e → bad ≡ e) → FailsAs {A = A} May (Err bad) Fault
fault_fails {May = May} {Fault = Fault} bad own is only = record {
  to = λ e same. subst Fault (same_err bad e same) is;
  from = λ e fault. ap Err (only e fault);
  own = λ e same. subst May (same_err bad e same) own;
}

-- the same faults, said in another way
fails_also : {A E : Type 0} {May : E → Type 0} {read : Result A E} {Fault : E → Type 0} (Other : E → Type 0) → FailsAs May read Fault
    → ((e : E) → Fault e → Other e) → ((e : E) → Other e → Fault e) → FailsAs May read Other
fails_also Other fails to from = record { to = λ e same. to e (fails.to e same); from = λ e fault. fails.from e (from e fault); own = fails.own }

-- a fault and the field that has it, by their parts
same_misread : (bad other : RowFault) (there elsewhere : Option Column) → bad ≡ other → there ≡ elsewhere
    → ◌≡◌ {A = Misread} (record { fault = bad; column = there }) (record { fault = other; column = elsewhere })
same_misread bad other there elsewhere one same = rw (one, same) refl

-- the field of a column, by its text
in_field : {A : Type 0} (here : Column) (read : Result A RowFault) (Faulty : List ℕ → RowFault → Type 0) (row : Row) → Fails read (Faulty (row here))
    → FailsAt (located here read) (At here Faulty row)
in_field here (Ok x) Faulty row fails = value_fails x (λ misread fault. no_value x misread.fault (fails.from misread.fault fault.faulty))
in_field here (Err bad) Faulty row fails = fault_fails (misread_at here bad) (fails.own bad refl) (record { faulty = fails.to bad refl; there = refl }) only
  where
    only : (misread : Misread) → At here Faulty row misread → misread_at here bad ≡ misread
    only misread fault =
        same_misread bad misread.fault (Some here) misread.column (same_err bad misread.fault (fails.from misread.fault fault.faulty)) (sym fault.there)

-- other faults after one that there is not
fails_after : {A : Type 0} {read : Result A Misread} {Others : Misread → Type 0} (First : Misread → Type 0) → FailsAt read Others
    → ((e : Misread) → ¬ First e) → FailsAt read (First or_else Others)
fails_after {Others = Others} First others none = fails_also (First or_else Others) others (λ e fault. inr (none, fault)) later
  where
    later : (e : Misread) → (First or_else Others) e → Others e
    later e (inl fault) = absurd (none e fault)
    later e (inr fault) = fault.1

-- a step, and the steps after it
step : {A B : Type 0} (read : Result A Misread) (more : A → Result B Misread) (First Others : Misread → Type 0)
    → FailsAt read First → ((x : A) → read ≡ Ok x → FailsAt (more x) Others) → FailsAt (read >>= more) (First or_else Others)
step (Ok x) more First Others first others = fails_after First (others x refl) (λ e fault. no_value x e (first.from e fault))
step (Err f) more First Others first others = fault_fails f (first.own f refl) (inl (first.to f refl)) only
  where
    only : (e : Misread) → (First or_else Others) e → f ≡ e
    only e (inl fault) = same_err f e (first.from e fault)
    only e (inr fault) = absurd (fault.0 f (first.to f refl))

-- a field gives the value of its text
located_value : {A : Type 0} (here : Column) (read : Result A RowFault) (x : A) → located here read ≡ Ok x → read ≡ Ok x
located_value here (Ok y) x is = ap Ok (same_ok y x is)
located_value here (Err bad) x is = no_fault (misread_at here bad) x is

-- a step that reads a field, and the steps after it
field_step : {A B : Type 0} (here : Column) (read : Result A RowFault) (more : A → Result B Misread) (Faulty : List ℕ → RowFault → Type 0) (row : Row) (Others : Misread → Type 0)
    → Fails read (Faulty (row here)) → ((x : A) → read ≡ Ok x → FailsAt (more x) Others) → FailsAt (located here read >>= more) (At here Faulty row or_else Others)
field_step here read more Faulty row Others first others =
    step (located here read) more (At here Faulty row) Others (in_field here read Faulty row first) (λ x is. others x (located_value here read x is))

-- the last step
last_step : {A B E : Type 0} {May : E → Type 0} (read : Result A E) (made : A → B) (First : E → Type 0) → FailsAs May read First
    → FailsAs May (read >>= (λ x. Ok (made x))) First
last_step (Ok x) made First first = value_fails (made x) (λ e fault. no_value x e (first.from e fault))
last_step (Err f) made First first = fault_fails f (first.own f refl) (first.to f refl) (λ e fault. same_err f e (first.from e fault))

-- the last field
last_field : {A B : Type 0} (here : Column) (read : Result A RowFault) (made : A → B) (Faulty : List ℕ → RowFault → Type 0) (row : Row)
    → Fails read (Faulty (row here)) → FailsAt (located here read >>= (λ x. Ok (made x))) (At here Faulty row)
last_field here read made Faulty row first = last_step (located here read) made (At here Faulty row) (in_field here read Faulty row first)

-- a step of which every fault is the same one, and which gives what the field holds
none_held : {A : Type 0} (read : Result A RowFault) (bad : RowFault) (Holds : List ℕ → A → Type 0) (text : List ℕ) → IsOfRow bad
    → ((e : RowFault) → read ≡ Err e → e ≡ bad) → ((x : A) → read ≡ Ok x → Holds text x) → ((x : A) → Holds text x → read ≡ Ok x)
    → Fails read (HoldsNone bad Holds text)
none_held (Ok x) bad Holds text own only holds held = value_fails x (λ e fault. fault.0 x (holds x refl))
none_held (Err f) bad Holds text own only holds held =
    fault_fails f (subst IsOfRow (sym (only f refl)) own) ((λ x h. no_fault f x (held x h)), only f refl) (λ e fault. only f refl ∙ sym fault.1)

-- the same if an empty field has a fault of its own
must_hold : {A : Type 0} (read : List ℕ → Result A RowFault) (bad : RowFault) (Holds : List ℕ → A → Type 0) (text : List ℕ) → IsOfRow bad → read [] ≡ Err FieldNotForKind
    → ((b : ℕ) (bs : List ℕ) (e : RowFault) → read (b ∷ bs) ≡ Err e → e ≡ bad) → ((x : A) → read text ≡ Ok x → Holds text x) → ((x : A) → Holds text x → read text ≡ Ok x)
    → Fails (read text) (MustHold bad Holds text)
must_hold read bad Holds [] own none only holds held = rw none (fault_fails FieldNotForKind tt (inl (refl, refl)) empty)
  where
    empty : (e : RowFault) → MustHold bad Holds [] e → FieldNotForKind ≡ e
    empty e (inl fault) = sym fault.1
    empty e (inr fault) = absurd (fault.0 refl)
must_hold read bad Holds (b ∷ bs) own none only holds held =
    fails_also (MustHold bad Holds (b ∷ bs)) (none_held (read (b ∷ bs)) bad Holds (b ∷ bs) own (only b bs) holds held) (λ e fault. inr ((λ empty. cc), fault)) filled
  where
    filled : (e : RowFault) → MustHold bad Holds (b ∷ bs) e → HoldsNone bad Holds (b ∷ bs) e
    filled e (inl fault) = absurd (let f : b ∷ bs ≡ [] = fault.0 in cc)
    filled e (inr fault) = fault.1

-- the same if the field may be left out
maybe_fails : {A : Type 0} (read : List ℕ → Result A RowFault) (bad : RowFault) (Holds : List ℕ → A → Type 0) (text : List ℕ)
    → Fails (read text) (MustHold bad Holds text) → Fails (maybe (read text) text) (HoldsNone bad (MayHold Holds) text)
unfolding maybe
maybe_fails read bad Holds [] fails = value_fails None (λ e fault. fault.0 None refl)
maybe_fails {A = A} read bad Holds (b ∷ bs) fails =
    fails_also (HoldsNone bad (MayHold Holds) (b ∷ bs)) (last_step (read (b ∷ bs)) Some (MustHold bad Holds (b ∷ bs)) fails) held
    (λ e fault. inr ((λ empty. cc), ((λ x h. fault.0 (Some x) h), fault.1)))
  where
    none : (e : RowFault) → HoldsNone bad Holds (b ∷ bs) e → (o : Option A) → ¬ MayHold Holds (b ∷ bs) o
    none e fault None h = let f : b ∷ bs ≡ [] = h in cc
    none e fault (Some x) h = fault.0 x h

    held : (e : RowFault) → MustHold bad Holds (b ∷ bs) e → HoldsNone bad (MayHold Holds) (b ∷ bs) e
    held e (inl fault) = absurd (let f : b ∷ bs ≡ [] = fault.0 in cc)
    held e (inr fault) = (none e fault.1, fault.1.1)

-- the fault of a missing value is this one
or_bad : {A : Type 0} (found : Option A) (bad e : RowFault) → ok_or found bad ≡ Err e → e ≡ bad
or_bad (Some x) bad e same = no_value x e same
or_bad None bad e same = sym (same_err bad e same)

-- a test's fault
test_bad : {A : Type 0} (test : Bool) (x : A) (bad e : RowFault) → (if test then Ok x else Err bad) ≡ Err e → e ≡ bad
test_bad true x bad e same = no_value x e same
test_bad false x bad e same = sym (same_err bad e same)

number_fails : (greatest : ℕ) (text : List ℕ) → greatest < 2 ^ 64 → Fails (number greatest text) (MustHold BadNumber (HoldsNumber greatest) text)
unfolding number filled
number_fails greatest text room =
    must_hold (number greatest) BadNumber (HoldsNumber greatest) text tt refl (λ b bs e same. or_bad (decimal greatest (b ∷ bs)) BadNumber e same)
    (λ n. number_holds greatest text n room) (λ n. holds_number greatest text n room)

signed_fails : (text : List ℕ) → Fails (signed text) (MustHold BadNumber HoldsSigned text)
unfolding signed filled
signed_fails text =
    must_hold signed BadNumber HoldsSigned text tt refl (λ b bs e same. or_bad (signed_decimal (b ∷ bs)) BadNumber e same) (signed_holds text) (holds_signed text)

maybe_number_fails : (greatest : ℕ) (text : List ℕ) → greatest < 2 ^ 64 → Fails (maybe_number greatest text) (HoldsNone BadNumber (MayHold (HoldsNumber greatest)) text)
unfolding maybe_number
maybe_number_fails greatest text room = maybe_fails (number greatest) BadNumber (HoldsNumber greatest) text (number_fails greatest text room)

maybe_signed_fails : (text : List ℕ) → Fails (maybe_signed text) (HoldsNone BadNumber (MayHold HoldsSigned) text)
unfolding maybe_signed
maybe_signed_fails text = maybe_fails signed BadNumber HoldsSigned text (signed_fails text)

-- a field that must be empty
empty_fails : (text : List ℕ) → Fails (empty text) (MustBeEmpty text)
empty_fails [] = value_fails tt (λ e fault. fault.0 refl)
empty_fails (b ∷ bs) = fault_fails FieldNotForKind tt ((λ none. let f : b ∷ bs ≡ [] = none in cc), refl) (λ e fault. sym fault.1)

-- fields that must be empty
all_empty_fail : (fields : Fields) (columns : List Column) → FailsAt (all_empty fields columns) (MustAllBeEmpty columns (text_at fields))
unfolding all_empty
all_empty_fail fields [] = value_fails tt (λ e fault. fault)
all_empty_fail fields (first ∷ others) =
    fails_also (MustAllBeEmpty (first ∷ others) (text_at fields))
    (field_step first (empty (text_at fields first)) (λ u. all_empty fields others) MustBeEmpty (text_at fields) (MustAllBeEmpty others (text_at fields))
    (empty_fails (text_at fields first)) (λ u is. all_empty_fail fields others))
    (λ e fault. fault) (λ e fault. fault)

-- a field that must be empty, in place of which a value is given
unused_fails : {A : Type 0} (text : List ℕ) (unused : A) → Fails (empty text >>= (λ u. Ok unused)) (MustBeEmpty text)
unused_fails text unused = last_step (empty text) (λ u. unused) (MustBeEmpty text) (empty_fails text)

-- an argument that may be left out, in a recording of this format
maybe_argument_fails : (which : Format) (text : List ℕ) → Fails (maybe_argument which text) (MayHoldNumber which text)
unfolding maybe_argument
maybe_argument_fails format.One text = unused_fails text (negsuc 0)
maybe_argument_fails format.Two text = unused_fails text (negsuc 0)
maybe_argument_fails format.Three text =
    last_step (maybe_signed text) (λ found. unwrap_or found (negsuc 0)) (HoldsNone BadNumber (MayHold HoldsSigned) text) (maybe_signed_fails text)

argument_fails : (which : Format) (taken : Presence) (text : List ℕ) → Fails (argument which taken text) (MustHoldNumber which taken text)
unfolding argument
argument_fails which presence.Required text = signed_fails text
argument_fails which presence.Absent text = unused_fails text (pos 0)
argument_fails which presence.Optional text = maybe_argument_fails which text

name_fails : (taken : Bool) (text : List ℕ) → Fails (name_in taken text) (MustHoldIf taken BadName HoldsName text)
unfolding name_in name_of
name_fails true text =
    must_hold (name_in true) BadName HoldsName text tt refl (λ b bs e same. test_bad _ (b ∷ bs) BadName e same) (name_holds true text) (holds_name true text)
name_fails false text = unused_fails text []

-- bytes in hexadecimal, of which a test takes some
bytes_fail : (decoded : Result (List ℕ) FromHexError) (test : ℕ → Bool) (MayBe : ℕ → Type 0) (text : List ℕ) → decode_of text ≡ decoded
    → ((count : ℕ) → test count ≡ true → MayBe count) → ((count : ℕ) → MayBe count → test count ≡ true)
    → Fails (from_hex decoded >>= (λ bytes. if test (length bytes) then Ok bytes else Err BadLength)) (MustBeBytes MayBe text)
bytes_fail (Err error) test MayBe text is may fits =
    fault_fails BadHex tt (inl ((λ bytes found. let f : ◌≡◌ {A = Result (List ℕ) FromHexError} (Err error) (Ok bytes) = sym is ∙ found in cc), refl)) only
  where
    only : (e : RowFault) → MustBeBytes MayBe text e → BadHex ≡ e
    only e (inl fault) = sym fault.1
    only e (inr fault) = absurd (let f : ◌≡◌ {A = Result (List ℕ) FromHexError} (Err error) (Ok fault.0) = sym is ∙ fault.1 in cc)
bytes_fail (Ok bytes) test MayBe text is may fits = by (test (length bytes)) refl
  where
    same_bytes : (other : List ℕ) → decode_of text ≡ Ok other → bytes ≡ other
    same_bytes other found = let f : ◌≡◌ {A = Result (List ℕ) FromHexError} (Ok bytes) (Ok other) = sym is ∙ found in cc

    good : (e : RowFault) → test (length bytes) ≡ true → ¬ MustBeBytes MayBe text e
    good e true_test (inl fault) = fault.0 bytes is
    good e true_test (inr fault) = fault.2 (subst (λ other. MayBe (length other)) (same_bytes fault.0 fault.1) (may (length bytes) true_test))

    bad : (e : RowFault) → MustBeBytes MayBe text e → BadLength ≡ e
    bad e (inl fault) = absurd (fault.0 bytes is)
    bad e (inr fault) = sym fault.3

    by : (fit : Bool) → test (length bytes) ≡ fit → Fails (if fit then Ok bytes else Err BadLength) (MustBeBytes MayBe text)
    by true held = value_fails bytes (λ e fault. good e held fault)
    by false missed = fault_fails BadLength tt (inr (bytes, is, (λ may_be. let f : true ≡ false = sym (fits (length bytes) may_be) ∙ missed in cc), refl)) bad

data_fails : (text : List ℕ) → Fails (maybe_message text) (MustBeBytes (λ count. count ≤ LONGEST_MESSAGE) text)
unfolding maybe_message
data_fails text =
    bytes_fail (decode_of text) (λ count. nat_le count LONGEST_MESSAGE) (λ count. count ≤ LONGEST_MESSAGE) text refl
    (λ count is. leb-true count LONGEST_MESSAGE is) (λ count is. le-leb count LONGEST_MESSAGE is)

message_fails : (taken : Bool) (len : ℤ) (text : List ℕ) → Fails (message_in taken len text) (MustBeMessageIf taken len text)
unfolding message_in message_of
message_fails true len text =
    bytes_fail (decode_of text) (goes_with len) (GoesWith len) text refl (λ count is. (length_decides len count).0 is) (λ count is. (length_decides len count).1 is)
message_fails false len text = unused_fails text []

-- a message that must be given
given_fails : (text : List ℕ) → Fails (required_message text) (MustBeGiven text)
unfolding required_message
given_fails [] = fault_fails FieldNotForKind tt (inl (refl, refl)) none
  where
    none : (e : RowFault) → MustBeGiven [] e → FieldNotForKind ≡ e
    none e (inl fault) = sym fault.1
    none e (inr fault) = absurd (fault.0 refl)
given_fails (b ∷ bs) = fails_also (MustBeGiven (b ∷ bs)) (data_fails (b ∷ bs)) (λ e fault. inr ((λ none. cc), fault)) filled
  where
    filled : (e : RowFault) → MustBeGiven (b ∷ bs) e → MustBeBytes (λ count. count ≤ LONGEST_MESSAGE) (b ∷ bs) e
    filled e (inl fault) = absurd (let f : b ∷ bs ≡ [] = fault.0 in cc)
    filled e (inr fault) = fault.1

kind_fails : (format : Format) (text : List ℕ) → Fails (kind_of format text) (MustHold BadKind (HoldsKind format) text)
unfolding kind_of kind_in filled
kind_fails format text =
    must_hold (kind_of format) BadKind (HoldsKind format) text tt refl (λ b bs e same. or_bad (kind_in format (b ∷ bs)) BadKind e same)
    (kind_is format text) (is_kind format text)

service_fails : (format : Format) (text : List ℕ) → Fails (service_of format text) (MustHold BadService (HoldsService format) text)
unfolding service_of service_in filled
service_fails format text =
    must_hold (service_of format) BadService (HoldsService format) text tt refl (λ b bs e same. or_bad (service_in format (b ∷ bs)) BadService e same)
    (service_is format text) (is_service format text)

code_fails : (text : List ℕ) → Fails (code_of text) (MustHold BadOut HoldsCode text)
unfolding code_of filled
code_fails text = must_hold code_of BadOut HoldsCode text tt refl (λ b bs e same. or_bad (code_named (b ∷ bs)) BadOut e same) (code_is text) (is_code text)

out_fails : (text : List ℕ) → Fails (out_of text) (MustHold BadOut HoldsOutcome text)
unfolding out_of filled
out_fails text = must_hold out_of BadOut HoldsOutcome text tt refl (λ b bs e same. or_bad (out_named (b ∷ bs)) BadOut e same) (outcome_is text) (is_outcome text)

error_fails : (text : List ℕ) → Fails (error_of text) (MustHold BadError HoldsError text)
unfolding error_of filled
error_fails text = must_hold error_of BadError HoldsError text tt refl (λ b bs e same. or_bad (error_named (b ∷ bs)) BadError e same) (error_is text) (is_error text)

restart_fails : (text : List ℕ) → Fails (restart_of text) (HoldsNone BadOut HoldsRestart text)
unfolding restart_of
restart_fails text = none_held (restart_of text) BadOut HoldsRestart text tt (only text) (restart_is text) (is_restart text)
  where
    only : (text : List ℕ) (e : RowFault) → restart_of text ≡ Err e → e ≡ BadOut
    only [] e same = no_value _ e same
    only (b ∷ bs) e same = test_bad _ true BadOut e same

woken_fails : (text : List ℕ) → Fails (woken_of text) (HoldsNone BadWoken HoldsProcesses text)
unfolding woken_of
woken_fails text = none_held (woken_of text) BadWoken HoldsProcesses text tt (only text) (processes_hold text) (hold_processes text)
  where
    only : (text : List ℕ) (e : RowFault) → woken_of text ≡ Err e → e ≡ BadWoken
    only [] e same = no_value _ e same
    only (b ∷ bs) e same = or_bad _ BadWoken e same

-- what a field's fault depends on is what was read before
by_service : {A : Type 0} (format : Format) (text : List ℕ) (s : Service) (read : Result A RowFault) (Fault : Service → RowFault → Type 0) → service_of format text ≡ Ok s
    → Fails read (Fault s) → Fails read (λ e. (other : Service) × HoldsService format text other × Fault other e)
by_service format text s read Fault is fails =
    fails_also (λ e. (other : Service) × HoldsService format text other × Fault other e) fails (λ e fault. (s, service_is format text s is, fault))
    (λ e fault. subst (λ other. Fault other e) (same_ok fault.0 s (sym (is_service format text fault.0 fault.1) ∙ is)) fault.2)

request_fails : (format : Format) (fields : Fields) → FailsAt (request_in format fields) (RequestFault format (text_at fields))
unfolding request_in
request_fails format fields =
    field_step _ _ _ _ _ _ (service_fails format (text_at fields column.Service)) (λ s is.
    field_step _ _ _ _ _ _ (numbered s is (λ numbers. numbers.first) (text_at fields column.FirstNumber)) (λ n1 is1.
    field_step _ _ _ _ _ _ (numbered s is (λ numbers. numbers.second) (text_at fields column.SecondNumber)) (λ n2 is2.
    field_step _ _ _ _ _ _ (numbered s is (λ numbers. numbers.third) (text_at fields column.ThirdNumber)) (λ n3 is3.
    field_step _ _ _ _ _ _ (named s is) (λ name isn.
    last_field _ _ _ _ _ (sent s is n2 is2))))))
  where
    numbered : (s : Service) → service_of format (text_at fields column.Service) ≡ Ok s → (taken : Numbers → Presence) (text : List ℕ)
        → Fails (argument format (taken (arguments_of s).numbers) text) (ArgumentFault format (text_at fields) taken text)
    numbered s is taken text =
        by_service format (text_at fields column.Service) s _ (λ other. MustHoldNumber format (taken (arguments_of other).numbers) text) is
        (argument_fails format (taken (arguments_of s).numbers) text)

    named : (s : Service) → service_of format (text_at fields column.Service) ≡ Ok s
        → Fails (name_in (arguments_of s).name (text_at fields column.Name)) (NameFault format (text_at fields) (text_at fields column.Name))
    named s is =
        by_service format (text_at fields column.Service) s _ (λ other. MustHoldIf (arguments_of other).name BadName HoldsName (text_at fields column.Name)) is
        (name_fails (arguments_of s).name (text_at fields column.Name))

    sent : (s : Service) → service_of format (text_at fields column.Service) ≡ Ok s → (n2 : ℤ) → argument format (arguments_of s).numbers.second (text_at fields column.SecondNumber) ≡ Ok n2
        → Fails (message_in (arguments_of s).message n2 (text_at fields column.Message)) (MessageFault format (text_at fields) (text_at fields column.Message))
    sent s is n2 is2 =
        by_service format (text_at fields column.Service) s _ (λ other. SentFault format other (text_at fields) (text_at fields column.Message)) is
        (fails_also (SentFault format s (text_at fields) (text_at fields column.Message)) (message_fails (arguments_of s).message n2 (text_at fields column.Message))
        (λ e fault. (n2, argument_holds format (arguments_of s).numbers.second (text_at fields column.SecondNumber) n2 is2, fault))
        (λ e fault. subst (λ len. MustBeMessageIf (arguments_of s).message len (text_at fields column.Message) e)
        (same_ok fault.0 n2 (sym (holds_argument format (arguments_of s).numbers.second (text_at fields column.SecondNumber) fault.0 fault.1) ∙ is2)) fault.2))

who_fails : (fields : Fields) → FailsAt (who_in fields) (ProcessFault (text_at fields))
unfolding who_in
who_fails fields =
    field_step _ _ _ _ _ _ (number_fails GREATEST_PARTITION (text_at fields column.Partition) (omega arith)) (λ part is.
    last_field _ _ _ _ _ (number_fails GREATEST_NUMBER (text_at fields column.Process) (omega arith)))

claim_fails : (fields : Fields) → FailsAt (claim_in fields) (ClaimFault (text_at fields))
unfolding claim_in
claim_fails fields =
    field_step _ _ _ _ _ _ (number_fails GREATEST_PRIORITY (text_at fields column.Priority) (omega arith)) (λ prio is.
    field_step _ _ _ _ _ _ (out_fails (text_at fields column.Outcome)) (λ out is.
    field_step _ _ _ _ _ _ (maybe_signed_fails (text_at fields column.Value)) (λ val is.
    field_step _ _ _ _ _ _ (data_fails (text_at fields column.Data)) (λ bytes is.
    field_step _ _ _ _ _ _ (maybe_number_fails GREATEST_CHANNEL (text_at fields column.Channel) (omega arith)) (λ chan is.
    field_step _ _ _ _ _ _ (woken_fails (text_at fields column.Woken)) (λ woken is.
    field_step _ _ _ _ _ _ (maybe_signed_fails (text_at fields column.SecondValue)) (λ val2 is.
    field_step _ _ _ _ _ _ (maybe_signed_fails (text_at fields column.ThirdValue)) (λ val3 is.
    last_field _ _ _ _ _ (empty_fails (text_at fields column.Error))))))))))

call_fails : (format : Format) (fields : Fields) → FailsAt (call_in format fields) (CallFault format (text_at fields))
unfolding call_in
call_fails format fields =
    step _ _ _ _ (who_fails fields) (λ who is. step _ _ _ _ (request_fails format fields) (λ request is. last_step _ _ _ (claim_fails fields)))

return_fails : (format : Format) (fields : Fields) → FailsAt (return_in format fields) (ReturnFault format (text_at fields))
unfolding return_in
return_fails format fields =
    step _ _ _ _ (who_fails fields) (λ who is.
    field_step _ _ _ _ _ _ (service_fails format (text_at fields column.Service)) (λ service is.
    step _ _ _ _ (all_empty_fail fields (columns_between column.FirstNumber column.Priority)) (λ unused is.
    field_step _ _ _ _ _ _ (code_fails (text_at fields column.Outcome)) (λ code is.
    field_step _ _ _ _ _ _ (maybe_signed_fails (text_at fields column.Value)) (λ val is.
    field_step _ _ _ _ _ _ (data_fails (text_at fields column.Data)) (λ bytes is.
    step _ _ _ _ (all_empty_fail fields (columns_between column.Channel column.Woken)) (λ unused_too is.
    field_step _ _ _ _ _ _ (maybe_signed_fails (text_at fields column.SecondValue)) (λ val2 is.
    field_step _ _ _ _ _ _ (maybe_signed_fails (text_at fields column.ThirdValue)) (λ val3 is.
    last_field _ _ _ _ _ (empty_fails (text_at fields column.Error)))))))))))

-- the process of a dispatch, by what its partition's field holds
proc_fails : (fields : Fields) (part : Option ℕ) → maybe_number GREATEST_PARTITION (text_at fields column.Partition) ≡ Ok part
    → Fails (proc_of part (text_at fields column.Process)) (DispatchedFault (text_at fields) (text_at fields column.Process))
unfolding proc_of number filled
proc_fails fields part is = by part (maybe_number_holds GREATEST_PARTITION (text_at fields column.Partition) part (omega arith) is)
  where
    by : (part : Option ℕ) → MayHold (HoldsNumber GREATEST_PARTITION) (text_at fields column.Partition) part
        → Fails (proc_of part (text_at fields column.Process)) (DispatchedFault (text_at fields) (text_at fields column.Process))
    by None left_out = fails_also (DispatchedFault (text_at fields) (text_at fields column.Process)) (unused_fails (text_at fields column.Process) None) (λ e fault. inl (left_out, fault)) only
      where
        only : (e : RowFault) → DispatchedFault (text_at fields) (text_at fields column.Process) e → MustBeEmpty (text_at fields column.Process) e
        only e (inl fault) = fault.1
        only e (inr fault) = absurd (fault.0 left_out)
    by (Some n) held =
        fails_also (DispatchedFault (text_at fields) (text_at fields column.Process)) (last_step _ _ _ (number_fails GREATEST_NUMBER (text_at fields column.Process) (omega arith)))
        (λ e fault. inr (filled, fault)) only
      where
        filled : text_at fields column.Partition ≢ []
        filled none =
            no_fault FieldNotForKind n (subst (λ text. number GREATEST_PARTITION text ≡ Ok n) none (holds_number GREATEST_PARTITION (text_at fields column.Partition) n (omega arith) held))

        only : (e : RowFault) → DispatchedFault (text_at fields) (text_at fields column.Process) e → MustHold BadNumber (HoldsNumber GREATEST_NUMBER) (text_at fields column.Process) e
        only e (inl fault) = absurd (filled fault.0)
        only e (inr fault) = fault.1

dispatch_fails : (fields : Fields) → FailsAt (dispatch_in fields) (DispatchFault (text_at fields))
unfolding dispatch_in
dispatch_fails fields =
    field_step _ _ _ _ _ _ (maybe_number_fails GREATEST_PARTITION (text_at fields column.Partition) (omega arith)) (λ part is.
    field_step _ _ _ _ _ _ (proc_fails fields part is) (λ who is.
    last_step _ _ _ (all_empty_fail fields (columns_between column.Service column.Error))))

tick_fails : (fields : Fields) → FailsAt (tick_in fields) (TickFault (text_at fields))
unfolding tick_in
tick_fails fields =
    step _ _ _ _ (all_empty_fail fields (columns_between column.Partition column.Channel)) (λ unused is.
    field_step _ _ _ _ _ _ (woken_fails (text_at fields column.Woken)) (λ woken is.
    last_step _ _ _ (all_empty_fail fields (columns_between column.SecondValue column.Error))))

arrival_fails : (fields : Fields) → FailsAt (arrival_in fields) (ArrivalFault (text_at fields))
unfolding arrival_in
arrival_fails fields =
    step _ _ _ _ (all_empty_fail fields (columns_between column.Partition column.Name)) (λ unused is.
    field_step _ _ _ _ _ _ (given_fails (text_at fields column.Message)) (λ message is.
    step _ _ _ _ (all_empty_fail fields (columns_between column.Priority column.Data)) (λ unused_too is.
    field_step _ _ _ _ _ _ (number_fails GREATEST_CHANNEL (text_at fields column.Channel) (omega arith)) (λ chan is.
    field_step _ _ _ _ _ _ (woken_fails (text_at fields column.Woken)) (λ woken is.
    last_step _ _ _ (all_empty_fail fields (columns_between column.SecondValue column.Error)))))))

departure_fails : (fields : Fields) → FailsAt (departure_in fields) (DepartureFault (text_at fields))
unfolding departure_in
departure_fails fields =
    step _ _ _ _ (all_empty_fail fields (columns_between column.Partition column.Value)) (λ unused is.
    field_step _ _ _ _ _ _ (given_fails (text_at fields column.Data)) (λ message is.
    field_step _ _ _ _ _ _ (number_fails GREATEST_CHANNEL (text_at fields column.Channel) (omega arith)) (λ chan is.
    field_step _ _ _ _ _ _ (woken_fails (text_at fields column.Woken)) (λ woken is.
    last_step _ _ _ (all_empty_fail fields (columns_between column.SecondValue column.Error))))))

report_fails : (fields : Fields) → FailsAt (error_in fields) (ErrorFault (text_at fields))
unfolding error_in
report_fails fields =
    step _ _ _ _ (who_fails fields) (λ who is.
    step _ _ _ _ (all_empty_fail fields (columns_between column.Service column.Priority)) (λ unused is.
    field_step _ _ _ _ _ _ (restart_fails (text_at fields column.Outcome)) (λ restarts is.
    step _ _ _ _ (all_empty_fail fields (columns_between column.Value column.ThirdValue)) (λ unused_too is.
    last_field _ _ _ _ _ (error_fails (text_at fields column.Error))))))

body_fails : (format : Format) (which : Kind) (fields : Fields) → FailsAt (body_in format which fields) (FaultOf which format (text_at fields))
unfolding body_in
body_fails format kind.Call fields = last_step _ _ _ (call_fails format fields)
body_fails format kind.Ret fields = last_step _ _ _ (return_fails format fields)
body_fails format kind.Disp fields = last_step _ _ _ (dispatch_fails fields)
body_fails format kind.Tick fields = last_step _ _ _ (tick_fails fields)
body_fails format kind.Arrive fields = last_step _ _ _ (arrival_fails fields)
body_fails format kind.Depart fields = last_step _ _ _ (departure_fails fields)
body_fails format kind.Error fields = last_step _ _ _ (report_fails fields)

-- the number of a row
seq_fails : (next given : ℕ) (fields : Fields) → number (MOST_RECORDS - 1) (text_at fields column.Sequence) ≡ Ok given
    → Fails (if nat_eq given next then Ok given else Err SeqGap) (OtherNumber next (text_at fields column.Sequence))
seq_fails next given fields is = by (nat_eq given next) refl
  where
    by : (same : Bool) → nat_eq given next ≡ same → Fails (if same then Ok given else Err SeqGap) (OtherNumber next (text_at fields column.Sequence))
    by true same =
        value_fails given (λ e fault.
        let one : fault.0 ≡ given = same_ok fault.0 given (sym (holds_number (MOST_RECORDS - 1) (text_at fields column.Sequence) fault.0 (omega arith) fault.1) ∙ is) in
        fault.2 (one ∙ eqb-true given next same))
    by false other =
        fault_fails SeqGap tt (given, number_holds (MOST_RECORDS - 1) (text_at fields column.Sequence) given (omega arith) is, eqb-false given next other, refl) (λ e fault. sym fault.3)

-- a test before the steps, whose fault is of no one field
tested : {A : Type 0} (test : Bool) (read : Result A Misread) (bad : RowFault) (Missed : Type 0) (Others : Misread → Type 0)
    → IsOfRow bad → (test ≡ true → ¬ Missed) → (test ≡ false → Missed) → FailsAt read Others
    → FailsAt (if test then read else Err (no_field bad)) ((λ misread. Missed × (misread ≡ no_field bad)) or_else Others)
tested true read bad Missed Others own hit missed others = fails_after (λ misread. Missed × (misread ≡ no_field bad)) others (λ e fault. hit refl fault.0)
tested false read bad Missed Others own hit missed others = fault_fails (no_field bad) own (inl (missed refl, refl)) only
  where
    only : (e : Misread) → ((λ misread. Missed × (misread ≡ no_field bad)) or_else Others) e → no_field bad ≡ e
    only e (inl fault) = sym fault.1
    only e (inr fault) = absurd (fault.0 (no_field bad) (missed refl, refl))

row_fails : (format : Format) (next : ℕ) (fields : Fields) → FailsAt (row_in format next fields) (IsMisread format next fields)
unfolding row_in
row_fails format next fields =
    tested (nat_lt next MOST_RECORDS) _ TooMany (MOST_RECORDS ≤ next) _ tt fits (ltb-false next MOST_RECORDS)
    (tested (length fields == field_count format) _ FieldCount (length fields ≢ field_count format) _ tt
    (λ is not. not (eqb-true (length fields) (field_count format) is)) (eqb-false (length fields) (field_count format))
    (field_step _ _ _ _ _ _ (number_fails (MOST_RECORDS - 1) (text_at fields column.Sequence) (omega arith)) (λ given is.
    field_step _ _ _ _ _ _ (seq_fails next given fields is) (λ seq at.
    field_step _ _ _ _ _ _ (kind_fails format (text_at fields column.Kind)) (λ which named.
    last_step _ _ _ (after which named))))))
  where
    fits : nat_lt next MOST_RECORDS ≡ true → ¬ (MOST_RECORDS ≤ next)
    fits is over = let below : next < MOST_RECORDS = ltb-true next MOST_RECORDS is in absurd (omega arith)

    after : (which : Kind) → kind_of format (text_at fields column.Kind) ≡ Ok which
        → FailsAt (body_in format which fields) (λ misread. (k : Kind) × HoldsKind format (text_at fields column.Kind) k × FaultOf k format (text_at fields) misread)
    after which named =
        fails_also (λ misread. (k : Kind) × HoldsKind format (text_at fields column.Kind) k × FaultOf k format (text_at fields) misread) (body_fails format which fields)
        (λ e fault. (which, kind_is format (text_at fields column.Kind) which named, fault))
        (λ e fault. subst (λ k. FaultOf k format (text_at fields) e) (same_ok fault.0 which (sym (is_kind format (text_at fields column.Kind) fault.0 fault.1) ∙ named)) fault.2)

-- a fault of which only the cause is reported is at some column, or at none
cause_of : {A : Type 0} (read : Result A Misread) (fault : RowFault) → fault_only read ≡ Err fault → (there : Option Column) × (read ≡ Err (record { fault = fault; column = there }))
cause_of (Ok x) fault e = no_value x fault e
cause_of (Err misread) fault e = (misread.column, ap (λ cause. Err (record { fault = cause; column = misread.column })) (same_err misread.fault fault e))

-- a row that is no record is read with the fault of its first faulty field, and with no other
pub first_faults_decide : FirstFaultsDecide
unfolding record_of
first_faults_decide format next fields fault = (
  (λ e. let found = cause_of (row_in format next fields) fault e in (found.0, (row_fails format next fields).to (record { fault = fault; column = found.0 }) found.1)),
  (λ is. ap fault_only ((row_fails format next fields).from (record { fault = fault; column = is.0 }) is.1)),
)

-- it has a fault that the text of a row can have
pub faults_are_of_rows : FaultsAreOfRows
unfolding record_of
faults_are_of_rows format next fields fault e =
    let found = cause_of (row_in format next fields) fault e in (row_fails format next fields).own (record { fault = fault; column = found.0 }) found.1

-- what a row is read as, if of a fault only the cause is reported
pub record_read : (format : Format) (next : ℕ) (fields : Fields) (rec : Record) → row_in format next fields ≡ Ok rec → record_of format next fields ≡ Ok rec
unfolding record_of
record_read format next fields rec e = ap fault_only e

pub record_refused : (format : Format) (next : ℕ) (fields : Fields) (misread : Misread) → RefusesAt NeedsMemory misread (row_in format next fields)
    → Refuses NeedsMemory misread.fault (record_of format next fields)
unfolding record_of
record_refused format next fields misread (inl fault) = inl (fault.0, ap fault_only fault.1)
record_refused format next fields misread (inr memory) = inr (ap (λ (m : Misread). m.fault) memory.0, kept (row_in format next fields) memory.1)
  where
    kept : (read : Result Record Misread) → IsOkAnd read NeedsMemory → IsOkAnd (fault_only read) NeedsMemory
    kept (Ok x) needs = needs
    kept (Err other) needs = absurd needs

-- a fault of the row is the first one, at the column where it is
pub misread_first : (format : Format) (next : ℕ) (fields : Fields) (misread : Misread) → RefusesAt NeedsMemory misread (row_in format next fields)
    → IsOfRow misread.fault → IsMisread format next fields misread
misread_first format next fields misread (inl fault) own = (row_fails format next fields).to misread fault.1
misread_first format next fields misread (inr memory) own = absurd (subst HasRowFault memory.0 own)

-- a lack of memory is of no field
pub memory_nowhere : (format : Format) (next : ℕ) (fields : Fields) (misread : Misread) → RefusesAt NeedsMemory misread (row_in format next fields)
    → misread.fault ≡ Memory → misread.column ≡ None
memory_nowhere format next fields misread (inl fault) is = absurd (subst IsOfRow is fault.0)
memory_nowhere format next fields misread (inr memory) is = ap (λ (m : Misread). m.column) memory.0

-- the same of what a reader answers
pub explains_refusal : (format : Format) (next : ℕ) (fields : Fields) (result : Result Record Misread) → IfErr result (λ misread. RefusesAt NeedsMemory misread (row_in format next fields))
    → IfErr result (λ misread. Refuses NeedsMemory misread.fault (record_of format next fields))
explains_refusal format next fields (Ok x) refused = refused
explains_refusal format next fields (Err misread) refused = record_refused format next fields misread refused

pub explains_column : (format : Format) (next : ℕ) (fields : Fields) (result : Result Record Misread) → IfErr result (λ misread. RefusesAt NeedsMemory misread (row_in format next fields))
    → IfErr result (λ misread. IsOfRow misread.fault → IsMisread format next fields misread)
explains_column format next fields (Ok x) refused = refused
explains_column format next fields (Err misread) refused = misread_first format next fields misread refused
