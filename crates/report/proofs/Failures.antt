-- Where no reader failed, no outcome is a failure of one.
use Rattle.std.proofs.Common.{◌≡◌, ◌≢◌, ℕ, zero, suc, List, [], ◌∷◌, Bool, true, false, Option, Some, None, Result, Ok, Err, length, nat_eq, refl, sym, subst, inl, inr}
use Rattle.std.specs.Prelude.{slice_get}
use Rattle.apex_machine.specs.Configuration.{Configuration}
use Rattle.apex_types.specs.declared.record.Pair.{Pair}
use Rattle.csv_rows.specs.Source.{items_from}
use Rattle.csv_rows.specs.Stream.{Fields, rows_of}
use Rattle.module_config.specs.declared.fault.ConfigFault.{ConfigFault}
use Rattle.module_config.specs.Reading.{configuration_of}
use Rattle.order_cert.specs.declared.fault.CertFault.{CertFault}
use Rattle.order_cert.specs.declared.fault.CertFault.TheVariants as cert
use Rattle.order_cert.specs.Row.{Item as CertItem, item_of, pairs_of}
use Rattle.order_cert.proofs.RowFaults.{HasFaultOfRow, item_read}
use Rattle.placement.specs.declared.fault.InputFault.TheVariants as input
use Rattle.placement.specs.Refusal.{taken_by}
use Rattle.record_read.specs.declared.fault.RowFault.{RowFault}
use Rattle.record_read.specs.declared.fault.RowFault.TheVariants as row
use Rattle.record_read.specs.Format.{format_of}
use Rattle.record_read.specs.Row.{Item, record_of}
use Rattle.record_read.specs.Steps.{IsOfRow}
use Rattle.record_read.proofs.FirstFaults.{faults_are_of_rows}
use Rattle.user_rules.specs.Remembered.{Requirements}
use Rattle.verdict_merge.specs.declared.verdict.Verdict.{Verdict}
use Rattle.report.specs.declared.fault.ArgumentFault.{ArgumentFault}
use Rattle.report.specs.declared.fault.CheckFault.{CheckFault}
use Rattle.report.specs.Inputs.{Texts, items_at, scan_of, whole}
use Rattle.report.specs.declared.fault.CheckFault.TheVariants.{Input}
use Rattle.report.specs.Refused.{RefusalMeansFault}
use Rattle.report.proofs.Answering.{refusal_means}
use Rattle.report.specs.Outcome.{IsOutcomeBy, IsOutcomeUnder, IsOutcomeWith, TellsNoFailure, WholeReadingsTellNoFailure, argument_fault_of}

-- an item of rows is what one of them is read as
item_at : {A : Type 0} (read : ℕ → Fields → A) (number : ℕ) (rows : List Fields) (index : ℕ) (item : A) → slice_get (items_from read number rows) index ≡ Some item
    → (place : ℕ) × (fields : Fields) × (read place fields ≡ item)
item_at {A} read number [] index item is = let none : ◌≡◌ {A = Option A} None (Some item) = is in cc
item_at read number (fields ∷ rows) zero item is = (number, fields, cc)
item_at read number (fields ∷ rows) (suc index) item is = item_at read (suc number) rows index item is

row_is_other : (texts : List (List ℕ)) (core index : ℕ) (fault : RowFault) → slice_get (items_at texts core) index ≡ Some (Err fault) → fault ≢ row.Read
row_is_other [] core index fault is = λ e. let none : ◌≡◌ {A = Option Item} None (Some (Err fault)) = is in cc
row_is_other (text ∷ texts) zero index fault is = λ e.
    let (place, fields, read) = item_at (record_of (format_of (rows_of text))) 0 (rows_of text) index (Err fault) is in
    subst IsOfRow e (faults_are_of_rows (format_of (rows_of text)) place fields fault read)
row_is_other (text ∷ texts) (suc core) index fault is = row_is_other texts core index fault is

not_read : (fault : CertFault) → HasFaultOfRow {A = Pair} (Err fault) → fault ≢ cert.Read
not_read fault (inl e) = λ f. cc
not_read fault (inr (inl e)) = λ f. cc
not_read fault (inr (inr e)) = λ f. cc

pair_is_other : (text : List ℕ) (index : ℕ) (fault : CertFault) → slice_get (pairs_of text) index ≡ Some (Err fault) → fault ≢ cert.Read
pair_is_other text index fault is =
    let (place, fields, read) = item_at item_of 0 (rows_of text) index (Err fault) is in
    not_read fault (subst (λ (one : CertItem). HasFaultOfRow one) read (item_read place fields))

-- the first fault of texts that are read whole is no failure
first_is_other : (texts : Texts) (result : Result Verdict CheckFault) → RefusalMeansFault texts whole result → TellsNoFailure result
first_is_other texts (Err (Input (input.Cert place fault))) (pairs, taken, (here, is)) = pair_is_other texts.certificate (length pairs) fault is
first_is_other texts (Err (Input (input.Row core seq fault))) (pairs, taken, inl (is_shown, is)) = row_is_other texts.recordings core (taken_by pairs core) fault is
first_is_other texts (Err (Input (input.Row core seq fault))) (pairs, taken, inr (here, (none, within, below, is))) = row_is_other texts.recordings core (taken_by pairs core) fault is
first_is_other texts _ means = tt

under : (enough : Bool) (configuration : Configuration) (texts : Texts) (requirements : Requirements) (result : Result Verdict CheckFault)
    → IsOutcomeUnder enough configuration texts whole requirements result → TellsNoFailure result
under false configuration texts requirements result is = subst TellsNoFailure (sym is) tt
under true configuration texts requirements result (verdict, found, is) =
    first_is_other texts result (subst (RefusalMeansFault texts whole) (sym is) (refusal_means texts whole verdict (scan_of texts whole).end refl))

by_configuration : (read : Result Configuration ConfigFault) (texts : Texts) (requirements : Requirements) (result : Result Verdict CheckFault)
    → IsOutcomeBy read texts whole requirements result → TellsNoFailure result
by_configuration (Err fault) texts requirements result is = subst TellsNoFailure (sym is) tt
by_configuration (Ok configuration) texts requirements result is = under (nat_eq (length texts.recordings) configuration.cores) configuration texts requirements result is

by_settings : (found : Option ArgumentFault) (texts : Texts) (requirements : Requirements) (result : Result Verdict CheckFault)
    → IsOutcomeWith found texts whole requirements result → TellsNoFailure result
by_settings (Some fault) texts requirements result is = subst TellsNoFailure (sym is) tt
by_settings None texts requirements result is = by_configuration (configuration_of texts.config) texts requirements result is

pub no_failure_is_reported : WholeReadingsTellNoFailure
no_failure_is_reported settings texts requirements result (inl memory) = subst TellsNoFailure (sym memory) tt
no_failure_is_reported settings texts requirements result (inr is) = by_settings (argument_fault_of settings) texts requirements result is
