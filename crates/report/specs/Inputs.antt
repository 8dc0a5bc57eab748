-- What a check is given: the texts of its inputs, and how far each of them is read.
use Rattle.std.specs.Prelude.{◌≡◌, ℕ, zero, suc, false, List, [], ◌∷◌, ◌++◌, Option, Some, None, Result, Err, length, take}
use Rattle.order_cert.specs.declared.fault.CertFault.TheVariants as cert
use Rattle.order_cert.specs.Kept.{none_taken}
use Rattle.order_cert.specs.Row.{Item as CertItem, pairs_of}
use Rattle.placement.specs.Reading.{CanFail}
use Rattle.placement.specs.Scan.{Scan, scan}
use Rattle.record_read.specs.declared.fault.RowFault.TheVariants as row
use Rattle.record_read.specs.Row.{Item, records_of}

-- the texts: the configuration, one recording for each core in order, and the certificate
pub record Texts : Type 0 where
  pub config : List ℕ
  pub recordings : List (List ℕ)
  pub certificate : List ℕ

-- how far the texts are read: before which row the reader failed, counted from 0, if it did
pub record Readings : Type 0 where
  pub recordings : ℕ → Option ℕ
  pub certificate : Option ℕ

-- no reader failed
abbrev pub whole : Readings
whole = record { recordings = λ core. None; certificate = None }

-- only readers that can fail have failed
pub record MayRead (can_fail : CanFail) (readings : Readings) : Type 0 where
  pub recordings : can_fail.recordings ≡ false → (core : ℕ) → readings.recordings core ≡ None
  pub certificate : can_fail.certificate ≡ false → readings.certificate ≡ None

-- what a reader gives of the items of a text: all, or those before the row at which it failed, and then its failure
abbrev pub given : {Value Fault : Type 0} → Fault → Option ℕ → List (Result Value Fault) → List (Result Value Fault)
given failure None items = items
given failure (Some row) items = take row items ++ Err failure ∷ []

-- what the text of a core's recording is read as: nothing if there is no such core
abbrev pub items_at : List (List ℕ) → ℕ → List Item
items_at [] core = []
items_at (text ∷ texts) zero = records_of text
items_at (text ∷ texts) (suc core) = items_at texts core

-- what the reader of a core gives
abbrev pub given_of_core : Texts → Readings → ℕ → List Item
given_of_core texts readings core = given row.Read (readings.recordings core) (items_at texts.recordings core)

-- what the reader of the certificate gives
abbrev pub given_of_certificate : Texts → Readings → List CertItem
given_of_certificate texts readings = given cert.Read readings.certificate (pairs_of texts.certificate)

-- the records in the order of the certificate, and how the input ends after them
abbrev pub scan_of : Texts → Readings → Scan
scan_of texts readings = scan (length texts.recordings) none_taken 0 (given_of_core texts readings) (given_of_certificate texts readings)
