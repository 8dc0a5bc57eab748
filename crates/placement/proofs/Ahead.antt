-- What the answers of a placer show of what was ahead of it.
use Rattle.std.proofs.Common.{◌≡◌, ◌≢◌, ◌∙◌, ℕ, suc, List, [], ◌∷◌, ◌++◌, Option, Some, None, Result, Ok, Err, length, refl, sym, ap, subst, inl, inr, append_assoc}
use Rattle.std.proofs.lemmas.Bool.{cases_eq}
use Rattle.std.specs.Prelude.{IfSome}
use Rattle.std.proofs.lemmas.List.{append-nil}
use mathlib.Core.Path.{fun_ext}
use Rattle.apex_types.specs.declared.record.Ordered.{Ordered}
use Rattle.apex_types.specs.declared.record.Pair.{Pair}
use Rattle.apex_types.specs.declared.record.Record.{Record}
use Rattle.csv_rows.specs.Source.{Gives}
use Rattle.order_cert.specs.declared.fault.CertFault.{CertFault}
use Rattle.order_cert.specs.declared.fault.CertFault.TheVariants as cert
use Rattle.order_cert.specs.declared.fault.OrderFault.{OrderFault}
use Rattle.order_cert.specs.declared.fault.OrderFault.TheVariants.{Absent}
use Rattle.order_cert.specs.Kept.{place_of, put, taken_of}
use Rattle.order_cert.specs.Order.{misplaced}
use Rattle.order_cert.specs.Row.{Item as CertItem, IsOutside as IsCertOutside}
use Rattle.record_read.specs.declared.fault.RowFault.{RowFault}
use Rattle.record_read.specs.declared.fault.RowFault.TheVariants as row
use Rattle.record_read.specs.Row.{Item}
use Rattle.record_read.specs.Steps.{IsOutside}
use Rattle.core_intake.specs.Answered.{Answered}
use Rattle.placement.specs.declared.fault.InputFault.{InputFault}
use Rattle.placement.specs.declared.fault.InputFault.TheVariants as input
use Rattle.placement.specs.declared.fault.PlacingFault.{PlacingFault}
use Rattle.placement.specs.declared.fault.PlacingFault.TheVariants.{Input, Memory}
use Rattle.placement.specs.Lanes.{AreLeft, IsAhead, IsEnded, IsScanOf, Lead, OnEnd, Placing, left_at}
use Rattle.placement.specs.Reading.{CanFail, Reads}
use Rattle.placement.specs.Scan.{Scan, cert_fault, ends_so, led_by, placed_at, row_fault, scan}
use Rattle.placement.proofs.Readings.{reads_all, reads_more, fault_read, put-here, put-other, put-back, put_reads}

-- what is ahead if these are left, there are this many cores, this many records of each were taken, and this place is next
abbrev pub AreAhead : CanFail → ℕ → List Answered → Option (List CertItem) → (ℕ → ℕ) → ℕ → Scan → Type 0
AreAhead can_fail cores lanes left taken place scanned =
    (items : ℕ → List Item) (certificate : List CertItem) → AreLeft lanes items → left ≡ Some certificate → IsScanOf can_fail cores taken place items certificate scanned

-- nothing is ahead, and the input ends in this way, if an answer says how
abbrev pub EndsSo : CanFail → Placing → Result (Unit {0}) PlacingFault → Type 0
EndsSo can_fail placing end = OnEnd (λ how. IsAhead can_fail placing (ends_so how)) end

-- the certificate's next row has a fault
pub cert_stops : (can_fail : CanFail) (cores : ℕ) (lanes : List Answered) (left new : Option (List CertItem)) (taken : ℕ → ℕ) (place : ℕ) (fault : CertFault)
    → fault ≢ cert.Memory → IfSome left (λ items. Gives (IsCertOutside can_fail.certificate) items (Err fault) new)
    → AreAhead can_fail cores lanes left taken place (ends_so (Err (input.Cert place fault)))
unfolding scan
cert_stops can_fail cores lanes left new taken place fault other gives items certificate known is =
    let now : Gives (IsCertOutside can_fail.certificate) certificate (Err fault) new = rw is at gives in
    let read = fault_read can_fail.certificate cert.Read cert.Memory fault certificate new other now in
    (items, Err fault ∷ read.0, (λ core. reads_all can_fail.recordings row.Read (items core)), read.1, refl)

-- a pair that may not be there
pub pair_refused : (can_fail : CanFail) (cores : ℕ) (lanes : List Answered) (left new : Option (List CertItem)) (taken : ℕ → ℕ) (place : ℕ) (pair : Pair) (fault : OrderFault)
    → IfSome left (λ items. Gives (IsCertOutside can_fail.certificate) items (Ok (Some pair)) new) → misplaced cores taken pair ≡ Some fault
    → AreAhead can_fail cores lanes left taken place (ends_so (Err (input.Order place pair.core fault)))
unfolding scan
pair_refused can_fail cores lanes left new taken place pair fault gives wrong items certificate known is =
    let now : Gives (IsCertOutside can_fail.certificate) certificate (Ok (Some pair)) new = rw is at gives in
    (items, Ok pair ∷ now.0, (λ core. reads_all can_fail.recordings row.Read (items core)), inl (sym now.1), rw wrong refl)

-- the recording has ended before the pair's record
pub record_absent : (can_fail : CanFail) (cores : ℕ) (lanes : List Answered) (left new : Option (List CertItem)) (taken : ℕ → ℕ) (place : ℕ) (pair : Pair) (more : Option (List Item))
    → IfSome left (λ items. Gives (IsCertOutside can_fail.certificate) items (Ok (Some pair)) new) → misplaced cores taken pair ≡ None
    → IfSome (left_at lanes pair.core) (λ items. Gives (IsOutside can_fail.recordings) items (Ok None) more)
    → AreAhead can_fail cores lanes left taken place (ends_so (Err (input.Order place pair.core Absent)))
unfolding scan
record_absent can_fail cores lanes left new taken place pair more gives fits lane items certificate known is =
    let now : Gives (IsCertOutside can_fail.certificate) certificate (Ok (Some pair)) new = rw is at gives in
    let item : Gives (IsOutside can_fail.recordings) (items pair.core) (Ok None) more = rw (known pair.core) at lane in
    (items, Ok pair ∷ now.0, (λ core. reads_all can_fail.recordings row.Read (items core)), inl (sym now.1), rw (fits, item.0) refl)

-- the pair's row has a fault
pub record_stops : (can_fail : CanFail) (cores : ℕ) (lanes : List Answered) (left new : Option (List CertItem)) (taken : ℕ → ℕ) (place : ℕ) (pair : Pair) (more : Option (List Item)) (fault : RowFault)
    → fault ≢ row.Memory → IfSome left (λ items. Gives (IsCertOutside can_fail.certificate) items (Ok (Some pair)) new) → misplaced cores taken pair ≡ None
    → IfSome (left_at lanes pair.core) (λ items. Gives (IsOutside can_fail.recordings) items (Err fault) more)
    → AreAhead can_fail cores lanes left taken place (ends_so (Err (input.Row pair.core pair.seq fault)))
unfolding scan
record_stops can_fail cores lanes left new taken place pair more fault other gives fits lane items certificate known is =
    let now : Gives (IsCertOutside can_fail.certificate) certificate (Ok (Some pair)) new = rw is at gives in
    let item : Gives (IsOutside can_fail.recordings) (items pair.core) (Err fault) more = rw (known pair.core) at lane in
    let read = fault_read can_fail.recordings row.Read row.Memory fault (items pair.core) more other item in
    let given : ℕ → List Item = put items pair.core (Err fault ∷ read.0) in (
      given,
      Ok pair ∷ now.0,
      put_reads can_fail.recordings row.Read items items pair.core (Err fault ∷ read.0) (λ core apart. reads_all can_fail.recordings row.Read (items core)) read.1,
      inl (sym now.1),
      rw (fits, put-here items pair.core (Err fault ∷ read.0)) refl,
    )

-- a record that was taken leads all that is ahead after it
pub record_leads : (can_fail : CanFail) (cores : ℕ) (lanes lanes' : List Answered) (left new : Option (List CertItem)) (taken : ℕ → ℕ) (place : ℕ) (pair : Pair) (rec : Record) (scanned : Scan)
    → IfSome left (λ items. Gives (IsCertOutside can_fail.certificate) items (Ok (Some pair)) new) → misplaced cores taken pair ≡ None
    → IfSome (left_at lanes pair.core) (λ items. Gives (IsOutside can_fail.recordings) items (Ok (Some rec)) (left_at lanes' pair.core))
    → ((other : ℕ) → other ≢ pair.core → left_at lanes' other ≡ left_at lanes other)
    → AreAhead can_fail cores lanes' new (put taken pair.core (suc (taken pair.core))) (suc place) scanned
    → AreAhead can_fail cores lanes left taken place (led_by (placed_at place pair.core rec ∷ []) scanned)
unfolding scan
record_leads can_fail cores lanes lanes' left new taken place pair rec scanned gives fits lane others ahead items certificate known is =
    let now : Gives (IsCertOutside can_fail.certificate) certificate (Ok (Some pair)) new = rw is at gives in
    let item : Gives (IsOutside can_fail.recordings) (items pair.core) (Ok (Some rec)) (left_at lanes' pair.core) = rw (known pair.core) at lane in
    let more = ahead (put items pair.core item.0) now.0 (λ core. elim (cases_eq core pair.core) [
      | inl e ↦ rw (e, put-here items pair.core item.0) item.2
      | inr apart ↦ others core apart ∙ known core ∙ ap (λ l. Some l) (sym (put-other items pair.core core item.0 apart))
    ]) now.2 in
    let here : Reads can_fail.recordings row.Read item.0 (more.0 pair.core) = rw (put-here items pair.core item.0) at (more.2 pair.core) in (
      put more.0 pair.core (Ok rec ∷ more.0 pair.core),
      Ok pair ∷ more.1,
      put_reads can_fail.recordings row.Read items more.0 pair.core (Ok rec ∷ more.0 pair.core) (λ core apart. rw (put-other items pair.core core item.0 apart) at (more.2 core))
          (rw item.1 (reads_more can_fail.recordings row.Read rec item.0 (more.0 pair.core) here)),
      rw now.1 (reads_more can_fail.certificate cert.Read pair now.0 more.1 more.3),
      rw (fits, put-here more.0 pair.core (Ok rec ∷ more.0 pair.core), put-back more.0 pair.core (Ok rec ∷ more.0 pair.core)) (ap (led_by (placed_at place pair.core rec ∷ [])) more.4),
    )

-- the certificate has ended, and then the recordings end so
pub all_placed : (can_fail : CanFail) (lanes : List Answered) (left new : Option (List CertItem)) (taken : ℕ → ℕ) (place : ℕ) (result : Result (Unit {0}) InputFault)
    → IfSome left (λ items. Gives (IsCertOutside can_fail.certificate) items (Ok None) new) → IsEnded can_fail.recordings lanes place taken result
    → AreAhead can_fail (length lanes) lanes left taken place (ends_so result)
unfolding scan
all_placed can_fail lanes left new taken place result gives ended items certificate known is =
    let now : Gives (IsCertOutside can_fail.certificate) certificate (Ok None) new = rw is at gives in
    let e = ended items known in
    (e.0, [], e.1, inl (sym now.0), ap ends_so e.2)

-- faults as a placer reports them

pub cert_ends : (can_fail : CanFail) (placing : Placing) (new : Option (List CertItem)) (fault : CertFault)
    → IfSome placing.pairs (λ items. Gives (IsCertOutside can_fail.certificate) items (Err fault) new) → EndsSo can_fail placing (Err (cert_fault (place_of placing.kept) fault))
cert_ends can_fail placing new cert.Memory gives = tt
cert_ends can_fail placing new fault gives =
    cert_stops can_fail (length placing.lanes) placing.lanes placing.pairs new (taken_of placing.kept) (place_of placing.kept) fault (λ e. cc) gives

pub row_ends : (can_fail : CanFail) (placing : Placing) (new : Option (List CertItem)) (pair : Pair) (more : Option (List Item)) (fault : RowFault)
    → IfSome placing.pairs (λ items. Gives (IsCertOutside can_fail.certificate) items (Ok (Some pair)) new) → misplaced (length placing.lanes) (taken_of placing.kept) pair ≡ None
    → IfSome (left_at placing.lanes pair.core) (λ items. Gives (IsOutside can_fail.recordings) items (Err fault) more) → EndsSo can_fail placing (Err (row_fault pair.core pair.seq fault))
row_ends can_fail placing new pair more row.Memory gives fits lane = tt
row_ends can_fail placing new pair more fault gives fits lane =
    record_stops can_fail (length placing.lanes) placing.lanes placing.pairs new (taken_of placing.kept) (place_of placing.kept) pair more fault (λ e. cc) gives fits lane

-- no record is ahead
pub none_next : (can_fail : CanFail) (placing : Placing) (new : Option (List CertItem)) (end : Result (Unit {0}) PlacingFault)
    → IfSome placing.pairs (λ items. Gives (IsCertOutside can_fail.certificate) items (Ok None) new)
    → OnEnd (IsEnded can_fail.recordings placing.lanes (place_of placing.kept) (taken_of placing.kept)) end → EndsSo can_fail placing end
none_next can_fail placing new (Ok ended) gives is = all_placed can_fail placing.lanes placing.pairs new (taken_of placing.kept) (place_of placing.kept) (Ok ended) gives is
none_next can_fail placing new (Err (Input fault)) gives is = all_placed can_fail placing.lanes placing.pairs new (taken_of placing.kept) (place_of placing.kept) (Err fault) gives is
none_next can_fail placing new (Err Memory) gives is = tt

-- rounds

pub lead_on : (can_fail : CanFail) (start now next : Placing) (front : List Ordered) (one : Ordered) → Lead can_fail start front now → Lead can_fail now (one ∷ []) next → Lead can_fail start (front ++ one ∷ []) next
lead_on can_fail start now next front one before after scanned ahead =
    subst (λ placed. IsAhead can_fail start (record { placed = placed; end = scanned.end })) (sym (append_assoc front (one ∷ []) scanned.placed))
    (before (led_by (one ∷ []) scanned) (after scanned ahead))

pub end_on : (can_fail : CanFail) (start now : Placing) (front : List Ordered) (end : Result (Unit {0}) InputFault) → Lead can_fail start front now → IsAhead can_fail now (ends_so end)
    → IsAhead can_fail start (record { placed = front; end = end })
end_on can_fail start now front end before is = subst (λ placed. IsAhead can_fail start (record { placed = placed; end = end })) (append-nil front) (before (ends_so end) is)

-- something is ahead of every placer

or_none : {A : Type 0} → Option (List A) → List A
or_none None = []
or_none (Some items) = items

pub something_ahead : (can_fail : CanFail) (placing : Placing) → (scanned : Scan) × IsAhead can_fail placing scanned
unfolding scan or_none
something_ahead can_fail placing = (
  scan (length placing.lanes) (taken_of placing.kept) (place_of placing.kept) (λ core. or_none (left_at placing.lanes core)) (or_none placing.pairs),
  λ items certificate known is. (
    items,
    certificate,
    (λ core. reads_all can_fail.recordings row.Read (items core)),
    reads_all can_fail.certificate cert.Read certificate,
    rw is (ap (λ (left : ℕ → List Item). scan (length placing.lanes) (taken_of placing.kept) (place_of placing.kept) left certificate)
        (fun_ext (λ core. sym (ap or_none (known core))))),
  ),
)
