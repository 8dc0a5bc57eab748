-- How the recordings end after the last pair: the least core that has not ended decides.
use Rattle.std.proofs.Common.{◌≡◌, ◌<◌, ◌≤◌, ◌∙◌, ℕ, zero, suc, List, [], ◌∷◌, Bool, Option, Some, Ok, Err, length, refl, sym, subst, inl, inr, arith}
use Rattle.std.proofs.lemmas.Bool.{cases_eq}
use Rattle.std.specs.Prelude.{IfSome}
use Rattle.apex_types.specs.declared.record.Record.{Record}
use Rattle.csv_rows.specs.Source.{Gives}
use Rattle.order_cert.specs.declared.fault.OrderFault.TheVariants.{Missing}
use Rattle.order_cert.specs.Kept.{put}
use Rattle.record_read.specs.declared.fault.RowFault.{RowFault}
use Rattle.record_read.specs.declared.fault.RowFault.TheVariants as row
use Rattle.record_read.specs.Row.{Item}
use Rattle.record_read.specs.Steps.{IsOutside}
use Rattle.core_intake.specs.Answered.{Answered}
use Rattle.placement.specs.declared.fault.InputFault.{InputFault}
use Rattle.placement.specs.declared.fault.InputFault.TheVariants as input
use Rattle.placement.specs.Lanes.{AreLeft, IsEnded, OnEnd, left_at}
use Rattle.placement.specs.Scan.{end_of, ends_of, row_fault}
use Rattle.placement.proofs.Readings.{reads_all, fault_read, put-here, put-other, put_reads}

-- the recordings of the cores below have ended, and the others have as much left as before
abbrev pub HaveEnded : List Answered → ℕ → List Answered → Type 0
HaveEnded lanes0 core lanes =
    (items : ℕ → List Item) → AreLeft lanes0 items
    → ((below : ℕ) → below < core → items below ≡ []) × ((above : ℕ) → core ≤ above → left_at lanes above ≡ Some (items above))

ends_of-none : (cores place : ℕ) (taken : ℕ → ℕ) (left : ℕ → List Item) → ((core : ℕ) → core < cores → left core ≡ []) → ends_of cores place taken left ≡ Ok tt
ends_of-none zero place taken left empty = refl
ends_of-none (suc cores) place taken left empty =
    let low : ends_of cores place taken left ≡ Ok tt = ends_of-none cores place taken left (λ core within. empty core (omega arith)) in
    let top : left cores ≡ [] = empty cores (omega arith) in
    rw (low, top) refl

ends_of-stays : (cores below place : ℕ) (taken : ℕ → ℕ) (left : ℕ → List Item) (fault : InputFault) → below ≤ cores
    → ends_of below place taken left ≡ Err fault → ends_of cores place taken left ≡ Err fault
ends_of-stays zero below place taken left fault within e = let z : below ≡ 0 = omega arith in subst (λ m. ends_of m place taken left ≡ Err fault) z e
ends_of-stays (suc cores) below place taken left fault within e = elim (cases_eq (suc cores) below) [
  | inl s ↦ subst (λ m. ends_of m place taken left ≡ Err fault) (sym s) e
  | inr apart ↦ let low : ends_of cores place taken left ≡ Err fault = ends_of-stays cores below place taken left fault (omega arith) e in rw low refl
]

pub ends_of-first : (cores core place : ℕ) (taken : ℕ → ℕ) (left : ℕ → List Item) (fault : InputFault) → core < cores
    → ((below : ℕ) → below < core → left below ≡ []) → end_of place core (taken core) (left core) ≡ Err fault → ends_of cores place taken left ≡ Err fault
ends_of-first cores core place taken left fault within empty e =
    ends_of-stays cores (suc core) place taken left fault (omega arith) (rw (ends_of-none core place taken left empty) e)

pub end_fault : (can_fail : Bool) (lanes0 lanes : List Answered) (core place : ℕ) (taken : ℕ → ℕ) (fault : RowFault) (more : Option (List Item)) → core < length lanes0
    → HaveEnded lanes0 core lanes → IfSome (left_at lanes core) (λ items. Gives (IsOutside can_fail) items (Err fault) more)
    → OnEnd (IsEnded can_fail lanes0 place taken) (Err (row_fault core (taken core) fault))
end_fault can_fail lanes0 lanes core place taken row.Memory more within ended gives = tt
end_fault can_fail lanes0 lanes core place taken fault more within ended gives = λ items known.
    let h = ended items known in
    let item : Gives (IsOutside can_fail) (items core) (Err fault) more = rw (h.1 core (omega arith)) at gives in
    let read = fault_read can_fail row.Read row.Memory fault (items core) more (λ e. cc) item in
    let left : ℕ → List Item = put items core (Err fault ∷ read.0) in (
      left,
      put_reads can_fail row.Read items items core (Err fault ∷ read.0) (λ core apart. reads_all can_fail row.Read (items core)) read.1,
      ends_of-first (length lanes0) core place taken left (input.Row core (taken core) fault) within
          (λ below low. put-other items core below (Err fault ∷ read.0) (λ e. absurd (omega arith)) ∙ h.0 below low)
          (rw (put-here items core (Err fault ∷ read.0)) refl),
    )

pub end_missing : (can_fail : Bool) (lanes0 lanes : List Answered) (core place : ℕ) (taken : ℕ → ℕ) (rec : Record) (more : Option (List Item)) → core < length lanes0
    → HaveEnded lanes0 core lanes → IfSome (left_at lanes core) (λ items. Gives (IsOutside can_fail) items (Ok (Some rec)) more)
    → IsEnded can_fail lanes0 place taken (Err (input.Order place core Missing))
end_missing can_fail lanes0 lanes core place taken rec more within ended gives items known =
    let h = ended items known in
    let item : Gives (IsOutside can_fail) (items core) (Ok (Some rec)) more = rw (h.1 core (omega arith)) at gives in
    (items, (λ other. reads_all can_fail row.Read (items other)), ends_of-first (length lanes0) core place taken items (input.Order place core Missing) within h.0 (rw item.1 refl))

pub end_all : (can_fail : Bool) (lanes0 lanes : List Answered) (place : ℕ) (taken : ℕ → ℕ) → HaveEnded lanes0 (length lanes0) lanes → IsEnded can_fail lanes0 place taken (Ok tt)
end_all can_fail lanes0 lanes place taken ended items known = (items, (λ core. reads_all can_fail row.Read (items core)), ends_of-none (length lanes0) place taken items (ended items known).0)
