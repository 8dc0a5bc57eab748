-- The first row of a recording gives its format.
use Rattle.std.proofs.Common.{◌≡◌, List, Option, Some, true, false, sym, subst}
use Rattle.std.specs.Prelude.{IfSome}
use Rattle.apex_types.specs.declared.format.Format.{Format}
use Rattle.csv_rows.specs.Stream.{Fields, Takes}
use Rattle.record_read.specs.Format.{begun_by}
use Rattle.recording_maker.specs.Formats.{BeginsIn}

-- a row was read
pub begins_in : (format : Format) (rows : List Fields) (fields : Fields) (before after : Option (List Fields)) → before ≡ Some rows → IfSome before (λ left. Takes true left fields after)
    → begun_by fields ≡ format → BeginsIn format rows
begins_in format rows fields before after known takes begun =
    let taken : Takes true rows fields after = subst (λ (left : Option (List Fields)). IfSome left (λ read. Takes true read fields after)) known takes in
    subst (λ (read : List Fields). BeginsIn format read) (sym taken.1) begun

-- there is none
pub begins_nowhere : (format : Format) (rows : List Fields) (fields : Fields) (before after : Option (List Fields)) → before ≡ Some rows → IfSome before (λ left. Takes false left fields after)
    → BeginsIn format rows
begins_nowhere format rows fields before after known takes =
    let taken : Takes false rows fields after = subst (λ (left : Option (List Fields)). IfSome left (λ read. Takes false read fields after)) known takes in
    subst (λ (read : List Fields). BeginsIn format read) (sym taken.0) tt
