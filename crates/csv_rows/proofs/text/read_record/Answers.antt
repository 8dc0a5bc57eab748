use Rattle.std.proofs.Common.{◌≡◌, ◌∙◌, Bool, Option, Some, None, Result, Ok, Err, subst, sym}
use Rattle.std.specs.Prelude.{IfOk}
use Rattle.std.specs.Result.{result_ok}
use Rattle.csv.specs.Reading.{Ready, ReadRecord, reader_trim}
use Rattle.csv.specs.Records.{fields_of}
use Rattle.csv.specs.declared.reader.Trim.TheVariants as trim
use Rattle.csv_rows.specs.Text.{rest_of}
use Rattle.csv_rows.proofs.Records.{read_takes}
use Rattle.csv_rows.proofs.text.read_record.Goals as goal
use Rattle.csv_rows.proofs.text.read_record.Goals.{in-Some, in-None}

-- what holds of an answer that is Ok holds of what it gave
holds_of : {E : Type 0} (P : Bool → Type 0) (answer : Result Bool E) (found : Bool) → result_ok answer ≡ Some found → IfOk answer P → P found
holds_of P (Ok b) found e h =
    let given : ◌≡◌ {A = Option Bool} (Some b) (Some found) = e in
    let same : b ≡ found = cc in
    subst P same h
holds_of P (Err x) found e h = let e : ◌≡◌ {A = Option Bool} None (Some found) = e in cc

pub returns-clause-takes : goal.returns-clause-takes
returns-clause-takes g c =
    elim c.match-found.branch [
      | in-Some w ↦
          rw w.result-is (read_takes (rest_of g.R.TextSource.remaining) c.args.reader.now c.read_byte_record.new.self w.in-Some.found
          (fields_of c.read_byte_record.new.row) c.requires.set
          (holds_of (λ found. (reader_trim c.args.reader.now ≡ trim.None) → Ready c.args.reader.now → ReadRecord (rest_of g.R.TextSource.remaining) c.args.reader.now c.read_byte_record.new.self found (fields_of c.read_byte_record.new.row))
          c.read_byte_record.result w.in-Some.found (sym c.ok-found.ensures.value ∙ w.in-Some.is) c.read_byte_record.ensures.reads c.requires.set.trim c.requires.set.ready))
      | in-None w ↦ rw w.result-is tt
    ]
