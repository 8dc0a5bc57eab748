-- The rows of ticks that end no wait.
use Rattle.std.proofs.Common.{◌≡◌, ◌≤◌, ◌<◌, ◌-◌, ℕ, zero, suc, List, [], ◌∷◌, Bool, true, false, Option, Some, None, Ok, Err, refl, sym, ap, subst, arith, ◌∙◌, length, ◌==◌, ◌&&◌, if◌then◌else◌}
use Rattle.std.specs.Prelude.{IfSome, option_map}
use Rattle.std.proofs.lemmas.Bool.{eq-eqb, lt-ltb}
use Rattle.std.proofs.lemmas.Option.{none-some, same_Some}
use Rattle.csv.specs.Records.{field_at}
use Rattle.csv_rows.specs.Decimal.{decimal}
use Rattle.csv_rows.specs.Line.{split, split_after}
use Rattle.csv_rows.specs.Numbered.{IsNumbered, TakesKnown}
use Rattle.csv_rows.specs.Source.{Gives, items_from}
use Rattle.csv_rows.specs.Stream.{Fields}
use Rattle.apex_types.specs.declared.limits.TheConstants.{MOST_RECORDS}
use Rattle.apex_types.specs.declared.format.Format.{Format}
use Rattle.apex_types.specs.declared.format.Format.TheVariants as format
use Rattle.apex_types.specs.Format.{field_count}
use Rattle.record_read.specs.declared.column.Column.TheVariants as column
use Rattle.record_read.specs.declared.kind.Kind.TheVariants as kind
use Rattle.record_read.specs.Field.{all_empty, filled, number, read_at}
use Rattle.record_read.specs.Named.{kind_in, kind_named, kind_of}
use Rattle.record_read.specs.Quiet.{quiet_line, quiet_tick}
use Rattle.record_read.specs.Row.{body_in, record_of, records_left, row_in, tick_in}
use Rattle.record_read.specs.Steps.{IsOutside, located}
use Rattle.record_read.specs.Woken.{woken_of}

not_empty : (greatest next : ℕ) → decimal greatest [] ≡ Some next → ⊥
unfolding decimal
not_empty greatest next read = none-some next read

-- the field that writes a number is read as it
number_is : (greatest next : ℕ) (first : List ℕ) → decimal greatest first ≡ Some next → number greatest first ≡ Ok next
unfolding number filled
number_is greatest next [] read = absurd (not_empty greatest next read)
number_is greatest next (b ∷ bs) read = rw read refl

-- a row whose number, kind and body are read is their record
steps_read : (format : Format) (next : ℕ) (fields : Fields) → next < MOST_RECORDS → (length fields == field_count format) ≡ true
    → read_at (number (MOST_RECORDS - 1)) fields column.Sequence ≡ Ok next → read_at (kind_of format) fields column.Kind ≡ Ok kind.Tick → tick_in fields ≡ Ok []
    → record_of format next fields ≡ Ok (quiet_tick next)
unfolding record_of row_in body_in
steps_read format next fields room count seq kind_is body_is = rw (lt-ltb next MOST_RECORDS room, count, seq, eq-eqb next next refl, kind_is, body_is) refl

-- the row of a quiet tick
abbrev line_of : Format → List ℕ → Fields
line_of format first = first ∷ split (quiet_line format)

count_is : (format : Format) (first : List ℕ) → (length (line_of format first) == field_count format) ≡ true
unfolding split_after
count_is format.One first = refl
count_is format.Two first = refl
count_is format.Three first = refl

kind_is : (format : Format) (first : List ℕ) → read_at (kind_of format) (line_of format first) column.Kind ≡ Ok kind.Tick
unfolding split_after field_at kind_of kind_in kind_named filled
kind_is format.One first = refl
kind_is format.Two first = refl
kind_is format.Three first = refl

body_is : (format : Format) (first : List ℕ) → tick_in (line_of format first) ≡ Ok []
unfolding split_after field_at tick_in all_empty woken_of
body_is format.One first = refl
body_is format.Two first = refl
body_is format.Three first = refl

seq_is : (format : Format) (next : ℕ) (first : List ℕ) → number (MOST_RECORDS - 1) first ≡ Ok next → read_at (number (MOST_RECORDS - 1)) (line_of format first) column.Sequence ≡ Ok next
unfolding field_at
seq_is format next first read = ap (located column.Sequence) read

line_row : (format : Format) (next : ℕ) (first : List ℕ) → next < MOST_RECORDS → number (MOST_RECORDS - 1) first ≡ Ok next → record_of format next (line_of format first) ≡ Ok (quiet_tick next)
line_row format next first room read =
    steps_read format next (line_of format first) room (count_is format first) (seq_is format next first read) (kind_is format first) (body_is format first)

-- such a row is the tick of its number
quiet_row : (format : Format) (next : ℕ) (fields : Fields) → IsNumbered next (quiet_line format) fields → next < MOST_RECORDS → record_of format next fields ≡ Ok (quiet_tick next)
quiet_row format next fields row room =
    ap (record_of format next) row.are
    ∙ line_row format next row.first room (number_is (MOST_RECORDS - 1) next row.first (row.writes (MOST_RECORDS - 1) (omega (arith, room))))

-- it is the next item of the recording
pub tick_given : (can_fail : Bool) (known : Option Format) (format : Format) (number next : ℕ) (line : List ℕ) (before after : Option (List Fields)) → known ≡ Some format
    → line ≡ quiet_line format → TakesKnown (IsNumbered number line) before after → number < MOST_RECORDS → suc number ≡ next
    → IfSome (option_map (records_left known number) before) (λ items. Gives (IsOutside can_fail) items (Ok (Some (quiet_tick number))) (option_map (records_left known next) after))
tick_given can_fail None format number next line before after is same takes room is_next = absurd (none-some format is)
tick_given can_fail (Some found) format number next line None after is same takes room is_next = tt
tick_given can_fail (Some found) format number next line (Some rows) after is same (fields, row, (rest, are, left)) room is_next =
    let format_is : found ≡ format = same_Some found format is in
    let quiet : IsNumbered number (quiet_line found) fields = subst (λ text. IsNumbered number text fields) (same ∙ ap quiet_line (sym format_is)) row in (
      items_from (record_of found) next rest,
      ap (items_from (record_of found) number) are ∙ ap (λ item. item ∷ items_from (record_of found) (suc number) rest) (quiet_row found number fields quiet room)
          ∙ ap (λ k. Ok (quiet_tick number) ∷ items_from (record_of found) k rest) is_next,
      ap (option_map (records_left (Some found) next)) left,
    )
