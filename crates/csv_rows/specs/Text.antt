-- The text that is left: plain lines that are split here, or what `csv` reads.
use Rattle.std.specs.Prelude.{◌≡◌, ⊤, ℕ, List, [], ◌∷◌, Bool, true, false, Option, Some, None, Result, Ok, Err, IfSome, drop, if◌then◌else◌, option_map}
use Rattle.std.specs.Global.{Vec}
use Rattle.std.specs.Io.Chain.{chain_remaining, chain_second}
use Rattle.std.specs.Io.Cursor.{cursor_remaining}
use Rattle.std.specs.Io.KnownBytes.{IsAtEnd, prepend_known}
use Rattle.std.specs.declared.io.impls.Cursor.{Cursor}
use Rattle.std.specs.declared.io.traits.Chain.{Chain}
use Rattle.csv.specs.Reading.{is_bom, reader_source, strip_bom}
use Rattle.csv.specs.declared.parser.State.TheVariants as st
use Rattle.csv_rows.specs.Front.{IsFront}
use Rattle.csv_rows.specs.Stream.{Fields, IsSet, Takes, left_of, rows_from}
use Rattle.csv_rows.specs.declared.ahead.Ahead.{Ahead}
use Rattle.csv_rows.specs.declared.ahead.Taken.{Taken}
use Rattle.csv_rows.specs.declared.ahead.Taken.TheVariants as taken
use Rattle.csv_rows.specs.declared.front.Front.{Front}
use Rattle.csv_rows.specs.declared.front.Front.TheVariants as front
use Rattle.csv_rows.specs.declared.source_reader.SourceReader.{SourceReader}
use Rattle.csv_rows.specs.declared.stream.StreamFault.{StreamFault}
use Rattle.csv_rows.specs.declared.stream.StreamFault.TheVariants.{Read, Memory}
use Rattle.csv_rows.specs.declared.text.Text.{Text}
use Rattle.csv_rows.specs.declared.text.Text.TheVariants as text

-- the bytes that were not taken, if they are known
abbrev pub unread_of : {R : Type 0} → (R → Option (List ℕ)) → Ahead R → Option (List ℕ)
unread_of known ahead = prepend_known (drop ahead.at ahead.bytes.items) (known ahead.source)

-- the text that is left: at its start, those bytes without a byte order mark
abbrev pub text_of : {R : Type 0} → (R → Option (List ℕ)) → Ahead R → Option (List ℕ)
text_of known ahead = if ahead.is_begun then unread_of known ahead else option_map strip_bom (unread_of known ahead)

-- how many bytes the byte order mark takes at the beginning of these
abbrev pub mark_length : List ℕ → ℕ
mark_length [] = 0
mark_length (a ∷ []) = 0
mark_length (a ∷ b ∷ []) = 0
mark_length (a ∷ b ∷ c ∷ rest) = if is_bom a b c then 3 else 0

-- the rows of a text that begins with a row
abbrev pub rows_left : Option (List ℕ) → Option (List Fields)
rows_left known = option_map (rows_from st.StartRecord) known

-- if what was read ahead is plain and has no end of a line, nothing more of the text is left
abbrev pub IsWhole : Option (List ℕ) → Front → Type 0
IsWhole rest (front.Line line) = ⊤
IsWhole rest front.Open = IsAtEnd rest
IsWhole rest front.Return = ⊤
IsWhole rest front.Other = ⊤

-- what the front of the rest of a text is
abbrev pub IsFrontOf : {R : Type 0} → (R → Option (List ℕ)) → Ahead R → Front → Type 0
IsFrontOf known ahead front = IsFront (drop ahead.at ahead.bytes.items) front × IsWhole (known ahead.source) front

-- whether a read of the source has failed, before and after a read of the text: the answer Read means that one has, and any other answer
-- leaves this as it was
abbrev pub ReportsFailure : {A : Type 0} → Bool → Bool → Result A StreamFault → Type 0
ReportsFailure before after (Ok answer) = after ≡ before
ReportsFailure before after (Err Read) = after ≡ true
ReportsFailure before after (Err Memory) = after ≡ before

-- a row was taken: the first that was left, or none was left
abbrev pub TakesRow : Option (List Fields) → Bool → Fields → Option (List Fields) → Type 0
TakesRow before found fields after = IfSome before (λ rows. Takes found rows fields (if found then after else Some []))

-- rows stay as they were, if they are known
abbrev pub KeepsRows : Option (List Fields) → Option (List Fields) → Type 0
KeepsRows before after = IfSome before (λ rows. after ≡ Some rows)

-- a plain line was taken as the first row, or no row was left, or all rows are left for another reader
abbrev pub TakesLine : Option (List Fields) → Taken → Fields → Option (List Fields) → Type 0
TakesLine before taken.Row fields after = TakesRow before true fields after
TakesLine before taken.End fields after = TakesRow before false fields after
TakesLine before taken.Other fields after = KeepsRows before after

-- what is left when `csv` takes over a text: a line feed, the bytes that were read ahead, and the source
abbrev pub RestOf : Type 0 → Type 0
RestOf R = Chain (Chain (Cursor (List ℕ)) (Cursor (Vec ℕ))) (SourceReader R)

-- the bytes of that rest, if they are known
abbrev pub rest_of : {R : Type 0} → (R → Option (List ℕ)) → RestOf R → Option (List ℕ)
rest_of known rest = chain_remaining (chain_remaining (cursor_remaining (λ gap. Some gap)) (cursor_remaining (λ bytes. Some bytes.items))) (λ reader. known reader.source) rest

-- the rows that are left, if the bytes are known
abbrev pub left_in : {R : Type 0} → (R → Option (List ℕ)) → Text R → Option (List Fields)
left_in known (text.Lines ahead) = rows_left (text_of known ahead)
left_in known (text.Records reader) = left_of (rest_of known) reader

-- whether the source of a text has failed
abbrev pub failed_in : {R : Type 0} → (R → Bool) → Text R → Bool
failed_in failed (text.Lines ahead) = failed ahead.source
failed_in failed (text.Records reader) = failed (chain_second (reader_source reader)).source

-- a text that can be read on
abbrev pub IsReady : {R : Type 0} → Text R → Type 0
IsReady (text.Lines ahead) = ⊤
IsReady (text.Records reader) = IsSet reader

-- a text whose first bytes were looked at for a byte order mark; if `csv` reads it on, it can be read on
abbrev pub IsBegun : {R : Type 0} → Text R → Type 0
IsBegun (text.Lines ahead) = ahead.is_begun ≡ true
IsBegun (text.Records reader) = IsSet reader

-- how often a text can still be handed over: once `csv` reads it, it does so to the end
abbrev pub hand_overs_left : {R : Type 0} → Text R → ℕ
hand_overs_left (text.Lines ahead) = 1
hand_overs_left (text.Records reader) = 0
