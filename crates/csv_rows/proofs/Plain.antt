-- What `csv` reads of a plain line is its split at the commas, and an empty line is no row.
use Rattle.std.proofs.Common.{◌≡◌, ◌<◌, ◌≤◌, ◌+◌, ◌⊎◌, ℕ, zero, suc, List, [], ◌∷◌, ◌++◌, length, take, drop, Option, Some, None, Bool, true, false, refl, sym, ap, inl, inr, arith, ◌∙◌, append_assoc, append-nil, take-append-drop}
use Rattle.std.specs.Prelude.{All, if◌then◌else◌, ◌==◌, ◌||◌, ◌&&◌}
use Rattle.std.proofs.lemmas.Bool.{false≢true}
use Rattle.std.proofs.lemmas.List.{length-take-le}
use Rattle.std.proofs.lemmas.List.Elements.{All-head, All-tail}
use Rattle.csv.specs.Machine.{Read, after_end, field_after, fields_after, in_field, is_end, next_record, start_field, step}
use Rattle.csv.specs.Reading.{default_config}
use Rattle.csv.specs.declared.parser.Action.{Action}
use Rattle.csv.specs.declared.parser.Action.TheVariants as act
use Rattle.csv.specs.declared.parser.State.{State}
use Rattle.csv.specs.declared.parser.State.TheVariants as st
use Rattle.csv.specs.declared.parser.Terminator.TheVariants as term
use Rattle.csv_rows.specs.Front.{EndsLine, IsLine}
use Rattle.csv_rows.specs.Line.{IsPlain, split, split_after}
use Rattle.csv_rows.specs.Stream.{rows_from}
use Rattle.csv_rows.proofs.Records.{first_record, no_record}

neither : (a b : Bool) → (a || b) ≡ false → (a ≡ false) × (b ≡ false)
neither true b h = absurd (false≢true (sym h))
neither false b h = (refl, h)

-- a plain byte ends no record and opens no quote
no_quote : (byte : ℕ) → IsPlain byte → (byte == 34) ≡ false
no_quote byte plain = (neither (byte == 34) (byte == 13) (neither (byte == 34 || byte == 13) (byte == 10) plain).0).0

no_end : (byte : ℕ) → IsPlain byte → (byte == 13 || byte == 10) ≡ false
no_end byte plain =
    let parts = neither (byte == 34 || byte == 13) (byte == 10) plain in
    ap (λ found. found || (byte == 10)) (neither (byte == 34) (byte == 13) parts.0).1 ∙ parts.1

-- what a plain byte does in a field
abbrev plain_step : ℕ → State × Action
plain_step byte = if byte == 44 then (st.StartField, act.EndField) else (st.InField, act.Copy)

inside : (byte : ℕ) → IsPlain byte → step default_config st.InField byte ≡ plain_step byte
inside byte plain =
    ap (λ (ends : Bool). if byte == 44 then (st.StartField, act.EndField) else if ends then (after_end term.CRLF byte, act.EndRecord) else (st.InField, act.Copy))
    (no_end byte plain)

started : (byte : ℕ) → IsPlain byte → step default_config st.StartField byte ≡ plain_step byte
started byte plain =
    ap (λ (quoted : Bool). if true && quoted then (st.InQuoted, act.Skip) else in_field default_config byte) (no_quote byte plain) ∙ inside byte plain

begun : (byte : ℕ) → IsPlain byte → step default_config st.StartRecord byte ≡ step default_config st.StartField byte
begun byte plain = ap (λ (ends : Bool). if ends then (st.StartRecord, act.Skip) else start_field default_config byte) (no_end byte plain)

-- the record that is read after a byte, by what the byte does
abbrev after_step : List (List ℕ) → List ℕ → ℕ → List ℕ → State × Action → Option Read
after_step fields field byte text did =
    if is_end did.1 then Some (fields_after did.1 fields field, did.0, text)
    else next_record default_config did.0 (fields_after did.1 fields field) (field_after did.1 byte field) text

-- in a field the front of a text ends the record
abbrev Ends : List ℕ → State → List ℕ → Type 0
Ends text after rest = (fields : List (List ℕ)) (field : List ℕ)
    → (next_record default_config st.StartField fields field text ≡ Some (fields ++ (field ∷ []), after, rest))
    × (next_record default_config st.InField fields field text ≡ Some (fields ++ (field ∷ []), after, rest))

at_feed : (rest : List ℕ) → Ends (10 ∷ rest) st.StartRecord rest
unfolding next_record
at_feed rest fields field = (refl, refl)

at_return : (rest : List ℕ) → Ends (13 ∷ rest) st.AfterCr rest
unfolding next_record
at_return rest fields field = (refl, refl)

at_end : Ends [] st.StartRecord []
unfolding next_record
at_end fields field = (refl, refl)

-- a plain line is read up to its end
line_read : (tail : List ℕ) (after : State) (rest : List ℕ) → Ends tail after rest → (line : List ℕ) → All IsPlain line
    → (fields : List (List ℕ)) (field : List ℕ)
    → (next_record default_config st.StartField fields field (line ++ tail) ≡ Some (fields ++ split_after field line, after, rest))
    × (next_record default_config st.InField fields field (line ++ tail) ≡ Some (fields ++ split_after field line, after, rest))
unfolding next_record split_after
line_read tail after rest ends [] plain fields field = ends fields field
line_read tail after rest ends (byte ∷ line) plain fields field =
    let first : IsPlain byte = All-head IsPlain byte line plain in
    let others : All IsPlain line = All-tail IsPlain byte line plain in
    let step_on = by (byte == 44) (line_read tail after rest ends line others (fields ++ (field ∷ [])) []).0 (line_read tail after rest ends line others fields (field ++ (byte ∷ []))).1 in
    (ap (after_step fields field byte (line ++ tail)) (started byte first) ∙ step_on, ap (after_step fields field byte (line ++ tail)) (inside byte first) ∙ step_on)
  where
    by : (comma : Bool)
        → next_record default_config st.StartField (fields ++ (field ∷ [])) [] (line ++ tail) ≡ Some ((fields ++ (field ∷ [])) ++ split_after [] line, after, rest)
        → next_record default_config st.InField fields (field ++ (byte ∷ [])) (line ++ tail) ≡ Some (fields ++ split_after (field ++ (byte ∷ [])) line, after, rest)
        → after_step fields field byte (line ++ tail) (if comma then (st.StartField, act.EndField) else (st.InField, act.Copy))
        ≡ Some (fields ++ (if comma then field ∷ split_after [] line else split_after (field ++ (byte ∷ [])) line), after, rest)
    by true ended copied = ended ∙ ap (λ all. Some (all, after, rest)) (append_assoc fields (field ∷ []) (split_after [] line))
    by false ended copied = copied

-- what the next record is says what the rows are
rows_by : (s t : State) (a b : List ℕ) → next_record default_config s [] [] a ≡ next_record default_config t [] [] b → rows_from s a ≡ rows_from t b
rows_by s t a b same = by (next_record default_config t [] [] b) refl
  where
    by : (o : Option Read) → next_record default_config t [] [] b ≡ o → rows_from s a ≡ rows_from t b
    by None e = no_record default_config s a (same ∙ e) ∙ sym (no_record default_config t b e)
    by (Some p) e = first_record default_config s a p (same ∙ e) ∙ sym (first_record default_config t b p e)

-- an empty line is no row
pub feed_skipped : (rest : List ℕ) → rows_from st.StartRecord (10 ∷ rest) ≡ rows_from st.StartRecord rest
unfolding next_record
feed_skipped rest = rows_by st.StartRecord st.StartRecord (10 ∷ rest) rest refl

return_skipped : (rest : List ℕ) → rows_from st.StartRecord (13 ∷ rest) ≡ rows_from st.StartRecord rest
unfolding next_record
return_skipped rest = rows_by st.StartRecord st.StartRecord (13 ∷ rest) rest refl

second_skipped : (rest : List ℕ) → rows_from st.AfterCr (10 ∷ rest) ≡ rows_from st.StartRecord rest
unfolding next_record
second_skipped rest = rows_by st.AfterCr st.StartRecord (10 ∷ rest) rest refl

pub none_at_end : rows_from st.StartRecord [] ≡ []
unfolding next_record
none_at_end = no_record default_config st.StartRecord [] refl

-- a plain line that is not empty is the first row
line_is_row : (tail : List ℕ) (after : State) (rest : List ℕ) → Ends tail after rest → (line : List ℕ) → All IsPlain line → 0 < length line
    → rows_from st.StartRecord (line ++ tail) ≡ split line ∷ rows_from after rest
unfolding next_record
line_is_row tail after rest ends [] plain filled = absurd (omega arith)
line_is_row tail after rest ends (byte ∷ line) plain filled =
    first_record default_config st.StartRecord (byte ∷ (line ++ tail)) (split (byte ∷ line), after, rest)
    (ap (after_step [] [] byte (line ++ tail)) (begun byte (All-head IsPlain byte line plain)) ∙ (line_read tail after rest ends (byte ∷ line) plain [] []).0)

-- the same of the last line of a text
pub last_is_row : (line : List ℕ) → All IsPlain line → 0 < length line → rows_from st.StartRecord line ≡ split line ∷ []
last_is_row line plain filled =
    ap (rows_from st.StartRecord) (sym (append-nil line)) ∙ line_is_row [] st.StartRecord [] at_end line plain filled
    ∙ ap (λ rows. split line ∷ rows) none_at_end

-- the same of a line that ends
ended_is_row : (tail rest more : List ℕ) → EndsLine tail rest → (line : List ℕ) → All IsPlain line → 0 < length line
    → rows_from st.StartRecord (line ++ (tail ++ more)) ≡ split line ∷ rows_from st.StartRecord (rest ++ more)
ended_is_row tail rest more (inl e) line plain filled =
    ap (λ text. rows_from st.StartRecord (line ++ (text ++ more))) e ∙ line_is_row (10 ∷ (rest ++ more)) st.StartRecord (rest ++ more) (at_feed (rest ++ more)) line plain filled
ended_is_row tail rest more (inr e) line plain filled =
    ap (λ text. rows_from st.StartRecord (line ++ (text ++ more))) e
    ∙ line_is_row (13 ∷ 10 ∷ (rest ++ more)) st.AfterCr (10 ∷ (rest ++ more)) (at_return (10 ∷ (rest ++ more))) line plain filled
    ∙ ap (λ rows. split line ∷ rows) (second_skipped (rest ++ more))

-- a text is its front and what comes after it
cut_at : (n : ℕ) (text more : List ℕ) → text ++ more ≡ take n text ++ (drop n text ++ more)
cut_at n text more = ap (λ all. all ++ more) (sym (take-append-drop n text)) ∙ append_assoc (take n text) (drop n text) more

-- the plain line at the front of a text is its first row
pub front_is_row : (text more : List ℕ) (n taken : ℕ) → IsLine text n taken → 0 < n
    → rows_from st.StartRecord (text ++ more) ≡ split (take n text) ∷ rows_from st.StartRecord (drop taken text ++ more)
front_is_row text more n taken line filled =
    let within : n ≤ length text = omega (arith, line.longer, line.bounded) in
    ap (rows_from st.StartRecord) (cut_at n text more)
    ∙ ended_is_row (drop n text) (drop taken text) more line.ends (take n text) line.plain (omega (arith, length-take-le n text within))

-- an empty line at the front of a text is none of its rows
pub front_is_none : (text more : List ℕ) (taken : ℕ) → IsLine text 0 taken → rows_from st.StartRecord (text ++ more) ≡ rows_from st.StartRecord (drop taken text ++ more)
front_is_none text more taken line = by line.ends
  where
    by : EndsLine text (drop taken text) → rows_from st.StartRecord (text ++ more) ≡ rows_from st.StartRecord (drop taken text ++ more)
    by (inl e) = ap (λ all. rows_from st.StartRecord (all ++ more)) e ∙ feed_skipped (drop taken text ++ more)
    by (inr e) = ap (λ all. rows_from st.StartRecord (all ++ more)) e ∙ return_skipped (10 ∷ (drop taken text ++ more)) ∙ feed_skipped (drop taken text ++ more)
