-- What is written of a certificate is read as its pairs.
use Rattle.std.proofs.Common.{◌≡◌, ◌<◌, ◌≤◌, ◌+◌, ◌∙◌, ℕ, suc, List, [], ◌∷◌, ◌++◌, length, map, drop, Ok, refl, sym, ap, subst, inl, arith, append_assoc, append-nil, length-append}
use Rattle.std.specs.Prelude.{All, decimal}
use Rattle.std.specs.Char.{digit_value}
use Rattle.std.specs.Str.Parse.{AllDigits, IsNumeral}
use Rattle.std.proofs.lemmas.Bool.{lt-ltb, ne_eqb}
use Rattle.std.proofs.lemmas.Fmt.{decimal_is_IsNumeral}
use Rattle.std.proofs.lemmas.List.Elements.{All-append, All-cons, All-nil}
use Rattle.std.proofs.lemmas.Str.Parse.{digit_from_value}
use Rattle.std.proofs.Math.Seq.{drop-append_seam, take-append_seam}
use Rattle.csv.specs.Reading.{strip_bom}
use Rattle.csv.specs.Records.{field_at}
use Rattle.csv.specs.declared.parser.State.TheVariants as st
use Rattle.csv_rows.specs.Front.{IsLine}
use Rattle.csv_rows.specs.Line.{IsPlain, split, split_after}
use Rattle.csv_rows.specs.Source.{items_from}
use Rattle.csv_rows.specs.Stream.{Fields, rows_from}
use Rattle.csv_rows.proofs.Marks.{no_mark}
use Rattle.csv_rows.proofs.Plain.{front_is_row, none_at_end}
use Rattle.apex_types.specs.declared.limits.TheConstants.{PLACE_COUNT}
use Rattle.apex_types.specs.declared.record.Pair.{Pair}
use Rattle.order_cert.specs.Row.{Item, item_of, number_at, pair_of, pairs_of}
use Rattle.record_read.proofs.GrammarNumbers.{number_read}
use Rattle.order_run.specs.Rows.{row_of, rows_of}
use Rattle.order_run.specs.UnderWay.{AllFit}

-- the rows of pairs one after another
pub rows_append : (front back : List Pair) → rows_of (front ++ back) ≡ rows_of front ++ rows_of back
rows_append [] back = refl
rows_append (pair ∷ front) back = ap (λ rows. row_of pair ++ rows) (rows_append front back) ∙ sym (append_assoc (row_of pair) (rows_of front) (rows_of back))

pub rows_push : (pairs : List Pair) (pair : Pair) → rows_of (pairs ++ pair ∷ []) ≡ rows_of pairs ++ row_of pair
rows_push pairs pair = rows_append pairs (pair ∷ []) ∙ ap (λ row. rows_of pairs ++ row) (append-nil (row_of pair))

-- rows are lines

-- a digit is no byte below the digits
digit_is_no : (other digit : ℕ) → digit_value digit < 10 → other < 48 → (digit ≡ other → ⊥)
digit_is_no other digit is low same =
    let range = digit_from_value digit is in
    let least : 48 ≤ digit = range.0 in
    let e : digit ≡ other = same in
    omega arith

-- a digit is plain
digit_is_plain : (digit : ℕ) → digit_value digit < 10 → IsPlain digit
digit_is_plain digit is =
    rw (ne_eqb digit 34 (digit_is_no 34 digit is (omega arith)), ne_eqb digit 13 (digit_is_no 13 digit is (omega arith)), ne_eqb digit 10 (digit_is_no 10 digit is (omega arith))) refl

all_plain : (digits : List ℕ) → AllDigits 10 digits → All IsPlain digits
all_plain [] all = All-nil IsPlain
all_plain (digit ∷ digits) all = All-cons IsPlain digit digits (digit_is_plain digit all.0) (all_plain digits all.1)

-- digits are one field
split_digits : (field digits rest : List ℕ) → AllDigits 10 digits → split_after field (digits ++ 44 ∷ rest) ≡ (field ++ digits) ∷ split rest
unfolding split_after
split_digits field [] rest all = ap (λ (front : List ℕ). front ∷ split rest) (sym (append-nil field))
split_digits field (digit ∷ digits) rest all =
    rw (ne_eqb digit 44 (digit_is_no 44 digit all.0 (omega arith)))
    (split_digits (field ++ digit ∷ []) digits rest all.1 ∙ ap (λ (front : List ℕ). front ∷ split rest) (append_assoc field (digit ∷ []) digits))

split_last : (field digits : List ℕ) → AllDigits 10 digits → split_after field digits ≡ (field ++ digits) ∷ []
unfolding split_after
split_last field [] all = ap (λ (front : List ℕ). front ∷ []) (sym (append-nil field))
split_last field (digit ∷ digits) all =
    rw (ne_eqb digit 44 (digit_is_no 44 digit all.0 (omega arith)))
    (split_last (field ++ digit ∷ []) digits all.1 ∙ ap (λ (front : List ℕ). front ∷ []) (append_assoc field (digit ∷ []) digits))

-- a number that is written
written : (n : ℕ) → n ≤ 0xFFFFFFFF → IsNumeral 10 (decimal n)
written n small = (decimal_is_IsNumeral n (omega arith)).0

-- the line of a pair, and its fields
abbrev line_of : Pair → List ℕ
line_of pair = decimal pair.core ++ 44 ∷ decimal pair.seq

abbrev fields_of : Pair → Fields
fields_of pair = decimal pair.core ∷ decimal pair.seq ∷ []

line_split : (pair : Pair) → pair.core ≤ 0xFFFFFFFF → pair.seq ≤ 0xFFFFFFFF → split (line_of pair) ≡ fields_of pair
line_split pair core seq =
    split_digits [] (decimal pair.core) (decimal pair.seq) (written pair.core core).1
    ∙ ap (λ (more : Fields). decimal pair.core ∷ more) (split_last [] (decimal pair.seq) (written pair.seq seq).1)

line_is_plain : (pair : Pair) → pair.core ≤ 0xFFFFFFFF → pair.seq ≤ 0xFFFFFFFF → All IsPlain (line_of pair)
line_is_plain pair core seq =
    All-append IsPlain (decimal pair.core) (44 ∷ decimal pair.seq) (all_plain (decimal pair.core) (written pair.core core).1)
    (All-cons IsPlain 44 (decimal pair.seq) refl (all_plain (decimal pair.seq) (written pair.seq seq).1))

row_is_line : (pair : Pair) → row_of pair ≡ line_of pair ++ 10 ∷ []
row_is_line pair = sym (append_assoc (decimal pair.core) (44 ∷ decimal pair.seq) (10 ∷ []))

drop_past : (line : List ℕ) → drop (suc (length line)) (line ++ 10 ∷ []) ≡ []
drop_past [] = refl
drop_past (byte ∷ line) = drop_past line

ended_line : (line : List ℕ) → All IsPlain line → IsLine (line ++ 10 ∷ []) (length line) (suc (length line))
ended_line line plain = record {
  plain = subst (All IsPlain) (sym (take-append_seam line (10 ∷ []))) plain;
  ends = inl (drop-append_seam line (10 ∷ []) ∙ ap (λ (rest : List ℕ). 10 ∷ rest) (sym (drop_past line)));
  longer = omega arith;
  bounded = omega (arith, length-append line (10 ∷ []));
}

-- a line that ends is the first row
first_row : (line more : List ℕ) → All IsPlain line → 0 < length line → rows_from st.StartRecord ((line ++ 10 ∷ []) ++ more) ≡ split line ∷ rows_from st.StartRecord more
first_row line more plain filled =
    front_is_row (line ++ 10 ∷ []) more (length line) (suc (length line)) (ended_line line plain) filled
    ∙ ap (λ (front : List ℕ). split front ∷ rows_from st.StartRecord (drop (suc (length line)) (line ++ 10 ∷ []) ++ more)) (take-append_seam line (10 ∷ []))
    ∙ ap (λ (rest : List ℕ). split line ∷ rows_from st.StartRecord (rest ++ more)) (drop_past line)

-- the rows that are read
rows_read : (pairs : List Pair) → AllFit pairs → rows_from st.StartRecord (rows_of pairs) ≡ map fields_of pairs
rows_read [] fit = none_at_end
rows_read (pair ∷ pairs) (core, seq, fit) =
    ap (λ (row : List ℕ). rows_from st.StartRecord (row ++ rows_of pairs)) (row_is_line pair)
    ∙ first_row (line_of pair) (rows_of pairs) (line_is_plain pair core seq) (omega (arith, length-append (decimal pair.core) (44 ∷ decimal pair.seq)))
    ∙ ap (λ (fields : Fields). fields ∷ rows_from st.StartRecord (rows_of pairs)) (line_split pair core seq)
    ∙ ap (λ (rows : List Fields). fields_of pair ∷ rows) (rows_read pairs fit)

-- the fields of a row are its pair
item_is : (number : ℕ) (pair : Pair) → number < PLACE_COUNT → pair.core ≤ 0xFFFFFFFF → pair.seq ≤ 0xFFFFFFFF → item_of number (fields_of pair) ≡ Ok pair
unfolding pair_of number_at field_at
item_is number pair within core seq =
    rw (
      lt-ltb number PLACE_COUNT within,
      number_read 0xFFFFFFFF pair.core (decimal pair.core) (omega arith) core refl,
      number_read 0xFFFFFFFF pair.seq (decimal pair.seq) (omega arith) seq refl,
    ) refl

items_are : (number : ℕ) (pairs : List Pair) → AllFit pairs → number + length pairs ≤ PLACE_COUNT → items_from item_of number (map fields_of pairs) ≡ map Ok pairs
items_are number [] fit few = refl
items_are number (pair ∷ pairs) (core, seq, fit) few =
    ap (λ (one : Item). one ∷ items_from item_of (suc number) (map fields_of pairs)) (item_is number pair (omega (arith, few)) core seq)
    ∙ ap (λ (rest : List Item). Ok pair ∷ rest) (items_are (suc number) pairs fit (omega (arith, few)))

-- a text that begins with a digit has no byte order mark
no_mark_first : (digits more : List ℕ) → IsNumeral 10 digits → strip_bom (digits ++ more) ≡ digits ++ more
no_mark_first [] more numeral = absurd (omega (arith, numeral.0))
no_mark_first (digit ∷ digits) more numeral =
    no_mark digit (digits ++ more) (ne_eqb digit 0xEF (λ same.
    let range = digit_from_value digit numeral.1.0 in let greatest : digit ≤ 57 = range.1 in let e : digit ≡ 0xEF = same in omega arith))

no_mark_in : (pairs : List Pair) → AllFit pairs → strip_bom (rows_of pairs) ≡ rows_of pairs
unfolding strip_bom
no_mark_in [] fit = refl
no_mark_in (pair ∷ pairs) (core, seq, fit) =
    let rest : List ℕ = 44 ∷ (decimal pair.seq ++ 10 ∷ []) in
    subst (λ text. strip_bom text ≡ text) (sym (append_assoc (decimal pair.core) rest (rows_of pairs)))
    (no_mark_first (decimal pair.core) (rest ++ rows_of pairs) (written pair.core core))

pub rows_are_read : (pairs : List Pair) → AllFit pairs → length pairs ≤ PLACE_COUNT → pairs_of (rows_of pairs) ≡ map Ok pairs
rows_are_read pairs fit few =
    ap (λ (text : List ℕ). items_from item_of 0 (rows_from st.StartRecord text)) (no_mark_in pairs fit)
    ∙ ap (items_from item_of 0) (rows_read pairs fit) ∙ items_are 0 pairs fit (omega (arith, few))
