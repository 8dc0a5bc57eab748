-- Rows with numbers at the front of a text.
use Rattle.std.proofs.Common.{◌≡◌, ◌≢◌, ◌<◌, ◌≤◌, ◌+◌, ◌*◌, ◌-◌, ℕ, zero, suc, List, [], ◌∷◌, ◌++◌, length, take, drop, get_or, nat_le, nat_lt, Option, Some, None, Bool, true, false, refl, sym, ap, subst, inl, inr, arith, ◌∙◌, append_assoc, append-nil, if◌then◌else◌, ◌==◌, ◌&&◌}
use Rattle.std.specs.Prelude.{All}
use Rattle.std.specs.Char.{is_ascii_digit}
use Rattle.std.specs.Io.KnownBytes.{prepend_known}
use Rattle.std.proofs.Math.Seq.{take-add}
use Rattle.std.proofs.lemmas.Bool.{and_parts, false≢true, le-leb, leb-true, ne_eqb}
use Rattle.std.proofs.lemmas.List.{drop-drop, drop_more, get_or-drop, length-drop, length-take-le, take_more}
use Rattle.std.proofs.lemmas.List.Elements.{All-append, All-head, All-nil, All-tail}
use Rattle.std.proofs.lemmas.Option.{none-some, same_Some}
use Rattle.csv.specs.declared.parser.State.TheVariants as st
use Rattle.csv_rows.specs.Decimal.{decimal, digits_from}
use Rattle.csv_rows.specs.Line.{IsPlain, split, split_after}
use Rattle.csv_rows.specs.Numbered.{IsNumberAt, IsNumbered, IsPair, IsRowAt, TakesKnown, Writes}
use Rattle.csv_rows.specs.Stream.{Fields, rows_from}
use Rattle.csv_rows.specs.Text.{rows_left}
use Rattle.csv_rows.proofs.Plain.{front_is_row}

abbrev pub IsDigit : ℕ → Type 0
IsDigit byte = is_ascii_digit byte ≡ true

pub digit_range : (byte : ℕ) → IsDigit byte → (48 ≤ byte) × (byte ≤ 57)
digit_range byte digit = let parts = and_parts (nat_le 48 byte) (nat_le byte 57) digit in (leb-true 48 byte parts.0, leb-true byte 57 parts.1)

no_comma : (byte : ℕ) → IsDigit byte → (byte == 44) ≡ false
no_comma byte digit = let range = digit_range byte digit in ne_eqb byte 44 (λ is. omega (arith, range.0, is))

digit_plain : (byte : ℕ) → IsDigit byte → IsPlain byte
digit_plain byte digit =
    let range = digit_range byte digit in
    let quote : (byte == 34) ≡ false = ne_eqb byte 34 (λ is. omega (arith, range.0, is)) in
    let returned : (byte == 13) ≡ false = ne_eqb byte 13 (λ is. omega (arith, range.0, is)) in
    let feed : (byte == 10) ≡ false = ne_eqb byte 10 (λ is. omega (arith, range.0, is)) in
    rw (quote, returned, feed) refl

-- digits are plain
pub digits_plain : (text : List ℕ) → All IsDigit text → All IsPlain text
digits_plain text digits place default below = digit_plain (get_or text place default) (digits place default below)

-- digits so far are read as a number wherever it is allowed
abbrev pub Reads : List ℕ → ℕ → Type 0
Reads text number = (max : ℕ) → number ≤ max → digits_from max 0 text ≡ Some number

digit_after : (max from number byte : ℕ) (text : List ℕ) → digits_from max from text ≡ Some number → IsDigit byte → number * 10 + (byte - 48) ≤ max
    → digits_from max from (text ++ byte ∷ []) ≡ Some (number * 10 + (byte - 48))
unfolding digits_from
digit_after max from number byte [] read digit room =
    let same : from ≡ number = same_Some from number read in
    rw (same, digit, le-leb (number * 10 + (byte - 48)) max room) refl
digit_after max from number byte (first ∷ text) read digit room =
    by (is_ascii_digit first && nat_le (from * 10 + (first - 48)) max) read (λ more. digit_after max (from * 10 + (first - 48)) number byte text more digit room)
  where
    by : (taken : Bool) → (if taken then digits_from max (from * 10 + (first - 48)) text else None) ≡ Some number
        → (digits_from max (from * 10 + (first - 48)) text ≡ Some number → digits_from max (from * 10 + (first - 48)) (text ++ byte ∷ []) ≡ Some (number * 10 + (byte - 48)))
        → (if taken then digits_from max (from * 10 + (first - 48)) (text ++ byte ∷ []) else None) ≡ Some (number * 10 + (byte - 48))
    by true read more = more read
    by false read more = absurd (none-some number read)

-- the digits before a place, which are read as this number
pub record IsReadTo (text : List ℕ) (place number : ℕ) : Type 0 where
  pub within : place ≤ length text
  pub digits : All IsDigit (take place text)
  pub reads : Reads (take place text) number

pub read_none : (text : List ℕ) → IsReadTo text 0 0
unfolding digits_from
read_none text = record { within = omega arith; digits = All-nil IsDigit; reads = λ max fits. refl }

pub read_more : (text : List ℕ) (place number byte : ℕ) → IsReadTo text place number → place < length text → get_or text place 0 ≡ byte → IsDigit byte
    → IsReadTo text (place + 1) (number * 10 + (byte - 48))
read_more text place number byte before within is digit =
    let longer : take (place + 1) text ≡ take place text ++ byte ∷ [] = take_more text place 0 within ∙ ap (λ b. take place text ++ b ∷ []) is in
    let one : All IsDigit (byte ∷ []) = single byte digit in
    let reads : Reads (take place text ++ byte ∷ []) (number * 10 + (byte - 48)) =
    λ max fits. digit_after max 0 number byte (take place text) (before.reads max (omega (arith, fits))) digit fits in
    record {
      within = omega (arith, within);
      digits = subst (All IsDigit) (sym longer) (All-append IsDigit (take place text) (byte ∷ []) before.digits one);
      reads = subst (λ front. Reads front (number * 10 + (byte - 48))) (sym longer) reads;
    }
  where
    single : (b : ℕ) → IsDigit b → All IsDigit (b ∷ [])
    single b digit zero default below = digit
    single b digit (suc k) default below = absurd (omega (arith, below))

alone : (zero_first : Bool) → (zero_first && nat_lt 0 0) ≡ false
alone true = refl
alone false = refl

-- digits that do not begin with a zero, or a single one, write their number
digits_write : (text : List ℕ) (digits number : ℕ) → digits ≤ length text → Reads (take digits text) number → 0 < digits
    → (1 < digits → get_or text 0 0 ≢ 48) → Writes (take digits text) number
unfolding decimal
digits_write text zero number within reads some leads = absurd (omega (arith, some))
digits_write [] (suc more) number within reads some leads = absurd (omega (arith, within))
digits_write (first ∷ text) (suc zero) number within reads some leads = λ max fits. rw (alone (first == 48)) (reads max fits)
digits_write (first ∷ text) (suc (suc more)) number within reads some leads = λ max fits. rw (ne_eqb first 48 (leads (omega arith))) (reads max fits)

pub read_writes : (text : List ℕ) (digits number : ℕ) → IsReadTo text digits number → 0 < digits → (1 < digits → get_or text 0 0 ≢ 48)
    → IsNumberAt text number digits
read_writes text digits number read some leads =
    record { within = read.within; are = read.digits; writes = digits_write text digits number read.within read.reads some leads }

-- digits join the field before a comma
split_digits : (field digits line : List ℕ) → All IsDigit digits → split_after field (digits ++ 44 ∷ line) ≡ (field ++ digits) ∷ split line
unfolding split_after
split_digits field [] line are = ap (λ first. first ∷ split line) (sym (append-nil field))
split_digits field (byte ∷ digits) line are =
    rw (no_comma byte (All-head IsDigit byte digits are))
    (split_digits (field ++ byte ∷ []) digits line (All-tail IsDigit byte digits are) ∙ ap (λ first. first ∷ split line) (append_assoc field (byte ∷ []) digits))

-- digits alone are one field
split_last : (field digits : List ℕ) → All IsDigit digits → split_after field digits ≡ (field ++ digits) ∷ []
unfolding split_after
split_last field [] are = ap (λ first. first ∷ []) (sym (append-nil field))
split_last field (byte ∷ digits) are =
    rw (no_comma byte (All-head IsDigit byte digits are))
    (split_last (field ++ byte ∷ []) digits (All-tail IsDigit byte digits are) ∙ ap (λ first. first ∷ []) (append_assoc field (byte ∷ []) digits))

comma_alone : All IsPlain (44 ∷ [])
comma_alone zero default below = refl
comma_alone (suc k) default below = absurd (omega (arith, below))

-- a number, a comma and a line up to its line feed are a row
pub row_at : (Is : Fields → Type 0) (text line : List ℕ) (number digits taken : ℕ) → IsNumberAt text number digits → digits < length text
    → get_or text digits 0 ≡ 44 → take (length line) (drop (digits + 1) text) ≡ line → length line < length (drop (digits + 1) text)
    → get_or (drop (digits + 1) text) (length line) 0 ≡ 10 → All IsPlain line → taken ≡ digits + length line + 2 → Is (take digits text ∷ split line)
    → IsRowAt Is text taken
row_at Is text line number digits taken found within comma is_line more feed plain count is =
    let end = digits + 1 + length line in
    let short : end < length text = omega (arith, more, length-drop (digits + 1) text) in
    let joined : (take digits text ++ 44 ∷ []) ++ line ≡ take digits text ++ 44 ∷ line = append_assoc (take digits text) (44 ∷ []) line in
    let front : take (digits + 1) text ≡ take digits text ++ 44 ∷ [] = take_more text digits 0 within ∙ ap (λ b. take digits text ++ b ∷ []) comma in
    let cut : take end text ≡ take digits text ++ 44 ∷ line =
    take-add (digits + 1) (length line) text ∙ ap (λ all. take (digits + 1) text ++ all) is_line ∙ ap (λ all. all ++ line) front ∙ joined in
    let all_plain : All IsPlain ((take digits text ++ 44 ∷ []) ++ line) =
    All-append IsPlain (take digits text ++ 44 ∷ []) line (All-append IsPlain (take digits text) (44 ∷ []) (digits_plain (take digits text) found.are) comma_alone) plain in
    let ended : get_or text end 0 ≡ 10 = sym (get_or-drop (digits + 1) text (length line) 0) ∙ feed in
    let next : end + 1 ≡ taken = omega (arith, count) in
    record {
      length_of = end;
      line = record {
        plain = subst (All IsPlain) (joined ∙ sym cut) all_plain;
        ends = inl (drop_more text end 0 short ∙ ap (λ b. b ∷ drop (end + 1) text) ended ∙ ap (λ k. 10 ∷ drop k text) next);
        longer = omega (arith, next);
        bounded = omega (arith, next, short);
      };
      filled = omega arith;
      is = subst Is (sym (ap split cut ∙ split_digits [] (take digits text) line found.are)) is;
    }

-- two numbers, with a comma between them and a line feed after them
pub pair_row : (text rest : List ℕ) (first second digits more taken : ℕ) → IsNumberAt text first digits → digits < length text → get_or text digits 0 ≡ 44
    → rest ≡ drop (digits + 1) text → IsNumberAt rest second more → more < length rest → get_or rest more 0 ≡ 10 → taken ≡ digits + more + 2
    → IsRowAt (IsPair (first, second)) text taken
pair_row text rest first second digits more taken found within comma same after room feed count =
    let line = take more rest in
    let long : length line ≡ more = length-take-le more rest after.within in
    let cut : take (length line) (drop (digits + 1) text) ≡ line = ap (λ k. take k (drop (digits + 1) text)) long ∙ ap (take more) (sym same) in
    let left : length rest ≡ length (drop (digits + 1) text) = ap length same in
    let ended : get_or (drop (digits + 1) text) (length line) 0 ≡ 10 =
    ap (λ k. get_or (drop (digits + 1) text) k 0) long ∙ ap (λ all. get_or all more 0) (sym same) ∙ feed in
    row_at (IsPair (first, second)) text line first digits taken found within comma cut (omega (arith, long, left, room)) ended (digits_plain line after.are)
    (omega (arith, count, long)) (record {
      first = take digits text;
      second = line;
      are = ap (λ others. take digits text ∷ others) (split_last [] line after.are);
      writes_first = found.writes;
      writes_second = after.writes;
    })

-- a number and a line
pub numbered_row : (text rest line : List ℕ) (first number digits taken : ℕ) → IsNumberAt text first digits → first ≡ number → digits < length text
    → get_or text digits 0 ≡ 44 → rest ≡ drop (digits + 1) text → take (length line) rest ≡ line → length line < length rest
    → get_or rest (length line) 0 ≡ 10 → All IsPlain line → taken ≡ digits + length line + 2 → IsRowAt (IsNumbered number line) text taken
numbered_row text rest line first number digits taken found is within comma same cut room feed plain count =
    let left : length rest ≡ length (drop (digits + 1) text) = ap length same in
    row_at (IsNumbered number line) text line first digits taken found within comma (ap (take (length line)) (sym same) ∙ cut) (omega (arith, left, room))
    (ap (λ all. get_or all (length line) 0) (sym same) ∙ feed) plain count (record {
      first = take digits text;
      are = refl;
      writes = subst (Writes (take digits text)) is found.writes;
    })

-- the row at the front of the bytes that were read ahead is taken as the first
pub such_taken : (Is : Fields → Type 0) (bytes : List ℕ) (at taken : ℕ) (known : Option (List ℕ)) → IsRowAt Is (drop at bytes) taken
    → TakesKnown Is (rows_left (prepend_known (drop at bytes) known)) (rows_left (prepend_known (drop (at + taken) bytes) known))
such_taken Is bytes at taken None row = tt
such_taken Is bytes at taken (Some more) row =
    let P : List ℕ → Type 0 = λ rest. TakesKnown Is (rows_left (prepend_known (drop at bytes) (Some more))) (rows_left (prepend_known rest (Some more))) in
    subst P (drop-drop taken at bytes) (
      split (take row.length_of (drop at bytes)),
      row.is,
      (rows_from st.StartRecord (drop taken (drop at bytes) ++ more), front_is_row (drop at bytes) more row.length_of taken row.line row.filled, refl),
    )

pub begun_taken : (Is : Fields → Type 0) (begun : Bool) (text bytes : List ℕ) (at taken : ℕ) (known before after : Option (List ℕ)) → begun ≡ true → text ≡ drop at bytes
    → IsRowAt Is text taken
    → TakesKnown Is (rows_left (if begun then prepend_known (drop at bytes) known else before)) (rows_left (if begun then prepend_known (drop (at + taken) bytes) known else after))
begun_taken Is true text bytes at taken known before after begun same row = such_taken Is bytes at taken known (subst (λ all. IsRowAt Is all taken) same row)
begun_taken Is false text bytes at taken known before after begun same row = absurd (false≢true begun)
