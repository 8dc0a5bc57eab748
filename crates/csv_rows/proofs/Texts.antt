-- What is taken of a text.
use Rattle.std.proofs.Common.{◌≡◌, ◌<◌, ◌+◌, ◌-◌, ℕ, zero, suc, List, [], ◌∷◌, ◌++◌, length, take, drop, get_or, Option, Some, None, Bool, true, false, refl, sym, ap, subst, inl, inr, arith, ◌∙◌, append-nil}
use Rattle.std.specs.Prelude.{All, IfSome, if◌then◌else◌, option_map, ◌==◌}
use Rattle.std.specs.Global.{Vec}
use Rattle.std.specs.Io.Cursor.{cursor_inner, cursor_position, cursor_remaining}
use Rattle.std.specs.declared.io.impls.Cursor.{Cursor}
use Rattle.std.proofs.lemmas.Bool.{eqb-true, false≢true}
use Rattle.std.proofs.lemmas.List.{drop-drop, drop_all, get_or-drop}
use Rattle.std.specs.Io.KnownBytes.{IsAtEnd, Keeps, prepend_known}
use Rattle.std.specs.Fmt.{option_append}
use Rattle.csv.specs.Reading.{strip_bom}
use Rattle.csv.specs.declared.parser.State.TheVariants as st
use Rattle.csv_rows.specs.Front.{EndsLine, IsFront, IsLine, IsSettled}
use Rattle.csv_rows.specs.declared.front.Front.{Front}
use Rattle.csv_rows.specs.declared.front.Front.TheVariants as fr
use Rattle.csv_rows.specs.Line.{IsPlain, split}
use Rattle.csv_rows.specs.Stream.{Fields, rows_from, rows_of}
use Rattle.csv_rows.specs.Text.{IsWhole, KeepsRows, TakesRow, mark_length, rows_left}
use Rattle.csv_rows.proofs.Marks.{mark_of_whole, mark_shows, no_mark}
use Rattle.csv_rows.proofs.Plain.{feed_skipped, front_is_none, front_is_row, last_is_row, none_at_end}

-- the plain line at the front of a text is taken as its first row
pub line_takes : (text : List ℕ) (known : Option (List ℕ)) (n taken : ℕ) → IsLine text n taken → 0 < n
    → TakesRow (rows_left (prepend_known text known)) true (split (take n text)) (rows_left (prepend_known (drop taken text) known))
line_takes text None n taken line filled = tt
line_takes text (Some more) n taken line filled = (rows_from st.StartRecord (drop taken text ++ more), front_is_row text more n taken line filled, refl)

-- an empty line is passed over
pub line_skips : (text : List ℕ) (known : Option (List ℕ)) (taken : ℕ) → IsLine text 0 taken
    → rows_left (prepend_known (drop taken text) known) ≡ rows_left (prepend_known text known)
line_skips text None taken line = refl
line_skips text (Some more) taken line = ap Some (sym (front_is_none text more taken line))

-- the last line of a text is taken as its last row
pub last_takes : (text : List ℕ) (known : Option (List ℕ)) → All IsPlain text → 0 < length text → IsAtEnd known
    → TakesRow (rows_left (prepend_known text known)) true (split text) (rows_left (prepend_known [] known))
last_takes text None plain filled end = tt
last_takes text (Some more) plain filled end = (
  [],
  ap (λ rest. rows_from st.StartRecord (text ++ rest)) end ∙ ap (rows_from st.StartRecord) (append-nil text) ∙ last_is_row text plain filled,
  ap (λ rest. Some (rows_from st.StartRecord rest)) end ∙ ap Some none_at_end,
)

-- if nothing is left, there is no row
pub none_takes : (known : Option (List ℕ)) (fields : Fields) (after : Option (List Fields)) → IsAtEnd known
    → TakesRow (rows_left (prepend_known [] known)) false fields after
none_takes None fields after end = tt
none_takes (Some more) fields after end = (ap (rows_from st.StartRecord) end ∙ none_at_end, refl)

-- bytes that stay as they were have the same rows
pub rows_stay : (a b : Option (List ℕ)) → Keeps a b → KeepsRows (rows_left a) (rows_left b)
rows_stay None b keeps = tt
rows_stay (Some xs) None keeps = absurd keeps
rows_stay (Some xs) (Some ys) keeps = ap (λ text. Some (rows_from st.StartRecord text)) keeps

pub keeps_rows_through : (a b c : Option (List Fields)) → KeepsRows a b → KeepsRows b c → KeepsRows a c
keeps_rows_through None b c first second = tt
keeps_rows_through (Some rows) b c first second = let P : Option (List Fields) → Type 0 = λ known. KeepsRows known c in subst P first second

pub keeps_rows_same : (a : Option (List Fields)) → KeepsRows a a
keeps_rows_same None = tt
keeps_rows_same (Some rows) = refl

-- what is taken of rows that stayed is taken of those before
pub takes_after : (a b : Option (List Fields)) (found : Bool) (fields : Fields) (after : Option (List Fields)) → KeepsRows a b → TakesRow b found fields after
    → TakesRow a found fields after
takes_after None b found fields after keeps takes = tt
takes_after (Some rows) b found fields after keeps takes = let P : Option (List Fields) → Type 0 = λ known. TakesRow known found fields after in subst P keeps takes

-- the text after a byte order mark, if enough of it is known or it is whole
pub mark_taken : (text : List ℕ) (known : Option (List ℕ)) → IsSettled text
    → Keeps (option_map strip_bom (prepend_known text known)) (prepend_known (drop (mark_length text) text) known)
mark_taken text None settled = tt
mark_taken text (Some more) settled = sym (mark_shows text more settled)

pub mark_taken_of_whole : (text : List ℕ) (known : Option (List ℕ)) → IsAtEnd known
    → Keeps (option_map strip_bom (prepend_known text known)) (prepend_known (drop (mark_length text) text) known)
mark_taken_of_whole text None end = tt
mark_taken_of_whole text (Some more) end =
    ap (λ rest. drop (mark_length text) text ++ rest) end ∙ sym (ap (λ rest. strip_bom (text ++ rest)) end ∙ mark_of_whole text)

-- bytes in which a mark is looked for stay so if more are read
pub strip_stays : (a b c : Option (List ℕ)) → Keeps a b → Keeps (option_map strip_bom b) c → Keeps (option_map strip_bom a) c
strip_stays None b c first second = tt
strip_stays (Some xs) None c first second = absurd first
strip_stays (Some xs) (Some ys) None first second = absurd second
strip_stays (Some xs) (Some ys) (Some zs) first second = second ∙ ap strip_bom first

-- the rows of a new text
pub new_rows : (known : Option (List ℕ)) → rows_left (option_map strip_bom (prepend_known [] known)) ≡ option_map rows_of known
new_rows None = refl
new_rows (Some text) = refl

-- what `csv` reads after a line feed has the rows that were left
pub gap_rows : (bytes : List ℕ) (known : Option (List ℕ))
    → rows_left (option_map strip_bom (option_append (Some (10 ∷ bytes)) known)) ≡ rows_left (prepend_known bytes known)
gap_rows bytes None = refl
gap_rows bytes (Some more) = ap (λ text. Some (rows_from st.StartRecord text)) (no_mark 10 (bytes ++ more) refl) ∙ ap Some (feed_skipped (bytes ++ more))

-- the front of a text shows whether a mark comes first
ended_settles : (text : List ℕ) (n taken : ℕ) → IsLine text n taken → IsSettled text
ended_settles text n taken line =
    let within : n < length text = omega (arith, line.longer, line.bounded) in
    let first : get_or text n 0 ≡ get_or (drop n text) 0 0 = ap (λ k. get_or text k 0) (sym (add_zero n)) ∙ sym (get_or-drop n text 0 0) in
    inl (n, within, by first line.ends)
  where
    add_zero : (k : ℕ) → k + 0 ≡ k
    add_zero k = omega arith

    by : get_or text n 0 ≡ get_or (drop n text) 0 0 → EndsLine (drop n text) (drop taken text) → ¬ IsPlain (get_or text n 0)
    by first (inl e) plain = false≢true (sym (subst IsPlain (first ∙ ap (λ rest. get_or rest 0 0) e) plain))
    by first (inr e) plain = false≢true (sym (subst IsPlain (first ∙ ap (λ rest. get_or rest 0 0) e) plain))

pub mark_seen : (text : List ℕ) (known : Option (List ℕ)) (front : Front) → IsFront text front → IsWhole known front
    → Keeps (option_map strip_bom (prepend_known text known)) (prepend_known (drop (mark_length text) text) known)
mark_seen text known (fr.Line line) is whole = mark_taken text known (ended_settles text line.length line.taken is)
mark_seen text known fr.Open is whole = mark_taken_of_whole text known whole
mark_seen text known fr.Return is whole = mark_taken text known (inl is)
mark_seen text known fr.Other is whole = mark_taken text known is

-- the plain line at the front of the bytes that were read ahead
pub first_takes : (bytes : List ℕ) (at n taken : ℕ) (known : Option (List ℕ)) (fields : Fields) → IsLine (drop at bytes) n taken → 0 < n
    → fields ≡ split (take n (drop at bytes))
    → TakesRow (rows_left (prepend_known (drop at bytes) known)) true fields (rows_left (prepend_known (drop (at + taken) bytes) known))
first_takes bytes at n taken known fields line filled are =
    let P : List ℕ → Type 0 = λ rest. TakesRow (rows_left (prepend_known (drop at bytes) known)) true fields (rows_left (prepend_known rest known)) in
    let Q : Fields → Type 0 = λ row. TakesRow (rows_left (prepend_known (drop at bytes) known)) true row (rows_left (prepend_known (drop taken (drop at bytes)) known)) in
    subst P (drop-drop taken at bytes) (subst Q (sym are) (line_takes (drop at bytes) known n taken line filled))

pub first_skips : (bytes : List ℕ) (at n taken : ℕ) (known : Option (List ℕ)) → IsLine (drop at bytes) n taken → n ≡ 0
    → rows_left (prepend_known (drop (at + taken) bytes) known) ≡ rows_left (prepend_known (drop at bytes) known)
first_skips bytes at n taken known line none =
    let P : ℕ → Type 0 = λ k. IsLine (drop at bytes) k taken in
    ap (λ rest. rows_left (prepend_known rest known)) (sym (drop-drop taken at bytes)) ∙ line_skips (drop at bytes) known taken (subst P none line)

-- the last line, both if it is empty and if it is not
pub nothing_takes : (text : List ℕ) (known : Option (List ℕ)) (fields : Fields) (after : Option (List Fields)) → (length text == 0) ≡ true → IsAtEnd known
    → TakesRow (rows_left (prepend_known text known)) false fields after
nothing_takes [] known fields after none end = none_takes known fields after end
nothing_takes (byte ∷ text) known fields after none end = absurd (omega (arith, eqb-true (length (byte ∷ text)) 0 none))

pub rest_takes : (bytes : List ℕ) (at len : ℕ) (known : Option (List ℕ)) (fields : Fields) → All IsPlain (drop at bytes) → (length (drop at bytes) == 0) ≡ false
    → IsAtEnd known → len ≡ length bytes → fields ≡ split (drop at bytes)
    → TakesRow (rows_left (prepend_known (drop at bytes) known)) true fields (rows_left (prepend_known (drop len bytes) known))
rest_takes bytes at len known fields plain some end whole are =
    let P : List ℕ → Type 0 = λ rest. TakesRow (rows_left (prepend_known (drop at bytes) known)) true fields (rows_left (prepend_known rest known)) in
    let Q : Fields → Type 0 = λ row. TakesRow (rows_left (prepend_known (drop at bytes) known)) true row (rows_left (prepend_known [] known)) in
    let none : drop len bytes ≡ [] = drop_all len bytes (omega (arith, whole)) in
    subst P (sym none) (subst Q (sym are) (last_takes (drop at bytes) known plain (filled (length (drop at bytes)) some) end))
  where
    filled : (n : ℕ) → (n == 0) ≡ false → 0 < n
    filled zero e = absurd (false≢true (sym e))
    filled (suc n) e = omega arith

-- a line feed, and the bytes that were read ahead from a place on
pub gap_first : (gap : Cursor (List ℕ)) (unread : Cursor (Vec ℕ)) (bytes : Vec ℕ) (at : ℕ) → cursor_inner gap ≡ 10 ∷ [] → cursor_position gap ≡ 0
    → cursor_inner unread ≡ bytes → cursor_position unread ≡ at
    → option_append (cursor_remaining (λ feed. Some feed) gap) (cursor_remaining (λ v. Some v.items) unread) ≡ Some (10 ∷ drop at bytes.items)
gap_first gap unread bytes at feed start is place =
    ap (λ first. Some (drop gap.pos first ++ drop unread.pos unread.inner.items)) feed
    ∙ ap (λ n. Some (drop n (10 ∷ []) ++ drop unread.pos unread.inner.items)) start
    ∙ ap (λ v. Some (10 ∷ drop unread.pos v.items)) is ∙ ap (λ n. Some (10 ∷ drop n bytes.items)) place
