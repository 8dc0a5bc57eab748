-- How far a recording has been read.
use Rattle.std.proofs.Common.{◌≡◌, ◌≢◌, ◌+◌, ◌≤◌, ◌∙◌, ◌<◌, ℕ, Bool, List, [], ◌∷◌, ◌++◌, Option, Some, None, Result, Ok, Err, length, map, refl, sym, ap, arith, inl, inr, append_assoc}
use Rattle.std.proofs.lemmas.List.{map-append}
use Rattle.std.specs.List.{AllZip}
use Rattle.std.specs.Option.{option_map}
use Rattle.std.specs.Prelude.{IfOk, IfSome, IsErr}
use Rattle.apex_types.specs.declared.limits.TheConstants.{MOST_RECORDS}
use Rattle.apex_types.specs.declared.record.Record.{Record}
use Rattle.csv_rows.specs.Source.{Gives}
use Rattle.csv_rows.specs.Stream.{rows_of}
use Rattle.record_read.specs.declared.fault.RowFault.{RowFault}
use Rattle.record_read.specs.declared.fault.RowFault.TheVariants.{Memory}
use Rattle.record_read.specs.Format.{format_of}
use Rattle.record_read.specs.Row.{Item, records_of}
use Rattle.record_read.specs.Steps.{IsOutside}
use Rattle.rows_check.specs.declared.found.RowsFound.{RowsFound}
use Rattle.rows_check.specs.Found.{Follows, IsFoundIn}
use Rattle.rows_check.proofs.Most.{at_most}

-- so many sound records were read of these items, and these are left
pub record HasRead (items : List Item) (count : ℕ) (left : Option (List Item)) : Type 0 where
  pub records : List Record
  pub rest : List Item
  pub begins : items ≡ map Ok records ++ rest
  pub counted : length records ≡ count
  pub leaves : left ≡ Some rest

-- the same of a recording, if its text is known
abbrev pub HasReadKnown : Option (List ℕ) → ℕ → Option (List Item) → Type 0
HasReadKnown known count left = IfSome known (λ text. HasRead (records_of text) count left)

abbrev pub IsFoundKnown : Bool → Option (List ℕ) → RowsFound → Type 0
IsFoundKnown can_fail known found = IfSome known (λ text. IsFoundIn can_fail (records_of text) found)

-- at first nothing was read
pub none_read : (known : Option (List ℕ)) (left : Option (List Item)) → left ≡ option_map records_of known → HasReadKnown known 0 left
none_read None left all = tt
none_read (Some text) left all = record { records = []; rest = records_of text; begins = refl; counted = refl; leaves = all }

-- the items that are left, if they are known
left_in : List Item → Option (List Item) → List Item
left_in other None = other
left_in other (Some items) = items

same_left : (items : List Item) (count : ℕ) (left : List Item) (read : HasRead items count (Some left)) → left ≡ read.rest
unfolding left_in
same_left items count left read = ap (left_in left) read.leaves

-- what is unknown was not read
unknown : {Fact : Type 0} (items : List Item) (count : ℕ) → HasRead items count None → Fact
unknown items count read = let no : ◌≡◌ {A = Option (List Item)} None (Some read.rest) = read.leaves in cc

longer : (records : List Record) (rec : Record) → length (records ++ rec ∷ []) ≡ length records + 1
longer [] rec = refl
longer (first ∷ records) rec = let others : length (records ++ rec ∷ []) ≡ length records + 1 = longer records rec in omega arith

-- one record more
one_more : (outside : RowFault → Type 0) (items : List Item) (count : ℕ) (rec : Record) (old new : Option (List Item)) → HasRead items count old
    → IfSome old (λ items. Gives outside items (Ok (Some rec)) new) → HasRead items (count + 1) new
one_more outside items count rec None new read gives = unknown items count read
one_more outside items count rec (Some left) new read (rest, is, after) = record {
  records = read.records ++ rec ∷ [];
  rest = rest;
  begins = read.begins ∙ ap (λ (more : List Item). map Ok read.records ++ more) (sym (same_left items count left read) ∙ is)
      ∙ sym (append_assoc (map Ok read.records) (Ok rec ∷ []) rest) ∙ ap (λ (front : List Item). front ++ rest) (sym (map-append Ok read.records (rec ∷ [])));
  counted = longer read.records rec ∙ ap (λ (n : ℕ). n + 1) read.counted;
  leaves = after;
}

pub one_more_read : (outside : RowFault → Type 0) (known : Option (List ℕ)) (count : ℕ) (rec : Record) (old new : Option (List Item)) → HasReadKnown known count old
    → IfSome old (λ items. Gives outside items (Ok (Some rec)) new) → HasReadKnown known (count + 1) new
one_more_read outside None count rec old new read gives = tt
one_more_read outside (Some text) count rec old new read gives = one_more outside (records_of text) count rec old new read gives

-- no row is left
ended : (can_fail : Bool) (outside : RowFault → Type 0) (items : List Item) (count : ℕ) (old new : Option (List Item)) → HasRead items count old
    → IfSome old (λ items. Gives outside items (Ok None) new) → IsFoundIn can_fail items (record { records = count; fault = None })
ended can_fail outside items count None new read gives = unknown items count read
ended can_fail outside items count (Some left) new read (none, after) =
    record { records = read.records; rest = read.rest; begins = read.begins; count = read.counted; follows = sym (same_left items count left read) ∙ none }

pub ended_read : (can_fail : Bool) (outside : RowFault → Type 0) (known : Option (List ℕ)) (count : ℕ) (old new : Option (List Item)) → HasReadKnown known count old
    → IfSome old (λ items. Gives outside items (Ok None) new) → IsFoundKnown can_fail known (record { records = count; fault = None })
ended_read can_fail outside None count old new read gives = tt
ended_read can_fail outside (Some text) count old new read gives = ended can_fail outside (records_of text) count old new read gives

-- the next row has a fault, or the reader has failed
follows : (can_fail : Bool) (fault : RowFault) (left rest : List Item) (new : Option (List Item)) → fault ≢ Memory → left ≡ rest
    → Gives (IsOutside can_fail) left (Err fault) new → Follows can_fail rest (Some fault)
follows can_fail fault left rest new other same (inl (inl failed)) = inr failed
follows can_fail fault left rest new other same (inl (inr memory)) = absurd (other memory)
follows can_fail fault left rest new other same (inr (more, is)) = inl (more, sym same ∙ is)

refused : (can_fail : Bool) (items : List Item) (count : ℕ) (fault : RowFault) (old new : Option (List Item)) → fault ≢ Memory → HasRead items count old
    → IfSome old (λ items. Gives (IsOutside can_fail) items (Err fault) new) → IsFoundIn can_fail items (record { records = count; fault = Some fault })
refused can_fail items count fault None new other read gives = unknown items count read
refused can_fail items count fault (Some left) new other read gives = record {
  records = read.records;
  rest = read.rest;
  begins = read.begins;
  count = read.counted;
  follows = follows can_fail fault left read.rest new other (same_left items count left read) gives;
}

pub refused_read : (can_fail : Bool) (known : Option (List ℕ)) (count : ℕ) (fault : RowFault) (old new : Option (List Item)) → fault ≢ Memory
    → HasReadKnown known count old → IfSome old (λ items. Gives (IsOutside can_fail) items (Err fault) new)
    → IsFoundKnown can_fail known (record { records = count; fault = Some fault })
refused_read can_fail None count fault old new other read gives = tt
refused_read can_fail (Some text) count fault old new other read gives = refused can_fail (records_of text) count fault old new other read gives

-- no more records were read than a recording has
pub none_beyond : (can_fail : Bool) (known : Option (List ℕ)) (count : ℕ) (left : Option (List Item)) (found : RowsFound) → MOST_RECORDS < count → HasReadKnown known count left
    → IsFoundKnown can_fail known found
none_beyond can_fail None count left found beyond read = tt
none_beyond can_fail (Some text) count left found beyond read =
    let most : 0 + length read.records ≤ MOST_RECORDS = at_most (format_of (rows_of text)) 0 (rows_of text) read.records read.rest (omega arith) read.begins in
    let same : length read.records ≡ count = read.counted in
    absurd (omega arith)

-- what was found before a fault, if memory was not refused
pub found_by : {Starved : Type 0} (can_fail : Bool) (known : Option (List ℕ)) (count : ℕ) (fault : RowFault) (old new : Option (List Item)) (answer : Result RowsFound Starved)
    → IfOk answer (λ found. found ≡ record { records = count; fault = Some fault }) → (fault ≡ Memory → IsErr answer) → HasReadKnown known count old
    → IfSome old (λ items. Gives (IsOutside can_fail) items (Err fault) new) → IfOk answer (IsFoundKnown can_fail known)
found_by can_fail known count fault old new (Ok found) is starved read gives =
    rw is (refused_read can_fail known count fault old new (λ memory. let no = starved memory in cc) read gives)
found_by can_fail known count fault old new (Err none) is starved read gives = tt

-- one recording more
pub zip_longer : {A B : Type 0} (R : A → B → Type 0) (xs : List A) (ys : List B) (x : A) (y : B) → AllZip R xs ys → R x y → AllZip R (xs ++ x ∷ []) (ys ++ y ∷ [])
zip_longer R [] [] x y all next = (next, tt)
zip_longer R [] (other ∷ ys) x y all next = absurd all
zip_longer R (other ∷ xs) [] x y all next = absurd all
zip_longer R (first ∷ xs) (second ∷ ys) x y all next = (all.0, zip_longer R xs ys x y all.1 next)
