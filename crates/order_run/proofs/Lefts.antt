-- What a recording has left while records of it are read ahead.
use Rattle.std.proofs.Common.{◌≡◌, ◌<◌, ◌∙◌, ℕ, zero, suc, List, [], ◌∷◌, ◌++◌, Option, Some, None, Result, Ok, Err, Bool, true, false, map, get_or, length, set, refl, sym, ap, subst, append_assoc, get_or-set_other, get_or-set_same}
use Rattle.std.proofs.lemmas.List.{length-set, map-append}
use Rattle.std.specs.Prelude.{IfSome}
use Rattle.std.specs.Option.{option_map}
use Rattle.apex_types.specs.declared.record.Ordered.{Ordered}
use Rattle.apex_types.specs.declared.record.Record.{Record}
use Rattle.csv_rows.specs.Source.{Gives}
use Rattle.record_read.specs.declared.fault.RowFault.{RowFault}
use Rattle.record_read.specs.declared.fault.RowFault.TheVariants as fault
use Rattle.record_read.specs.Row.{Item, records_of}
use Rattle.order_run.specs.Left.{IsStillKnown, IsTaken, Lefts, Takes, followed_by, left_at, left_since}

-- a record that is ahead, as an item
abbrev item : Ordered → Item
item ordered = Ok ordered.rec

-- what is read without a fault is read of a recording that no fault has stopped
pub was_going : {Value : Type 0} (stopped : Bool) (result : Result Value RowFault) (value : Value) → (stopped ≡ true → result ≡ Err fault.Ended) → result ≡ Ok value → stopped ≡ false
was_going {Value} true result value ended is = let no : ◌≡◌ {A = Result Value RowFault} (Err fault.Ended) (Ok value) = sym (ended refl) ∙ is in cc
was_going false result value ended is = refl

-- at first all is left
pub opened : (known : Option (List ℕ)) → left_since known [] (option_map records_of known) ≡ option_map records_of known
opened None = refl
opened (Some bytes) = refl

pub opened_known : (known : Option (List ℕ)) → IsStillKnown known (option_map records_of known)
opened_known None = tt
opened_known (Some bytes) = tt

-- a record that is read is ahead of what is left then
pub read_ahead : (outside : RowFault → Type 0) (known : Option (List ℕ)) (ahead : List Ordered) (ordered : Ordered) (old new : Option (List Item))
    → IsStillKnown known old → IfSome old (λ items. Gives outside items (Ok (Some ordered.rec)) new)
    → left_since known (ahead ++ ordered ∷ []) new ≡ left_since known ahead old
read_ahead outside None ahead ordered old new still gives = refl
read_ahead outside (Some bytes) ahead ordered None new still gives = absurd still
read_ahead outside (Some bytes) ahead ordered (Some items) new still (rest, is, left) =
    ap (option_map (followed_by (ahead ++ ordered ∷ []))) left
    ∙ ap (λ (front : List Item). Some (front ++ rest)) (map-append item ahead (ordered ∷ []))
    ∙ ap Some (append_assoc (map item ahead) (Ok ordered.rec ∷ []) rest)
    ∙ ap (λ (all : List Item). Some (map item ahead ++ all)) (sym is)

pub read_known : (outside : RowFault → Type 0) (known : Option (List ℕ)) (made : Option Record) (old new : Option (List Item))
    → IsStillKnown known old → IfSome old (λ items. Gives outside items (Ok made) new) → IsStillKnown known new
read_known outside None made old new still gives = tt
read_known outside (Some bytes) made None new still gives = absurd still
read_known outside (Some bytes) None (Some items) (Some left) still gives = tt
read_known outside (Some bytes) None (Some items) None still (none, left) = let no : ◌≡◌ {A = Option (List Item)} None (Some []) = left in cc
read_known outside (Some bytes) (Some rec) (Some items) (Some left) still gives = tt
read_known outside (Some bytes) (Some rec) (Some items) None still (rest, is, left) = let no : ◌≡◌ {A = Option (List Item)} None (Some rest) = left in cc

-- at the end nothing changes
pub read_none : (outside : RowFault → Type 0) (known : Option (List ℕ)) (ahead : List Ordered) (old new : Option (List Item))
    → IsStillKnown known old → IfSome old (λ items. Gives outside items (Ok None) new) → left_since known ahead new ≡ left_since known ahead old
read_none outside None ahead old new still gives = refl
read_none outside (Some bytes) ahead None new still gives = absurd still
read_none outside (Some bytes) ahead (Some items) new still (none, left) =
    ap (option_map (followed_by ahead)) left ∙ ap (λ (all : List Item). Some (followed_by ahead all)) (sym none)

-- the first record that is ahead is the first that is left
pub takes_first : (known : Option (List ℕ)) (ordered : Ordered) (ahead : List Ordered) (left : Option (List Item))
    → Takes (left_since known (ordered ∷ ahead) left) (Some ordered.rec) (left_since known ahead left)
takes_first None ordered ahead left = refl
takes_first (Some bytes) ordered ahead None = refl
takes_first (Some bytes) ordered ahead (Some items) = (followed_by ahead items, refl, refl)

-- where none is ahead, what is read is the first that is left
pub takes_next : (outside : RowFault → Type 0) (known : Option (List ℕ)) (made : Option Record) (old new : Option (List Item))
    → IsStillKnown known old → IfSome old (λ items. Gives outside items (Ok made) new) → Takes (left_since known [] old) made (left_since known [] new)
takes_next outside None made old new still gives = refl
takes_next outside (Some bytes) made None new still gives = absurd still
takes_next outside (Some bytes) None (Some items) new still (none, left) = (none, ap (option_map (followed_by [])) left)
takes_next outside (Some bytes) (Some rec) (Some items) new still (rest, is, left) = (rest, is, ap (option_map (followed_by [])) left)

-- one of the recordings was taken from
pub taken_in : (core : ℕ) (lefts : Lefts) (made : Option Record) (new : Option (List Item)) → core < length lefts → Takes (left_at lefts core) made new
    → IsTaken core lefts made (set lefts core new)
taken_in core lefts made new within takes = record {
  takes = subst (Takes (left_at lefts core) made) (sym (get_or-set_same lefts core new (Some []) within)) takes;
  others = λ other apart. get_or-set_other lefts core other new (Some []) apart;
  count = length-set lefts core new;
}

-- the place of a record that is ahead does not count
pub same_records : (ahead : List Ordered) (index : ℕ) (ordered : Ordered) → ordered.rec ≡ (get_or ahead index ordered).rec → map item (set ahead index ordered) ≡ map item ahead
same_records [] index ordered same = refl
same_records (first ∷ ahead) zero ordered same = ap (λ (rec : Record). item (record { pos = 0; core = 0; rec = rec }) ∷ map item ahead) same
same_records (first ∷ ahead) (suc index) ordered same = ap (λ (rest : List Item). item first ∷ rest) (same_records ahead index ordered same)

pub placed_again : (known : Option (List ℕ)) (ahead : List Ordered) (index : ℕ) (ordered : Ordered) (left : Option (List Item)) → ordered.rec ≡ (get_or ahead index ordered).rec
    → left_since known (set ahead index ordered) left ≡ left_since known ahead left
placed_again None ahead index ordered left same = refl
placed_again (Some bytes) ahead index ordered None same = refl
placed_again (Some bytes) ahead index ordered (Some items) same = ap (λ (front : List Item). Some (front ++ items)) (same_records ahead index ordered same)
