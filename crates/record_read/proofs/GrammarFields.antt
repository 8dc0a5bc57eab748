-- One field: a step of the reader gives a value exactly if the field holds it.
use Rattle.std.proofs.Common.{◌≡◌, ◌<◌, ◌^◌, ℕ, ℤ, pos, List, [], ◌∷◌, Bool, true, false, Option, Some, None, Result, Ok, Err, refl, sym, ap, subst, inl, inr, if◌then◌else◌}
use Rattle.std.specs.Prelude.{negsuc, option_and_then, option_map}
use Rattle.std.specs.Option.{ok_or, unwrap_or}
use Rattle.std.proofs.lemmas.Option.{none-some, option_and_then_some, same_Some}
use Rattle.csv_rows.specs.Decimal.{decimal, signed_decimal}
use Rattle.apex_types.specs.declared.format.Format.{Format}
use Rattle.apex_types.specs.declared.format.Format.TheVariants as format
use Rattle.apex_types.specs.declared.service.Presence.{Presence}
use Rattle.apex_types.specs.declared.service.Presence.TheVariants as presence
use Rattle.record_read.specs.declared.column.Column.{Column}
use Rattle.record_read.specs.declared.fault.RowFault.{RowFault}
use Rattle.record_read.specs.declared.fault.RowFault.TheVariants.{BadNumber, FieldNotForKind}
use Rattle.record_read.specs.declared.misread.Misread.{Misread}
use Rattle.record_read.specs.Field.{argument, empty, filled, maybe, maybe_argument, maybe_number, maybe_signed, number, signed}
use Rattle.record_read.specs.Grammar.{HoldsArgument, HoldsNumber, HoldsOptional, HoldsSigned, MayHold}
use Rattle.record_read.specs.Steps.{◌>>=◌, located, misread_at}
use Rattle.record_read.proofs.GrammarNumbers.{number_read, number_written, signed_read_back, signed_written}

-- one value is given
pub same_ok : {A Fault : Type 0} (x y : A) → ◌≡◌ {A = Result A Fault} (Ok x) (Ok y) → x ≡ y
same_ok x y e = cc

-- a fault is no value
pub no_fault : {A Fault Goal : Type 0} (fault : Fault) (y : A) → ◌≡◌ {A = Result A Fault} (Err fault) (Ok y) → Goal
no_fault {A} {Fault} fault y e = absurd (let f : ◌≡◌ {A = Result A Fault} (Err fault) (Ok y) = e in cc)

-- a step that gave a value, and the steps after it
pub step_ok : {A B Fault : Type 0} (read : Result A Fault) (more : A → Result B Fault) (y : B) → (read >>= more) ≡ Ok y → (x : A) × (read ≡ Ok x) × (more x ≡ Ok y)
step_ok (Ok x) more y e = (x, refl, e)
step_ok (Err fault) more y e = no_fault fault y e

-- a field that gave a value, and the steps after it
pub field_ok : {A B : Type 0} (here : Column) (read : Result A RowFault) (more : A → Result B Misread) (y : B) → (located here read >>= more) ≡ Ok y
    → (x : A) × (read ≡ Ok x) × (more x ≡ Ok y)
field_ok here (Ok x) more y e = (x, refl, e)
field_ok here (Err fault) more y e = no_fault (misread_at here fault) y e

-- what an option gave, or else a fault
pub ok_some : {A : Type 0} (o : Option A) (fault : RowFault) (x : A) → ok_or o fault ≡ Ok x → o ≡ Some x
ok_some None fault x e = no_fault fault x e
ok_some (Some y) fault x e = ap Some (same_ok y x e)

-- what a test lets through
pub test_ok : {A : Type 0} (test : Bool) (fault : RowFault) (x y : A) → (if test then Ok x else Err fault) ≡ Ok y → (test ≡ true) × (x ≡ y)
test_ok true fault x y e = (refl, same_ok x y e)
test_ok false fault x y e = no_fault fault y e

-- what the first of two finds gives, and the second after it
pub found_first : {A B : Type 0} (more : A → Option B) (first : Option A) (y : B) → option_and_then more first ≡ Some y → (x : A) × (first ≡ Some x) × (more x ≡ Some y)
found_first more first y e = option_and_then_some more first y e (λ x is made. (x, is, made))

-- what a find gives, and what is made of it
pub found_map : {A B : Type 0} (make : A → B) (first : Option A) (y : B) → option_map make first ≡ Some y → (x : A) × (first ≡ Some x) × (make x ≡ y)
found_map make None y e = absurd (none-some y e)
found_map make (Some x) y e = (x, refl, same_Some (make x) y e)

-- a number that is read is what the field holds
pub number_holds : (greatest : ℕ) (text : List ℕ) (n : ℕ) → greatest < 2 ^ 64 → number greatest text ≡ Ok n → HoldsNumber greatest text n
unfolding number filled
number_holds greatest [] n room e = no_fault FieldNotForKind n e
number_holds greatest (b ∷ bs) n room e =
    let w = number_written greatest (b ∷ bs) n room (ok_some (decimal greatest (b ∷ bs)) BadNumber n e) in
    record { written = w.0; bound = w.1 }

-- a number that the field holds is read
pub holds_number : (greatest : ℕ) (text : List ℕ) (n : ℕ) → greatest < 2 ^ 64 → HoldsNumber greatest text n → number greatest text ≡ Ok n
unfolding number decimal filled
holds_number greatest [] n room h = absurd (none-some n (number_read greatest n [] room h.bound h.written))
holds_number greatest (b ∷ bs) n room h = ap (λ o. ok_or o BadNumber) (number_read greatest n (b ∷ bs) room h.bound h.written)

-- a number with a sign that is read is what the field holds
pub signed_holds : (text : List ℕ) (n : ℤ) → signed text ≡ Ok n → HoldsSigned text n
unfolding signed filled
signed_holds [] n e = no_fault FieldNotForKind n e
signed_holds (b ∷ bs) n e = let w = signed_written (b ∷ bs) n (ok_some (signed_decimal (b ∷ bs)) BadNumber n e) in record { written = w.0; bound = w.1 }

-- a number with a sign that the field holds is read
pub holds_signed : (text : List ℕ) (n : ℤ) → HoldsSigned text n → signed text ≡ Ok n
unfolding signed signed_decimal filled
holds_signed [] n h = absurd (none-some n (signed_read_back [] n h.written h.bound))
holds_signed (b ∷ bs) n h = ap (λ o. ok_or o BadNumber) (signed_read_back (b ∷ bs) n h.written h.bound)

-- a number that may be left out and is read, or is none, is what the field may hold
pub maybe_number_holds : (greatest : ℕ) (text : List ℕ) (o : Option ℕ) → greatest < 2 ^ 64 → maybe_number greatest text ≡ Ok o → MayHold (HoldsNumber greatest) text o
unfolding maybe_number maybe
maybe_number_holds greatest [] o room e = subst (MayHold (HoldsNumber greatest) []) (same_ok None o e) refl
maybe_number_holds greatest (b ∷ bs) o room e =
    let s = step_ok _ _ o e in
    subst (MayHold (HoldsNumber greatest) (b ∷ bs)) (same_ok (Some s.0) o s.2) (number_holds greatest (b ∷ bs) s.0 room s.1)

-- what the field may hold is read
pub holds_maybe_number : (greatest : ℕ) (text : List ℕ) (o : Option ℕ) → greatest < 2 ^ 64 → MayHold (HoldsNumber greatest) text o → maybe_number greatest text ≡ Ok o
unfolding maybe_number number maybe filled
holds_maybe_number greatest text None room h = rw h refl
holds_maybe_number greatest [] (Some n) room h = absurd (let e = holds_number greatest [] n room h in no_fault FieldNotForKind n e)
holds_maybe_number greatest (b ∷ bs) (Some n) room h = rw (holds_number greatest (b ∷ bs) n room h) refl

-- the same of a number with a sign that may be left out
pub maybe_signed_holds : (text : List ℕ) (o : Option ℤ) → maybe_signed text ≡ Ok o → MayHold HoldsSigned text o
unfolding maybe_signed maybe
maybe_signed_holds [] o e = subst (MayHold HoldsSigned []) (same_ok None o e) refl
maybe_signed_holds (b ∷ bs) o e =
    let s = step_ok _ _ o e in
    subst (MayHold HoldsSigned (b ∷ bs)) (same_ok (Some s.0) o s.2) (signed_holds (b ∷ bs) s.0 s.1)

-- the same of a number with a sign, the other way round
pub holds_maybe_signed : (text : List ℕ) (o : Option ℤ) → MayHold HoldsSigned text o → maybe_signed text ≡ Ok o
unfolding maybe_signed signed maybe filled
holds_maybe_signed text None h = rw h refl
holds_maybe_signed [] (Some n) h = absurd (let e = holds_signed [] n h in no_fault FieldNotForKind n e)
holds_maybe_signed (b ∷ bs) (Some n) h = rw (holds_signed (b ∷ bs) n h) refl

-- a field without a fault that must be empty is empty
pub empty_is : (text : List ℕ) → empty text ≡ Ok tt → text ≡ []
empty_is [] e = refl
empty_is (b ∷ bs) e = no_fault FieldNotForKind tt e

-- a value that an empty field means was given for one
pub unused_is : {A : Type 0} (text : List ℕ) (unused value : A) → (empty text >>= (λ u. Ok unused)) ≡ Ok value → (text ≡ []) × (value ≡ unused)
unused_is [] unused value e = (refl, sym (same_ok unused value e))
unused_is (b ∷ bs) unused value e = no_fault FieldNotForKind value e

-- for an empty field the value that it means is given
pub is_unused : {A : Type 0} (text : List ℕ) (unused value : A) → (text ≡ []) × (value ≡ unused) → (empty text >>= (λ u. Ok unused)) ≡ Ok value
is_unused text unused value h = rw (h.0, h.1) refl

-- an argument that may be left out and is read is what the field may hold
maybe_argument_holds : (which : Format) (text : List ℕ) (n : ℤ) → maybe_argument which text ≡ Ok n → HoldsOptional which text n
unfolding maybe_argument
maybe_argument_holds format.One text n e = unused_is text (negsuc 0) n e
maybe_argument_holds format.Two text n e = unused_is text (negsuc 0) n e
maybe_argument_holds format.Three text n e =
    let s = step_ok (maybe_signed text) (λ found. Ok (unwrap_or found (negsuc 0))) n e in
    by s.0 (maybe_signed_holds text s.0 s.1) (same_ok (unwrap_or s.0 (negsuc 0)) n s.2)
  where
    by : (o : Option ℤ) → MayHold HoldsSigned text o → unwrap_or o (negsuc 0) ≡ n → HoldsOptional format.Three text n
    by None none is = inr (none, sym is)
    by (Some m) held is = inl (subst (HoldsSigned text) is held)

-- what the field of an argument may hold is read
holds_maybe_argument : (which : Format) (text : List ℕ) (n : ℤ) → HoldsOptional which text n → maybe_argument which text ≡ Ok n
unfolding maybe_argument
holds_maybe_argument format.One text n h = is_unused text (negsuc 0) n h
holds_maybe_argument format.Two text n h = is_unused text (negsuc 0) n h
holds_maybe_argument format.Three text n (inl h) = rw (holds_maybe_signed text (Some n) h) refl
holds_maybe_argument format.Three text n (inr h) = rw (holds_maybe_signed text None h.0, h.1) refl

-- an argument that is read is what the field holds, or what an empty field means
pub argument_holds : (which : Format) (taken : Presence) (text : List ℕ) (n : ℤ) → argument which taken text ≡ Ok n → HoldsArgument which taken text n
unfolding argument
argument_holds which presence.Required text n e = signed_holds text n e
argument_holds which presence.Absent text n e = unused_is text (pos 0) n e
argument_holds which presence.Optional text n e = maybe_argument_holds which text n e

-- an argument that the field holds, or that an empty field means, is read
pub holds_argument : (which : Format) (taken : Presence) (text : List ℕ) (n : ℤ) → HoldsArgument which taken text n → argument which taken text ≡ Ok n
unfolding argument
holds_argument which presence.Required text n h = holds_signed text n h
holds_argument which presence.Absent text n h = is_unused text (pos 0) n h
holds_argument which presence.Optional text n h = holds_maybe_argument which text n h
