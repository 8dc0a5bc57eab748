-- Names and messages: a step of the reader gives one exactly if the field holds it.
use Rattle.std.proofs.Common.{◌≡◌, ◌∙◌, ◌≤◌, ◌<◌, ℕ, zero, suc, ℤ, pos, negsuc, List, [], ◌∷◌, Bool, true, false, Result, Ok, Err, length, refl, sym, ap, subst, inl, inr, nat_le, nat_eq, arith, if◌then◌else◌, ◌&&◌}
use Rattle.std.specs.Prelude.{◌≢◌}
use Rattle.std.specs.Bool.{Decides}
use Rattle.std.specs.List.{list_all}
use Rattle.std.proofs.lemmas.Bool.{and_parts, eqb-true, eq-eqb, le-leb, leb-true, leb-false}
use Rattle.std.proofs.lemmas.List.Sums.{AllPass-from_list_all, list_all-from_AllPass}
use Rattle.hex.specs.Hex.{decode_of}
use Rattle.hex.specs.declared.error.FromHexError.{FromHexError}
use Rattle.apex_types.specs.declared.limits.TheConstants.{LONGEST_MESSAGE, LONGEST_NAME}
use Rattle.record_read.specs.declared.fault.RowFault.{RowFault}
use Rattle.record_read.specs.declared.fault.RowFault.TheVariants.{BadHex, BadLength, BadName, FieldNotForKind}
use Rattle.record_read.specs.Grammar.{GoesWith, HoldsData, HoldsIf, HoldsMessage, HoldsName, HoldsPassing, IsMessageLength}
use Rattle.record_read.specs.Payload.{from_hex, goes_with, is_printable, maybe_message, message_in, message_of, name_in, name_of, required_message}
use Rattle.record_read.specs.Steps.{◌>>=◌}
use Rattle.record_read.proofs.GrammarFields.{is_unused, no_fault, step_ok, test_ok, unused_is}

-- a filled field that is read as a name holds it
name_is : (text name : List ℕ) → text ≢ [] → name_of text ≡ Ok name → HoldsName text name
unfolding name_of
name_is text name filled e =
    let t = test_ok (nat_le (length text) LONGEST_NAME && list_all is_printable text) BadName text name e in
    let parts = and_parts (nat_le (length text) LONGEST_NAME) (list_all is_printable text) t.0 in
    record {
      is = sym t.1;
      filled = filled;
      short = leb-true (length text) LONGEST_NAME parts.0;
      printable = AllPass-from_list_all is_printable text parts.1;
    }

-- a name that the field holds is read
is_name : (text name : List ℕ) → HoldsName text name → name_of text ≡ Ok name
unfolding name_of
is_name text name h = rw (le-leb (length text) LONGEST_NAME h.short, list_all-from_AllPass is_printable text h.printable, h.is) refl

-- a name that is read is what the field holds, or what an empty field means
pub name_holds : (taken : Bool) (text name : List ℕ) → name_in taken text ≡ Ok name → HoldsIf taken [] HoldsName text name
unfolding name_in
name_holds true [] name e = no_fault FieldNotForKind name e
name_holds true (b ∷ bs) name e = name_is (b ∷ bs) name (λ none. cc) e
name_holds false text name e = unused_is text [] name e

-- a name that the field holds, or that an empty field means, is read
pub holds_name : (taken : Bool) (text name : List ℕ) → HoldsIf taken [] HoldsName text name → name_in taken text ≡ Ok name
unfolding name_in
holds_name true [] name h = absurd (h.filled refl)
holds_name true (b ∷ bs) name h = is_name (b ∷ bs) name h
holds_name false text name h = is_unused text [] name h

-- bytes that are read without a fault are those of the digits
hex_is : (read : Result (List ℕ) FromHexError) (bytes : List ℕ) → from_hex read ≡ Ok bytes → read ≡ Ok bytes
hex_is (Ok found) bytes e = let f : ◌≡◌ {A = Result (List ℕ) RowFault} (Ok found) (Ok bytes) = e in cc
hex_is (Err error) bytes e = no_fault BadHex bytes e

-- no bytes but those that go with another length
none_goes : (argument : ℤ) (count : ℕ) → ¬ IsMessageLength argument → Decides (nat_eq count 0) (GoesWith argument count)
none_goes argument count none = (λ e. inr (none, eqb-true count 0 e), back)
  where
    back : GoesWith argument count → nat_eq count 0 ≡ true
    back (inl h) = absurd (none h.0)
    back (inr h) = eq-eqb count 0 h.1

-- the reader's test of a length is the sentence
pub length_decides : (argument : ℤ) (count : ℕ) → Decides (goes_with argument count) (GoesWith argument count)
length_decides (pos zero) count = none_goes (pos zero) count (λ h. let l : 1 ≤ 0 = h.0 in absurd (omega arith))
length_decides (negsuc n) count = none_goes (negsuc n) count (λ h. h)
length_decides (pos (suc n)) count = by (nat_le (suc n) LONGEST_MESSAGE) refl
  where
    goes : suc n ≤ LONGEST_MESSAGE → GoesWith (pos (suc n)) count → nat_eq count (suc n) ≡ true
    goes fits (inl h) = eq-eqb count (suc n) (let e : pos (suc n) ≡ pos count = h.1 in cc)
    goes fits (inr h) = absurd (h.0 (omega arith, fits))

    by : (fits : Bool) → nat_le (suc n) LONGEST_MESSAGE ≡ fits → Decides (if fits then nat_eq count (suc n) else nat_eq count 0) (GoesWith (pos (suc n)) count)
    by true fits =
        let short : suc n ≤ LONGEST_MESSAGE = leb-true (suc n) LONGEST_MESSAGE fits in
        (λ e. inl ((omega arith, short), ap pos (sym (eqb-true count (suc n) e))), goes short)
    by false long =
        let over : LONGEST_MESSAGE < suc n = leb-false (suc n) LONGEST_MESSAGE long in
        none_goes (pos (suc n)) count (λ h. let short : suc n ≤ LONGEST_MESSAGE = h.1 in absurd (omega arith))

-- bytes that are read under a test of how many they are
bytes_are : (test : ℕ → Bool) (text bytes : List ℕ) → (from_hex (decode_of text) >>= (λ found. if test (length found) then Ok found else Err BadLength)) ≡ Ok bytes
    → (decode_of text ≡ Ok bytes) × (test (length bytes) ≡ true)
bytes_are test text bytes e =
    let s = step_ok (from_hex (decode_of text)) (λ found. if test (length found) then Ok found else Err BadLength) bytes e in
    let t = test_ok (test (length s.0)) BadLength s.0 bytes s.2 in
    (hex_is (decode_of text) s.0 s.1 ∙ ap Ok t.1, subst (λ given. test (length given) ≡ true) t.1 t.0)

-- a message that is read is what the field holds, or what an empty field means
pub message_holds : (taken : Bool) (len : ℤ) (text bytes : List ℕ) → message_in taken len text ≡ Ok bytes → HoldsIf taken [] (HoldsMessage len) text bytes
unfolding message_in message_of
message_holds true len text bytes e =
    let read = bytes_are (goes_with len) text bytes e in record { digits = read.0; count = (length_decides len (length bytes)).0 read.1 }
message_holds false len text bytes e = unused_is text [] bytes e

-- a message that the field holds, or that an empty field means, is read
pub holds_message : (taken : Bool) (len : ℤ) (text bytes : List ℕ) → HoldsIf taken [] (HoldsMessage len) text bytes → message_in taken len text ≡ Ok bytes
unfolding message_in message_of
holds_message true len text bytes h = rw (h.digits, (length_decides len (length bytes)).1 h.count) refl
holds_message false len text bytes h = is_unused text [] bytes h

-- a message that a service gives and that is read is what the field holds
pub data_holds : (text bytes : List ℕ) → maybe_message text ≡ Ok bytes → HoldsData text bytes
unfolding maybe_message
data_holds text bytes e =
    let read = bytes_are (λ count. nat_le count LONGEST_MESSAGE) text bytes e in record { digits = read.0; count = leb-true (length bytes) LONGEST_MESSAGE read.1 }

-- a message that a service gives and that the field holds is read
pub holds_data : (text bytes : List ℕ) → HoldsData text bytes → maybe_message text ≡ Ok bytes
unfolding maybe_message
holds_data text bytes h = rw (h.digits, le-leb (length bytes) LONGEST_MESSAGE h.count) refl

-- a message that must be given and is read is what the field holds
pub passing_holds : (text bytes : List ℕ) → required_message text ≡ Ok bytes → HoldsPassing text bytes
unfolding required_message
passing_holds [] bytes e = no_fault FieldNotForKind bytes e
passing_holds (b ∷ bs) bytes e = record { filled = λ none. cc; holds = data_holds (b ∷ bs) bytes e }

-- a message that must be given and that the field holds is read
pub holds_passing : (text bytes : List ℕ) → HoldsPassing text bytes → required_message text ≡ Ok bytes
unfolding required_message
holds_passing [] bytes h = absurd (h.filled refl)
holds_passing (b ∷ bs) bytes h = holds_data (b ∷ bs) bytes h.holds
