-- Texts in hexadecimal, and how many bytes they hold.
use Rattle.std.proofs.Common.{◌≡◌, ◌∙◌, ℕ, List, [], ◌∷◌, ◌*◌, ◌/◌, ◌%◌, Bool, true, false, Result, Ok, Err, length, refl, sym, ap, arith, true≢false}
use Rattle.std.specs.Prelude.{◌≢◌, is_ok}
use Rattle.std.specs.List.{list_all}
use Rattle.std.proofs.lemmas.List.Sums.{AllPass-from_list_all, list_all-from_AllPass}
use Rattle.hex.specs.Hex.{decode_of, is_hex_digit}
use Rattle.hex.specs.declared.error.FromHexError.{FromHexError}
use Rattle.hex.proofs.HexLemmas.{decode_of-odd, decode_of-ok, decode_of-digits}
use Rattle.record_read.specs.declared.fault.RowFault.TheVariants.{BadHex}
use Rattle.record_read.specs.Payload.{IsHex, from_hex, hex_bytes}

-- an odd number of digits is no text in hexadecimal
pub odd_is_none : (text : List ℕ) → length text % 2 ≡ 1 → is_ok (decode_of text) ≡ false
odd_is_none text odd = ap is_ok (decode_of-odd text odd)

-- an even number of bytes is hexadecimal if all are digits
pub even_is : (text : List ℕ) → length text % 2 ≢ 1 → is_ok (decode_of text) ≡ list_all is_hex_digit text
even_is text even = by (list_all is_hex_digit text) refl
  where
    ok_is : (read : Result (List ℕ) FromHexError) → decode_of text ≡ read → list_all is_hex_digit text ≡ false → is_ok (decode_of text) ≡ false
    ok_is (Ok bytes) e none = absurd (true≢false (sym (list_all-from_AllPass is_hex_digit text (decode_of-ok text bytes e).1) ∙ none))
    ok_is (Err error) e none = ap is_ok e

    by : (b : Bool) → list_all is_hex_digit text ≡ b → is_ok (decode_of text) ≡ b
    by true all = ap is_ok (decode_of-digits text (omega (arith, even)) (AllPass-from_list_all is_hex_digit text all)).1
    by false none = ok_is (decode_of text) refl none

-- what a text in hexadecimal holds
pub hex_text : (text : List ℕ) → is_ok (decode_of text) ≡ true → decode_of text ≡ Ok (hex_bytes text)
hex_text text h = by (decode_of text) refl
  where
    by : (read : Result (List ℕ) FromHexError) → decode_of text ≡ read → decode_of text ≡ Ok (hex_bytes text)
    by (Ok bytes) e = rw e refl
    by (Err error) e = absurd (true≢false (sym h ∙ ap is_ok e))

pub hex_value : (text : List ℕ) → is_ok (decode_of text) ≡ true → from_hex (decode_of text) ≡ Ok (hex_bytes text)
hex_value text h = ap from_hex (hex_text text h)

pub hex_none : (text : List ℕ) → is_ok (decode_of text) ≡ false → from_hex (decode_of text) ≡ Err BadHex
hex_none text h = by (decode_of text) refl
  where
    by : (read : Result (List ℕ) FromHexError) → decode_of text ≡ read → from_hex (decode_of text) ≡ Err BadHex
    by (Ok bytes) e = absurd (true≢false (sym (ap is_ok e) ∙ h))
    by (Err error) e = ap from_hex e

-- two digits make a byte
pub hex_count : (text : List ℕ) → is_ok (decode_of text) ≡ true → length (hex_bytes text) ≡ length text / 2
hex_count text h = let long : length text ≡ 2 * length (hex_bytes text) = (decode_of-ok text (hex_bytes text) (hex_text text h)).2 in omega (arith, long)

-- digits that there are make bytes
pub hex_filled : (text : List ℕ) → IsHex text → text ≢ [] → hex_bytes text ≢ []
hex_filled [] hex filled none = absurd (filled refl)
hex_filled (b ∷ bs) hex filled none =
    let long : length (b ∷ bs) ≡ 2 * length (hex_bytes (b ∷ bs)) = (decode_of-ok (b ∷ bs) (hex_bytes (b ∷ bs)) hex).2 in
    let zero : length (hex_bytes (b ∷ bs)) ≡ 0 = ap length none in
    absurd (omega (arith, long, zero))
