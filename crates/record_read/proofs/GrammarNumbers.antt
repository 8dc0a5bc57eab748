-- Numbers: a text is read as a number exactly if it is what `{}` writes for the number.
use Rattle.std.proofs.Common.{◌≡◌, ◌∙◌, ◌≤◌, ◌<◌, ◌+◌, ◌*◌, ◌-◌, ◌^◌, ℕ, zero, suc, ℤ, pos, negsuc, List, [], ◌∷◌, Bool, true, false, Option, Some, None, length, get_or, refl, sym, ap, subst, nat_le, nat_lt, arith, if◌then◌else◌, ◌==◌, ◌&&◌, FitsSigned, w64}
use Rattle.std.specs.Prelude.{option_and_then, option_map}
use Rattle.std.specs.Char.{digit_value, is_ascii_digit}
use Rattle.std.specs.Fmt.{decimal, signed_decimal}
use Rattle.std.specs.Str.Parse.{AllDigits, digits_value, digits_value_after}
use Rattle.std.proofs.lemmas.Bool.{and_parts, eq-eqb, eqb-true, le-leb, leb-true, ltb-false, ne_eqb}
use Rattle.std.proofs.lemmas.Fmt.{decimal-digits_value, decimal_digit, decimal_is_IsNumeral, first_decimal}
use Rattle.std.proofs.lemmas.Option.{none-some, option_and_then_some, same_Some}
use Rattle.std.proofs.lemmas.Str.{digit_value_digit}
use Rattle.std.proofs.lemmas.Str.Parse.{digit_from_value, numerals_by_value, tells_digits}
use Rattle.csv_rows.specs.Decimal.{digits_from, negated, decimal as decimal_read, signed_decimal as signed_read}

-- the value of a digit
digit_is : (b : ℕ) → is_ascii_digit b ≡ true → (digit_value b < 10) × (digit_value b ≡ b - 48)
digit_is b digit =
    let parts = and_parts (nat_le 48 b) (nat_le b 57) digit in
    let low : 48 ≤ b = leb-true 48 b parts.0 in
    let high : b ≤ 57 = leb-true b 57 parts.1 in
    let value : digit_value b + 48 ≡ b = digit_value_digit b (low, high) in
    (omega arith, omega arith)

-- digits that were read are digits, and this is their value
digits_are : (greatest value : ℕ) (text : List ℕ) (n : ℕ) → digits_from greatest value text ≡ Some n → value ≤ greatest
    → AllDigits 10 text × (digits_value_after 10 value text ≡ n) × (n ≤ greatest)
unfolding digits_from
digits_are greatest value [] n e fits = let same : value ≡ n = same_Some value n e in (tt, same, omega arith)
digits_are greatest value (b ∷ bs) n e fits =
    by (is_ascii_digit b) (nat_le (value * 10 + (b - 48)) greatest) refl refl e (λ rest small. digits_are greatest (value * 10 + (b - 48)) bs n rest small)
  where
    by : (digit small : Bool) → is_ascii_digit b ≡ digit → nat_le (value * 10 + (b - 48)) greatest ≡ small
        → (if digit && small then digits_from greatest (value * 10 + (b - 48)) bs else None) ≡ Some n
        → (digits_from greatest (value * 10 + (b - 48)) bs ≡ Some n → value * 10 + (b - 48) ≤ greatest
        → AllDigits 10 bs × (digits_value_after 10 (value * 10 + (b - 48)) bs ≡ n) × (n ≤ greatest))
        → AllDigits 10 (b ∷ bs) × (digits_value_after 10 value (b ∷ bs) ≡ n) × (n ≤ greatest)
    by true true digit small e more =
        let rest = more e (leb-true (value * 10 + (b - 48)) greatest small) in
        let worth = digit_is b digit in
        ((worth.0, rest.0), ap (λ d. digits_value_after 10 (value * 10 + d) bs) worth.1 ∙ rest.1, rest.2)
    by false small digit is e more = absurd (none-some n e)
    by true false digit is e more = absurd (none-some n e)

-- digits are no less than what comes before them
value_grows : (value : ℕ) (text : List ℕ) → value ≤ digits_value_after 10 value text
value_grows value [] = omega arith
value_grows value (b ∷ bs) = omega (arith, value_grows (value * 10 + digit_value b) bs)

-- digits of a value that isn't too great are read
are_digits : (greatest value : ℕ) (text : List ℕ) → AllDigits 10 text → digits_value_after 10 value text ≤ greatest
    → digits_from greatest value text ≡ Some (digits_value_after 10 value text)
unfolding digits_from
are_digits greatest value [] all fits = refl
are_digits greatest value (b ∷ bs) all fits =
    let range = digit_from_value b all.0 in
    let low : 48 ≤ b = range.0 in
    let high : b ≤ 57 = range.1 in
    let worth : digit_value b + 48 ≡ b = digit_value_digit b range in
    let same : value * 10 + (b - 48) ≡ value * 10 + digit_value b = omega arith in
    let small : value * 10 + digit_value b ≤ greatest = omega (arith, value_grows (value * 10 + digit_value b) bs) in
    rw (le-leb 48 b low, le-leb b 57 high, same, le-leb (value * 10 + digit_value b) greatest small) (are_digits greatest (value * 10 + digit_value b) bs all.1 fits)

-- a zero that leads is alone
leads_alone : (b : ℕ) (bs : List ℕ) → ((b == 48) && nat_lt 0 (length bs)) ≡ false → b ≡ 48 → length (b ∷ bs) ≡ 1
leads_alone b bs none zero_first =
    let is : nat_lt 0 (length bs) ≡ false = subst (λ led. (led && nat_lt 0 (length bs)) ≡ false) (eq-eqb b 48 zero_first) none in
    omega (arith, ltb-false 0 (length bs) is)

-- a text that is read as a number is what is written for it, and the number is at most the greatest one
pub number_written : (greatest : ℕ) (text : List ℕ) (n : ℕ) → greatest < 2 ^ 64 → decimal_read greatest text ≡ Some n → (text ≡ decimal n) × (n ≤ greatest)
unfolding decimal_read
number_written greatest [] n room e = absurd (none-some n e)
number_written greatest (b ∷ bs) n room e = by ((b == 48) && nat_lt 0 (length bs)) refl e
  where
    by : (led : Bool) → ((b == 48) && nat_lt 0 (length bs)) ≡ led → (if led then None else digits_from greatest 0 (b ∷ bs)) ≡ Some n → (b ∷ bs ≡ decimal n) × (n ≤ greatest)
    by true is e = absurd (none-some n e)
    by false is e =
        let read = digits_are greatest 0 (b ∷ bs) n e (omega arith) in
        let small : digits_value 10 (b ∷ bs) < 2 ^ 64 = omega (arith, read.1, read.2) in
        (sym (decimal-digits_value (numerals_by_value _ tells_digits) (b ∷ bs) read.0 (omega arith) (leads_alone b bs is) small) ∙ ap decimal read.1, read.2)

-- no zero leads in what is written for a number, but that of 0
no_zero_leads : (n b : ℕ) (bs : List ℕ) → n < 2 ^ 64 → b ∷ bs ≡ decimal n → ((b == 48) && nat_lt 0 (length bs)) ≡ false
no_zero_leads zero b bs room written =
    let same : b ∷ bs ≡ 48 ∷ [] = written ∙ decimal_digit 0 (omega arith) in
    let alone : bs ≡ [] = cc in
    let first : b ≡ 48 = cc in
    rw (first, alone) refl
no_zero_leads (suc n) b bs room written =
    let first : 48 < get_or (b ∷ bs) 0 0 = subst (λ text. 48 < get_or text 0 0) (sym written) (first_decimal (suc n) (omega arith) room) in
    rw (ne_eqb b 48 (λ same. let e : b ≡ 48 = same in omega arith)) refl

-- what is written for a number is read
pub number_read : (greatest n : ℕ) (text : List ℕ) → greatest < 2 ^ 64 → n ≤ greatest → text ≡ decimal n → decimal_read greatest text ≡ Some n
unfolding decimal_read
number_read greatest n [] room fits written =
    let numeral = decimal_is_IsNumeral n (omega arith) in
    let filled : 0 < length (decimal n) = numeral.0.0 in
    absurd (omega (arith, filled, ap length written))
number_read greatest n (b ∷ bs) room fits written =
    let numeral = decimal_is_IsNumeral n (omega arith) in
    let all : AllDigits 10 (b ∷ bs) = subst (AllDigits 10) (sym written) numeral.0.1 in
    let value : digits_value 10 (b ∷ bs) ≡ n = ap (digits_value 10) written ∙ numeral.1 in
    rw (no_zero_leads n b bs (omega arith) written) (are_digits greatest 0 (b ∷ bs) all (omega (arith, value)) ∙ ap Some value)

-- a text that is read as a number with a sign is what is written for it, and the number fits 64 bits
pub signed_written : (text : List ℕ) (z : ℤ) → signed_read text ≡ Some z → (text ≡ signed_decimal z) × FitsSigned w64 z
unfolding signed_read
signed_written [] z e = absurd (none-some z e)
signed_written (b ∷ bs) z e = by (b == 45) refl e
  where
    below : (m : ℕ) → bs ≡ decimal m → m ≤ 0x8000000000000000 → b ≡ 45 → negated m ≡ Some z → (b ∷ bs ≡ signed_decimal z) × FitsSigned w64 z
    below zero written fits minus e = absurd (none-some z e)
    below (suc m) written fits minus e =
        subst (λ y. (b ∷ bs ≡ signed_decimal y) × FitsSigned w64 y) (same_Some (negsuc m) z e) (rw (minus, written) refl, record { sfits = fits })

    positive : (o : Option ℕ) → decimal_read 0x7FFFFFFFFFFFFFFF (b ∷ bs) ≡ o → option_map pos o ≡ Some z → (b ∷ bs ≡ signed_decimal z) × FitsSigned w64 z
    positive None is e = absurd (none-some z e)
    positive (Some m) is e =
        let written = number_written 0x7FFFFFFFFFFFFFFF (b ∷ bs) m (omega arith) is in
        let small : m ≤ 0x7FFFFFFFFFFFFFFF = written.1 in
        subst (λ y. (b ∷ bs ≡ signed_decimal y) × FitsSigned w64 y) (same_Some (pos m) z e) (written.0, record { sfits = omega arith })

    by : (minus : Bool) → (b == 45) ≡ minus
        → (if minus then option_and_then negated (decimal_read 0x8000000000000000 bs) else option_map pos (decimal_read 0x7FFFFFFFFFFFFFFF (b ∷ bs))) ≡ Some z
        → (b ∷ bs ≡ signed_decimal z) × FitsSigned w64 z
    by true minus e =
        option_and_then_some negated (decimal_read 0x8000000000000000 bs) z e (λ m is made.
        let written = number_written 0x8000000000000000 bs m (omega arith) is in
        below m written.0 written.1 (eqb-true b 45 minus) made)
    by false minus e = positive (decimal_read 0x7FFFFFFFFFFFFFFF (b ∷ bs)) refl e

-- no minus leads in a number from 0 on
no_minus_leads : (n b : ℕ) (bs : List ℕ) → n < 2 ^ 64 → b ∷ bs ≡ decimal n → (b == 45) ≡ false
no_minus_leads n b bs room written =
    let all : AllDigits 10 (b ∷ bs) = subst (AllDigits 10) (sym written) (decimal_is_IsNumeral n room).0.1 in
    let range = digit_from_value b all.0 in
    let low : 48 ≤ b = range.0 in
    ne_eqb b 45 (λ same. let e : b ≡ 45 = same in omega arith)

-- what is written for a number of 64 bits with a sign is read
pub signed_read_back : (text : List ℕ) (z : ℤ) → text ≡ signed_decimal z → FitsSigned w64 z → signed_read text ≡ Some z
unfolding signed_read
signed_read_back [] (negsuc n) written fits = let e : ◌≡◌ {A = List ℕ} [] (45 ∷ decimal (suc n)) = written in cc
signed_read_back (b ∷ bs) (negsuc n) written fits =
    let minus : b ≡ 45 = cc in
    let rest : bs ≡ decimal (suc n) = cc in
    let small : suc n ≤ 0x8000000000000000 = fits.sfits in
    rw (minus, number_read 0x8000000000000000 (suc n) bs (omega arith) small rest) refl
signed_read_back [] (pos n) written fits =
    let small : n < 0x8000000000000000 = fits.sfits in
    let filled : 0 < length (decimal n) = (decimal_is_IsNumeral n (omega arith)).0.0 in
    absurd (omega (arith, filled, ap length written))
signed_read_back (b ∷ bs) (pos n) written fits =
    let small : n < 0x8000000000000000 = fits.sfits in
    rw (no_minus_leads n b bs (omega arith) written, number_read 0x7FFFFFFFFFFFFFFF n (b ∷ bs) (omega arith) (omega arith) written) refl
