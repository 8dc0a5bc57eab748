-- Escaped text has no character that begins or ends a tag or the value of an attribute.
use Rattle.std.proofs.Common.{◌≡◌, ℕ, ◌<◌, ◌^◌, Bool, true, false, cond, eqb, List, [], ◌∷◌, ◌++◌, refl, ◌∙◌, append-nil, flat_map, lit≤, arith, rules}
use Rattle.std.specs.Prelude.{chars, codes, encode_utf8}
use Rattle.std.specs.Char.{digit_value}
use Rattle.std.specs.Fmt.{digits}
use Rattle.std.specs.Str.{NoCharPasses}
use Rattle.std.specs.Str.Parse.{AllDigits}
use Rattle.std.proofs.lemmas.Bool.Decides.{nat_tests}
use Rattle.std.proofs.lemmas.Fmt.{digits_is_IsNumeral}
use Rattle.std.proofs.lemmas.Str.{NoCharPasses-nil, NoCharPasses-append, encode_ascii}
use Rattle.sink.specs.Escapes.{EscapedHasNoDelimiter, escaped_character, is_delimiter, is_shown, numbered}

-- a text that has no delimiter
abbrev Harmless : List ℕ → Type 0
Harmless = NoCharPasses is_delimiter

one_byte : (c : ℕ) → c < 128 → is_delimiter c ≡ false → Harmless (c ∷ [])
one_byte c low plain = (c ∷ [], append-nil _ ∙ encode_ascii c low, (plain, tt))

low_digit : (c : ℕ) → digit_value c < 16 → c < 128
low_digit c h = grind (arith, nat_tests)

plain_digit : (c : ℕ) → digit_value c < 16 → is_delimiter c ≡ false
plain_digit c h = grind (arith, nat_tests)

all_digits : (ds : List ℕ) → AllDigits 16 ds → Harmless ds
all_digits [] h = NoCharPasses-nil is_delimiter
all_digits (c ∷ cs) h = NoCharPasses-append is_delimiter (c ∷ []) cs (one_byte c (low_digit c h.0) (plain_digit c h.0)) (all_digits cs h.1)

-- a character that is not shown has a small number
small_number : (c : ℕ) → is_shown c ≡ false → c < 2 ^ 16
small_number c h = grind (arith, nat_tests)

within : (c : ℕ) → c < 2 ^ 16 → c < 16 ^ 64
within c h = omega arith

by_number : (c : ℕ) → is_shown c ≡ false → Harmless (numbered c)
unfolding lib.Utf8.encode
by_number c h =
    let d = digits_is_IsNumeral 16 false (lit≤ tt) (lit≤ tt) c (within c (small_number c h)) in
    NoCharPasses-append is_delimiter (codes "\\u{") (digits 16 false c ++ codes "}") (codes "\\u{", refl, search rules)
    (NoCharPasses-append is_delimiter (digits 16 false c) (codes "}") (all_digits _ d.0.1) (codes "}", refl, search rules))

-- what holds of both choices holds of the one that a test picks
either : (P : List ℕ → Type 0) (b : Bool) (x y : List ℕ) → (b ≡ true → P x) → (b ≡ false → P y) → P (cond b x y)
either P true x y first second = first refl
either P false x y first second = second refl

no_delimiter : (c : ℕ) → eqb c 60 ≡ false → eqb c 62 ≡ false → eqb c 34 ≡ false → eqb c 39 ≡ false → is_delimiter c ≡ false
no_delimiter c a b d e = rw (a, b, d, e)

one_character : (c : ℕ) → Harmless (escaped_character c)
unfolding lib.Utf8.encode
one_character c =
    either Harmless (eqb c 38) _ _ (λ _. (codes "&amp;", refl, search rules))
    (λ _. either Harmless (eqb c 60) _ _ (λ _. (codes "&lt;", refl, search rules))
    (λ a. either Harmless (eqb c 62) _ _ (λ _. (codes "&gt;", refl, search rules))
    (λ b. either Harmless (eqb c 34) _ _ (λ _. (codes "&quot;", refl, search rules))
    (λ d. either Harmless (eqb c 39) _ _ (λ _. (codes "&#39;", refl, search rules))
    (λ e. either Harmless (is_shown c) _ _ (λ _. (c ∷ [], append-nil (encode_utf8 c), (no_delimiter c a b d e, tt)))
    (by_number c))))))

all_characters : (cs : List ℕ) → Harmless (flat_map escaped_character cs)
all_characters [] = NoCharPasses-nil is_delimiter
all_characters (c ∷ cs) = NoCharPasses-append is_delimiter (escaped_character c) (flat_map escaped_character cs) (one_character c) (all_characters cs)

pub escaped_has_no_delimiter : EscapedHasNoDelimiter
escaped_has_no_delimiter text = all_characters (chars text)
