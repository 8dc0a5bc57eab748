-- A text without a character that JSON escapes is a string between quotation marks as it is.
use Rattle.std.proofs.Common.{◌≡◌, ℕ, suc, Bool, true, false, ◌||◌, ◌==◌, List, [], ◌∷◌, length, refl, ap, flat_map, arith}
use Rattle.std.specs.Prelude.{nat_lt}
use Rattle.std.specs.List.{list_any}
use Rattle.std.proofs.lemmas.Bool.{not-true, or_parts}
use Rattle.std.proofs.lemmas.Bool.Decides.{nat_tests}
use Rattle.json.specs.Print.{escape_byte, escape_letter}
use Rattle.json.specs.Run.{is_plain, is_stop}
use Rattle.json.specs.Written.{PlainBetween}
use Rattle.view_trace.specs.Escapes.{is_escaped}

no_letter : (b : ℕ) → is_escaped b ≡ false → nat_lt 0 (escape_letter b) ≡ false
no_letter b h = grind (arith, nat_tests)

no_control : (b : ℕ) → is_escaped b ≡ false → nat_lt b 32 ≡ false
no_control b h = grind (arith, nat_tests)

plain_byte : (b : ℕ) → is_escaped b ≡ false → escape_byte b ≡ b ∷ []
unfolding escape_byte
plain_byte b h = rw (no_letter b h, no_control b h)

first_false : (a b : Bool) → (a || b) ≡ false → a ≡ false
first_false false b h = refl
first_false true b h = cc

second_false : (a b : Bool) → (a || b) ≡ false → b ≡ false
second_false false b h = h
second_false true b h = cc

pub plain_text : (text : List ℕ) → list_any is_escaped text ≡ false → flat_map escape_byte text ≡ text
plain_text [] h = refl
plain_text (b ∷ bs) h =
    let here = plain_byte b (first_false (is_escaped b) (list_any is_escaped bs) h) in
    let later = plain_text bs (second_false (is_escaped b) (list_any is_escaped bs) h) in
    rw (here, later)

no_stop : (x : ℕ) → is_plain x ≡ true → is_escaped x ≡ false
no_stop x h =
    let none = or_parts _ _ (not-true (is_stop x) h) in
    let tests = or_parts (x == 34) _ none.0 in
    rw (none.1, tests.0, tests.1) refl

-- a text whose bytes are all plain has no character that is escaped
pub none_escaped : (text : List ℕ) → PlainBetween text 0 (length text) → list_any is_escaped text ≡ false
none_escaped [] h = refl
none_escaped (b ∷ bs) h =
    let here = no_stop b (h 0 (omega arith) (omega arith)) in
    let later = none_escaped bs (λ k p q. h (suc k) (omega arith) (omega arith)) in
    rw (here, later) refl
