-- The bytes that the constant of the crate escapes are those that do not stay as they are.
use Rattle.std.proofs.Common.{◌≡◌, ℕ, zero, suc, ◌<◌, ◌≤◌, ◌⊎◌, inl, inr, Bool, true, false, cond, not, ◌&&◌, List, [], ◌∷◌, ◌++◌, refl, ap, ◌∙◌, flat_map, arith}
use Rattle.std.proofs.lemmas.Bool.{cases_lt}
use Rattle.std.proofs.lemmas.Bool.Decides.{nat_tests}
use Rattle.percent_encoding.specs.AsciiSet.{should_percent_encode}
use Rattle.percent_encoding.specs.Percent.{encode_byte, percent_encode, percent_encode_byte}
use Rattle.sarif_report.specs.Reference.{is_kept, reference_byte}
use Rattle.sarif_report.specs.declared.uri.TheConstants.{ESCAPED}

-- whether two tests agree
abbrev agree : Bool → Bool → Bool
agree true b = b
agree false b = not b

agree-equal : (a b : Bool) → agree a b ≡ true → a ≡ b
agree-equal true true h = refl
agree-equal true false h = cc
agree-equal false true h = cc
agree-equal false false h = refl

-- whether a test holds of each number below another
abbrev all_below : (ℕ → Bool) → ℕ → Bool
all_below p zero = true
all_below p (suc n) = p n && all_below p n

first_true : (a b : Bool) → (a && b) ≡ true → a ≡ true
first_true true b h = refl
first_true false b h = h

second_true : (a b : Bool) → (a && b) ≡ true → b ≡ true
second_true true b h = h
second_true false b h = cc

below_or_equal : (b n : ℕ) → b < suc n → (b < n) ⊎ (b ≡ n)
below_or_equal b n h = elim (cases_lt b n) [ inl less ↦ inl less | inr more ↦ inr (omega arith) ]

all_below-each : (p : ℕ → Bool) (n : ℕ) → all_below p n ≡ true → (b : ℕ) → b < n → p b ≡ true
all_below-each p zero h b small = absurd (omega arith)
all_below-each p (suc n) h b small =
    elim (below_or_equal b n small) [
      | inl less ↦ all_below-each p n (second_true (p n) (all_below p n) h) b less
      | inr same ↦ ap p same ∙ first_true (p n) (all_below p n) h
    ]

-- of each byte of ASCII it is computed
abbrev is_right : ℕ → Bool
is_right byte = agree (should_percent_encode ESCAPED byte) (not (is_kept byte))

all_right : all_below is_right 128 ≡ true
unfolding should_percent_encode
all_right = refl

below_ascii : (byte : ℕ) → byte < 128 → should_percent_encode ESCAPED byte ≡ not (is_kept byte)
below_ascii byte small = agree-equal (should_percent_encode ESCAPED byte) (not (is_kept byte)) (all_below-each is_right 128 all_right byte small)

-- a byte outside ASCII is escaped, and is none of those that stay
beyond_ascii : (byte : ℕ) → 128 ≤ byte → should_percent_encode ESCAPED byte ≡ not (is_kept byte)
unfolding should_percent_encode
beyond_ascii byte large =
    let out : is_kept byte ≡ false = grind (arith, nat_tests) in
    let no_ascii : should_percent_encode ESCAPED byte ≡ true = grind (arith, nat_tests) in
    rw (no_ascii, out)

is_escaped : (byte : ℕ) → should_percent_encode ESCAPED byte ≡ not (is_kept byte)
is_escaped byte = elim (cases_lt byte 128) [ inl small ↦ below_ascii byte small | inr large ↦ beyond_ascii byte large ]

cond-not : (b : Bool) (x y : List ℕ) → cond (not b) x y ≡ cond b y x
cond-not true x y = refl
cond-not false x y = refl

byte_encoded : (byte : ℕ) → encode_byte ESCAPED byte ≡ reference_byte byte
byte_encoded byte =
    ap (λ b. cond b (percent_encode_byte byte) (byte ∷ [])) (is_escaped byte) ∙ cond-not (is_kept byte) (percent_encode_byte byte) (byte ∷ [])

-- a text with these bytes escaped is the text byte by byte
pub text_encoded : (text : List ℕ) → percent_encode ESCAPED text ≡ flat_map reference_byte text
unfolding percent_encode
text_encoded [] = refl
text_encoded (b ∷ bs) = rw (byte_encoded b) (ap (λ l. reference_byte b ++ l) (text_encoded bs))

-- what was encoded comes after what was there
pub put_together : {out before first scheme encoded second third : List ℕ} → out ≡ before ++ encoded → before ≡ first → first ≡ scheme → encoded ≡ second → second ≡ third
    → out ≡ scheme ++ third
put_together {out} {before} {first} {scheme} {encoded} whole begun named escaped known =
    whole ∙ ap (λ l. l ++ encoded) (begun ∙ named) ∙ ap (λ l. scheme ++ l) (escaped ∙ known)
