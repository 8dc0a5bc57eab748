-- A byte order mark at the front of the bytes that were read ahead is one of the whole text.
use Rattle.std.proofs.Common.{◌≡◌, ◌<◌, ◌≤◌, ◌+◌, ◌⊎◌, ℕ, zero, suc, List, [], ◌∷◌, ◌++◌, length, drop, Bool, true, false, refl, sym, ap, subst, arith, inl, inr, ◌∙◌}
use Rattle.std.specs.Prelude.{if◌then◌else◌, ◌==◌, ◌||◌, ◌&&◌}
use Rattle.std.proofs.lemmas.Bool.{eqb-true}
use Rattle.csv.specs.Reading.{is_bom, strip_bom}
use Rattle.csv_rows.specs.Front.{HasSpecial, IsSettled}
use Rattle.csv_rows.specs.Line.{IsPlain}
use Rattle.csv_rows.specs.Text.{mark_length}

-- what is left of bytes after a byte order mark
abbrev pub unmarked : List ℕ → List ℕ
unmarked text = drop (mark_length text) text

-- a byte that is not plain is not this plain byte
other : (byte mark : ℕ) → IsPlain mark → ¬ IsPlain byte → (byte == mark) ≡ false
other byte mark plain special = by (byte == mark) refl
  where
    by : (b : Bool) → (byte == mark) ≡ b → b ≡ false
    by true e = absurd (special (subst IsPlain (sym (eqb-true byte mark e)) plain))
    by false e = refl

-- if one of the first two bytes is not part of a mark, there is none
no_first : (a b c : ℕ) (rest : List ℕ) → (a == 0xEF) ≡ false → strip_bom (a ∷ b ∷ c ∷ rest) ≡ a ∷ b ∷ c ∷ rest
unfolding strip_bom
no_first a b c rest e = ap (λ (first : Bool). if first && (b == 0xBB) && (c == 0xBF) then rest else a ∷ b ∷ c ∷ rest) e

no_second : (a b c : ℕ) (rest : List ℕ) → (b == 0xBB) ≡ false → strip_bom (a ∷ b ∷ c ∷ rest) ≡ a ∷ b ∷ c ∷ rest
unfolding strip_bom
no_second a b c rest e = by (a == 0xEF) ∙ refl
  where
    by : (first : Bool) → (if first && (b == 0xBB) && (c == 0xBF) then rest else a ∷ b ∷ c ∷ rest) ≡ a ∷ b ∷ c ∷ rest
    by true = ap (λ (second : Bool). if true && second && (c == 0xBF) then rest else a ∷ b ∷ c ∷ rest) e
    by false = refl

pub no_mark : (a : ℕ) (more : List ℕ) → (a == 0xEF) ≡ false → strip_bom (a ∷ more) ≡ a ∷ more
unfolding strip_bom
no_mark a [] e = refl
no_mark a (b ∷ []) e = refl
no_mark a (b ∷ c ∷ rest) e = no_first a b c rest e

two_bytes : (a b : ℕ) (more : List ℕ) → (b == 0xBB) ≡ false → strip_bom (a ∷ b ∷ more) ≡ a ∷ b ∷ more
unfolding strip_bom
two_bytes a b [] e = refl
two_bytes a b (c ∷ rest) e = no_second a b c rest e

three_bytes : (a b c : ℕ) (rest more : List ℕ) → strip_bom (a ∷ b ∷ c ∷ (rest ++ more)) ≡ unmarked (a ∷ b ∷ c ∷ rest) ++ more
unfolding strip_bom
three_bytes a b c rest more = by (is_bom a b c)
  where
    by : (mark : Bool) → (if mark then rest ++ more else a ∷ b ∷ c ∷ (rest ++ more)) ≡ drop (if mark then 3 else 0) (a ∷ b ∷ c ∷ rest) ++ more
    by true = refl
    by false = refl

-- such bytes show whether the text has a mark
pub mark_shows : (text more : List ℕ) → IsSettled text → strip_bom (text ++ more) ≡ unmarked text ++ more
mark_shows [] more (inl special) = absurd (omega (arith, special.1))
mark_shows [] more (inr long) = absurd (omega arith)
mark_shows (a ∷ []) more (inl (zero, within, special)) = no_mark a more (other a 0xEF refl special)
mark_shows (a ∷ []) more (inl (suc place, within, special)) = absurd (omega arith)
mark_shows (a ∷ []) more (inr long) = absurd (omega arith)
mark_shows (a ∷ b ∷ []) more (inl (zero, within, special)) = no_mark a (b ∷ more) (other a 0xEF refl special)
mark_shows (a ∷ b ∷ []) more (inl (suc zero, within, special)) = two_bytes a b more (other b 0xBB refl special)
mark_shows (a ∷ b ∷ []) more (inl (suc (suc place), within, special)) = absurd (omega arith)
mark_shows (a ∷ b ∷ []) more (inr long) = absurd (omega arith)
mark_shows (a ∷ b ∷ c ∷ rest) more settled = three_bytes a b c rest more

-- so does a whole text
pub mark_of_whole : (text : List ℕ) → strip_bom (text ++ []) ≡ unmarked text ++ []
unfolding strip_bom
mark_of_whole [] = refl
mark_of_whole (a ∷ []) = refl
mark_of_whole (a ∷ b ∷ []) = refl
mark_of_whole (a ∷ b ∷ c ∷ rest) = three_bytes a b c rest []
