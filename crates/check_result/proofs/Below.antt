-- Names from a folder.
use Rattle.std.proofs.Common.{◌≡◌, ◌≢◌, ℕ, List, [], ◌∷◌, length, drop, ap, refl, true, false}
use Rattle.std.proofs.lemmas.Bool.{both_ways, ne_eqb}
use Rattle.std.proofs.lemmas.Str.Pattern.{starts_text}
use Rattle.std.specs.Prelude.{None, Some, ◌==◌}
use Rattle.std.specs.Str.Pattern.{FindsTextPrefix}
use Rattle.check_result.specs.FileNames.{after_slash, name_below}

-- what a text begins with is cut off
pub below-yes : (root whole rest : List ℕ) (n : ℕ) → FindsTextPrefix root whole (Some n) → rest ≡ drop n whole → after_slash whole rest ≡ name_below root whole
below-yes root whole rest n finds is =
    rw (← starts_text true root whole (n, finds, rw finds.0 finds.2), is, finds.0) refl

-- what does not begin with the name of a folder stays
pub below-no : (root whole : List ℕ) → FindsTextPrefix root whole None → whole ≡ name_below root whole
below-no root whole lacks = rw (← starts_text false root whole lacks) refl

-- what does not begin with a slash is not below
pub slash-no : (whole rest : List ℕ) → ((below : List ℕ) → rest ≢ 47 ∷ below) → (length rest == 0) ≡ false → whole ≡ after_slash whole rest
slash-no whole [] none some = absurd (both_ways true some refl)
slash-no whole (byte ∷ rest) none some = rw (ne_eqb byte 47 (λ same. none rest (ap (λ b. b ∷ rest) same))) refl
