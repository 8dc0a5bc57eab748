-- A text that comes after another in one that goes out.
use Rattle.std.proofs.Common.{◌≡◌, ◌∙◌, ℕ, List, ◌++◌, Option, Some, None, refl, sym, ap, append_assoc}
use Rattle.sink.specs.Taken.{with_more}
use Rattle.sink.specs.Written.{IsCut, IsWritten}

pub with_more_twice : (known : Option (List ℕ)) (first second : List ℕ) → with_more (with_more known first) second ≡ with_more known (first ++ second)
with_more_twice None first second = refl
with_more_twice (Some bytes) first second = ap (λ list. Some list) (append_assoc bytes first second)

-- the first is cut
pub first_cut : (before after : Option (List ℕ)) (first second : List ℕ) → IsCut before first after → IsCut before (first ++ second) after
first_cut before after first second (front, back, split, put) = (
  front,
  back ++ second,
  ap (λ list. list ++ second) split ∙ append_assoc front back second,
  put,
)

-- the second is cut
pub second_cut : (before now after : Option (List ℕ)) (first second : List ℕ) → IsWritten before first now → IsCut now second after → IsCut before (first ++ second) after
second_cut before now after first second out (front, back, split, put) = (
  first ++ front,
  back,
  ap (λ list. first ++ list) split ∙ sym (append_assoc first front back),
  put ∙ ap (λ known. with_more known front) out ∙ with_more_twice before first front,
)
