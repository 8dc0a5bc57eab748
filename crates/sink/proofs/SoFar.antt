-- What went out of a text so far, and what one more put adds.
use Rattle.std.proofs.Common.{◌≡◌, ◌<◌, ℕ, zero, suc, List, [], ◌∷◌, ◌++◌, ◌-◌, Option, Some, None, Ok, length, take, drop, Bor, refl, sym, ap, ◌∙◌, append_assoc}
use Rattle.std.proofs.lemmas.List.{take-append-drop, take_rest}
use Rattle.sink.specs.Taken.{with_more, has_failed, Counts}
use Rattle.sink.specs.Written.{IsWritten, IsCut, joined}

with_more_twice : (known : Option (List ℕ)) (first second : List ℕ) → with_more (with_more known first) second ≡ with_more known (first ++ second)
with_more_twice None first second = refl
with_more_twice (Some bytes) first second = ap (λ l. Some l) (append_assoc bytes first second)

-- the front of the text is out, and this is left of it
abbrev pub IsOutSoFar : Option (List ℕ) → List ℕ → List ℕ → Option (List ℕ) → Type 0
IsOutSoFar before text left now = (front : List ℕ) × (text ≡ front ++ left) × (now ≡ with_more before front)

-- a put that answers a count leaves the rest
pub out_more : (before now after : Option (List ℕ)) (text left : List ℕ) (count : ℕ) → IsOutSoFar before text left now → after ≡ with_more now (take count left)
    → IsOutSoFar before text (take (length left - count) (drop count left)) after
out_more before now after text left count (front, cut, reported) put =
    rw take_rest (
      front ++ take count left,
      cut ∙ ap (λ l. front ++ l) (sym (take-append-drop count left)) ∙ sym (append_assoc front (take count left) (drop count left)),
      put ∙ ap (λ o. with_more o (take count left)) reported ∙ with_more_twice before front (take count left),
    )

-- a put that takes something is no failure
pub not_raised : (left : List ℕ) (count before after : ℕ) → (length left ≡ 0 → ⊥) → (count ≡ 0 → ⊥) → Counts (has_failed left (Ok count)) before after → after ≡ before
not_raised [] count before after some more counted = counted
not_raised (byte ∷ rest) zero before after some more counted = absurd (more refl)
not_raised (byte ∷ rest) (suc count) before after some more counted = counted

-- a put that takes nothing of what is left is one
pub raised : (left : List ℕ) (before after : ℕ) → (length left ≡ 0 → ⊥) → Counts (has_failed left (Ok 0)) before after → before < after
raised [] before after some counted = absurd (some refl)
raised (byte ∷ rest) before after some counted = counted

-- the parts before have gone out, and these are left
abbrev pub ArePartsOut : Option (List ℕ) → List (Bor (List ℕ)) → List (Bor (List ℕ)) → Option (List ℕ) → Type 0
ArePartsOut before all left now = IsOutSoFar before (joined all) (joined left) now

pub part_out : (before now after : Option (List ℕ)) (all rest : List (Bor (List ℕ))) (part : Bor (List ℕ)) → ArePartsOut before all (part ∷ rest) now → IsWritten now part.now after
    → ArePartsOut before all rest after
part_out before now after all rest part (front, cut, reported) written = (
  front ++ part.now,
  cut ∙ sym (append_assoc front part.now (joined rest)),
  written ∙ ap (λ o. with_more o part.now) reported ∙ with_more_twice before front part.now,
)

pub part_cut : (before now after : Option (List ℕ)) (all rest : List (Bor (List ℕ))) (part : Bor (List ℕ)) → ArePartsOut before all (part ∷ rest) now → IsCut now part.now after
    → IsCut before (joined all) after
part_cut before now after all rest part (front, cut, reported) (some, more, split, put) = (
  front ++ some,
  more ++ joined rest,
  cut ∙ ap (λ l. front ++ (l ++ joined rest)) split ∙ ap (λ l. front ++ l) (append_assoc some more (joined rest)) ∙ sym (append_assoc front some (more ++ joined rest)),
  put ∙ ap (λ o. with_more o some) reported ∙ with_more_twice before front some,
)
