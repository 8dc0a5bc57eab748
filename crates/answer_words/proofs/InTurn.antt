-- What holds of files that are opened one after another, each by its own name.
use Rattle.std.proofs.Common.{◌≡◌, ◌∙◌, ◌<◌, ◌+◌, ◌++◌, ℕ, List, [], ◌∷◌, Result, Ok, Err, ap, get_or, length, map, subst, sym, take}
use Rattle.std.specs.List.{AllZip}
use Rattle.std.specs.Prelude.{IfErr, IsErrAnd}
use Rattle.std.proofs.lemmas.List.{map-append, take_more}

-- what holds of the error that a result has
pub of_error : {Value Fault : Type 0} (Same Fact : Fault → Type 0) → ((fault : Fault) → Same fault → Fact fault) → (result : Result Value Fault) → IsErrAnd result Same
    → IfErr result Fact
of_error Same Fact then (Ok value) is = tt
of_error Same Fact then (Err fault) is = then fault is

-- what an error of some kind means holds if there is one
pub of_kind : {Value Fault Fact : Type 0} (IsKind : Fault → Type 0) (answer : Result Value Fault) → IsErrAnd answer IsKind → IfErr answer (λ fault. IsKind fault → Fact) → Fact
of_kind IsKind (Ok value) is then = absurd is
of_kind IsKind (Err fault) is then = then is

module _ {A B : Type 0} (R : A → B → Type 0) where
  -- one more item of each of two lists
  one_more : (xs : List A) (ys : List B) (x : A) (y : B) → AllZip R xs ys → R x y → AllZip R (xs ++ x ∷ []) (ys ++ y ∷ [])
  one_more [] [] x y all next = (next, tt)
  one_more [] (other ∷ ys) x y all next = absurd all
  one_more (other ∷ xs) [] x y all next = absurd all
  one_more (first ∷ xs) (second ∷ ys) x y all next = (all.0, one_more xs ys x y all.1 next)

  -- one more name, and what it names
  pub next_name : {N : Type 0} (named : N → A) (names : List N) (ys : List B) (i : ℕ) (name : N) (y : B) → i < length names → name ≡ get_or names i name
      → AllZip R (map named (take i names)) ys → R (named name) y → AllZip R (map named (take (i + 1) names)) (ys ++ y ∷ [])
  next_name named names ys i name y within is all next =
      let longer : map named (take (i + 1) names) ≡ map named (take i names) ++ named name ∷ [] =
      ap (map named) (take_more names i name within) ∙ map-append named (take i names) (get_or names i name ∷ []) ∙ ap (λ name. map named (take i names) ++ named name ∷ []) (sym is) in
      subst (λ front. AllZip R front (ys ++ y ∷ [])) (sym longer) (one_more (map named (take i names)) ys (named name) y all next)
