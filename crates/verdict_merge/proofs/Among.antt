-- What a list contains.
use Rattle.std.proofs.Common.{◌≡◌, ◌⊎◌, zero, suc, List, [], ◌∷◌, refl, sym, inl, inr, arith}
use Rattle.std.specs.Prelude.{Contains}

pub contains_here : {A : Type 0} (one : A) (rest : List A) → Contains (one ∷ rest) one
contains_here one rest = (0, omega arith, refl)

pub contains_after : {A : Type 0} (one other : A) (rest : List A) → Contains rest other → Contains (one ∷ rest) other
contains_after one other rest (k, within, is) = (suc k, omega (arith, within), is)

pub contains_cases : {A : Type 0} (one other : A) (rest : List A) → Contains (one ∷ rest) other → (other ≡ one) ⊎ Contains rest other
contains_cases one other rest (zero, within, is) = inl (sym is)
contains_cases one other rest (suc k, within, is) = inr (k, omega (arith, within), is)

pub contains_none : {A : Type 0} (one : A) → Contains [] one → ⊥
contains_none one (k, within, is) = absurd (omega (arith, within))
