-- Readings of a text's items, and functions of the core that change at one core.
use Rattle.std.proofs.Common.{◌≡◌, ◌≢◌, ◌⊎◌, ◌∙◌, ℕ, List, [], ◌∷◌, Bool, true, Option, Result, Ok, Err, refl, sym, ap, inl, inr, eq-eqb}
use Rattle.std.proofs.lemmas.Bool.{cases_eq, ne_eqb}
use mathlib.Core.Path.{fun_ext}
use Rattle.csv_rows.specs.Source.{Gives}
use Rattle.order_cert.specs.Kept.{put}
use Rattle.placement.specs.Reading.{Reads}

-- an outside fault is the failure of a reader that can fail, or a lack of memory
abbrev pub IsEither : {Fault : Type 0} → Bool → Fault → Fault → Fault → Type 0
IsEither can_fail failure memory fault = ((fault ≡ failure) × (can_fail ≡ true)) ⊎ (fault ≡ memory)

pub reads_all : {Value Fault : Type 0} (can_fail : Bool) (failure : Fault) (items : List (Result Value Fault)) → Reads can_fail failure items items
reads_all can_fail failure items = inl refl

reads_none : {Value Fault : Type 0} (can_fail : Bool) (failure : Fault) (items : List (Result Value Fault)) → can_fail ≡ true → Reads can_fail failure items (Err failure ∷ [])
reads_none can_fail failure items can = inr (can, [], items, refl, refl)

pub reads_more : {Value Fault : Type 0} (can_fail : Bool) (failure : Fault) (value : Value) (items given : List (Result Value Fault)) → Reads can_fail failure items given
    → Reads can_fail failure (Ok value ∷ items) (Ok value ∷ given)
reads_more can_fail failure value items given (inl e) = inl (ap (λ l. Ok value ∷ l) e)
reads_more can_fail failure value items given (inr (can, before, rest, e, f)) = inr (can, value ∷ before, rest, ap (λ l. Ok value ∷ l) e, ap (λ l. Ok value ∷ l) f)

-- a fault that a source gave is one that some reading of its items begins with
pub fault_read : {Value Fault : Type 0} (can_fail : Bool) (failure memory fault : Fault) (items : List (Result Value Fault)) (left : Option (List (Result Value Fault)))
    → fault ≢ memory → Gives (IsEither can_fail failure memory) items (Err fault) left
    → (more : List (Result Value Fault)) × Reads can_fail failure items (Err fault ∷ more)
fault_read can_fail failure memory fault items left other (inl (inl e)) = ([], rw e.0 (reads_none can_fail failure items e.1))
fault_read can_fail failure memory fault items left other (inl (inr e)) = absurd (other e)
fault_read can_fail failure memory fault items left other (inr (rest, e)) = (rest, inl (sym e))

pub put-here : {A : Type 0} (f : ℕ → A) (core : ℕ) (x : A) → put f core x core ≡ x
put-here f core x = rw (eq-eqb core core refl) refl

pub put-other : {A : Type 0} (f : ℕ → A) (core other : ℕ) (x : A) → other ≢ core → put f core x other ≡ f other
put-other f core other x apart = rw (ne_eqb other core apart) refl

pub put-back : {A : Type 0} (f : ℕ → A) (core : ℕ) (x : A) → put (put f core x) core (f core) ≡ f
put-back f core x = fun_ext (λ other. elim (cases_eq other core) [
  | inl e ↦ rw e (put-here (put f core x) core (f core))
  | inr apart ↦ put-other (put f core x) core other (f core) apart ∙ put-other f core other x apart
])

pub put_reads : {Value Fault : Type 0} (can_fail : Bool) (failure : Fault) (items left : ℕ → List (Result Value Fault)) (core : ℕ) (given : List (Result Value Fault))
    → ((other : ℕ) → other ≢ core → Reads can_fail failure (items other) (left other)) → Reads can_fail failure (items core) given
    → (other : ℕ) → Reads can_fail failure (items other) (put left core given other)
put_reads can_fail failure items left core given others here other = elim (cases_eq other core) [
  | inl e ↦ rw (e, put-here left core given) here
  | inr apart ↦ rw (put-other left core other given apart) (others other apart)
]
