-- What a reader gave whose text is known.
use Rattle.std.specs.Prelude.{◌≡◌, ◌⊎◌, Bool, true, List, [], ◌∷◌, ◌++◌, Result, Ok, Err, map}

-- whether a read can fail: one of a recording, and one of the certificate
pub record CanFail : Type 0 where
  pub recordings : Bool
  pub certificate : Bool

-- the items that a reader gave of a text's items: all of them; or, if the reader can fail, some that are no fault, followed by its own
-- failure
abbrev pub Reads : {Value Fault : Type 0} → Bool → Fault → List (Result Value Fault) → List (Result Value Fault) → Type 0
Reads {Value} {Fault} can_fail failure whole given =
    (given ≡ whole)
    ⊎ ((can_fail ≡ true) × (before : List Value) × (rest : List (Result Value Fault)) × (whole ≡ map Ok before ++ rest)
    × (given ≡ map Ok before ++ Err failure ∷ []))
