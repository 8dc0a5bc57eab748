-- Messages that a call hands over.
use Rattle.std.specs.Prelude.{◌≡◌, ℕ, List, [], ◌∷◌}

-- each of these is this message
abbrev pub AreCopies : List ℕ → List (List ℕ) → Type 0
AreCopies message [] = Unit {0}
AreCopies message (copy ∷ copies) = (copy ≡ message) × AreCopies message copies
