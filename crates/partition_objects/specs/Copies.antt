-- A copy of a table.
use Rattle.std.specs.Prelude.{◌≡◌, ℕ, List}
use Rattle.std.specs.List.{AllZip}

-- a copy has the numbers of a table in their order, and under each number a copy of its object
abbrev pub AreCopies : {Object : Type 0} → (Object → Object → Type 0) → List (ℕ × Object) → List (ℕ × Object) → Type 0
AreCopies IsCopy table copy = AllZip (λ one other. (other.0 ≡ one.0) × IsCopy one.1 other.1) table copy

-- each copy of an object is that object
abbrev pub CopiesAreSame : {Object : Type 0} → (Object → Object → Type 0) → Type 0
CopiesAreSame {Object} IsCopy = (object copied : Object) → IsCopy object copied → copied ≡ object
