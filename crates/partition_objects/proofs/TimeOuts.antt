-- A caller's number of 64 bits is read as it is.
use Rattle.std.proofs.Common.{◌≡◌, ℤ, FitsSigned, to_z, of_z, w64}
use Rattle.std.proofs.lemmas.Int.{to_z-of_z}

-- a number that fits is read as it was written
pub as_given : (number : ℤ) → FitsSigned w64 number → to_z w64 (of_z w64 number) ≡ number
as_given number fits = simp to_z-of_z
