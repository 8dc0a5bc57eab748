use Rattle.std.proofs.Common.{◌≡◌, ◌<◌, ℕ, zero, suc, pos, negsuc, refl, inl, inr, arith}
use Rattle.std.specs.Prelude.{◌⊎◌}
use Rattle.std.proofs.Math.Nat.{div-add-mod}
use Rattle.std.proofs.lemmas.Int.{ints}
use Rattle.apex_types.specs.Arguments.{DirectionAndDisciplineAreOneNumber}
use Rattle.apex_types.proofs.laws.direction_and_discipline_are_one_number.Goals as goal

below_two : (n : ℕ) → n < 2 → (pos n ≡ pos 0) ⊎ (pos n ≡ pos 1)
below_two zero h = inl refl
below_two (suc zero) h = inr refl
below_two (suc (suc n)) h = absurd (omega (arith, h))

both : DirectionAndDisciplineAreOneNumber
both (pos n) = (below_two _ (omega arith), omega (arith, ints, div-add-mod n 2))
both (negsuc n) = (below_two _ (omega arith), omega (arith, ints, div-add-mod n 2))

pub returns : goal.returns
returns c = both
