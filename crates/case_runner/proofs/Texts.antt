-- What a text in two parts is to a loop that goes on with the second.
use Rattle.std.proofs.Common.{◌≢◌, ◌<◌, ℕ, List, [], length, arith, inl, inr}
use Rattle.std.proofs.lemmas.Grind.{common_steps}
use Rattle.case_runner.specs.Texts.{IsSplit}

-- what comes after it is shorter than a text that is not empty
pub after_is_shorter : (end : ℕ) (text before after : List ℕ) → IsSplit end text before after → text ≢ [] → length after < length text
after_is_shorter end text before after split filled =
    elim split.parts [ inl e ↦ grind (arith, common_steps, e) | inr w ↦ grind (arith, common_steps, w, filled) ]
