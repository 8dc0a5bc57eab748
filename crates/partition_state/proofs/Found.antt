-- What the rule for an object that is there answers, and tests beside one that is known.
use Rattle.std.proofs.Common.{◌≡◌, ◌≢◌, Option, Some, None, Bool, true, false, ◌&&◌, refl}
use Rattle.std.specs.Option.{IfSome}
use Rattle.apex_machine.specs.Answer.{Answer}
use Rattle.apex_machine.specs.Services.{answer_by}

-- what holds of the answer of the rule for an object that is there holds of the answer
pub answer_there : {Object : Type 0} (Fact : Answer → Type 0) (rule : Object → Answer) (o : Option Object) → o ≢ None
    → IfSome o (λ found. Fact (rule found)) → Fact (answer_by o rule)
answer_there Fact rule None there fact = absurd (there refl)
answer_there Fact rule (Some found) there fact = fact

-- a test and a true one
pub with_true : (b : Bool) → (b && true) ≡ b
with_true true = refl
with_true false = refl

-- a test and a false one
pub with_false : (b : Bool) → (b && false) ≡ false
with_false true = refl
with_false false = refl
