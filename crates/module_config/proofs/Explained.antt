-- A refusal that is handed on without a misfit.
use Rattle.std.proofs.Common.{◌≡◌, ◌≢◌, Ok, Err, refl, ap, ◌∙◌, IfErr}
use Rattle.std.specs.Prelude.{Result, IsErrAnd}
use Rattle.apex_machine.specs.Configuration.{Configuration}
use Rattle.module_config.specs.declared.fault.ConfigFault.TheVariants.{Memory}
use Rattle.module_config.specs.declared.refusal.ConfigRefusal.{ConfigRefusal}
use Rattle.module_config.specs.declared.refusal.ExplainedRefusal.{ExplainedRefusal}
use Rattle.module_config.specs.Misfits.{IsExplained, unexplained}

-- it is the refusal of the keys, if they have one
pub handed_on : (A : Type 0) {B : Type 0} (reading : Result Configuration ConfigRefusal) (refusal : ConfigRefusal) (result : Result B ExplainedRefusal)
    → IsErrAnd result (λ one. one ≡ unexplained refusal) → IfErr reading (λ first. ◌≡◌ {A = Result A ConfigRefusal} (Err refusal) (Err first)) → IfErr reading (λ first. result ≡ Err (unexplained first))
handed_on A (Ok configuration) refusal result is same = tt
handed_on A (Err first) refusal (Ok value) is same = absurd is
handed_on A (Err first) refusal (Err one) is same = let e : refusal ≡ first = cc in rw (is, e) refl

-- and it needs no misfit
pub explained_on : {A : Type 0} (reading : Result Configuration ConfigRefusal) (refusal : ConfigRefusal) (result : Result A ExplainedRefusal)
    → IsErrAnd result (λ one. one ≡ unexplained refusal) → (refusal.fault ≢ Memory → reading ≡ Err refusal) → IfErr result (IsExplained reading)
explained_on reading refusal (Ok value) is gives = tt
explained_on (Err first) refusal (Err one) is gives = ap (λ explained. explained.misfit) is
explained_on (Ok configuration) refusal (Err one) is gives = λ other.
    let wrong : Ok configuration ≡ Err refusal = gives (λ memory. other (ap (λ explained. explained.refusal.fault) is ∙ memory)) in
    cc
