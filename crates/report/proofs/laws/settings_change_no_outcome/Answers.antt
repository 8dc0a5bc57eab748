use Rattle.std.proofs.Common.{◌≡◌, ◌⊎◌, sym, subst, Err}
use Rattle.report.specs.declared.fault.CheckFault.TheVariants.{Memory}
use Rattle.report.specs.Outcome.{IsOutcomeWith}
use Rattle.report.proofs.laws.settings_change_no_outcome.Goals as goal

pub returns : goal.returns
returns c = λ settings texts readings requirements result none. (
  subst (λ found. (result ≡ Err Memory) ⊎ IsOutcomeWith found texts readings requirements result) none,
  subst (λ found. (result ≡ Err Memory) ⊎ IsOutcomeWith found texts readings requirements result) (sym none),
)
