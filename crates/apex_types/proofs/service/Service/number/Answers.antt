use Rattle.std.proofs.Common.{◌≡◌, ◌+◌, refl}
use denote.Enum.Declared.{tag_of}
use Rattle.apex_types.specs.contracts.service.Service.{the_type}
use Rattle.apex_types.specs.declared.service.Service.{Service}
use Rattle.apex_types.specs.declared.service.Service.TheVariants as service
use Rattle.apex_types.specs.Services.{service_number}
use Rattle.apex_types.proofs.service.Service.number.Goals as goal

-- the table has each service at the place of its variant
in_order : (given : Service) → tag_of the_type given + 1 ≡ service_number given
unfolding service_number
in_order service.CreateProcess = refl
in_order _ = refl

pub returns : goal.returns
returns c = in_order c.args.self
