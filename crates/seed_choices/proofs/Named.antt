-- Services that a format has.
use Rattle.std.proofs.Common.{◌≡◌, ℕ, ℤ, List, true, refl}
use Rattle.apex_types.specs.declared.format.Format.{Format}
use Rattle.apex_types.specs.declared.format.Format.TheVariants as format
use Rattle.apex_types.specs.declared.service.Service.{Service}
use Rattle.apex_types.specs.declared.service.Service.TheVariants as service
use Rattle.apex_types.specs.Arguments.{request_of}
use Rattle.apex_types.specs.Requested.{service_of}
use Rattle.apex_types.specs.Services.{is_in, row_of}

-- each format has GET_TIME
pub time_is_in : (named : Format) → is_in named service.GetTime ≡ true
unfolding row_of
time_is_in format.One = refl
time_is_in format.Two = refl
time_is_in format.Three = refl

-- a request is of its service
pub of_its_service : (asked : Service) (n1 n2 n3 : ℤ) (name message : List ℕ) → service_of (request_of asked n1 n2 n3 name message) ≡ asked
unfolding request_of
of_its_service service.CreateProcess n1 n2 n3 name message = refl
of_its_service _ n1 n2 n3 name message = refl
