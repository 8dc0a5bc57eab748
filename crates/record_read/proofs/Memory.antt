-- Which records need memory, from the parts of their rows.
use Rattle.std.proofs.Common.{◌≡◌, ℕ, ℤ, List, [], true, refl, inl, inr}
use Rattle.std.specs.Prelude.{◌≢◌, ◌⊎◌}
use Rattle.apex_types.specs.declared.service.Service.{Service}
use Rattle.apex_types.specs.declared.service.Service.TheVariants as service
use Rattle.apex_types.specs.Requested.{service_of}
use Rattle.apex_types.specs.Services.{arguments_of}
use Rattle.apex_types.specs.Arguments.{request_of}
use Rattle.record_read.specs.Memory.{TakesText}

-- a request is of its service
pub service_kept : (s : Service) (n1 n2 n3 : ℤ) (name message : List ℕ) → service_of (request_of s n1 n2 n3 name message) ≡ s
unfolding request_of
service_kept service.CreateProcess n1 n2 n3 name message = refl
service_kept _ n1 n2 n3 name message = refl

-- a request for which memory was refused takes a name or a message
pub request_needs : (s : Service) (n1 n2 n3 : ℤ) (name message : List ℕ) → (name ≢ [] → (arguments_of s).name ≡ true) → (message ≢ [] → (arguments_of s).message ≡ true)
    → (name ≢ []) ⊎ (message ≢ []) → TakesText (service_of (request_of s n1 n2 n3 name message))
request_needs s n1 n2 n3 name message takes_name takes_message (inl h) = inl (rw (service_kept s n1 n2 n3 name message) (takes_name h))
request_needs s n1 n2 n3 name message takes_name takes_message (inr h) = inr (rw (service_kept s n1 n2 n3 name message) (takes_message h))
