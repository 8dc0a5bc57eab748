-- The numbers in a view's fields, given by lists: a service, a code or an outcome has the number of its place.
use Rattle.std.specs.Prelude.{◌≡◌, ◌≤◌, ℕ, ◌-◌, pos, List, [], ◌∷◌, Some, map}
use Rattle.std.specs.List.{slice_get}
use Rattle.apex_types.specs.declared.code.Code.TheVariants as code
use Rattle.apex_types.specs.declared.record.Body.{Body}
use Rattle.apex_types.specs.declared.record.Body.TheVariants.{Arrive, Call, Depart, Disp, Error, Ret, Tick}
use Rattle.apex_types.specs.declared.record.Out.{Out}
use Rattle.apex_types.specs.declared.record.Out.TheVariants as out
use Rattle.apex_types.specs.declared.service.Service.{Service}
use Rattle.apex_types.specs.declared.service.TheConstants.{SERVICES}
use Rattle.apex_machine.specs.State.{State}
use Rattle.apex_types.specs.Numbers.{out_number}
use Rattle.apex_types.specs.Services.{service_number}
use Rattle.apex_machine.specs.Views.{view_by}

-- the services by their numbers, from 1 on: those of the table
abbrev pub services_by_number : List Service
services_by_number = map (λ row. row.service) SERVICES

-- the outcomes by their numbers, from 0 on: the codes, a call that waits, and one that does not return
abbrev pub outcomes_by_number : List Out
outcomes_by_number =
    out.Answer code.NoError ∷ out.Answer code.NoAction ∷ out.Answer code.NotAvailable ∷ out.Answer code.InvalidParam
    ∷ out.Answer code.InvalidConfig ∷ out.Answer code.InvalidMode ∷ out.Answer code.TimedOut ∷ out.Waits ∷ out.Never ∷ []

-- the kind of a record: 0 for a call, 1 for a return, 2 for a dispatch, 3 for a tick, 4 for an arrival, 5 for a departure, 6 for an error
abbrev pub kind_number : Body → ℕ
kind_number (Call call) = 0
kind_number (Ret ret) = 1
kind_number (Disp who) = 2
kind_number (Tick woken) = 3
kind_number (Arrive crossing) = 4
kind_number (Depart crossing) = 5
kind_number (Error report) = 6

-- the number of a service or of an outcome is its place in these lists, so that no two have the same number; and a view's kind is that of
-- its record
pub record NumbersTell : Type 0 where
  pub service_place : (service : Service) → slice_get services_by_number (service_number service - 1) ≡ Some service
  pub service_least : (service : Service) → 1 ≤ service_number service
  pub services_differ : (one other : Service) → service_number one ≡ service_number other → one ≡ other
  pub outcome_place : (out : Out) → slice_get outcomes_by_number (out_number out) ≡ Some out
  pub outcomes_differ : (one other : Out) → out_number one ≡ out_number other → one ≡ other
  pub kind : (state : State) (core : ℕ) (body : Body) → (view_by state core body).kind ≡ pos (kind_number body)
