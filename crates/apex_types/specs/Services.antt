-- What is known about a service, from its row in the table.
use Rattle.std.specs.Prelude.{ℕ, List, [], ◌∷◌, ◌+◌, Bool, false, nat_le, if◌then◌else◌}
use Rattle.apex_types.specs.declared.format.Format.{Format}
use Rattle.apex_types.specs.declared.format.Format.TheVariants as format
use Rattle.apex_types.specs.declared.service.Arguments.{Arguments}
use Rattle.apex_types.specs.declared.service.Service.{Service}
use Rattle.apex_types.specs.declared.service.Presence.TheVariants.{Absent}
use Rattle.apex_types.specs.declared.service.ServiceRow.{ServiceRow}
use Rattle.apex_types.specs.declared.service.TheConstants.{SERVICES}
use Rattle.apex_types.specs.contracts.service.ServicePartialEq.TheImpl as services
use Rattle.apex_types.specs.Format.{format_number}

-- a row of the table
abbrev pub Row : Type 0
Row = ServiceRow (record { now : List ℕ })

-- the first of these rows that is the service's; if there were none, the service would have no name and take nothing
abbrev pub row_among : List Row → Service → Row
row_among [] service = record {
  service = service;
  name = record { now = [] };
  arguments = record { numbers = record { first = Absent; second = Absent; third = Absent }; name = false; message = false };
  since = format.Three;
}
row_among (row ∷ rows) service = if services.eq-value.it row.service service then row else row_among rows service

-- the row of a service
unfoldable pub row_of : Service → Row
row_of service = row_among SERVICES service

-- the name that the standard's APEX interface gives the service   (ARINC 653 Part 1, section 3)
abbrev pub name_of : Service → List ℕ
name_of service = (row_of service).name.now

-- the arguments that the service takes
abbrev pub arguments_of : Service → Arguments
arguments_of service = (row_of service).arguments

-- whether rows of a format can name a service: they name the services that came with the format or with an earlier one
abbrev pub is_in : Format → Service → Bool
is_in format service = nat_le (format_number (row_of service).since) (format_number format)

-- the place among these rows, counted from 1, of the first row that is the service's
abbrev pub place_among : List Row → Service → ℕ
place_among [] service = 1
place_among (row ∷ rows) service = if services.eq-value.it row.service service then 1 else 1 + place_among rows service

-- the number of a service is its place in the table
unfoldable pub service_number : Service → ℕ
service_number service = place_among SERVICES service
