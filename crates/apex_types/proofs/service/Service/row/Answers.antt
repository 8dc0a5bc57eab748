use Rattle.std.proofs.Common.{◌≡◌, ℕ, List, [], false, map, refl, sym, ap, ◌∙◌}
use Rattle.std.proofs.Math.ListN.{get_or, get_or-map}
use denote.Bor.{Bor}
use denote.Enum.Declared.{tag_of}
use Rattle.apex_types.specs.contracts.service.Service.{the_type}
use Rattle.apex_types.specs.declared.service.Service.{Service}
use Rattle.apex_types.specs.declared.service.Service.TheVariants as service
use Rattle.apex_types.specs.declared.service.ServiceRow.{ServiceRow}
use Rattle.apex_types.specs.declared.service.TheConstants.{SERVICES}
use Rattle.apex_types.specs.Services.{Row, row_of}
use Rattle.apex_types.specs.declared.format.Format.TheVariants.{One}
use Rattle.apex_types.specs.declared.service.Presence.TheVariants.{Absent}
use Rattle.apex_types.proofs.service.Service.row.Goals as goal
use Rattle.apex_types.proofs.service.Service.row.Lts.{m7}
use Rattle.apex_types.proofs.service.Service.row.Reads.{Pre, Post}
use Rattle.apex_types.proofs.service.Service.row.Tie.{handed_clauses}

-- a row as it lies in memory, and what is in it
abbrev Held : Type 0
Held = ServiceRow (Bor (List ℕ))

abbrev held : Held → Row
held row = record { service = row.service; name = record { now = row.name.now }; arguments = row.arguments; since = row.since }

-- the table has the row of each service at the place of its variant
in_order : (other : Row) (given : Service) → get_or SERVICES (tag_of the_type given) other ≡ row_of given
unfolding row_of
in_order other service.CreateProcess = refl
in_order other _ = refl

-- so it is with the rows in memory
there : (rows : List Held) (other : Held) → map held rows ≡ SERVICES → (given : Service) → held (get_or rows (tag_of the_type given) other) ≡ row_of given
there rows other same given =
    sym (get_or-map held rows (tag_of the_type given) other) ∙ ap (λ all. get_or all (tag_of the_type given) (held other)) same ∙ in_order (held other) given

-- the row where there would be none
abbrev none : Held
none = record {
  service = service.CreateProcess;
  name = record { ref_ptr = (0, 0); now = [] };
  arguments = record { numbers = record { first = Absent; second = Absent; third = Absent }; name = false; message = false };
  since = One;
}

pub returns-clause-name : goal.returns-clause-name
returns-clause-name c = ap (λ (row : Row). row.name.now) (there ((m7 Pre Post handed_clauses c.before c.result-1.given).1.1.0.now) none refl c.args.self)

pub returns-clause-arguments : goal.returns-clause-arguments
returns-clause-arguments c = ap (λ (row : Row). row.arguments) (there ((m7 Pre Post handed_clauses c.before c.result-1.given).1.1.0.now) none refl c.args.self)

pub returns-clause-since : goal.returns-clause-since
returns-clause-since c = ap (λ (row : Row). row.since) (there ((m7 Pre Post handed_clauses c.before c.result-1.given).1.1.0.now) none refl c.args.self)
