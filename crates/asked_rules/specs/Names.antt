-- The names of fields, and the names that mean numbers in them.
use Rattle.std.specs.Prelude.{ℕ, ℤ, pos, List, [], ◌∷◌, Option, None, codes, find, option_map}
use Rattle.std.specs.Str.{bytes_eq}
use Rattle.apex_types.specs.declared.view.Field.{Field}
use Rattle.apex_types.specs.declared.view.Field.TheVariants as field
use Rattle.apex_types.specs.Numbers.{out_number}
use Rattle.apex_types.specs.Services.{service_number}
use Rattle.record_read.specs.declared.kind.Kind.{Kind}
use Rattle.record_read.specs.declared.kind.Kind.TheVariants as kind
use Rattle.record_read.specs.Named.{kind_named, out_named, service_named}

-- the fields, each with its name
abbrev pub field_names : List (List ℕ × Field)
field_names =
    (codes "kind", field.Kind) ∷ (codes "core", field.Core) ∷ (codes "time", field.Time) ∷ (codes "part", field.Part) ∷ (codes "proc", field.Proc)
    ∷ (codes "service", field.Service) ∷ (codes "prio", field.Prio) ∷ (codes "out", field.Out) ∷ (codes "val", field.Val)
    ∷ (codes "elapsed", field.Elapsed) ∷ (codes "woken", field.Woken) ∷ []

-- the field of this name
abbrev pub field_named : List ℕ → Option Field
field_named text = option_map (λ found. found.1) (find (λ one. bytes_eq text one.0) field_names)

-- the number of a kind of records, as views give it
abbrev pub kind_number : Kind → ℕ
kind_number kind.Call = 0
kind_number kind.Ret = 1
kind_number kind.Disp = 2
kind_number kind.Tick = 3
kind_number kind.Arrive = 4
kind_number kind.Depart = 5
kind_number kind.Error = 6

-- the number that a name means in a field: kinds, services and outcomes have the names that they have in recordings
abbrev pub number_named : Field → List ℕ → Option ℤ
number_named field.Kind name = option_map (λ kind. pos (kind_number kind)) (kind_named name)
number_named field.Service name = option_map (λ service. pos (service_number service)) (service_named name)
number_named field.Out name = option_map (λ out. pos (out_number out)) (out_named name)
number_named _ name = None
