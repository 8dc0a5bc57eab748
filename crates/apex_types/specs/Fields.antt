-- The fields of a view.
use Rattle.std.specs.Prelude.{ℤ}
use Rattle.apex_types.specs.declared.view.Field.{Field}
use Rattle.apex_types.specs.declared.view.Field.TheVariants as field
use Rattle.apex_types.specs.declared.view.View.{View}

-- a field of a view
abbrev pub field_of : View → Field → ℤ
field_of view field.Kind = view.kind
field_of view field.Core = view.core
field_of view field.Time = view.time
field_of view field.Part = view.part
field_of view field.Proc = view.proc
field_of view field.Service = view.service
field_of view field.Prio = view.prio
field_of view field.Out = view.out
field_of view field.Val = view.val
field_of view field.Elapsed = view.elapsed
field_of view field.Woken = view.woken
