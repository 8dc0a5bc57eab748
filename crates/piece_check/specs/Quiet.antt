-- The records that a piece passes by without judging them.
use Rattle.std.specs.Prelude.{[], Bool, true, false}
use Rattle.apex_types.specs.declared.record.Body.{Body}
use Rattle.apex_types.specs.declared.record.Body.TheVariants.{Tick}
use Rattle.apex_types.specs.declared.record.Ordered.{Ordered}
use Rattle.apex_machine.specs.Pieces.{ChannelPart, Part}

-- whether a record is a tick that ends no wait
abbrev pub is_quiet : Body → Bool
is_quiet (Tick []) = true
is_quiet _ = false

-- a channel passes by a tick that ends no wait: it demands nothing of the tick, and only a time changes
abbrev pub passes_by : Part → Ordered → Bool
passes_by (ChannelPart number times channel) ordered = is_quiet ordered.rec.body
passes_by _ ordered = false
