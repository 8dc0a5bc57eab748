-- What a memory keeps, and its value at a view.
use Rattle.std.specs.Prelude.{ℕ, ℤ, ◌+◌, ◌*◌, ◌+ℤ◌, ◌-ℤ◌, pos, negsuc, Bool, true, false, ◌||◌, List, [], ◌∷◌, Option, Some, None, nat_eq, nat_lt, if◌then◌else◌}
use Rattle.std.specs.Option.{option_and_then, option_map}
use Rattle.std.specs.Int.{int_max, saturate_signed, w64}
use Rattle.apex_types.specs.declared.limits.TheConstants.{GREATEST_NUMBER, MOST_CORES, MOST_PARTITIONS}
use Rattle.apex_types.specs.declared.view.View.{View}
use Rattle.apex_types.specs.Fields.{field_of}
use Rattle.user_rules.specs.declared.memory.Cell.{Cell}
use Rattle.user_rules.specs.declared.memory.Counted.{Counted}
use Rattle.user_rules.specs.declared.memory.Keeps.{Keeps}
use Rattle.user_rules.specs.declared.memory.Keeps.TheVariants.{Since, Count, Last}
use Rattle.user_rules.specs.declared.memory.Mark.{Mark}
use Rattle.user_rules.specs.declared.memory.Per.{Per}
use Rattle.user_rules.specs.declared.memory.Per.TheVariants.{Module, Core, Partition, Process}
use Rattle.user_rules.specs.declared.memory.RuleMemory.{RuleMemory}
use Rattle.user_rules.specs.declared.relation.Relation.{Relation}
use Rattle.user_rules.specs.Meets.{Valued, absent, meets}

-- whose value a view reads and changes

-- the number that a field is, if it is below this bound
abbrev pub number_below : ℕ → ℤ → Option ℕ
number_below bound (pos number) = if nat_lt number bound then Some number else None
number_below bound (negsuc number) = None

-- the number of a process of the module: partitions have numbers below the most that there are
abbrev pub process_number : ℕ → ℕ → ℕ
process_number partition process = process * MOST_PARTITIONS + partition

-- the holder for whom a memory keeps a value: the module, or the core, the partition or the process of a view, by its number; none if the
-- view has no such number
abbrev pub holder_of : Per → View → Option ℕ
holder_of Module view = Some 0
holder_of Core view = number_below MOST_CORES view.core
holder_of Partition view = number_below MOST_PARTITIONS view.part
holder_of Process view =
    option_and_then (λ partition. option_map (process_number partition) (number_below (GREATEST_NUMBER + 1) view.proc)) (number_below MOST_PARTITIONS view.part)

-- what is kept for one holder

-- nothing is kept before the first view
abbrev pub empty : Mark
empty = record { number = pos 0; met = false }

-- the time from one to another, which is 0 if the other is earlier; it stops at the greatest number of 64 bits
abbrev pub elapsed_since : ℤ → ℤ → ℤ
elapsed_since earlier now = int_max (saturate_signed w64 (now -ℤ earlier)) (pos 0)

-- the value at a view: the time since the last view that met the relation, the count, or the field of the last view that met it; -1 if
-- there is no such view
abbrev pub value_in : Keeps → Mark → View → ℤ
value_in (Since relation) mark view = if mark.met then elapsed_since mark.number view.time else absent
value_in (Count counted) mark view = mark.number
value_in (Last relation field) mark view = if mark.met then mark.number else absent

-- the relation whose views a memory keeps
abbrev pub trigger_of : Keeps → Relation
trigger_of (Since relation) = relation
trigger_of (Count counted) = counted.relation
trigger_of (Last relation field) = relation

-- whether a view meets a relation, if there is one
abbrev pub meets_given : Option Relation → Valued → Bool
meets_given None valued = false
meets_given (Some relation) valued = meets relation valued

-- one more, if it is counted; the count stops at the greatest number of 64 bits
abbrev pub raised : Bool → ℤ → ℤ
raised met count = if met then saturate_signed w64 (count +ℤ pos 1) else count

-- one less, if it counts back, but never below 0
abbrev pub lowered : Bool → ℤ → ℤ
lowered met count = if met then int_max (saturate_signed w64 (count -ℤ pos 1)) (pos 0) else count

-- the count after a view: 0 if it meets the relation that resets it; else one more if it meets the one that is counted, and then one less
-- if it meets the one that counts back
abbrev pub counted_after : Counted → ℤ → Valued → ℤ
counted_after counted count valued =
    if meets_given counted.reset valued then pos 0 else lowered (meets_given counted.back valued) (raised (meets counted.relation valued) count)

-- what is kept after a view with this number, if it has met the relation
abbrev pub latest : Mark → ℤ → Bool → Mark
latest mark number met = if met then record { number = number; met = true } else mark

-- what is kept after a view: its time or its field, if it meets the relation; or the count
abbrev pub mark_after : Keeps → Mark → Valued → Mark
mark_after (Since relation) mark valued = latest mark valued.view.time (meets relation valued)
mark_after (Count counted) mark valued = record { number = counted_after counted mark.number valued; met = mark.met || meets counted.relation valued }
mark_after (Last relation field) mark valued = latest mark (field_of valued.view field) (meets relation valued)

-- whether a view changes what is kept: it meets the relation; or it takes from the count
abbrev pub changes : Keeps → Valued → Bool
changes (Since relation) valued = meets relation valued
changes (Count counted) valued = meets counted.relation valued || meets_given counted.back valued || meets_given counted.reset valued
changes (Last relation field) valued = meets relation valued

-- what is kept for all holders: a cell for each that has had a view which changes what is kept, in the order of the first of these views

-- what is kept for a holder
abbrev pub mark_at : List Cell → ℕ → Mark
mark_at [] holder = empty
mark_at (cell ∷ cells) holder = if nat_eq cell.holder holder then cell.mark else mark_at cells holder

-- this is kept for a holder from now on
abbrev pub put : List Cell → ℕ → Mark → List Cell
put [] holder new = record { holder = holder; mark = new } ∷ []
put (cell ∷ cells) holder new = if nat_eq cell.holder holder then record { holder = holder; mark = new } ∷ cells else cell ∷ put cells holder new

-- what is kept for the holder of a view, if it has one
abbrev pub mark_of : List Cell → Option ℕ → Mark
mark_of cells None = empty
mark_of cells (Some holder) = mark_at cells holder

-- the value of a memory at a view
abbrev pub value_at : RuleMemory → List Cell → View → ℤ
value_at memory cells view = value_in memory.keeps (mark_of cells (holder_of memory.per view)) view

-- what a memory keeps after a view of this holder
abbrev pub cells_after : Keeps → List Cell → Option ℕ → Valued → List Cell
cells_after keeps cells None valued = cells
cells_after keeps cells (Some holder) valued =
    if changes keeps valued then put cells holder (mark_after keeps (mark_at cells holder) valued) else cells

-- all memories

-- what memories keep before the first view
abbrev pub nothing : List RuleMemory → List (List Cell)
nothing [] = []
nothing (memory ∷ memories) = [] ∷ nothing memories

-- the values of memories at a view, from what they have kept of the views before it
abbrev pub values_at : List RuleMemory → List (List Cell) → View → List ℤ
values_at (memory ∷ memories) (cells ∷ kept) view = value_at memory cells view ∷ values_at memories kept view
values_at _ _ view = []

-- what memories keep after a view
abbrev pub kept_after_view : List RuleMemory → List (List Cell) → Valued → List (List Cell)
kept_after_view (memory ∷ memories) (cells ∷ kept) valued =
    cells_after memory.keeps cells (holder_of memory.per valued.view) valued ∷ kept_after_view memories kept valued
kept_after_view _ kept valued = kept
