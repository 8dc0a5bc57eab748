-- Which views meet a relation.
use Rattle.std.specs.Prelude.{◌≡◌, ℕ, ℤ, negsuc, List, [], Bool, ◌&&◌, ◌||◌, not, int_lt, slice_index_or}
use Rattle.std.specs.Ordering.{int_eq}
use Rattle.apex_types.specs.declared.view.View.{View}
use Rattle.apex_types.specs.Fields.{field_of}
use Rattle.user_rules.specs.declared.quantity.Quantity.{Quantity}
use Rattle.user_rules.specs.declared.quantity.Quantity.TheVariants.{Number, Field, Memory}
use Rattle.user_rules.specs.declared.relation.Relation.{Relation}
use Rattle.user_rules.specs.declared.relation.Relation.TheVariants.{Less, Equal, Greater, And', Or', Not'}

-- a view with the values of the memories at it, in the order of the memories
pub record Valued : Type 0 where
  pub view : View
  pub values : List ℤ

-- a view with these values
abbrev pub with_values : View → List ℤ → Valued
with_values view values = record { view = view; values = values }

-- a view where there are no memories
abbrev pub alone : View → Valued
alone view = with_values view []

-- the value of a memory that is not there
abbrev pub absent : ℤ
absent = negsuc 0

-- the value of the memory of this number
abbrev pub value_of : List ℤ → ℕ → ℤ
value_of values number = slice_index_or values number absent

-- what a quantity is at a view
abbrev pub quantity_of : Quantity → Valued → ℤ
quantity_of (Number number) valued = number
quantity_of (Field field) valued = field_of valued.view field
quantity_of (Memory number) valued = value_of valued.values number

-- whether a view meets a relation; where a box is in memory does not matter
abbrev pub meets : Relation → Valued → Bool
meets (Less left right) valued = int_lt (quantity_of left valued) (quantity_of right valued)
meets (Equal left right) valued = int_eq (quantity_of left valued) (quantity_of right valued)
meets (Greater left right) valued = int_lt (quantity_of right valued) (quantity_of left valued)
meets (And' left-place left right-place right) valued = meets left valued && meets right valued
meets (Or' left-place left right-place right) valued = meets left valued || meets right valued
meets (Not' place negated) valued = not (meets negated valued)

-- the same views meet two relations
abbrev pub MeansTheSame : Relation → Relation → Type 0
MeansTheSame one other = (valued : Valued) → meets one valued ≡ meets other valued
