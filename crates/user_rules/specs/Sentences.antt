-- What the values of memories mean, in words over the views before a view.
use Rattle.std.specs.Prelude.{◌≡◌, ◌<◌, ◌++◌, ◌∷◌, [], false, true, ℕ, ℤ, pos, Bool, List, Option, Some, None, length, nat_eq, slice_index_or}
use Rattle.std.specs.List.{All, filter}
use Rattle.apex_types.specs.declared.view.Field.{Field}
use Rattle.apex_types.specs.declared.view.View.{View}
use Rattle.apex_types.specs.Fields.{field_of}
use Rattle.user_rules.specs.declared.memory.Counted.{Counted}
use Rattle.user_rules.specs.declared.memory.Keeps.{Keeps}
use Rattle.user_rules.specs.declared.memory.Keeps.TheVariants.{Since, Count, Last}
use Rattle.user_rules.specs.declared.memory.Per.{Per}
use Rattle.user_rules.specs.declared.memory.RuleMemory.{RuleMemory}
use Rattle.user_rules.specs.declared.relation.Relation.{Relation}
use Rattle.user_rules.specs.Meets.{Valued, absent, meets, value_of}
use Rattle.user_rules.specs.Memories.{counted_after, elapsed_since, holder_of, nothing}
use Rattle.user_rules.specs.Remembered.{valued_after}

-- whose views count

-- whether a holder is this one
abbrev pub is_holder : ℕ → Option ℕ → Bool
is_holder holder None = false
is_holder holder (Some other) = nat_eq other holder

-- the earlier views of a holder
abbrev pub views_of : Per → ℕ → List Valued → List Valued
views_of per holder earlier = filter (λ one. is_holder holder (holder_of per one.view)) earlier

-- the earlier views that a memory's value is about: those of the module, or of the same core, partition or process; none if the view has no
-- such number
abbrev pub earlier_of : Per → Option ℕ → List Valued → List Valued
earlier_of per None earlier = []
earlier_of per (Some holder) earlier = views_of per holder earlier

-- the sentences

-- this is the last of these views that meets a relation: no view after it does
pub record IsLastMet (relation : Relation) (earlier : List Valued) (one : Valued) : Type 0 where
  pub before : List Valued
  pub later : List Valued
  pub split : earlier ≡ before ++ one ∷ later
  pub met : meets relation one ≡ true
  pub unmet : All (λ other. meets relation other ≡ false) later

-- `since`: the time from the last of the earlier views that met the relation to this view; -1 if none did
pub data IsSince (relation : Relation) (view : View) (earlier : List Valued) (value : ℤ) : Type 0 where
  since : (one : Valued) → IsLastMet relation earlier one → value ≡ elapsed_since one.view.time view.time → IsSince relation view earlier value
  never : All (λ one. meets relation one ≡ false) earlier → value ≡ absent → IsSince relation view earlier value

-- `last`: the field of the last of the earlier views that met the relation; -1 if none did
pub data IsLast (relation : Relation) (field : Field) (earlier : List Valued) (value : ℤ) : Type 0 where
  last : (one : Valued) → IsLastMet relation earlier one → value ≡ field_of one.view field → IsLast relation field earlier value
  never : All (λ one. meets relation one ≡ false) earlier → value ≡ absent → IsLast relation field earlier value

-- the count over these views, one after another
abbrev pub count_over : Counted → ℤ → List Valued → ℤ
count_over counted count [] = count
count_over counted count (one ∷ later) = count_over counted (counted_after counted count one) later

-- `count`: each of the earlier views in turn counts one more, one less or resets the count, which begins at 0
abbrev pub IsCount : Counted → List Valued → ℤ → Type 0
IsCount counted earlier value = value ≡ count_over counted (pos 0) earlier

-- the value of what a memory keeps, at a view after these earlier views of the same holder
abbrev pub IsValueOf : Keeps → View → List Valued → ℤ → Type 0
IsValueOf (Since relation) view earlier value = IsSince relation view earlier value
IsValueOf (Count counted) view earlier value = IsCount counted earlier value
IsValueOf (Last relation field) view earlier value = IsLast relation field earlier value

-- the laws

-- of views with the values at them, from the first view on, the value of each memory at each view is what its sentence says of the views before
abbrev pub ValuesAreMeant : Type 0
ValuesAreMeant =
    (memories : List RuleMemory) (views : List View) (before : List Valued) (one : Valued) (later : List Valued)
    → valued_after memories (nothing memories) views ≡ before ++ one ∷ later
    → (number : ℕ) (memory : RuleMemory) → number < length memories → memory ≡ slice_index_or memories number memory
    → IsValueOf memory.keeps one.view (earlier_of memory.per (holder_of memory.per one.view) before) (value_of one.values number)

-- what the sentence says of the same views is one value
abbrev pub OneValueIsMeant : Type 0
OneValueIsMeant =
    (keeps : Keeps) (view : View) (earlier : List Valued) (one other : ℤ)
    → IsValueOf keeps view earlier one → IsValueOf keeps view earlier other → one ≡ other
