-- What is added to changes.
use Rattle.std.specs.Prelude.{◌≡◌, ◌++◌, List, All, Contains}
use Rattle.run_view.specs.declared.change.Change.{Change}

-- the changes that are so, and no others, are added to these
pub record Adds (IsSo : Change → Type 0) (old new : List Change) : Type 0 where
  pub added : List Change
  pub after : new ≡ old ++ added
  pub so : All IsSo added
  pub every : (change : Change) → IsSo change → Contains added change

-- a change of one of these items
abbrev pub IsOfAny : {Item : Type 0} → (Item → Change → Type 0) → List Item → Change → Type 0
IsOfAny {Item} IsIts items change = (item : Item) × Contains items item × IsIts item change
