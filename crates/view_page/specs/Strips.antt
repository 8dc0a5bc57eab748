-- The strips of a picture.
use Rattle.std.specs.Prelude.{◌≡◌, ◌≤◌, ℕ, List, [], ◌∷◌}
use Rattle.view_page.specs.declared.layout.Strip.{Strip}

-- strips have the records from one column to another, each strip those after the strip before it
abbrev pub Cover : List Strip → ℕ → ℕ → Type 0
Cover [] from to = from ≡ to
Cover (strip ∷ strips) from to = (strip.from ≡ from) × (strip.from ≤ strip.to) × Cover strips strip.to to
