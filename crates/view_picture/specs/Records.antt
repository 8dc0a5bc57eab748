-- The records of a picture.
use Rattle.std.specs.Prelude.{ℕ, List, length}
use Rattle.view_picture.specs.declared.picture.Picture.{Picture}

-- how many records a picture has
abbrev pub record_count : Picture → ℕ
record_count picture = length picture.columns.items

-- the places that the explanation of the answer names
abbrev pub named_places : Picture → List ℕ
named_places picture = picture.named.items
