-- What is among items that are mapped.
use Rattle.std.proofs.Common.{◌≡◌, ◌<◌, ℕ, zero, suc, List, [], ◌∷◌, Some, length, get_or, map, refl, arith}
use Rattle.std.specs.List.{Contains, slice_get}

-- an item that is mapped is among those that are mapped
pub map_contains : {Item Image : Type 0} (image : Item → Image) (items : List Item) (item : Item) → Contains items item → Contains (map image items) (image item)
map_contains image [] item there = absurd (omega (arith, there.1))
map_contains image (first ∷ others) item (zero, less, is) = (0, omega arith, (let same : first ≡ item = is in cc))
map_contains image (first ∷ others) item (suc index, less, is) =
    let there = map_contains image others item (index, omega arith, is) in
    (suc there.0, omega (arith, there.1), there.2)

-- what is among items that are mapped is one of them that is mapped
pub contains_mapped : {Item Image : Type 0} (image : Item → Image) (items : List Item) (one : Image) → Contains (map image items) one → (item : Item) × Contains items item × (image item ≡ one)
contains_mapped image [] one there = absurd (omega (arith, there.1))
contains_mapped image (first ∷ others) one (zero, less, is) = (first, (0, omega arith, refl), is)
contains_mapped image (first ∷ others) one (suc index, less, is) =
    let there = contains_mapped image others one (index, omega arith, is) in
    (there.0, (suc there.1.0, omega (arith, there.1.1), there.1.2), there.2)

-- an item of those that are mapped, by its index
pub get_mapped : {Item Image : Type 0} (image : Item → Image) (items : List Item) (index : ℕ) (item : Item) → index < length items → item ≡ get_or items index item
    → slice_get (map image items) index ≡ Some (image item)
get_mapped image [] index item less is = absurd (omega arith)
get_mapped image (first ∷ others) zero item less is = (let same : item ≡ first = is in cc)
get_mapped image (first ∷ others) (suc index) item less is = get_mapped image others index item (omega arith) is
