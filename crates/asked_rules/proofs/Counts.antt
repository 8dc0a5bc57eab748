-- How many keys and items there are, beside the entries and values that the code counts.
use Rattle.std.proofs.Common.{◌≡◌, List, [], ◌∷◌, length, suc, ap, refl, String, Global}
use Rattle.toml.specs.View.{items_view, members_view}
use Rattle.toml.specs.declared.value.Value.{Value}
use Rattle.asked_rules.specs.Keys.{member_count}
use Rattle.asked_rules.specs.Relations.{item_count}

-- how many keys a table has
pub keys_counted : (entries : List (String Global × Value)) → member_count (members_view entries) ≡ length entries
keys_counted [] = refl
keys_counted (entry ∷ entries) = ap (λ n. suc n) (keys_counted entries)

-- how many items a list has
pub items_counted : (values : List Value) → item_count (items_view values) ≡ length values
items_counted [] = refl
items_counted (value ∷ values) = ap (λ n. suc n) (items_counted values)
