-- The tables above a table, and the first of them with a name.
use Rattle.std.proofs.Common.{◌≡◌, ◌<◌, ◌≤◌, ◌+◌, ℕ, zero, suc, List, [], ◌∷◌, Some, None, true, false, length, take, drop, get_or, arith, ap, refl}
use Rattle.std.proofs.lemmas.List.{drop_all}
use Rattle.toml.specs.Data.{item}
use Rattle.toml.specs.View.{view, items_view}
use Rattle.toml.specs.declared.value.Value.{Value}
use Rattle.toml.proofs.Views.{items_view-drop}
use Rattle.user_rules.specs.declared.quantity.Quantity.TheVariants as quantity
use Rattle.asked_rules.specs.Reading.{first_items}
use Rattle.asked_rules.specs.Sides.{is_named, named_from, taken_field}

-- the first values of a list, as items
pub items_above : (count : ℕ) (values : List Value) → items_view (take count values) ≡ first_items count (items_view values)
items_above zero values = refl
items_above (suc count) [] = refl
items_above (suc count) (value ∷ values) = ap (λ items. item (view value) items) (items_above count values)

module _ (values : List Value) (name : List ℕ) where
  -- a table of another name is passed over
  pub passed_over : (number : ℕ) (value : Value) → number < length values → value ≡ get_or values number value → is_named name (view value) ≡ false
      → named_from number (items_view (drop number values)) name ≡ named_from (number + 1) (items_view (drop (number + 1) values)) name
  passed_over number value within is other =
      let next : suc number ≡ number + 1 = omega arith in
      rw (items_view-drop values number value within, ← is, other) (ap (λ count. named_from count (items_view (drop (number + 1) values)) name) next)

  -- a table of the name is found
  pub found_here : (number : ℕ) (value : Value) → number < length values → value ≡ get_or values number value → is_named name (view value) ≡ true
      → named_from number (items_view (drop number values)) name ≡ Some (record { quantity = quantity.Memory number; names = taken_field (view value) })
  found_here number value within is same = rw (items_view-drop values number value within, ← is, same) refl

  pub none_found : (number : ℕ) → length values ≤ number → named_from number (items_view (drop number values)) name ≡ None
  none_found number whole = rw (drop_all number values whole) refl
