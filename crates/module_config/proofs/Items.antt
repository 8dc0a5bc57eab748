-- The items of a list of a table, beside the values that the code goes over.
use Rattle.std.proofs.Common.{◌≡◌, List, [], ◌∷◌, Bool, ap, refl}
use Rattle.std.specs.Prelude.{◌&&◌}
use Rattle.std.specs.List.{list_all}
use Rattle.toml.specs.Data.{Data}
use Rattle.toml.specs.View.{view, items_view}
use Rattle.toml.specs.declared.value.Value.{Value}
use Rattle.module_config.specs.Keys.{all_items}

-- each item passes a test if each value does
pub all_items-view : (test : Data → Bool) (values : List Value) → all_items test (items_view values) ≡ list_all (λ value. test (view value)) values
all_items-view test [] = refl
all_items-view test (value ∷ values) = ap (λ rest. test (view value) && rest) (all_items-view test values)
