use Rattle.std.proofs.Common.{refl, arith}
use Rattle.toml.proofs.Views.{get_item_past, get_item_within}
use Rattle.toml.specs.declared.value.Value.TheVariants.{Boolean}
use Rattle.std.proofs.Common.{true}
use Rattle.apex_types.specs.declared.limits.TheConstants.{MOST_DESTINATIONS}
use Rattle.module_config.proofs.ends.some_ends.Goals as goal

pub returns-then-items-gt-MOST_DESTINATIONS-clause-value : goal.returns-then-items-gt-MOST_DESTINATIONS-clause-value
returns-then-items-gt-MOST_DESTINATIONS-clause-value c =
    rw (c.in_ok-items.ensures.value, ← get_item_within c.in_ok-items.items.now MOST_DESTINATIONS (Boolean true) (omega arith)) refl

pub returns-clause-value : goal.returns-clause-value
returns-clause-value c = rw (c.in_ok-items.ensures.value, ← get_item_past c.in_ok-items.items.now MOST_DESTINATIONS (omega arith)) refl
