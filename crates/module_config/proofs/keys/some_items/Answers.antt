use Rattle.std.proofs.Common.{refl, sym}
use Rattle.toml.proofs.Views.{has_items-view}
use Rattle.module_config.proofs.keys.some_items.Goals as goal

pub returns-clause-value : goal.returns-clause-value
returns-clause-value c = rw (c.in_ok-required.ensures, c.in_ok-items.ensures, has_items-view c.in_ok-items.items.now, sym c.if-is_empty.ensures) refl
