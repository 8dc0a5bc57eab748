use Rattle.toml.specs.View.{table_view}
use Rattle.module_config.specs.Walk.{walk}
use Rattle.module_config.proofs.Explained.{explained_on, handed_on}
use Rattle.module_config.proofs.config.Config.from_table.Goals as goal

pub returns-in_err-layout-clause-refused : goal.returns-in_err-layout-clause-refused
returns-in_err-layout-clause-refused c =
    handed_on _ (walk (table_view c.args.keys.now)) _ c.from_residual.result c.from_residual.ensures.1 c.in_err-layout.ensures.refused

pub returns-in_err-layout-clause-explained : goal.returns-in_err-layout-clause-explained
returns-in_err-layout-clause-explained c =
    explained_on (walk (table_view c.args.keys.now)) _ c.from_residual.result c.from_residual.ensures.1 c.in_err-layout.ensures.value
