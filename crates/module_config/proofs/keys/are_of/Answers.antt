use Rattle.std.proofs.Common.{◌∙◌, sym}
use Rattle.module_config.specs.Keys.{is_of}
use Rattle.module_config.proofs.Items.{all_items-view}
use Rattle.module_config.proofs.keys.are_of.Goals as goal

pub returns : goal.returns
returns c = c.each_is_of.ensures ∙ sym (all_items-view (is_of c.args.item_type) c.args.items.now)
