use Rattle.std.proofs.Common.{rules}
use Rattle.asked_rules.proofs.asking.all_relations.Goals as goal

pub returns : goal.returns
returns c = (c.in_ok-relations.relations.items, c.in_ok-those_after.those_after.items, search rules, c.in_ok-relations.ensures, c.in_ok-those_after.ensures)
