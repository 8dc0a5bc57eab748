-- The first of a list is its oldest error.
use Rattle.std.proofs.Common.{◌<◌, ◌∙◌, length, rules}
use Rattle.partition_state.proofs.Takers.{none_oldest, without_first}
use Rattle.partition_state.proofs.errors.take_oldest.Goals as goal

pub returns-then-not-is_empty : goal.returns-then-not-is_empty
returns-then-not-is_empty c =
    let list = c.args.list.now.items in
    let some : 0 < length list = search rules in
    c.remove.ensures.items ∙ without_first list some

pub returns-else-not-is_empty : goal.returns-else-not-is_empty
returns-else-not-is_empty c =
    let list = c.args.list.now.items in
    none_oldest list (search rules)
