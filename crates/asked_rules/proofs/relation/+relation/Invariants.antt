use Rattle.std.proofs.Common.{◌+◌, ◌*◌, length}
use Rattle.asked_rules.proofs.relation.+relation.Given as goal

-- each call goes a level down, or along a list of 64 relations at most
abbrev pub decreases-read_relation : goal.decreases-read_relation
decreases-read_relation l = 100 * l.levels

abbrev pub decreases-relation_under : goal.decreases-relation_under
decreases-relation_under l = 100 * l.levels + 90

abbrev pub decreases-joined_in : goal.decreases-joined_in
decreases-joined_in l = 100 * l.levels + 80

abbrev pub decreases-joined : goal.decreases-joined
decreases-joined l = 100 * l.levels + length l.items.now + 1

abbrev pub decreases-negated : goal.decreases-negated
decreases-negated l = 100 * l.levels + 80
