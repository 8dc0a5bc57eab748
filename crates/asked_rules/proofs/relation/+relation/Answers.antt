use Rattle.std.proofs.Common.{rules, arith}
use Rattle.toml.specs.View.{view, table_view, items_view}
use Rattle.asked_rules.specs.Joins.{joins}
use Rattle.asked_rules.specs.Relations.{joined, relation_in}
use Rattle.asked_rules.proofs.Relations.{a_level_down, after_refused, both_built, joined-more}
use Rattle.asked_rules.proofs.relation.+relation.Goals as goal

pub joined-returns-in_err-others : goal.joined-returns-in_err-others
joined-returns-in_err-others t c =
    rw (joined-more (joins c.args.join) (relation_in (items_view c.args.above.now) c.args.levels) c.args.items.now c.in-Some.item.now c.in-Some.rest.now c.in-Some.ensures.cases (search rules))
    (after_refused (joins c.args.join) (relation_in (items_view c.args.above.now) c.args.levels (view c.in-Some.item.now)) (joined (joins c.args.join) (relation_in (items_view c.args.above.now) c.args.levels) (items_view c.in-Some.rest.now))
    c.in_ok-first.first c.in_err-others.field-0.0 c.in_ok-first.ensures c.in_err-others.ensures c.from_residual-in_err-others.result c.from_residual-in_err-others.ensures.1)

pub joined-returns : goal.joined-returns
joined-returns t c =
    rw (joined-more (joins c.args.join) (relation_in (items_view c.args.above.now) c.args.levels) c.args.items.now c.in-Some.item.now c.in-Some.rest.now c.in-Some.ensures.cases (search rules))
    (both_built c.args.join (relation_in (items_view c.args.above.now) c.args.levels (view c.in-Some.item.now)) (joined (joins c.args.join) (relation_in (items_view c.args.above.now) c.args.levels) (items_view c.in-Some.rest.now))
    c.in_ok-first.first c.in_ok-others.others c.put_together.result c.in_ok-first.ensures c.in_ok-others.ensures c.put_together.ensures)

pub read_relation-returns-in-Some : goal.read_relation-returns-in-Some
read_relation-returns-in-Some t c =
    rw (a_level_down (items_view c.args.above.now) c.args.levels (view c.args.value.now) (table_view c.in-Some.keys.now) (omega arith) c.in-Some.ensures) c.relation_under.ensures
