use Rattle.std.proofs.Common.{◌∙◌, Ok, ap, codes, subst, sym}
use Rattle.std.specs.Option.{option_map}
use Rattle.toml.specs.Data.{get_member}
use Rattle.toml.specs.View.{view, table_view, items_view}
use Rattle.apex_types.specs.declared.limits.TheConstants.{MOST_LEVELS}
use Rattle.user_rules.specs.Meets.{meets}
use Rattle.asked_rules.specs.Keys.{Builds}
use Rattle.asked_rules.specs.Memories.{SaidKeeps, counted_in, optional_in, said_keeps}
use Rattle.asked_rules.specs.Relations.{relation_in}
use Rattle.asked_rules.proofs.Built.{counted_built, is_built, second_refused, stops, third_refused}
use Rattle.asked_rules.proofs.memory.counted.Goals as goal

pub returns-in_err-back : goal.returns-in_err-back
returns-in_err-back c =
    let keys = table_view c.args.keys.now in
    let above = items_view c.args.above.now in
    let fault = c.in_err-back.field-0.0 in
    let relation = relation_in above MOST_LEVELS (view c.args.value.now) in
    let back = optional_in above (get_member (codes "back") keys) in
    let reset = optional_in above (get_member (codes "reset") keys) in
    stops said_keeps c.from_residual-in_err-back.result (counted_in above keys (view c.args.value.now)) fault c.from_residual-in_err-back.ensures.1
    (second_refused relation back reset SaidKeeps.count fault (is_built meets c.in_ok-relation.relation relation c.in_ok-relation.ensures)
    (ap (optional_in above) (sym c.member-counts_back.ensures) ∙ c.in_err-back.ensures))

pub returns-in_err-reset : goal.returns-in_err-reset
returns-in_err-reset c =
    let keys = table_view c.args.keys.now in
    let above = items_view c.args.above.now in
    let fault = c.in_err-reset.field-0.0 in
    let relation = relation_in above MOST_LEVELS (view c.args.value.now) in
    let back = optional_in above (get_member (codes "back") keys) in
    let reset = optional_in above (get_member (codes "reset") keys) in
    let counts_back = subst (λ value. Builds (option_map meets) (Ok c.in_ok-back.back) (optional_in above value)) c.member-counts_back.ensures c.in_ok-back.ensures in
    stops said_keeps c.from_residual-in_err-reset.result (counted_in above keys (view c.args.value.now)) fault c.from_residual-in_err-reset.ensures.1
    (third_refused relation back reset SaidKeeps.count fault (is_built meets c.in_ok-relation.relation relation c.in_ok-relation.ensures)
    (is_built (option_map meets) c.in_ok-back.back back counts_back) (ap (optional_in above) (sym c.member-resets.ensures) ∙ c.in_err-reset.ensures))

pub returns : goal.returns
returns c =
    let keys = table_view c.args.keys.now in
    let above = items_view c.args.above.now in
    let back = subst (λ value. Builds (option_map meets) (Ok c.in_ok-back.back) (optional_in above value)) c.member-counts_back.ensures c.in_ok-back.ensures in
    let reset = subst (λ value. Builds (option_map meets) (Ok c.in_ok-reset.reset) (optional_in above value)) c.member-resets.ensures c.in_ok-reset.ensures in
    counted_built c.in_ok-relation.relation c.in_ok-back.back c.in_ok-reset.reset (relation_in above MOST_LEVELS (view c.args.value.now))
    (optional_in above (get_member (codes "back") keys)) (optional_in above (get_member (codes "reset") keys)) c.in_ok-relation.ensures back reset c.put_together.result c.put_together.ensures
