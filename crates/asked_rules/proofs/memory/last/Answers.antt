use Rattle.std.proofs.Common.{◌≡◌, ◌∙◌, Ok, ap, codes, subst, sym}
use Rattle.toml.specs.Data.{get_member}
use Rattle.toml.specs.View.{view, table_view, items_view}
use Rattle.apex_types.specs.declared.limits.TheConstants.{MOST_LEVELS}
use Rattle.user_rules.specs.Meets.{meets}
use Rattle.asked_rules.specs.declared.refusal.RuleKey.TheVariants.{Take}
use Rattle.asked_rules.specs.Keys.{◌>>=◌, Builds, required}
use Rattle.asked_rules.specs.Memories.{SaidKeeps, last_in, said_keeps}
use Rattle.asked_rules.specs.Relations.{relation_in}
use Rattle.asked_rules.specs.Sides.{field_in}
use Rattle.asked_rules.proofs.Built.{is_built, last_refused, stops, two_are, two_read}
use Rattle.asked_rules.proofs.memory.last.Goals as goal

pub returns-in_err-taken : goal.returns-in_err-taken
returns-in_err-taken c =
    let keys = table_view c.args.keys.now in
    let above = items_view c.args.above.now in
    let fault = c.in_err-taken.field-0.0 in
    let relation = relation_in above MOST_LEVELS (view c.args.value.now) in
    let taken = required Take (get_member (codes "take") keys) >>= field_in Take in
    stops said_keeps c.from_residual-in_err-taken.result (last_in above keys (view c.args.value.now)) fault c.from_residual-in_err-taken.ensures.1
    (last_refused relation taken SaidKeeps.last fault (is_built meets c.in_ok-relation.relation relation c.in_ok-relation.ensures)
    (ap (λ reading. reading >>= field_in Take) c.in_err-taken.ensures))

pub returns-in_err-field : goal.returns-in_err-field
returns-in_err-field c =
    let keys = table_view c.args.keys.now in
    let above = items_view c.args.above.now in
    let fault = c.in_err-field.field-0.0 in
    let relation = relation_in above MOST_LEVELS (view c.args.value.now) in
    let taken = required Take (get_member (codes "take") keys) >>= field_in Take in
    stops said_keeps c.from_residual-in_err-field.result (last_in above keys (view c.args.value.now)) fault c.from_residual-in_err-field.ensures.1
    (last_refused relation taken SaidKeeps.last fault (is_built meets c.in_ok-relation.relation relation c.in_ok-relation.ensures)
    (ap (λ reading. reading >>= field_in Take) c.in_ok-taken.ensures ∙ sym c.in_err-field.ensures))

pub returns-in-Some : goal.returns-in-Some
returns-in-Some c =
    let keys = table_view c.args.keys.now in
    let relation = relation_in (items_view c.args.above.now) MOST_LEVELS (view c.args.value.now) in
    let taken = required Take (get_member (codes "take") keys) >>= field_in Take in
    let read : relation ≡ Ok (meets c.in-Some.relation) = subst (λ found. Builds meets (Ok found) relation) c.in-Some.is c.in_ok-relation.ensures in
    two_are relation taken SaidKeeps.last (meets c.in-Some.relation) c.in_ok-field.field read
    (ap (λ reading. reading >>= field_in Take) c.in_ok-taken.ensures ∙ sym c.in_ok-field.ensures)

pub returns-in-None : goal.returns-in-None
returns-in-None c =
    let keys = table_view c.args.keys.now in
    let relation = relation_in (items_view c.args.above.now) MOST_LEVELS (view c.args.value.now) in
    let taken = required Take (get_member (codes "take") keys) >>= field_in Take in
    two_read relation taken SaidKeeps.last c.in_ok-field.field (is_built meets c.in_ok-relation.relation relation c.in_ok-relation.ensures)
    (ap (λ reading. reading >>= field_in Take) c.in_ok-taken.ensures ∙ sym c.in_ok-field.ensures)
