-- A channel that was seen as it is has no change.
use Rattle.std.proofs.Common.{◌≡◌, ◌∷◌, ◌++◌, [], Some, refl, subst}
use Rattle.std.proofs.lemmas.Result.{on_ok_weaker}
use Rattle.std.specs.Option.{option_eq}
use Rattle.std.specs.Result.{OnOk}
use Rattle.run_view.specs.declared.change.Change.TheVariants as variant
use Rattle.run_view.specs.declared.thing.ThingKey.TheVariants as key
use Rattle.run_view.specs.contracts.thing.ThingViewPartialEq.TheImpl as thing_views
use Rattle.run_view.specs.Plain.{plain}
use Rattle.run_view.proofs.Finding.{fails_by_not, holds_by_not, none_if, one_if_not}
use Rattle.run_view.proofs.SameThings.{same_thing}
use Rattle.run_view.proofs.SameWaits.{same_shown_option}
use Rattle.run_view.proofs.last_seen.look_at_channel.Goals as goal

pub returns-then-not-is_new-clause-seen : goal.returns-then-not-is_new-clause-seen
returns-then-not-is_new-clause-seen c =
    let shown = c.in_ok-channel_view.ensures in
    (c.in_ok-channel_view.field-0, (c.args.channel.now.settings, shown.0, shown.1), refl)

pub returns-then-not-is_new-clause-changes : goal.returns-then-not-is_new-clause-changes
returns-then-not-is_new-clause-changes c =
    let view = Some c.in_ok-channel_view.field-0 in
    let test = option_eq thing_views.eq-value.it c.args.seen.now view in
    none_if (variant.Thing (key.Channel c.args.channel.now.number)) test c.args.changes.now.items
    (same_shown_option thing_views.eq-value.it plain same_thing c.args.seen.now view) (holds_by_not test c.ne-is_new.result c.ne-is_new.ensures c.if-not-is_new.true)

pub returns-clause-seen : goal.returns-clause-seen
returns-clause-seen c =
    let shown = c.in_ok-channel_view.ensures in
    on_ok_weaker c.add.result (λ _. (c.in_ok-channel_view.field-0, (c.args.channel.now.settings, shown.0, shown.1), refl)) c.add.ensures

pub returns-clause-changes : goal.returns-clause-changes
returns-clause-changes c =
    let view = Some c.in_ok-channel_view.field-0 in
    let test = option_eq thing_views.eq-value.it c.args.seen.now view in
    let old = c.args.changes.now.items in
    let new = c.add.new.changes.items in
    let adds = subst (λ number. OnOk c.add.result (new ≡ old ++ variant.Thing (key.Channel number) ∷ [])) c.number.ensures c.add.ensures in
    one_if_not (variant.Thing (key.Channel c.args.channel.now.number)) test c.add.result old new (same_shown_option thing_views.eq-value.it plain same_thing c.args.seen.now view)
    (fails_by_not test c.ne-is_new.result c.ne-is_new.ensures c.if-not-is_new.false) adds
