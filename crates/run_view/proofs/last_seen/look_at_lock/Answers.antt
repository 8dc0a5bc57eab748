-- A lock that was seen as it is has no change.
use Rattle.std.proofs.Common.{inr, Some, refl, subst}
use Rattle.std.proofs.lemmas.Result.{on_ok_weaker}
use Rattle.std.specs.Option.{option_eq}
use Rattle.apex_machine.specs.State.{Lock}
use Rattle.run_view.specs.declared.change.Change.TheVariants as variant
use Rattle.run_view.specs.declared.thing.ThingKey.TheVariants as key
use Rattle.run_view.specs.contracts.thing.ThingViewPartialEq.TheImpl as thing_views
use Rattle.run_view.specs.Plain.{plain}
use Rattle.run_view.specs.Things.{ShowsLock}
use Rattle.run_view.proofs.Finding.{fails_by_not, holds_by_not, none_if, one_if_not}
use Rattle.run_view.proofs.SameThings.{same_thing}
use Rattle.run_view.proofs.SameWaits.{same_shown_option}
use Rattle.run_view.proofs.last_seen.look_at_lock.Goals as goal

pub returns-then-not-is_new-clause-seen : goal.returns-then-not-is_new-clause-seen
returns-then-not-is_new-clause-seen c =
    let shown = subst (λ (one : Lock). ShowsLock one c.in_ok-lock_view.field-0) c.lock-lock.ensures c.in_ok-lock_view.ensures in
    inr (c.in_ok-lock_view.field-0, shown, refl)

pub returns-then-not-is_new-clause-changes : goal.returns-then-not-is_new-clause-changes
returns-then-not-is_new-clause-changes c =
    let view = Some c.in_ok-lock_view.field-0 in
    let test = option_eq thing_views.eq-value.it c.args.seen.now view in
    none_if (variant.Thing (key.Lock c.args.part)) test c.args.changes.now.items
    (same_shown_option thing_views.eq-value.it plain same_thing c.args.seen.now view) (holds_by_not test c.ne-is_new.result c.ne-is_new.ensures c.if-not-is_new.true)

pub returns-clause-seen : goal.returns-clause-seen
returns-clause-seen c =
    let shown = subst (λ (one : Lock). ShowsLock one c.in_ok-lock_view.field-0) c.lock-lock.ensures c.in_ok-lock_view.ensures in
    on_ok_weaker c.add.result (λ _. inr (c.in_ok-lock_view.field-0, shown, refl)) c.add.ensures

pub returns-clause-changes : goal.returns-clause-changes
returns-clause-changes c =
    let view = Some c.in_ok-lock_view.field-0 in
    let test = option_eq thing_views.eq-value.it c.args.seen.now view in
    one_if_not (variant.Thing (key.Lock c.args.part)) test c.add.result c.args.changes.now.items c.add.new.changes.items
    (same_shown_option thing_views.eq-value.it plain same_thing c.args.seen.now view) (fails_by_not test c.ne-is_new.result c.ne-is_new.ensures c.if-not-is_new.false)
    c.add.ensures
