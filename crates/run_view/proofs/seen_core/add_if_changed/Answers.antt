-- A core that was seen as it is has no change.
use Rattle.std.proofs.Common.{Bool, Decides, sym, subst}
use Rattle.std.specs.List.{Contains}
use Rattle.run_view.specs.declared.change.Change.TheVariants as variant
use Rattle.run_view.specs.contracts.cores.CoreViewPartialEq.TheImpl as core_views
use Rattle.run_view.proofs.Finding.{among, none_if, one_if_not}
use Rattle.run_view.proofs.SameViews.{same_core}
use Rattle.run_view.proofs.seen_core.add_if_changed.Goals as goal

pub returns-then-is_among : goal.returns-then-is_among
returns-then-is_among c =
    let before = c.args.before.now in
    let decides = subst (λ (test : Bool). Decides test (Contains before c.args.view)) (sym c.is_among.ensures) (among core_views.eq-value.it same_core before c.args.view) in
    none_if (variant.Core c.args.view) c.is_among.result c.args.changes.now.items decides c.if-is_among.true

pub returns : goal.returns
returns c =
    let before = c.args.before.now in
    let decides = subst (λ (test : Bool). Decides test (Contains before c.args.view)) (sym c.is_among.ensures) (among core_views.eq-value.it same_core before c.args.view) in
    one_if_not (variant.Core c.args.view) c.is_among.result c.add.result c.args.changes.now.items _ decides c.if-is_among.false c.add.ensures
