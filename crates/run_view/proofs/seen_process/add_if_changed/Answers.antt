-- A process that was seen as it is has no change.
use Rattle.std.proofs.Common.{Bool, Decides, sym, subst}
use Rattle.std.specs.List.{Contains}
use Rattle.run_view.specs.declared.change.Change.TheVariants as variant
use Rattle.run_view.specs.contracts.seen_process.SeenProcessPartialEq.TheImpl as seen_processes
use Rattle.run_view.proofs.Finding.{among, none_if, one_if_not}
use Rattle.run_view.proofs.SameViews.{same_process}
use Rattle.run_view.proofs.seen_process.add_if_changed.Goals as goal

pub returns-then-is_among : goal.returns-then-is_among
returns-then-is_among c =
    let before = c.args.before.now in
    let decides = subst (λ (test : Bool). Decides test (Contains before c.args.process)) (sym c.is_among.ensures) (among seen_processes.eq-value.it same_process before c.args.process) in
    none_if (variant.Process (record { part = c.args.part; proc = c.args.process.number }) c.args.process.view) c.is_among.result c.args.changes.now.items decides c.if-is_among.true

pub returns : goal.returns
returns c =
    let before = c.args.before.now in
    let decides = subst (λ (test : Bool). Decides test (Contains before c.args.process)) (sym c.is_among.ensures) (among seen_processes.eq-value.it same_process before c.args.process) in
    one_if_not (variant.Process (record { part = c.args.part; proc = c.args.process.number }) c.args.process.view) c.is_among.result c.add.result c.args.changes.now.items _ decides
    c.if-is_among.false c.add.ensures
