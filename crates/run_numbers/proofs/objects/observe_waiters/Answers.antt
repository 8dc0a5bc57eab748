-- So many processes wait where the caller does.
use Rattle.std.proofs.Common.{◌∙◌, ◌++◌, sym, ap}
use Rattle.std.proofs.lemmas.Result.{on_ok_weaker}
use Rattle.apex_types.specs.contracts.record.OutPartialEq.TheImpl as outs
use Rattle.apex_types.specs.declared.record.Out.TheVariants as out
use Rattle.apex_types.specs.declared.shape.Shape.{Shape}
use Rattle.run_numbers.proofs.Joined.{joined_is}
use Rattle.run_numbers.proofs.Outs.{holds_by_not, waits}
use Rattle.run_numbers.proofs.objects.observe_waiters.Goals as goal

pub returns : goal.returns
returns c =
    let both = c.in-Some-Some in
    let waiting = sym (waits c.args.out) ∙ holds_by_not (outs.eq-value.it c.args.out out.Waits) c.ne.result c.ne.ensures c.if-ne.false in
    on_ok_weaker c.add.result
    (λ is. is
    ∙ ap (λ list. c.args.observed.now.items ++ list)
    (joined_is c.args.part c.args.number c.waiters_at-waiting.result c.args.state.now c.args.operation.now c.args.out c.kind-kind.result both.allowed both.thing waiting c.kind-kind.ensures
    (ap (λ (shape : Shape). shape.wait) (sym c.shape.ensures) ∙ both.is-0) (sym c.of.ensures ∙ both.is-1) c.waiters_at-waiting.ensures)) c.add.ensures
