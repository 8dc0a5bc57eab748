use Rattle.std.proofs.Common.{◌∙◌, map-id, sym, subst, arith}
use Rattle.std.proofs.lemmas.Iterator.Adapters.{YieldsList-from_vec}
use Rattle.std.proofs.lemmas.Iterator.Consumers.{YieldsList-end}
use Rattle.report.specs.Answers.{IsAnswer}
use Rattle.report.specs.Inputs.{Texts}
use Rattle.user_rules.specs.Remembered.{required_by}
use Rattle.report.proofs.checking.check_relations.Goals as goal

pub returns : goal.returns
returns g c = λ recordings certificate e is.
    let from = c.into_iter-relation-iterator.ensures.into_iter_gives in
    let listed = YieldsList-from_vec c.args.relations.items from.0 (omega (arith, from.1, c.args.relations.ok)) in
    let end = YieldsList-end listed c.loop-relation.yielded c.loop-relation.relation-iterator c.loop-relation.yielded_by c.next.result c.next.new.self c.in-None.is c.next.ensures.steps in
    let texts : Texts = record { config = c.args.inputs.config; recordings = recordings; certificate = certificate } in
    subst (λ relations. IsAnswer c.args.options.settings texts c.args.inputs.can_fail (required_by c.args.memories.now relations) c.check_inputs.result c.check_inputs.new.last) (c.loop-relation.invariant ∙ sym (map-id c.loop-relation.yielded) ∙ end.0)
    (rw c.deref.ensures.value at c.check_inputs.ensures recordings certificate e is)
