use Rattle.std.proofs.Common.{◌∙◌, List, map-id, sym, subst, arith}
use Rattle.std.proofs.lemmas.Iterator.Adapters.{YieldsList-from_vec}
use Rattle.std.proofs.lemmas.Iterator.Consumers.{YieldsList-end}
use Rattle.user_rules.specs.declared.relation.Relation.{Relation}
use Rattle.user_rules.specs.Remembered.{required_by}
use Rattle.module_config.specs.Reading.{configuration_of}
use Rattle.apexorder.specs.Endings.{IsCertifiedBy}
use Rattle.apexorder.proofs.Written.{none_received}
use Rattle.apexorder.proofs.ruled.propose_under.Goals as goal

pub returns-clause-certified : goal.returns-clause-certified
returns-clause-certified g c = λ configuration texts read known.
    let from = c.into_iter-relation-iterator.ensures.into_iter_gives in
    let listed = YieldsList-from_vec c.args.relations.items from.0 (omega (arith, from.1, c.args.relations.ok)) in
    let end = YieldsList-end listed c.loop-relation.yielded c.loop-relation.relation-iterator c.loop-relation.yielded_by c.next.result c.next.new.self c.in-None.is c.next.ensures.steps in
    subst (λ (relations : List Relation). IsCertifiedBy configuration (required_by c.args.memories.now relations) texts c.args.output.now.bytes c.propose_into.new.output.bytes c.propose_into.result)
    (c.loop-relation.invariant ∙ sym (map-id c.loop-relation.yielded) ∙ end.0)
    (rw c.deref.ensures.value at c.propose_into.ensures.certified configuration texts read known)

pub returns-in_default-clause-rows : goal.returns-in_default-clause-rows
returns-in_default-clause-rows g c = none_received (configuration_of c.args.text.now) _ c.args.output.now.bytes

pub returns-in_default-new-clause-rows : goal.returns-in_default-new-clause-rows
returns-in_default-new-clause-rows g c = none_received (configuration_of c.args.text.now) _ c.args.output.now.bytes

pub returns-then-is_err-clause-rows : goal.returns-then-is_err-clause-rows
returns-then-is_err-clause-rows g c = none_received (configuration_of c.args.text.now) _ c.args.output.now.bytes
