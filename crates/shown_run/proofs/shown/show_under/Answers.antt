use Rattle.std.proofs.Common.{◌∙◌, map, map-id, sym, subst, arith}
use Rattle.std.proofs.lemmas.Iterator.Adapters.{YieldsList-from_vec}
use Rattle.std.proofs.lemmas.Iterator.Consumers.{YieldsList-end}
use Rattle.report.specs.Answers.{given_by}
use Rattle.shown_run.specs.Shown.{EndsAs}
use Rattle.user_rules.specs.Remembered.{required_by}
use Rattle.shown_run.proofs.Answering.{memory_ends}
use Rattle.shown_run.proofs.shown.show_under.Goals as goal

pub returns : goal.returns
returns g c = λ settings none.
    let from = c.into_iter-relation-iterator.ensures.into_iter_gives in
    let listed = YieldsList-from_vec c.args.relations.items from.0 (omega (arith, from.1, c.args.relations.ok)) in
    let end = YieldsList-end listed c.loop-relation.yielded c.loop-relation.relation-iterator c.loop-relation.yielded_by c.next.result c.next.new.self c.in-None.is c.next.ensures.steps in
    let given = given_by c.args.judged.config.now (map (λ reader. g.R.TextSource.remaining reader) c.args.judged.recordings.items) g.R.TextSource.can_fail (g.C.TextSource.remaining c.args.judged.order) g.C.TextSource.can_fail in
    subst (λ relations. EndsAs given (required_by c.args.request.file.now.memories.items relations) settings c.show_judged.result) (c.loop-relation.invariant ∙ sym (map-id c.loop-relation.yielded) ∙ end.0)
    (rw (c.deref.ensures.value, c.deref-2.ensures.value) at c.show_judged.ensures settings none)

pub returns-in_default : goal.returns-in_default
returns-in_default g c = λ settings none. memory_ends _ (required_by c.args.request.file.now.memories.items c.args.relations.items) settings c.out_of_memory.result c.out_of_memory.ensures

pub returns-in_default-new : goal.returns-in_default-new
returns-in_default-new g c = λ settings none. memory_ends _ (required_by c.args.request.file.now.memories.items c.args.relations.items) settings c.out_of_memory-in_default-new.result c.out_of_memory-in_default-new.ensures

pub returns-then-is_err : goal.returns-then-is_err
returns-then-is_err g c = λ settings none. memory_ends _ (required_by c.args.request.file.now.memories.items c.args.relations.items) settings c.out_of_memory-then-is_err.result c.out_of_memory-then-is_err.ensures
