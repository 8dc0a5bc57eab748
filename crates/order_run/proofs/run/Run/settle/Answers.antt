use Rattle.std.proofs.lemmas.Result.{err_from_is_err_and}
use Rattle.user_rules.specs.Rules.{required_of}
use Rattle.order_run.proofs.Onward.{round_settled}
use Rattle.order_run.proofs.Way.{none_cut}
use Rattle.order_run.proofs.run.Run.settle.Goals as goal

pub returns-in_err-judge-clause-cut : goal.returns-in_err-judge-clause-cut
returns-in_err-judge-clause-cut g c =
    let p = err_from_is_err_and c.from_residual.result c.from_residual.ensures.1 in
    rw p.1 (none_cut (g.W.Sink.bytes c.args.out.now) c.args.self.now.text.items)

pub returns-in_err-put_all-clause-cut : goal.returns-in_err-put_all-clause-cut
returns-in_err-put_all-clause-cut g c =
    let p = err_from_is_err_and c.from_residual-in_err-put_all.result c.from_residual-in_err-put_all.ensures.1 in
    rw p.1 (rw (c.deref.ensures.value, c.judge.ensures.text) at c.in_err-put_all.ensures.cut)

pub returns-clause-whole : goal.returns-clause-whole
returns-clause-whole g c = rw (c.deref.ensures.value, c.judge.ensures.text) at c.in_ok-put_all.ensures.whole

pub returns-clause-so_far : goal.returns-clause-so_far
returns-clause-so_far g c = λ settled waiting before put.
    round_settled c.args.config.now (required_of c.args.memories.now c.args.rules.now) c.args.self.now _ settled waiting before put c.judge.ensures.keeper c.clear-2.ensures.items c.clear.ensures.items
    (c.in_ok-judge.ensures.judged settled waiting before put) (c.in_ok-judge.ensures.tested settled waiting before put)
