use Rattle.std.proofs.lemmas.Result.{err_from_is_err_and}
use Rattle.recording_maker.proofs.made.make.Goals as goal

pub returns-in_err-verdict-clause-refused : goal.returns-in_err-verdict-clause-refused
returns-in_err-verdict-clause-refused g c =
    let given = c.from_residual-in_err-verdict in
    let p = err_from_is_err_and given.result given.ensures.1 in
    rw (p.1, p.2) (c.in_err-verdict.ensures.refused c.args.config.now)
