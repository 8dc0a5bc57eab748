use Rattle.std.proofs.Common.{◌≡◌, ◌∙◌, true, sym}
use Rattle.piece_check.specs.Quiet.{is_quiet}
use Rattle.piece_check.proofs.Quiet.{quiet_step}
use Rattle.piece_check.proofs.held.Held.pass_by.Goals as goal

pub returns-in-Channel-clause-passed : goal.returns-in-Channel-clause-passed
returns-in-Channel-clause-passed c = λ passed configuration.
    let piece = c.in-Channel.piece in
    let quiet : is_quiet c.args.ordered.now.rec.body ≡ true = sym c.pass_by.ensures.value ∙ passed in
    rw (c.in-Channel.is, c.pass_by.ensures.after, passed) (quiet_step configuration piece.channel.number piece.times piece.channel.channel c.args.ordered.now quiet)
