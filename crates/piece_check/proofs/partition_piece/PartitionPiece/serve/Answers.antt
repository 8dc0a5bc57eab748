-- What fails of the claim fails of the call.
use Rattle.std.proofs.lemmas.Result.{IfErr-weaker}
use Rattle.piece_check.proofs.Parting.{TimesFit_before}
use Rattle.piece_check.proofs.Passing.{served_fails}
use Rattle.piece_check.proofs.partition_piece.PartitionPiece.serve.Goals as goal

pub serve-requires-clause-times : goal.serve-requires-clause-times
serve-requires-clause-times c =
    rw c.states.ensures (TimesFit_before c.args.ordered.now.pos c.args.self.now.clock.cores c.requires.place c.requires.holds_before.times)

pub returns-clause-refused : goal.returns-clause-refused
returns-clause-refused c =
    let a = c.args in
    let own = a.self.now in
    IfErr-weaker c.serve.result _ _
    (λ fault. served_fails a.config.now own.number own.clock.cores own.state a.ordered.now.core a.call.now fault
    c.requires.caller c.requires.clear c.requires.through c.requires.apart)
    (rw c.states.ensures at c.serve.ensures.refused)
