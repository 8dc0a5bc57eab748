-- What the channel judges its piece judges; of any other record nothing is demanded.
use Rattle.std.proofs.Common.{◌≡◌, ◌≢◌, Some, rules}
use Rattle.apex_machine.specs.Pieces.{time_at}
use Rattle.piece_check.proofs.Through.{departure_judged, nothing_demanded, piece_judges}
use Rattle.piece_check.proofs.channel_piece.ChannelPiece.judge.Goals as goal

pub returns-then-eq : goal.returns-then-eq
returns-then-eq c =
    let config = c.args.config.now in
    let held = c.args.self.now.channel in
    let call = c.in-Call.call in
    let here : call.claim.chan ≡ Some held.number = search rules in
    rw (c.in-Call.is, ← c.now-now.ensures)
    (piece_judges config c.now-now.result held.number held.channel call _ here (c.judge.ensures config c.requires.configured))

pub returns-else-eq : goal.returns-else-eq
returns-else-eq c =
    let held = c.args.self.now.channel in
    let call = c.in-Call.call in
    let apart : call.claim.chan ≢ Some held.number = search rules in
    rw c.in-Call.is (nothing_demanded c.args.config.now _ held.number held.channel call apart)

pub returns-in-Depart : goal.returns-in-Depart
returns-in-Depart c =
    let config = c.args.config.now in
    let held = c.args.self.now.channel in
    let now = time_at c.args.self.now.times c.args.ordered.now.core in
    let crossing = c.in-Depart.crossing in
    let here : crossing.chan ≡ held.number = search rules in
    rw c.in-Depart.is (departure_judged config now held.number held.channel crossing c.judge_departure.result here (c.judge_departure.ensures config now c.requires.configured))
