-- What the channel refuses its piece refuses; those who wait entered before the record, and the times are those of a recording.
use Rattle.std.proofs.Common.{◌≡◌, Some, arith, rules}
use Rattle.std.specs.Prelude.{IfErr}
use Rattle.std.proofs.lemmas.Result.{IfErr-weaker, on_ok_weaker}
use Rattle.apex_machine.specs.Pieces.{time_at}
use Rattle.apex_machine.specs.Ports.{arrived, departed}
use Rattle.channel.specs.Held.{RefusesDeparture}
use Rattle.piece_check.proofs.Parting.{are_before_place, time_at_is}
use Rattle.piece_check.proofs.Through.{arrival_refused, arrival_steps, crossing_leaves_configured, departure_refused, departure_steps, piece_refuses, refused_as_fault, stays_configured}
use Rattle.piece_check.proofs.channel_piece.ChannelPiece.step.Goals as goal

pub apply-requires-clause-below : goal.apply-requires-clause-below
apply-requires-clause-below c =
    let channel = c.args.self.now.channel.channel in
    let kept = c.requires.holds_before.kept in
    (are_before_place c.args.ordered.now.pos channel.senders kept.senders, are_before_place c.args.ordered.now.pos channel.receivers kept.receivers)

pub returns-then-eq-clause-refused : goal.returns-then-eq-clause-refused
returns-then-eq-clause-refused c =
    let config = c.args.config.now in
    let held = c.args.self.now.channel in
    let call = c.in-Call.call in
    let here : call.claim.chan ≡ Some held.number = search rules in
    rw (c.in-Call.is, ← c.now-now.ensures)
    (IfErr-weaker c.apply.result _ _ (λ fault refuses. piece_refuses config c.now-now.result held.number held.channel call fault here (refuses config c.requires.configured))
    c.apply.ensures.refused)

pub returns-then-eq-clause-configured : goal.returns-then-eq-clause-configured
returns-then-eq-clause-configured c =
    stays_configured c.apply.result c.args.config.now c.args.ordered.now.pos c.now-now.result c.in-Call.call c.args.self.now.channel c.apply.new.self c.requires.configured
    c.apply.ensures.after c.apply.ensures.unchanged

pub advance-requires-clause-time : goal.advance-requires-clause-time
advance-requires-clause-time c =
    let core = c.args.ordered.now.core in
    omega (arith, c.requires.place, c.requires.holds_before.times core, time_at_is c.args.self.now.times core)

pub returns-else-eq-clause-configured : goal.returns-else-eq-clause-configured
returns-else-eq-clause-configured c = c.let_go.ensures.configured c.args.config.now c.requires.configured

pub returns-in-Arrive-clause-ok : goal.returns-in-Arrive-clause-ok
returns-in-Arrive-clause-ok c =
    let held = c.args.self.now.channel in
    let crossing = c.in-Arrive.crossing in
    let here : crossing.chan ≡ held.number = search rules in
    arrival_steps c.arrive.result c.args.config.now c.args.self.now.times c.args.ordered.now crossing held c.arrive.new.self c.requires.configured c.in-Arrive.is here
    c.arrive.ensures.ok (rw c.now-now-in-Arrive.ensures at c.arrive.ensures.after)

pub returns-in-Arrive-clause-refused : goal.returns-in-Arrive-clause-refused
returns-in-Arrive-clause-refused c =
    let config = c.args.config.now in
    let held = c.args.self.now.channel in
    let now = time_at c.args.self.now.times c.args.ordered.now.core in
    let crossing = c.in-Arrive.crossing in
    let here : crossing.chan ≡ held.number = search rules in
    rw c.in-Arrive.is
    (IfErr-weaker c.arrive.result _ _ (λ fault refuses. arrival_refused config now held.number held.channel crossing fault here (refuses config now c.requires.configured))
    c.arrive.ensures.refused)

pub returns-in-Arrive-clause-configured : goal.returns-in-Arrive-clause-configured
returns-in-Arrive-clause-configured c =
    let config = c.args.config.now in
    let held = c.args.self.now.channel in
    let crossing = c.in-Arrive.crossing in
    crossing_leaves_configured c.arrive.result config crossing (arrived config c.now-now-in-Arrive.result held.number crossing.message held.channel).next held c.arrive.new.self
    c.requires.configured (on_ok_weaker c.arrive.result (λ after. after config c.requires.configured) c.arrive.ensures.after) c.arrive.ensures.unchanged

pub returns-in-Depart-clause-ok : goal.returns-in-Depart-clause-ok
returns-in-Depart-clause-ok c =
    let held = c.args.self.now.channel in
    let crossing = c.in-Depart.crossing in
    let here : crossing.chan ≡ held.number = search rules in
    departure_steps c.depart.result c.map_err.result c.args.config.now c.args.self.now.times c.args.ordered.now crossing held c.depart.new.self c.map_err.ensures.variant
    c.requires.configured c.in-Depart.is here c.depart.ensures.ok c.depart.ensures.after

pub returns-in-Depart-clause-refused : goal.returns-in-Depart-clause-refused
returns-in-Depart-clause-refused c =
    let config = c.args.config.now in
    let held = c.args.self.now.channel in
    let now = time_at c.args.self.now.times c.args.ordered.now.core in
    let crossing = c.in-Depart.crossing in
    let here : crossing.chan ≡ held.number = search rules in
    let fails : IfErr c.map_err.result (RefusesDeparture crossing held) =
    refused_as_fault c.depart.result c.map_err.result (RefusesDeparture crossing held) c.map_err.ensures.cases c.depart.ensures.refused in
    rw c.in-Depart.is
    (IfErr-weaker c.map_err.result _ _ (λ fault refuses. departure_refused config now held.number held.channel crossing fault here (refuses config now c.requires.configured)) fails)

pub returns-in-Depart-clause-configured : goal.returns-in-Depart-clause-configured
returns-in-Depart-clause-configured c =
    let config = c.args.config.now in
    let held = c.args.self.now.channel in
    let crossing = c.in-Depart.crossing in
    crossing_leaves_configured c.depart.result config crossing (departed config 0 held.number held.channel).next held c.depart.new.self
    c.requires.configured (on_ok_weaker c.depart.result (λ after. after config 0 c.requires.configured) c.depart.ensures.after) c.depart.ensures.unchanged
