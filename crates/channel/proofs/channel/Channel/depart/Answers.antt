use Rattle.std.proofs.lemmas.Result.{err_from_is_err_and}
use Rattle.channel.proofs.Departures.{named, queuing_after, sampling_after}
use Rattle.channel.proofs.channel.Channel.depart.Goals as goal
use Rattle.channel.proofs.channel.Channel.depart.Goals.{in-Queuing, in_default}

pub returns-in_err-judge_departure-clause-refused : goal.returns-in_err-judge_departure-clause-refused
returns-in_err-judge_departure-clause-refused c =
    let p = err_from_is_err_and c.from_residual.result c.from_residual.ensures.1 in rw (p.1, p.2) c.in_err-judge_departure.ensures

pub depart-requires : goal.depart-requires
depart-requires c =
    record {
      given = named _ c.in-Queuing.channel c.args.crossing.now c.args.self.now (rw c.in-Queuing.is at c.self.view_is) c.in_ok-judge_departure.ensures;
    }

pub returns-clause-after : goal.returns-clause-after
returns-clause-after c =
    elim c.match-self.branch [
      | in-Queuing w ↦
          rw w.self-inside-is (queuing_after _ w.in-Queuing.channel w.depart.new.self c.args.crossing.now c.args.self.now
          (rw w.in-Queuing.is at c.self.view_is) w.depart.ensures)
      | in_default w ↦ rw (w.self-inside-is, ← c.self.view_is, w.in_default.is) (sampling_after c.self.inside.number w.in_default.field-0 c.args.crossing.now)
    ]
