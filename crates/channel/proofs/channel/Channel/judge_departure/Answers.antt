use Rattle.channel.proofs.Departures.{judged, never_sampled}
use Rattle.channel.proofs.channel.Channel.judge_departure.Goals as goal

pub returns-in-Sampling : goal.returns-in-Sampling
returns-in-Sampling c = never_sampled _ _ c.args.crossing.now c.args.self.now (rw c.in-Sampling.is at c.self.view_is)

pub returns-in-Queuing : goal.returns-in-Queuing
returns-in-Queuing c = judged _ c.in-Queuing.channel c.args.crossing.now c.args.self.now _ (rw c.in-Queuing.is at c.self.view_is) c.judge_departure.ensures
